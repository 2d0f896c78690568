-- What is written by tokens is the text of the value, and is read as it.
use Rattle.std.proofs.Common.{◌≡◌, ℕ, suc, ◌≤◌, ◌<◌, ◌^◌, true, ℤ, pos, negsuc, List, [], ◌∷◌, ◌++◌, map, Option, Some, None, Greater, nat_cmp, option_map, option_and_then, IsUtf8, append_assoc, append-nil, refl, sym, ap, ap₂, subst, ◌∙◌, arith}
use Rattle.std.specs.Prelude.{codes, max, IfSome}
use Rattle.std.specs.Cmp.Lexicographic.{slice_cmp}
use Rattle.std.specs.Fmt.{signed_decimal}
use Rattle.std.specs.List.{AllByRecursion, flat_map}
use Rattle.desk_values.specs.Fault.{fault_number}
use Rattle.desk_values.specs.Good.{IsCall, IsGoodDraw, IsGoodImage, IsGoodOutcome, IsGoodReply, IsGoodRow, IsValue, IsValues}
use Rattle.desk_values.specs.declared.value.Value.{Value}
use Rattle.desk_values.specs.declared.value.Value.TheVariants as value
use Rattle.desk_values.specs.declared.value.Image.{Image}
use Rattle.desk_values.specs.declared.call.Call.{Call}
use Rattle.desk_values.specs.declared.call.Call.TheVariants.{Connect, Sql, Disconnect}
use Rattle.desk_values.specs.declared.call.Outcome.{Outcome}
use Rattle.desk_values.specs.declared.call.Outcome.TheVariants as outcome
use Rattle.desk_values.specs.declared.call.Reply.{Reply}
use Rattle.desk_values.proofs.Faults.{fault_number_small}
use Rattle.json.specs.Token.{Token, begin_array, begin_object, end_array, end_object, key}
use Rattle.json.specs.Lex.{tokens}
use Rattle.json.specs.Print.{print}
use Rattle.json.specs.Json as json
use Rattle.json.specs.Tree as tree
use Rattle.json.proofs.Printed.Trees.{value-json_tokens}
use Rattle.serde_json.specs.Data.{Data, null, boolean, number, string, array, object, Items, no_items, item, Members, no_members, member, depth, items_depth, members_depth}
use Rattle.serde_json.specs.Find.{of_integer}
use Rattle.serde_json.specs.Read.{of_json, of_items, read, max_depth}
use Rattle.serde_json.specs.View.{items_of}
use Rattle.serde_json.specs.Written.{number_text, outline, items_outline, members_outline, compact_text}
use Rattle.serde_json.proofs.Numbers.{number_of-decimal, number_of-negative}
use Rattle.serde_json.proofs.Texts.{print-outline}
use Rattle.call_json.specs.Forms.{call_data, count_data, image_data, left_data, list_data, made_data, object_of_one, object_of_three, object_of_two, outcome_data, reply_data, value_data, values_data}
use Rattle.call_json.specs.Spellings.{IsCallJson, IsReplyJson}
use Rattle.call_json.specs.Inside.Tokens.{data_tokens}
use Rattle.call_json.proofs.CallsRead.{written_call}
use Rattle.call_json.proofs.Depths.{reply_shallow}

pub integer_text : (z : ℤ) → number_text (of_integer z) ≡ signed_decimal z
integer_text (pos n) = refl
integer_text (negsuc n) = refl

-- ---- an array

items_written : {X : Type 0} (f : X → Data) (xs : List X) → tree.items_tokens (items_outline (items_of (map f xs))) ≡ flat_map (λ (x : X). data_tokens (f x)) xs ++ end_array ∷ []
items_written f [] = refl
items_written {X = X} f (x ∷ xs) =
    ap (λ (ts : List Token). data_tokens (f x) ++ ts) (items_written f xs)
    ∙ sym (append_assoc (data_tokens (f x)) (flat_map (λ (y : X). data_tokens (f y)) xs) (end_array ∷ []))

pub array_written : {X : Type 0} {opened items closed : List Token} (f : X → Data) (xs : List X) (old : List Token) → opened ≡ old ++ begin_array ∷ [] → items ≡ opened ++ flat_map (λ (x : X). data_tokens (f x)) xs → closed ≡ items ++ end_array ∷ [] → closed ≡ old ++ data_tokens (array (items_of (map f xs)))
array_written {X = X} f xs old first second third =
    let each = flat_map (λ (x : X). data_tokens (f x)) xs in
    third ∙ ap (λ (ts : List Token). ts ++ end_array ∷ []) (second ∙ ap (λ (ts : List Token). ts ++ each) first)
    ∙ append_assoc (old ++ begin_array ∷ []) each (end_array ∷ []) ∙ append_assoc old (begin_array ∷ []) (each ++ end_array ∷ [])
    ∙ ap (λ (ts : List Token). old ++ begin_array ∷ ts) (sym (items_written f xs))

pub member_written : {opened keyed valued closed : List Token} (k : List ℕ) (d : Data) (old : List Token) → opened ≡ old ++ begin_object ∷ [] → keyed ≡ opened ++ key k ∷ [] → valued ≡ keyed ++ data_tokens d → closed ≡ valued ++ end_object ∷ [] → closed ≡ old ++ data_tokens (object_of_one k d)
member_written k d old first second third fourth =
    let head = begin_object ∷ key k ∷ [] in
    fourth ∙ ap (λ (ts : List Token). ts ++ end_object ∷ []) (third ∙ ap (λ (ts : List Token). ts ++ data_tokens d) (second ∙ ap (λ (ts : List Token). ts ++ key k ∷ []) first ∙ append_assoc old (begin_object ∷ []) (key k ∷ [])))
    ∙ append_assoc (old ++ head) (data_tokens d) (end_object ∷ []) ∙ append_assoc old head (data_tokens d ++ end_object ∷ [])

-- ---- what is outlined is read as the value

count_told : (n : ℕ) → n < 2 ^ 64 → of_json (outline (count_data n)) ≡ Some (count_data n)
count_told n lt = ap (option_map number) (number_of-decimal n lt)

one_told : (k : List ℕ) (d : Data) → of_json (outline d) ≡ Some d → of_json (outline (object_of_one k d)) ≡ Some (object_of_one k d)
one_told k d first = rw first refl

two_told : (k : List ℕ) (d : Data) (l : List ℕ) (e : Data) → slice_cmp nat_cmp l k ≡ Greater → of_json (outline d) ≡ Some d → of_json (outline e) ≡ Some e → of_json (outline (object_of_two k d l e)) ≡ Some (object_of_two k d l e)
two_told k d l e later first second = rw (first, second, later) refl

three_told : (k : List ℕ) (d : Data) (l : List ℕ) (e : Data) (m : List ℕ) (f : Data) → slice_cmp nat_cmp l k ≡ Greater → slice_cmp nat_cmp m k ≡ Greater → slice_cmp nat_cmp m l ≡ Greater
    → of_json (outline d) ≡ Some d → of_json (outline e) ≡ Some e → of_json (outline f) ≡ Some f → of_json (outline (object_of_three k d l e m f)) ≡ Some (object_of_three k d l e m f)
three_told k d l e m f later last over first second third = rw (first, second, third, later, last, over) refl

module _ {X : Type 0} (f : X → Data) (Fits : X → Type 0) (each : (x : X) → Fits x → of_json (outline (f x)) ≡ Some (f x)) where
  items_told : (xs : List X) → AllByRecursion Fits xs → of_items (items_outline (items_of (map f xs))) ≡ Some (items_of (map f xs))
  items_told [] fits = refl
  items_told (x ∷ xs) fits = rw (each x fits.0, items_told xs fits.1) refl

  list_told : (xs : List X) → AllByRecursion Fits xs → of_json (outline (list_data f xs)) ≡ Some (list_data f xs)
  list_told xs fits = ap (option_map array) (items_told xs fits)

value_told : (v : Value) → IsValue v → of_json (outline (value_data v)) ≡ Some (value_data v)
value_told value.Null fits = refl
value_told (value.Int (pos n)) fits = let small : n < 2 ^ 63 = fits.sfits in count_told n (omega arith)
value_told (value.Int (negsuc n)) fits = let small : n < 2 ^ 63 = fits.sfits in ap (option_map number) (number_of-negative n small)
value_told (value.Text t) fits = refl
value_told (value.Row n) fits = one_told (codes "row") (count_data n) (count_told n fits)
value_told (value.Draw q n) fits =
    let small : q < 2 ^ 32 = fits.0 in
    two_told (codes "draw") (count_data n) (codes "seq") (count_data q) refl (count_told n fits.1) (count_told q (omega arith))

values_told : (vs : List Value) → IsValues vs → of_json (outline (values_data vs)) ≡ Some (values_data vs)
values_told vs fits = list_told value_data IsValue value_told vs fits

pub call_told : (c : Call) → IsCall c → of_json (outline (call_data c)) ≡ Some (call_data c)
call_told (Connect s) fits = one_told (codes "connect") (string s) refl
call_told (Sql t vs) fits = two_told (codes "binds") (values_data vs) (codes "sql") (string t) refl (values_told vs fits.2) refl
call_told Disconnect fits = one_told (codes "disconnect") (boolean true) refl

row_told : (vs : List Value) → IsGoodRow vs → of_json (outline (values_data vs)) ≡ Some (values_data vs)
row_told vs good = values_told vs good.1

draw_told : (v : Value) → IsGoodDraw v → of_json (outline (value_data v)) ≡ Some (value_data v)
draw_told value.Null good = absurd good
draw_told (value.Int n) good = absurd good
draw_told (value.Text t) good = absurd good
draw_told (value.Row n) good = absurd good
draw_told (value.Draw q n) good = value_told (value.Draw q n) good

left_told : (left : Option (List Value)) → IfSome left IsGoodRow → of_json (outline (left_data left)) ≡ Some (left_data left)
left_told None good = refl
left_told (Some vs) good = row_told vs good

image_told : (i : Image) → IsGoodImage i → of_json (outline (image_data i)) ≡ Some (image_data i)
image_told i good =
    let small : i.table < 32 = good.table in
    three_told (codes "now") (left_data i.left) (codes "row") (count_data i.row) (codes "table") (count_data i.table) refl refl refl
    (left_told i.left good.left) (count_told i.row good.row) (count_told i.table (omega arith))

made_told : (made : Option ℕ) → IfSome made (λ row. row < 2 ^ 64) → of_json (outline (made_data made)) ≡ Some (made_data made)
made_told None good = refl
made_told (Some n) good = one_told (codes "row") (count_data n) (count_told n good)

outcome_told : (o : Outcome) → IsGoodOutcome o → of_json (outline (outcome_data o)) ≡ Some (outcome_data o)
outcome_told (outcome.Rows rows) good = one_told (codes "rows") (list_data values_data rows) (list_told values_data IsGoodRow row_told rows good)
outcome_told (outcome.Count n) good = one_told (codes "count") (count_data n) (count_told n good)
outcome_told (outcome.Committed images) good = one_told (codes "committed") (list_data image_data images) (list_told image_data IsGoodImage image_told images good.0)
outcome_told outcome.RolledBack good = one_told (codes "rolledback") (boolean true) refl
outcome_told outcome.Marked good = one_told (codes "marked") (boolean true) refl
outcome_told outcome.Connected good = one_told (codes "connected") (boolean true) refl
outcome_told outcome.Disconnected good = one_told (codes "disconnected") (boolean true) refl
outcome_told (outcome.Refused fault) good =
    one_told (codes "refused") (count_data (fault_number fault)) (count_told (fault_number fault) (omega (arith, fault_number_small fault)))

pub reply_told : (r : Reply) → IsGoodReply r → of_json (outline (reply_data r)) ≡ Some (reply_data r)
reply_told r good =
    three_told (codes "draws") (values_data r.draws) (codes "made") (made_data r.made) (codes "outcome") (outcome_data r.outcome) refl refl refl
    (list_told value_data IsGoodDraw draw_told r.draws good.draws) (made_told r.made good.made) (outcome_told r.outcome good.outcome)

-- ---- and nests as deep

mutual
  depth_same : (d : Data) → tree.depth (outline d) ≡ depth d
  depth_same null = refl
  depth_same (boolean b) = refl
  depth_same (number n) = refl
  depth_same (string s) = refl
  depth_same (array ds) = ap (λ (n : ℕ). suc n) (items_depth_same ds)
  depth_same (object ms) = ap (λ (n : ℕ). suc n) (members_depth_same ms)

  items_depth_same : (ds : Items) → tree.items_depth (items_outline ds) ≡ items_depth ds
  items_depth_same no_items = refl
  items_depth_same (item d ds) = ap₂ (λ (m n : ℕ). max m n) (depth_same d) (items_depth_same ds)

  members_depth_same : (ms : Members) → tree.members_depth (members_outline ms) ≡ members_depth ms
  members_depth_same no_members = refl
  members_depth_same (member k d ms) = ap₂ (λ (m n : ℕ). max m n) (depth_same d) (members_depth_same ms)

-- ---- the whole text

abbrev whole : Option (json.Json × List Token) → Option Data
whole found = option_and_then of_json (option_and_then (λ p. json.if_last p.0 p.1) found)

pub read_again : (text : List ℕ) (d : Data) → tokens text ≡ data_tokens d → of_json (outline d) ≡ Some d → depth d ≤ max_depth → read text ≡ Some d
read_again text d same again shallow =
    ap whole (ap (json.value max_depth) (same ∙ sym (append-nil (data_tokens d))) ∙ value-json_tokens (outline d) max_depth [] (omega (arith, depth_same d, shallow))) ∙ again

-- what a writer that began with nothing gives
module _ (before : List ℕ) (ts : List Token) (d : Data) (none : before ≡ []) (all : ts ≡ data_tokens d) where
  pub text_written : (bytes items : List ℕ) → bytes ≡ items → items ≡ before ++ print ts → bytes ≡ compact_text d
  text_written bytes items same is = same ∙ is ∙ ap (λ (front : List ℕ). front ++ print ts) none ∙ ap print all ∙ print-outline d

  read_written : (bytes items : List ℕ) → bytes ≡ items → items ≡ before ++ print ts → bytes ≡ print ts
  read_written bytes items same is = same ∙ is ∙ ap (λ (front : List ℕ). front ++ print ts) none

pub call_written : (before : List ℕ) (ts : List Token) (c : Call) → before ≡ [] → ts ≡ data_tokens (call_data c) → (bytes items : List ℕ) → bytes ≡ items → items ≡ before ++ print ts → tokens (print ts) ≡ ts → IsUtf8 (print ts) → IsCall c → IsCallJson bytes c
call_written before ts c none all bytes items same is again utf8 fits =
    written_call bytes (print ts) (call_data c) c (read_written before ts (call_data c) none all bytes items same is) utf8 refl
    (λ shallow. read_again (print ts) (call_data c) (again ∙ all) (call_told c fits) shallow) fits

pub reply_written : (before : List ℕ) (ts : List Token) (r : Reply) → before ≡ [] → ts ≡ data_tokens (reply_data r) → (bytes items : List ℕ) → bytes ≡ items → items ≡ before ++ print ts → tokens (print ts) ≡ ts → IsUtf8 (print ts) → IsGoodReply r → IsReplyJson bytes r
reply_written before ts r none all bytes items same is again utf8 good =
    subst (λ (bs : List ℕ). IsReplyJson bs r) (sym (read_written before ts (reply_data r) none all bytes items same is)) (record {
      limits = good;
      value = record { utf8 = utf8; value = read_again (print ts) (reply_data r) (again ∙ all) (reply_told r good) (reply_shallow r) };
    })
