-- What is read as a reply is its JSON value, and that of a good reply is read as it.
use Rattle.std.proofs.Common.{◌≡◌, ℕ, ◌<◌, true, cond, List, Option, Some, None, Err, IsUtf8, refl, sym, ap, subst, ◌∙◌, inl, inr, lit<, arith}
use Rattle.std.specs.Prelude.{◌^◌, codes, option_map, is_some, IfSome, IsErrOf}
use Rattle.std.specs.List.{AllByRecursion}
use Rattle.std.specs.Str.{bytes_eq}
use Rattle.std.proofs.lemmas.Option.{cond_some, none-some, same_Some}
use Rattle.desk_values.specs.Fault.{fault_number, fault_numbered}
use Rattle.desk_values.specs.Good.{IsGoodDraw, IsGoodImage, IsGoodOutcome, IsGoodReply, IsGoodRow, IsValue}
use Rattle.desk_values.specs.declared.fault.Fault.{Fault}
use Rattle.desk_values.specs.declared.fault.Fault.TheVariants.{Syntax}
use Rattle.desk_values.specs.declared.value.Value.{Value}
use Rattle.desk_values.specs.declared.value.Value.TheVariants as value
use Rattle.desk_values.specs.declared.value.Image.{Image}
use Rattle.desk_values.specs.declared.call.Outcome.{Outcome}
use Rattle.desk_values.specs.declared.call.Outcome.TheVariants as outcome
use Rattle.desk_values.specs.declared.call.Reply.{Reply}
use Rattle.desk_values.proofs.Faults.{numbered_again, numbered_taken}
use Rattle.desk_values.proofs.Options.{bind_some, chosen, map_some}
use Rattle.serde_json.specs.Data.{Data, null, boolean, number, string, array, object}
use Rattle.serde_json.specs.Find.{as_null, as_object}
use Rattle.serde_json.specs.Read.{read}
use Rattle.call_json.specs.declared.json_err.JsonErr.{JsonErr}
use Rattle.call_json.specs.declared.json_err.JsonErr.TheVariants.{NotOne, Memory}
use Rattle.call_json.specs.Forms.{count_data, image_data, left_data, list_data, made_data, object_of_one, object_of_three, outcome_data, reply_data, values_data}
use Rattle.call_json.specs.Spellings.{IsReplyJson}
use Rattle.call_json.specs.Inside.Members.{all_three, only, sole}
use Rattle.call_json.specs.Inside.Reading.{Reads, count_in, is_yes, small_in, value_in, values_in}
use Rattle.call_json.specs.Inside.ReplyReading.{fault_in, image_in, image_of, images_in, left_in, made_in, outcome_in, outcome_of, plain_outcome, reply_in, reply_of, row_in, rows_in}
use Rattle.call_json.proofs.Keys.{is_key, only_member, sole_member, three_members}
use Rattle.call_json.proofs.ValuesRead.{are_values, each_again, is_count, is_object, is_small, list_is, small_again, value_again, values_again}
use Rattle.call_json.proofs.CallsRead.{same_data, yes_is}

-- ---- what is read

is_null : (d : Data) → is_some (as_null d) ≡ true → d ≡ null
is_null null e = refl
is_null (boolean b) e = absurd cc
is_null (number n) e = absurd cc
is_null (string s) e = absurd cc
is_null (array ds) e = absurd cc
is_null (object ms) e = absurd cc

is_row : (d : Data) (n : ℕ) → row_in d ≡ Some n → d ≡ object_of_one (codes "row") (count_data n)
is_row d n e =
    let ms = bind_some (as_object d) _ n e in
    let c = bind_some (only (codes "row") ms.0) count_in n ms.2 in
    is_object d ms.0 ms.1 ∙ ap object (only_member (codes "row") ms.0 c.0 c.1) ∙ ap (object_of_one (codes "row")) (is_count c.0 n c.2)

is_made : (d : Data) (made : Option ℕ) → made_in d ≡ Some made → d ≡ made_data made
is_made d made e =
    elim (chosen (is_some (as_null d)) (Some None) _ (Some made) e) [
      | inl hit ↦ is_null d hit.0 ∙ ap made_data (same_Some None made hit.1)
      | inr miss ↦ let n = map_some (λ n. Some n) (row_in d) made miss.1 in is_row d n.0 n.1 ∙ ap made_data n.2
    ]

is_left : (d : Data) (left : Option (List Value)) → left_in d ≡ Some left → d ≡ left_data left
is_left d left e =
    elim (chosen (is_some (as_null d)) (Some None) _ (Some left) e) [
      | inl hit ↦ is_null d hit.0 ∙ ap left_data (same_Some None left hit.1)
      | inr miss ↦ let vs = map_some (λ values. Some values) (values_in d) left miss.1 in are_values d vs.0 vs.1 ∙ ap left_data vs.2
    ]

is_image_of : (p : Data × Data × Data) (i : Image) → image_of p ≡ Some i → object_of_three (codes "now") p.0 (codes "row") p.1 (codes "table") p.2 ≡ image_data i
is_image_of p i e =
    let row = bind_some (count_in p.1) _ i e in
    let table = bind_some (small_in p.2) _ i row.2 in
    let left = bind_some (left_in p.0) _ i table.2 in
    ap (λ (d : Data). object_of_three (codes "now") d (codes "row") p.1 (codes "table") p.2) (is_left p.0 left.0 left.1)
    ∙ ap (λ (d : Data). object_of_three (codes "now") (left_data left.0) (codes "row") d (codes "table") p.2) (is_count p.1 row.0 row.1)
    ∙ ap (λ (d : Data). object_of_three (codes "now") (left_data left.0) (codes "row") (count_data row.0) (codes "table") d) (is_small p.2 table.0 table.1)
    ∙ ap image_data (same_Some (record { row = row.0; table = table.0; left = left.0 }) i left.2)

is_image : (d : Data) (i : Image) → image_in d ≡ Some i → d ≡ image_data i
is_image d i e =
    let ms = bind_some (as_object d) _ i e in
    let p = bind_some (all_three (codes "now") (codes "row") (codes "table") ms.0) image_of i ms.2 in
    is_object d ms.0 ms.1 ∙ ap object (three_members (codes "now") (codes "row") (codes "table") ms.0 p.0 p.1) ∙ is_image_of p.0 i p.2

are_images : (d : Data) (images : List Image) → images_in d ≡ Some images → d ≡ list_data image_data images
are_images = list_is image_in image_data is_image

are_rows : (d : Data) (rows : List (List Value)) → rows_in d ≡ Some rows → d ≡ list_data values_data rows
are_rows = list_is values_in values_data are_values

is_fault : (d : Data) (fault : Fault) → fault_in d ≡ Some fault → d ≡ count_data (fault_number fault)
is_fault d fault e =
    let n = bind_some (small_in d) fault_numbered fault e in
    is_small d n.0 n.1 ∙ ap count_data (sym (numbered_taken n.0 fault n.2))

abbrev IsKeyed : List ℕ → Data → Outcome → Type 0
IsKeyed key d o = object_of_one key d ≡ outcome_data o

by_key : (key word : List ℕ) (d e : Data) (o : Outcome) → bytes_eq key word ≡ true → d ≡ e → object_of_one word e ≡ outcome_data o → IsKeyed key d o
by_key key word d e o k is told =
    ap (λ (j : List ℕ). object_of_one j d) (is_key key word k) ∙ ap (object_of_one word) is ∙ told

is_plain : (key : List ℕ) (d : Data) (o : Outcome) → d ≡ boolean true → plain_outcome key ≡ Some o → IsKeyed key d o
is_plain key d o told e =
    elim (chosen (bytes_eq key (codes "rolledback")) _ _ (Some o) e) [
      | inl hit ↦ by_key key (codes "rolledback") d (boolean true) o hit.0 told (ap outcome_data (same_Some outcome.RolledBack o hit.1))
      | inr miss ↦ elim (chosen (bytes_eq key (codes "marked")) _ _ (Some o) miss.1) [
        | inl hit ↦ by_key key (codes "marked") d (boolean true) o hit.0 told (ap outcome_data (same_Some outcome.Marked o hit.1))
        | inr miss ↦ elim (chosen (bytes_eq key (codes "connected")) _ _ (Some o) miss.1) [
          | inl hit ↦ by_key key (codes "connected") d (boolean true) o hit.0 told (ap outcome_data (same_Some outcome.Connected o hit.1))
          | inr miss ↦ let last = cond_some (bytes_eq key (codes "disconnected")) outcome.Disconnected o miss.1 in
              by_key key (codes "disconnected") d (boolean true) o last.0 told (ap outcome_data last.1)
        ]
      ]
    ]

is_of_rows : (key : List ℕ) (d : Data) (o : Outcome) → bytes_eq key (codes "rows") ≡ true → option_map (λ rows. outcome.Rows rows) (rows_in d) ≡ Some o → IsKeyed key d o
is_of_rows key d o k e =
    let rows = map_some (λ rows. outcome.Rows rows) (rows_in d) o e in
    by_key key (codes "rows") d (list_data values_data rows.0) o k (are_rows d rows.0 rows.1) (ap outcome_data rows.2)

is_of_count : (key : List ℕ) (d : Data) (o : Outcome) → bytes_eq key (codes "count") ≡ true → option_map (λ n. outcome.Count n) (count_in d) ≡ Some o → IsKeyed key d o
is_of_count key d o k e =
    let n = map_some (λ n. outcome.Count n) (count_in d) o e in
    by_key key (codes "count") d (count_data n.0) o k (is_count d n.0 n.1) (ap outcome_data n.2)

is_of_images : (key : List ℕ) (d : Data) (o : Outcome) → bytes_eq key (codes "committed") ≡ true → option_map (λ images. outcome.Committed images) (images_in d) ≡ Some o → IsKeyed key d o
is_of_images key d o k e =
    let images = map_some (λ images. outcome.Committed images) (images_in d) o e in
    by_key key (codes "committed") d (list_data image_data images.0) o k (are_images d images.0 images.1) (ap outcome_data images.2)

is_of_fault : (key : List ℕ) (d : Data) (o : Outcome) → bytes_eq key (codes "refused") ≡ true → option_map (λ fault. outcome.Refused fault) (fault_in d) ≡ Some o → IsKeyed key d o
is_of_fault key d o k e =
    let fault = map_some (λ fault. outcome.Refused fault) (fault_in d) o e in
    by_key key (codes "refused") d (count_data (fault_number fault.0)) o k (is_fault d fault.0 fault.1) (ap outcome_data fault.2)

is_of_yes : (key : List ℕ) (d : Data) (o : Outcome) → cond (is_yes d) (plain_outcome key) None ≡ Some o → IsKeyed key d o
is_of_yes key d o e =
    elim (chosen (is_yes d) (plain_outcome key) None (Some o) e) [
      | inl hit ↦ is_plain key d o (yes_is d hit.0) hit.1
      | inr miss ↦ absurd (none-some o miss.1)
    ]

is_keyed : (key : List ℕ) (d : Data) (o : Outcome) → outcome_of key d ≡ Some o → IsKeyed key d o
is_keyed key d o e =
    elim (chosen (bytes_eq key (codes "rows")) _ _ (Some o) e) [
      | inl hit ↦ is_of_rows key d o hit.0 hit.1
      | inr miss ↦ elim (chosen (bytes_eq key (codes "count")) _ _ (Some o) miss.1) [
        | inl hit ↦ is_of_count key d o hit.0 hit.1
        | inr miss ↦ elim (chosen (bytes_eq key (codes "committed")) _ _ (Some o) miss.1) [
          | inl hit ↦ is_of_images key d o hit.0 hit.1
          | inr miss ↦ elim (chosen (bytes_eq key (codes "refused")) _ _ (Some o) miss.1) [
            | inl hit ↦ is_of_fault key d o hit.0 hit.1
            | inr miss ↦ is_of_yes key d o miss.1
          ]
        ]
      ]
    ]

is_outcome : (d : Data) (o : Outcome) → outcome_in d ≡ Some o → d ≡ outcome_data o
is_outcome d o e =
    let ms = bind_some (as_object d) _ o e in
    let m = bind_some (sole ms.0) _ o ms.2 in
    is_object d ms.0 ms.1 ∙ ap object (sole_member ms.0 m.0 m.1) ∙ is_keyed m.0.0 m.0.1 o m.2

is_reply_of : (p : Data × Data × Data) (r : Reply) → reply_of p ≡ Some r → object_of_three (codes "draws") p.0 (codes "made") p.1 (codes "outcome") p.2 ≡ reply_data r
is_reply_of p r e =
    let draws = bind_some (values_in p.0) _ r e in
    let made = bind_some (made_in p.1) _ r draws.2 in
    let o = bind_some (outcome_in p.2) _ r made.2 in
    ap (λ (d : Data). object_of_three (codes "draws") d (codes "made") p.1 (codes "outcome") p.2) (are_values p.0 draws.0 draws.1)
    ∙ ap (λ (d : Data). object_of_three (codes "draws") (values_data draws.0) (codes "made") d (codes "outcome") p.2) (is_made p.1 made.0 made.1)
    ∙ ap (λ (d : Data). object_of_three (codes "draws") (values_data draws.0) (codes "made") (made_data made.0) (codes "outcome") d) (is_outcome p.2 o.0 o.1)
    ∙ ap reply_data (same_Some (record { outcome = o.0; draws = draws.0; made = made.0 }) r o.2)

pub is_reply : (d : Data) (r : Reply) → reply_in d ≡ Some r → d ≡ reply_data r
is_reply d r e =
    let ms = bind_some (as_object d) _ r e in
    let p = bind_some (all_three (codes "draws") (codes "made") (codes "outcome") ms.0) reply_of r ms.2 in
    is_object d ms.0 ms.1 ∙ ap object (three_members (codes "draws") (codes "made") (codes "outcome") ms.0 p.0 p.1) ∙ is_reply_of p.0 r p.2

-- ---- what is read again

made_again : (made : Option ℕ) → made_in (made_data made) ≡ Some made
made_again None = refl
made_again (Some n) = refl

left_again : (left : Option (List Value)) → IfSome left IsGoodRow → left_in (left_data left) ≡ Some left
left_again None fits = refl
left_again (Some vs) fits = rw (values_again vs fits.1) refl

image_again : (i : Image) → IsGoodImage i → image_in (image_data i) ≡ Some i
image_again i fits =
    let small : i.table < 2 ^ 32 = omega (arith, fits.table) in
    rw (small_again i.table small, left_again i.left fits.left) refl

draw_fits : (v : Value) → IsGoodDraw v → IsValue v
draw_fits value.Null fits = absurd fits
draw_fits (value.Int z) fits = absurd fits
draw_fits (value.Text t) fits = absurd fits
draw_fits (value.Row n) fits = absurd fits
draw_fits (value.Draw sequence n) fits = fits

draws_again : (vs : List Value) → AllByRecursion IsGoodDraw vs → values_in (values_data vs) ≡ Some vs
draws_again vs fits = each_again value_in _ IsGoodDraw (λ v good. value_again v (draw_fits v good)) vs fits

rows_again : (rows : List (List Value)) → AllByRecursion IsGoodRow rows → rows_in (list_data values_data rows) ≡ Some rows
rows_again rows fits = each_again values_in values_data IsGoodRow (λ vs good. values_again vs good.1) rows fits

images_again : (images : List Image) → AllByRecursion IsGoodImage images → images_in (list_data image_data images) ≡ Some images
images_again images fits = each_again image_in image_data IsGoodImage image_again images fits

number_fits : (fault : Fault) → fault_number fault < 2 ^ 32
number_fits Syntax = lit< tt
number_fits other = lit< tt

outcome_again : (o : Outcome) → IsGoodOutcome o → outcome_in (outcome_data o) ≡ Some o
outcome_again (outcome.Rows rows) fits = rw (rows_again rows fits) refl
outcome_again (outcome.Count n) fits = refl
outcome_again (outcome.Committed images) fits = rw (images_again images fits.0) refl
outcome_again outcome.RolledBack fits = refl
outcome_again outcome.Marked fits = refl
outcome_again outcome.Connected fits = refl
outcome_again outcome.Disconnected fits = refl
outcome_again (outcome.Refused fault) fits = rw (small_again (fault_number fault) (number_fits fault), numbered_again fault) refl

pub reply_again : (r : Reply) → IsGoodReply r → reply_in (reply_data r) ≡ Some r
reply_again r fits = rw (draws_again r.draws fits.draws, made_again r.made, outcome_again r.outcome fits.outcome) refl

-- ---- of bytes

pub json_reply : (bytes : List ℕ) (d : Data) (r : Reply) → IsUtf8 bytes → read bytes ≡ Some d → IsGoodReply r → reply_in d ≡ Some r → IsReplyJson bytes r
json_reply bytes d r utf8 is fits e = record { limits = fits; value = record { utf8 = utf8; value = is ∙ ap (λ (b : Data). Some b) (is_reply d r e) } }

pub reply_found : (bytes : List ℕ) (d : Data) (r : Reply) → read bytes ≡ Some d → IsReplyJson bytes r → reply_in d ≡ Some r
reply_found bytes d r is of = ap reply_in (same_data bytes d (reply_data r) is of.value.value) ∙ reply_again r of.limits

pub one_reply : (bytes : List ℕ) (a b : Reply) → IsReplyJson bytes a → IsReplyJson bytes b → a ≡ b
one_reply bytes a b of other =
    same_Some a b (sym (reply_found bytes (reply_data a) a of.value.value of) ∙ reply_found bytes (reply_data a) b of.value.value other)

pub no_reply : (bytes : List ℕ) (d : Data) → read bytes ≡ Some d → reply_in d ≡ None → (r : Reply) → ¬ IsReplyJson bytes r
no_reply bytes d is none r = λ of. none-some r (sym none ∙ reply_found bytes d r is of)

-- the only reply that the value may be has not the shape
pub bad_reply : (bytes : List ℕ) (d : Data) (r : Reply) → read bytes ≡ Some d → reply_in d ≡ Some r → ¬ IsGoodReply r → (other : Reply) → ¬ IsReplyJson bytes other
bad_reply bytes d r is e bad other =
    λ of. bad (subst IsGoodReply (same_Some other r (sym (reply_found bytes d other is of) ∙ e)) of.limits)

-- a value that was not read, for want of memory or as it is none
pub not_one_reply : (bytes : List ℕ) (d : Data) (error : JsonErr) → read bytes ≡ Some d → Reads {T = Reply} (Err error) (reply_in d) → IsErrOf {T = Reply} (Err error) NotOne → (r : Reply) → ¬ IsReplyJson bytes r
not_one_reply bytes d NotOne is none e = no_reply bytes d is none
not_one_reply bytes d Memory is any e = absurd cc
