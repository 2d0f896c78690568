-- What is read as a value is its JSON value, and that is read as it.
use Rattle.std.proofs.Common.{◌≡◌, ℕ, ◌<◌, ◌≤◌, pos, negsuc, List, [], ◌∷◌, length, map, Option, Some, None, refl, ap, ◌∙◌}
use Rattle.std.specs.Prelude.{ℤ, nat_lt, nat_le, codes, ◌^◌}
use Rattle.std.specs.List.{AllByRecursion}
use Rattle.std.proofs.lemmas.Bool.{le-leb, lt-ltb}
use Rattle.std.proofs.lemmas.Option.{cond_some, same_Some}
use Rattle.desk_values.specs.Good.{IsValue, IsValues}
use Rattle.desk_values.specs.Limits.{text_limit}
use Rattle.desk_values.specs.declared.value.Value.{Value}
use Rattle.desk_values.specs.declared.value.Value.TheVariants as value
use Rattle.desk_values.specs.Reading.{◌>>=◌}
use Rattle.desk_values.proofs.Options.{bind_some, map_some}
use Rattle.serde_json.specs.Data.{Num, unsigned, negative, float, Data, null, boolean, number, string, array, object, Items, no_items, item, Members}
use Rattle.serde_json.specs.Find.{as_array, as_number, as_object, as_str, as_u64, of_integer}
use Rattle.serde_json.specs.View.{items_of}
use Rattle.call_json.specs.Forms.{count_data, object_of_one, object_of_two, value_data, values_data}
use Rattle.call_json.specs.Inside.Members.{both, only}
use Rattle.call_json.specs.Inside.Reading.{count_in, draw_value, each_in, found_or, id_in, integer_in, row_value, short_text, small, small_in, text_in, value_in, values_in}
use Rattle.call_json.proofs.Keys.{both_members, only_member}

-- ---- what is read

pub is_string : (d : Data) (s : List ℕ) → as_str d ≡ Some s → d ≡ string s
is_string null s e = absurd cc
is_string (boolean b) s e = absurd cc
is_string (number n) s e = absurd cc
is_string (string t) s e = ap string (same_Some t s e)
is_string (array ds) s e = absurd cc
is_string (object ms) s e = absurd cc

pub is_array : (d : Data) (ds : Items) → as_array d ≡ Some ds → d ≡ array ds
is_array null ds e = absurd cc
is_array (boolean b) ds e = absurd cc
is_array (number n) ds e = absurd cc
is_array (string t) ds e = absurd cc
is_array (array cs) ds e = ap array (same_Some cs ds e)
is_array (object ms) ds e = absurd cc

pub is_object : (d : Data) (ms : Members) → as_object d ≡ Some ms → d ≡ object ms
is_object null ms e = absurd cc
is_object (boolean b) ms e = absurd cc
is_object (number n) ms e = absurd cc
is_object (string t) ms e = absurd cc
is_object (array cs) ms e = absurd cc
is_object (object ls) ms e = ap object (same_Some ls ms e)

is_number : (d : Data) (n : Num) → as_number d ≡ Some n → d ≡ number n
is_number null n e = absurd cc
is_number (boolean b) n e = absurd cc
is_number (number m) n e = ap number (same_Some m n e)
is_number (string t) n e = absurd cc
is_number (array cs) n e = absurd cc
is_number (object ms) n e = absurd cc

is_unsigned : (m : Num) (n : ℕ) → as_u64 m ≡ Some n → m ≡ unsigned n
is_unsigned (unsigned m) n e = ap unsigned (same_Some m n e)
is_unsigned (negative z) n e = absurd cc
is_unsigned (float x) n e = absurd cc

pub is_count : (d : Data) (n : ℕ) → count_in d ≡ Some n → d ≡ count_data n
is_count d n e =
    let m = bind_some (as_number d) as_u64 n e in
    is_number d m.0 m.1 ∙ ap number (is_unsigned m.0 n m.2)

pub is_small : (d : Data) (n : ℕ) → small_in d ≡ Some n → d ≡ count_data n
is_small d n e =
    let m = bind_some (count_in d) small n e in
    is_count d m.0 m.1 ∙ ap count_data (cond_some (nat_lt m.0 (2 ^ 32)) m.0 n m.2).1

is_short : (s t : List ℕ) → short_text s ≡ Some t → s ≡ t
is_short s t e = (cond_some (nat_le (length s) text_limit) s t e).1

pub is_text : (d : Data) (t : List ℕ) → text_in d ≡ Some t → d ≡ string t
is_text d t e =
    let s = bind_some (as_str d) short_text t e in
    is_string d s.0 s.1 ∙ ap string (is_short s.0 t s.2)

is_integer : (n : Num) (z : ℤ) → integer_in n ≡ Some z → n ≡ of_integer z
is_integer (unsigned n) z e = ap of_integer (cond_some (nat_lt n (2 ^ 63)) (pos n) z e).1
is_integer (negative (pos n)) z e = absurd cc
is_integer (negative (negsuc n)) z e = ap of_integer (same_Some (negsuc n) z e)
is_integer (float x) z e = absurd cc

is_row : (d : Data) (v : Value) → row_value d ≡ Some v → object_of_one (codes "row") d ≡ value_data v
is_row d v e =
    let n = map_some (λ n. value.Row n) (count_in d) v e in
    ap (object_of_one (codes "row")) (is_count d n.0 n.1) ∙ ap value_data n.2

is_draw : (p : Data × Data) (v : Value) → draw_value p ≡ Some v → object_of_two (codes "draw") p.0 (codes "seq") p.1 ≡ value_data v
is_draw p v e =
    let sequence = bind_some (small_in p.1) _ v e in
    let n = bind_some (count_in p.0) _ v sequence.2 in
    ap (λ (d : Data). object_of_two (codes "draw") d (codes "seq") p.1) (is_count p.0 n.0 n.1)
    ∙ ap (λ (d : Data). object_of_two (codes "draw") (count_data n.0) (codes "seq") d) (is_small p.1 sequence.0 sequence.1)
    ∙ ap value_data (same_Some (value.Draw sequence.0 n.0) v n.2)

is_id : (ms : Members) (v : Value) → id_in ms ≡ Some v → object ms ≡ value_data v
is_id ms v e = by_row (only (codes "row") ms) refl e where
  by_row : (o : Option Data) → only (codes "row") ms ≡ o → found_or o row_value (both (codes "draw") (codes "seq") ms >>= draw_value) ≡ Some v → object ms ≡ value_data v
  by_row None is e =
      let p = bind_some (both (codes "draw") (codes "seq") ms) draw_value v e in
      ap object (both_members (codes "draw") (codes "seq") ms p.0 p.1) ∙ is_draw p.0 v p.2
  by_row (Some d) is e = ap object (only_member (codes "row") ms d is) ∙ is_row d v e

pub is_value : (d : Data) (v : Value) → value_in d ≡ Some v → d ≡ value_data v
is_value null v e = ap value_data (same_Some value.Null v e)
is_value (boolean b) v e = absurd cc
is_value (number n) v e =
    let z = map_some (λ z. value.Int z) (integer_in n) v e in
    ap number (is_integer n z.0 z.1) ∙ ap value_data z.2
is_value (string s) v e =
    let t = map_some (λ t. value.Text t) (short_text s) v e in
    ap string (is_short s t.0 t.1) ∙ ap value_data t.2
is_value (array ds) v e = absurd cc
is_value (object ms) v e = is_id ms v e

-- ---- what is read of each

module _ {T : Type 0} (f : Data → Option T) (g : T → Data) where
  pub each_is : ((d : Data) (x : T) → f d ≡ Some x → d ≡ g x) → (ds : Items) (xs : List T) → each_in f ds ≡ Some xs → ds ≡ items_of (map g xs)
  each_is is no_items xs e = ap (λ (ys : List T). items_of (map g ys)) (same_Some [] xs e)
  each_is is (item d ds) xs e =
      let x = bind_some (f d) _ xs e in
      let ys = bind_some (each_in f ds) _ xs x.2 in
      ap (λ (c : Data). item c ds) (is d x.0 x.1) ∙ ap (item (g x.0)) (each_is is ds ys.0 ys.1) ∙ ap (λ (zs : List T). items_of (map g zs)) (same_Some (x.0 ∷ ys.0) xs ys.2)

  pub each_again : (P : T → Type 0) → ((x : T) → P x → f (g x) ≡ Some x) → (xs : List T) → AllByRecursion P xs → each_in f (items_of (map g xs)) ≡ Some xs
  each_again P again [] fits = refl
  each_again P again (x ∷ xs) fits = rw (again x fits.0, each_again P again xs fits.1) refl

  pub list_is : ((d : Data) (x : T) → f d ≡ Some x → d ≡ g x) → (d : Data) (xs : List T) → (as_array d >>= each_in f) ≡ Some xs → d ≡ array (items_of (map g xs))
  list_is is d xs e =
      let ds = bind_some (as_array d) (each_in f) xs e in
      is_array d ds.0 ds.1 ∙ ap array (each_is is ds.0 xs ds.2)

pub are_values : (d : Data) (vs : List Value) → values_in d ≡ Some vs → d ≡ values_data vs
are_values = list_is value_in value_data is_value

-- ---- what is read again

pub short_again : (t : List ℕ) → length t ≤ text_limit → short_text t ≡ Some t
short_again t le = rw (le-leb (length t) text_limit le) refl

pub small_again : (n : ℕ) → n < 2 ^ 32 → small_in (count_data n) ≡ Some n
small_again n lt = rw (lt-ltb n (2 ^ 32) lt) refl

pub value_again : (v : Value) → IsValue v → value_in (value_data v) ≡ Some v
value_again value.Null fits = refl
value_again (value.Int (pos n)) fits = rw (lt-ltb n (2 ^ 63) fits.sfits) refl
value_again (value.Int (negsuc n)) fits = refl
value_again (value.Text t) fits = rw (short_again t fits.limit) refl
value_again (value.Row n) fits = refl
value_again (value.Draw sequence n) fits = rw (small_again sequence fits.0) refl

pub values_again : (vs : List Value) → IsValues vs → values_in (values_data vs) ≡ Some vs
values_again vs fits = each_again value_in value_data IsValue value_again vs fits
