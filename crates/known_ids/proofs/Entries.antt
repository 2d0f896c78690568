-- One entry more, and what is known then.
use Rattle.std.proofs.Common.{◌≡◌, ℕ, ◌+◌, ◌<◌, ◌≤◌, Bool, true, false, ◌||◌, ◌&&◌, List, [], ◌∷◌, ◌++◌, length, get_or, take, refl, sym, ap, subst, inl, inr, ◌∙◌, append_assoc, arith, cond}
use Rattle.std.specs.Prelude.{nat_eq, nat_le, Option, Some}
use Rattle.std.specs.declared.cmp.Ordering.{Ordering}
use Rattle.std.specs.declared.cmp.Ordering.TheVariants.{Less, Equal, Greater}
use Rattle.std.specs.Ordering.{is_eq, nat_cmp, ordering_then}
use Rattle.std.specs.List.{flat_map, list_any}
use Rattle.std.proofs.lemmas.Bool.{cases_Bool, cases_lt, le-leb, leb-true}
use Rattle.std.proofs.lemmas.List.{append-nil, length-take, take_all}
use Rattle.std.proofs.Math.Seq.{take-take}
use Rattle.std.proofs.lemmas.List.Folds.{list_any-append}
use Rattle.std.proofs.lemmas.Grind.{common_steps, flat_map-append}
use Rattle.std.proofs.lemmas.Map.Views.{any-filter_same}
use Rattle.desk_values.specs.Ids.{ids_of_image, ids_in, ids_left, is_id, ids_made}
use Rattle.desk_values.specs.declared.value.Value.{Value}
use Rattle.desk_values.specs.declared.value.Value.TheVariants.{Row}
use Rattle.desk_values.specs.declared.value.Image.{Image}
use Rattle.desk_values.specs.declared.capture.Captured.{Captured}
use Rattle.desk_values.specs.declared.call.Reply.{Reply}
use Rattle.captured_calls.specs.Known.{given_by, ids_known}
use Rattle.captured_calls.specs.Same.{same_value}
use Rattle.captured_calls.proofs.Sameness.{value_decided}
use Rattle.captured_calls.proofs.Scanning.{taken}
use Rattle.known_ids.specs.Knowing.{pair_cmp, is_by, KnowsCalls, KnowsJust}
use Rattle.known_ids.specs.declared.known.KnownIds.{KnownIds}

-- ---- keys

both_equal : (first second : Ordering) → is_eq (ordering_then first second) ≡ (is_eq first && is_eq second)
both_equal Less second = refl
both_equal Equal second = refl
both_equal Greater second = refl

pub equal_is : (a b : ℕ) → is_eq (nat_cmp a b) ≡ nat_eq b a
equal_is a b = grind (arith, common_steps)

pub pair_at : (s m p n : ℕ) → is_eq (pair_cmp (s, m) (p, n)) ≡ (nat_eq p s && nat_eq n m)
pair_at s m p n = both_equal (nat_cmp s p) (nat_cmp m n) ∙ rw (equal_is s p, equal_is m n) refl

-- ---- an entry that is put in the place of an earlier one

no_less : (first count : ℕ) → count < first → nat_le first count ≡ false
no_less first count less = elim (cases_Bool (nat_le first count)) [
  | inl is ↦ (let most = leb-true first count is in absurd (omega (arith, most, less)))
  | inr is ↦ is
]

-- it tells what was told before, and more from its own count on
module _ (here : Bool) (old first : Option ℕ) (since new : ℕ) (was : here ≡ true → old ≡ first) (either : (count : ℕ) → nat_le new count ≡ (nat_le since count || is_by first count)) where
  pub told_from : (count : ℕ) → since ≤ count → is_by (cond here (Some new) old) count ≡ (here || is_by old count)
  told_from count from = at here
    where
      at : (b : Bool) → is_by (cond b (Some new) old) count ≡ (b || is_by old count)
      at true = either count ∙ ap (λ (b : Bool). b || is_by first count) (le-leb since count from)
      at false = refl

  pub told_before : (count : ℕ) → count < since → is_by (cond here (Some new) old) count ≡ is_by old count
  told_before count before = at here was
    where
      at : (b : Bool) → (b ≡ true → old ≡ first) → is_by (cond b (Some new) old) count ≡ is_by old count
      at true was = either count ∙ ap (λ (b : Bool). b || is_by first count) (no_less since count before) ∙ ap (λ (o : Option ℕ). is_by o count) (sym (was refl))
      at false was = refl

-- ---- values that are no ids

same_id : (id value : Value) → is_id id ≡ true → same_value id value ≡ true → is_id value ≡ true
same_id id value is same = subst (λ (v : Value). is_id v ≡ true) ((value_decided id value).0 same) is

only_ids : (id : Value) (values : List Value) → is_id id ≡ true → list_any (same_value id) (ids_in values) ≡ list_any (same_value id) values
only_ids id values is = any-filter_same (same_value id) is_id true (λ value same. same_id id value is same) values

-- ---- more ids

module _ (ids : KnownIds) (count : ℕ) (known : List Value) where
  pub knows_more : (values : List Value) (i : ℕ) (value : Value) → i < length values → value ≡ get_or values i value → KnowsJust ids count ((known ++ take i values) ++ value ∷ []) → KnowsJust ids count (known ++ take (i + 1) values)
  knows_more values i value within read knows = subst (KnowsJust ids count) (append_assoc known (take i values) (value ∷ []) ∙ ap (λ (l : List Value). known ++ l) (sym (taken values i value within read))) knows

  pub knows_image : (slice values : List Value) (image : Image) → image.left ≡ Some values → slice ≡ values → KnowsJust ids count ((known ++ Row image.row ∷ []) ++ slice) → KnowsJust ids count (known ++ ids_of_image image)
  knows_image slice values image left is knows id are =
      knows id are ∙ ap (list_any (same_value id)) (append_assoc known (Row image.row ∷ []) slice) ∙ list_any-append (same_value id) known (Row image.row ∷ slice)
      ∙ sym (ap (λ (o : Option (List Value)). list_any (same_value id) (known ++ Row image.row ∷ ids_left o)) left ∙ list_any-append (same_value id) known (Row image.row ∷ ids_in values)
      ∙ ap (λ (b : Bool). list_any (same_value id) known || (same_value id (Row image.row) || b)) (only_ids id values are ∙ ap (list_any (same_value id)) (sym is)))

  pub knows_reply : (slice : List Value) (row : ℕ) (reply : Reply) → reply.made ≡ Some row → slice ≡ reply.draws → KnowsJust ids count ((known ++ slice) ++ Row row ∷ []) → KnowsJust ids count (known ++ given_by reply)
  knows_reply slice row reply made is knows = subst (KnowsJust ids count) (append_assoc known slice (Row row ∷ []) ∙ ap (λ (l : List Value). known ++ l) (ap (λ (l : List Value). l ++ Row row ∷ []) is ∙ ap (λ (o : Option ℕ). reply.draws ++ ids_made o) (sym made))) knows

pub ids_more : (rows : List Image) (calls : List Captured) (i : ℕ) (call : Captured) → i < length calls → call ≡ get_or calls i call → ids_known rows (take i calls) ++ given_by call.reply ≡ ids_known rows (take (i + 1) calls)
ids_more rows calls i call within read =
    let given : Captured → List Value = λ (c : Captured). given_by c.reply in
    append_assoc (flat_map ids_of_image rows) (flat_map given (take i calls)) (given_by call.reply)
    ∙ ap (λ (l : List Value). flat_map ids_of_image rows ++ l) (sym (ap (flat_map given) (taken calls i call within read) ∙ flat_map-append given (take i calls) (call ∷ []) ∙ ap (λ (l : List Value). flat_map given (take i calls) ++ l) (append-nil (given_by call.reply))))

-- ---- one call more

module _ (old new : KnownIds) (rows : List Image) (calls : List Captured) (i : ℕ) (call : Captured) (within : i < length calls) (read : call ≡ get_or calls i call)
    (later : (count : ℕ) (known : List Value) → i + 1 ≤ count → KnowsJust old count known → KnowsJust new count (known ++ given_by call.reply))
    (before : (count : ℕ) (known : List Value) → count < i + 1 → KnowsJust old count known → KnowsJust new count known) where
  all_of : (k count : ℕ) → k ≤ count → take count (take k calls) ≡ take k calls
  all_of k count below = take_all count (take k calls) (omega (arith, length-take k calls, below))

  pub knows_calls : KnowsCalls old rows (take i calls) → KnowsCalls new rows (take (i + 1) calls)
  knows_calls knows count = elim (cases_lt count (i + 1)) [
    | inl less ↦ before count (ids_known rows (take count (take (i + 1) calls))) less
        (subst (λ (cs : List Captured). KnowsJust old count (ids_known rows cs)) (take-take count i calls (omega (arith, less)) ∙ sym (take-take count (i + 1) calls (omega (arith, less)))) (knows count))
    | inr from ↦ subst (KnowsJust new count) (ap (λ (cs : List Captured). ids_known rows cs ++ given_by call.reply) (all_of i count (omega (arith, from))) ∙ ids_more rows calls i call within read ∙ ap (ids_known rows) (sym (all_of (i + 1) count from)))
        (later count (ids_known rows (take count (take i calls))) from (knows count))
  ]
