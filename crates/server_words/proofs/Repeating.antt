-- Keys in order: two that are one key stand side by side.
use Rattle.std.proofs.Common.{◌≡◌, ℕ, Bool, true, false, ◌||◌, ◌&&◌, List, [], ◌∷◌, if◌then◌else◌, length, map, ◌<◌, refl, sym, ap, ◌∙◌, arith}
use Rattle.std.specs.Prelude.{◌==◌}
use Rattle.std.specs.List.{AllByRecursion, list_any}
use Rattle.std.specs.List.Sorted.{IsSortedBy, IsStableBy}
use denote.Ref.{Bor}
use mathlib.Core.Bool.{true≢false}
use Rattle.std.specs.Ordering.{is_eq, is_lt, nat_cmp, int_cmp, ordering_reverse}
use Rattle.std.specs.Cmp.{IsTotalOrder, unsigned_ties, both_tied, first_so, second_so, Equal-is}
use Rattle.std.specs.declared.cmp.Ordering.{Ordering}
use Rattle.std.proofs.lemmas.Bool.{and_parts}
use Rattle.std.proofs.lemmas.List.MinMax.{ranks_by}
use Rattle.std.proofs.lemmas.Cmp.{nat_cmp_total, on_total, then_total, eq_by_cmp_equiv}
use Rattle.desk_values.specs.declared.value.Value.{Value}
use Rattle.desk_values.specs.declared.value.Value.TheVariants.{Null, Int, Text, Row, Draw}
use Rattle.desk_values.specs.Comparison.{same_key, text_order}
use Rattle.server_words.specs.Writes.{repeats_key}
use Rattle.server_words.specs.Inside.Repeats.{id_number, id_sequence, keys_rise, order_of_keys, same_neighbours}
use Rattle.server_words.proofs.Ordering.{InOrder, all_then, any_put, any_put_all, column_total, in_order_all, put, put_all, sorted_as, then_equal}

pub keys_total : (level : ℕ) → IsTotalOrder (order_of_keys level)
keys_total level = then_total (column_total level) (then_total (on_total id_sequence nat_cmp_total) (on_total id_number nat_cmp_total))

-- ---- one key

is_something : Value → Bool
is_something Null = false
is_something other = true

same_key_is : (level : ℕ) (a b : Value) → same_key level a b ≡ (is_something a && is_eq (order_of_keys level a b))
unfolding is_something
same_key_is level (Int a) (Int b) = ap is_eq (sym (then_equal (int_cmp a b)))
same_key_is level (Text a) (Text b) = ap is_eq (sym (then_equal (text_order level a b)))
same_key_is level (Row a) (Row b) = unsigned_ties a b
same_key_is level (Draw p a) (Draw q b) = both_tied (p == q) (a == b) (nat_cmp p q) (nat_cmp a b) (unsigned_ties p q) (unsigned_ties a b)
same_key_is level a Null = refl
same_key_is level a b = refl

pub or_swap : (a b c d : Bool) → ((a || b) || (c || d)) ≡ ((a || c) || (b || d))
or_swap a b c d = grind arith

module _ (level : ℕ) where
  abbrev comes_before : Value → Value → Bool
  comes_before a b = is_lt (order_of_keys level a b)

  either_way : (a b : Value) → (is_something a && is_eq (order_of_keys level a b)) ≡ (is_something b && is_eq (order_of_keys level b a))
  unfolding is_something
  either_way Null Null = refl
  either_way Null b = refl
  either_way a Null = refl
  either_way a b = (eq_by_cmp_equiv (keys_total level)).symm a b

  pub same_back : (a b : Value) → same_key level a b ≡ same_key level b a
  same_back a b = same_key_is level a b ∙ either_way a b ∙ sym (same_key_is level b a)

  repeats_put : (x : Value) (ys : List Value) → repeats_key level (put comes_before x ys) ≡ repeats_key level (x ∷ ys)
  unfolding repeats_key
  repeats_put x [] = refl
  repeats_put x (y ∷ ys) = elim (comes_before y x) as (λ b. repeats_key level (if b then y ∷ put comes_before x ys else x ∷ y ∷ ys) ≡ repeats_key level (x ∷ y ∷ ys)) [
    | true ↦ rw (any_put comes_before (same_key level y) x ys, repeats_put x ys, same_back x y) (or_swap (same_key level y x) (list_any (same_key level y) ys) (list_any (same_key level x) ys) (repeats_key level ys))
    | false ↦ refl
  ]

  repeats_all : (xs : List Value) → repeats_key level (put_all comes_before xs) ≡ repeats_key level xs
  unfolding repeats_key
  repeats_all [] = refl
  repeats_all (x ∷ xs) = repeats_put x (put_all comes_before xs) ∙ rw (any_put_all comes_before (same_key level x) xs, repeats_all xs) refl

  equal_between : (xy yx zy : Ordering) → xy ≡ ordering_reverse yx → is_lt yx ≡ false → xy ≡ zy → is_lt zy ≡ false → is_eq xy ≡ true
  equal_between xy yx zy back up same over = grind arith

  same_beside : (x y z : Value) → comes_before y x ≡ false → comes_before z y ≡ false → same_key level x y ≡ false → same_key level x z ≡ true → ⊥
  same_beside x y z up over apart same =
      let total = keys_total level in
      let both = sym (same_key_is level x z) ∙ same in
      let there = first_so (is_something x) (is_eq (order_of_keys level x z)) both in
      let equal = (Equal-is (order_of_keys level x z)).0 (second_so (is_something x) (is_eq (order_of_keys level x z)) both) in
      let beside = equal_between (order_of_keys level x y) (order_of_keys level y x) (order_of_keys level z y) (total.antisymm x y) up (total.congr x z y equal) over in
      true≢false (sym (same_key_is level x y ∙ (λ i. there i && beside i)) ∙ apart)

  none_beyond : (x y : Value) (rest : List Value) → comes_before y x ≡ false → AllByRecursion (λ z. comes_before z y ≡ false) rest → same_key level x y ≡ false → list_any (same_key level x) rest ≡ false
  none_beyond x y [] up over apart = refl
  none_beyond x y (z ∷ rest) up over apart = elim (same_key level x z) as (λ b. same_key level x z ≡ b → (b || list_any (same_key level x) rest) ≡ false) [
    | true ↦ λ same. absurd (same_beside x y z up over.0 apart same)
    | false ↦ λ other. none_beyond x y rest up over.1 apart
  ] refl

  neighbours_repeat : (xs : List Value) → InOrder comes_before xs → same_neighbours level xs ≡ repeats_key level xs
  unfolding repeats_key
  neighbours_repeat [] up = refl
  neighbours_repeat (x ∷ []) up = refl
  neighbours_repeat (x ∷ y ∷ rest) up = elim (same_key level x y) as (λ b. same_key level x y ≡ b → (b || same_neighbours level (y ∷ rest)) ≡ ((b || list_any (same_key level x) rest) || repeats_key level (y ∷ rest))) [
    | true ↦ λ same. refl
    | false ↦ λ apart. neighbours_repeat (y ∷ rest) up.1 ∙ ap (λ c. c || repeats_key level (y ∷ rest)) (sym (none_beyond x y rest up.0.0 up.1.0 apart))
  ] refl

  -- ---- keys that rise

  rise_in_order : (xs : List Value) → keys_rise level xs ≡ true → InOrder comes_before xs
  rise_in_order [] up = tt
  rise_in_order (x ∷ []) up = (tt, tt)
  rise_in_order (x ∷ y ∷ rest) up =
      let order = ranks_by (keys_total level) (λ v. v) in
      let both = and_parts (comes_before x y) (keys_rise level (y ∷ rest)) up in
      let behind = rise_in_order (y ∷ rest) both.1 in
      let back : comes_before y x ≡ false = order.one_way x y both.0 in
      ((back, all_then comes_before (λ z. comes_before z y ≡ false) (λ z. comes_before z x ≡ false) (λ z le. order.chain z y x le back) rest behind.0), behind)

  less_apart : (b : Bool) (o : Ordering) → is_lt o ≡ true → (b && is_eq o) ≡ false
  less_apart b o less = grind arith

  rise_apart : (xs : List Value) → keys_rise level xs ≡ true → same_neighbours level xs ≡ false
  rise_apart [] up = refl
  rise_apart (x ∷ []) up = refl
  rise_apart (x ∷ y ∷ rest) up =
      let both = and_parts (comes_before x y) (keys_rise level (y ∷ rest)) up in
      let first : same_key level x y ≡ false = same_key_is level x y ∙ less_apart (is_something x) (order_of_keys level x y) both.0 in
      rw first (rise_apart (y ∷ rest) both.1)

  pub rising_apart : (xs : List Value) → keys_rise level xs ≡ true → false ≡ repeats_key level xs
  rising_apart xs up = sym (rise_apart xs up) ∙ neighbours_repeat xs (rise_in_order xs up)

  -- in the order that a sort of references leaves
  pub repeats_sorted : (xs ys : List (Bor Value)) → IsSortedBy (λ a b. comes_before a.now b.now) ys → IsStableBy (λ a b. comes_before a.now b.now) xs ys → same_neighbours level (map (λ (k : Bor Value). k.now) ys) ≡ repeats_key level (map (λ (k : Bor Value). k.now) xs)
  repeats_sorted xs ys up stable =
      let now : Bor Value → Value = λ (k : Bor Value). k.now in
      ap (same_neighbours level) (sorted_as now comes_before xs ys (ranks_by (keys_total level) now) up stable)
      ∙ neighbours_repeat (put_all comes_before (map now xs)) (in_order_all comes_before (ranks_by (keys_total level) (λ v. v)) (map now xs))
      ∙ repeats_all (map now xs)

  pub few_rise : (ks : List (Bor Value)) → length ks < 2 → true ≡ keys_rise level (map (λ (k : Bor Value). k.now) ks)
  few_rise [] few = refl
  few_rise (k ∷ []) few = refl
  few_rise (k ∷ l ∷ ks) few = absurd (omega arith)

  pub too_few : (ks : List (Bor Value)) → length ks < 2 → false ≡ same_neighbours level (map (λ (k : Bor Value). k.now) ks)
  too_few [] few = refl
  too_few (k ∷ []) few = refl
  too_few (k ∷ l ∷ ks) few = absurd (omega arith)
