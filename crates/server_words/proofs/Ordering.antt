-- What a stable sort leaves: the list that putting the items in one by one leaves too.
use Rattle.std.proofs.Common.{◌≡◌, ℕ, zero, suc, ◌+◌, Bool, true, false, ◌||◌, List, [], ◌∷◌, get_or, map, if◌then◌else◌, refl, sym, ap, subst, ◌∙◌, arith}
use Rattle.std.specs.List.{AllByRecursion, filter, list_any}
use Rattle.std.specs.List.Sorted.{IsPermutation, IsSortedBy, IsStableBy, ties}
use Rattle.std.specs.Cmp.{IsStrictWeakOrder, IsTotalOrder}
use Rattle.std.proofs.lemmas.List.Elements.{recursion_from_All}
use Rattle.std.proofs.lemmas.List.Sorted.{IsPermutation-cons, IsPermutation-middle, IsPermutation-refl, IsPermutation-sym, IsPermutation-trans, sorted_far}
use denote.Ref.{Bor}
use Rattle.std.specs.Prelude.{ℤ, pos, ◌==◌}
use Rattle.std.specs.Ordering.{is_lt, nat_cmp, int_cmp, ordering_reverse, ordering_then, then_cmp, on}
use Rattle.std.specs.Cmp.Lexicographic.{slice_cmp, on_texts}
use Rattle.std.specs.declared.cmp.Ordering.{Ordering}
use Rattle.std.specs.declared.cmp.Ordering.TheVariants.{Less, Equal, Greater}
use Rattle.std.proofs.lemmas.List.MinMax.{ranks_by}
use Rattle.std.proofs.lemmas.Cmp.{nat_cmp_total, int_cmp_total, on_total, then_total, back_total}
use Rattle.desk_values.specs.declared.value.Value.{Value}
use Rattle.desk_values.specs.declared.value.Value.TheVariants.{Null, Int, Text, Row}
use Rattle.desk_values.specs.declared.value.Image.{Image}
use Rattle.desk_values.specs.Comparison.{text_order, without_trailing_spaces}
use Rattle.sql_tree.specs.declared.tree.Key.{Key}
use Rattle.sql_eval.specs.Totals.{looked_at}
use Rattle.server_words.specs.Found.{column_order, insert_ordered, kind_place, ordered, row_order, value_at}

module _ {X : Type 0} (lt : X → X → Bool) where
  -- an item in front of the first that does not come before it
  abbrev pub put : X → List X → List X
  put x [] = x ∷ []
  put x (y ∷ ys) = if lt y x then y ∷ put x ys else x ∷ y ∷ ys

  -- the items, put in one by one
  abbrev pub put_all : List X → List X
  put_all [] = []
  put_all (x ∷ xs) = put x (put_all xs)

  -- no item comes before one in front of it
  abbrev pub InOrder : List X → Type 0
  InOrder [] = Unit {0}
  InOrder (x ∷ xs) = AllByRecursion (λ y. lt y x ≡ false) xs × InOrder xs

  all_put : (P : X → Type 0) (x : X) (ys : List X) → P x → AllByRecursion P ys → AllByRecursion P (put x ys)
  all_put P x [] one all = (one, tt)
  all_put P x (y ∷ ys) one all = elim (lt y x) as (λ b. AllByRecursion P (if b then y ∷ put x ys else x ∷ y ∷ ys)) [ true ↦ (all.0, all_put P x ys one all.1) | false ↦ (one, all) ]

  pub all_then : (P Q : X → Type 0) → ((z : X) → P z → Q z) → (ys : List X) → AllByRecursion P ys → AllByRecursion Q ys
  all_then P Q so [] all = tt
  all_then P Q so (y ∷ ys) all = (so y all.0, all_then P Q so ys all.1)

  -- a test finds an item wherever it stands
  pub any_put : (p : X → Bool) (x : X) (ys : List X) → list_any p (put x ys) ≡ (p x || list_any p ys)
  any_put p x [] = refl
  any_put p x (y ∷ ys) = grind (arith, any_put p x ys)

  pub any_put_all : (p : X → Bool) (xs : List X) → list_any p (put_all xs) ≡ list_any p xs
  any_put_all p [] = refl
  any_put_all p (x ∷ xs) = any_put p x (put_all xs) ∙ ap (λ b. p x || b) (any_put_all p xs)

  module _ (o : IsStrictWeakOrder lt) where
    in_order_put : (x : X) (ys : List X) → InOrder ys → InOrder (put x ys)
    in_order_put x [] up = (tt, tt)
    in_order_put x (y ∷ ys) up = elim (lt y x) as (λ b. lt y x ≡ b → InOrder (if b then y ∷ put x ys else x ∷ y ∷ ys)) [
      | true ↦ λ is. (all_put (λ z. lt z y ≡ false) x ys (o.one_way y x is) up.0, in_order_put x ys up.1)
      | false ↦ λ is. ((is, all_then (λ z. lt z y ≡ false) (λ z. lt z x ≡ false) (λ z le. o.chain z y x le is) ys up.0), up)
    ] refl

    pub in_order_all : (xs : List X) → InOrder (put_all xs)
    in_order_all [] = tt
    in_order_all (x ∷ xs) = in_order_put x (put_all xs) (in_order_all xs)

    ties_put : (z x : X) (ys : List X) → filter (ties lt z) (put x ys) ≡ filter (ties lt z) (x ∷ ys)
    ties_put z x [] = refl
    ties_put z x (y ∷ ys) = grind (arith, ties_put z x ys, o.chain y z x)

    ties_all : (z : X) (xs : List X) → filter (ties lt z) (put_all xs) ≡ filter (ties lt z) xs
    ties_all z [] = refl
    ties_all z (x ∷ xs) = ties_put z x (put_all xs) ∙ grind (arith, ties_all z xs)

    itself : (x : X) → lt x x ≡ false
    itself x = elim (lt x x) as (λ b. lt x x ≡ b → lt x x ≡ false) [ true ↦ λ is. o.one_way x x is | false ↦ λ is. is ] refl

    sorted_from : (xs : List X) → InOrder xs → IsSortedBy lt xs
    sorted_from [] up k d low within = absurd (omega arith)
    sorted_from (x ∷ []) up k d low within = absurd (omega arith)
    sorted_from (x ∷ y ∷ xs) up zero d low within = up.0.0
    sorted_from (x ∷ y ∷ xs) up (suc k) d low within =
        let next : suc (k + 1) ≡ suc k + 1 = omega arith in
        subst (λ n. lt (get_or (x ∷ y ∷ xs) n d) (get_or (y ∷ xs) k d) ≡ false) next (sorted_from (y ∷ xs) up.1 k d (omega arith) (omega arith))

    -- what comes after all that ties with it
    none_tie : (x y : X) (ys : List X) → lt x y ≡ true → AllByRecursion (λ z. lt z y ≡ false) ys → filter (ties lt x) ys ≡ []
    none_tie x y [] before all = refl
    none_tie x y (z ∷ ys) before all = grind (arith, none_tie x y ys before all.1, o.chain x z y, all.0)

    first_is : (x y : X) (xs ys : List X) → InOrder (x ∷ xs) → InOrder (y ∷ ys) → ((z : X) → filter (ties lt z) (x ∷ xs) ≡ filter (ties lt z) (y ∷ ys)) → x ≡ y
    first_is x y xs ys up over alike = grind (arith, itself x, itself y, none_tie x y ys, none_tie y x xs, alike x, alike y, up, over)

    same_order : (xs ys : List X) → InOrder xs → InOrder ys → ((z : X) → filter (ties lt z) xs ≡ filter (ties lt z) ys) → xs ≡ ys
    same_order [] [] up over alike = refl
    same_order [] (y ∷ ys) up over alike = grind (arith, alike y, itself y)
    same_order (x ∷ xs) [] up over alike = grind (arith, alike x, itself x)
    same_order (x ∷ xs) (y ∷ ys) up over alike =
        let first : x ≡ y = first_is x y xs ys up over alike in
        let rest : xs ≡ ys = same_order xs ys up.1 over.1 (λ z. grind (arith, alike z, first)) in
        cc

    in_order_from : (xs : List X) → IsSortedBy lt xs → InOrder xs
    in_order_from [] up = tt
    in_order_from (x ∷ xs) up = (recursion_from_All (λ y. lt y x ≡ false) xs (λ k d within. sorted_far lt o (x ∷ xs) up 0 (suc k) d (omega arith) (omega arith)), in_order_from xs (λ k d low within. let next : suc k + 1 ≡ suc (k + 1) = omega arith in subst (λ n. lt (get_or (x ∷ xs) n d) (get_or xs k d) ≡ false) next (up (suc k) d (omega arith) (omega arith))))

    pub sorted_is : (xs ys : List X) → IsSortedBy lt ys → IsStableBy lt xs ys → ys ≡ put_all xs
    sorted_is xs ys up stable = same_order ys (put_all xs) (in_order_from ys up) (in_order_all xs) (λ z. stable z ∙ sym (ties_all z xs))

module _ {X : Type 0} (lt : X → X → Bool) where
  moved_put : (x : X) (ys : List X) → IsPermutation (x ∷ ys) (put lt x ys)
  moved_put x [] = IsPermutation-refl (x ∷ [])
  moved_put x (y ∷ ys) = elim (lt y x) as (λ b. IsPermutation (x ∷ y ∷ ys) (if b then y ∷ put lt x ys else x ∷ y ∷ ys)) [
    | true ↦ IsPermutation-trans (x ∷ y ∷ ys) (y ∷ x ∷ ys) (y ∷ put lt x ys) (IsPermutation-sym (y ∷ x ∷ ys) (x ∷ y ∷ ys) (IsPermutation-middle (y ∷ []) x ys)) (IsPermutation-cons y (x ∷ ys) (put lt x ys) (moved_put x ys))
    | false ↦ IsPermutation-refl (x ∷ y ∷ ys)
  ]

  pub moved_all : (xs : List X) → IsPermutation xs (put_all lt xs)
  moved_all [] = IsPermutation-refl []
  moved_all (x ∷ xs) = IsPermutation-trans (x ∷ xs) (x ∷ put_all lt xs) (put lt x (put_all lt xs)) (IsPermutation-cons x xs (put_all lt xs) (moved_all xs)) (moved_put x (put_all lt xs))

module _ {X Y : Type 0} (f : X → Y) (lt : Y → Y → Bool) where
  map_put : (x : X) (xs : List X) → map f (put (λ a b. lt (f a) (f b)) x xs) ≡ put lt (f x) (map f xs)
  map_put x [] = refl
  map_put x (y ∷ ys) = elim (lt (f y) (f x)) as (λ b. map f (if b then y ∷ put (λ a b. lt (f a) (f b)) x ys else x ∷ y ∷ ys) ≡ (if b then f y ∷ put lt (f x) (map f ys) else f x ∷ f y ∷ map f ys)) [ true ↦ ap (λ l. f y ∷ l) (map_put x ys) | false ↦ refl ]

  map_put_all : (xs : List X) → map f (put_all (λ a b. lt (f a) (f b)) xs) ≡ put_all lt (map f xs)
  map_put_all [] = refl
  map_put_all (x ∷ xs) = map_put x (put_all (λ a b. lt (f a) (f b)) xs) ∙ ap (put lt (f x)) (map_put_all xs)

  -- the same of items that are seen by f
  pub sorted_as : (xs ys : List X) → IsStrictWeakOrder (λ a b. lt (f a) (f b)) → IsSortedBy (λ a b. lt (f a) (f b)) ys → IsStableBy (λ a b. lt (f a) (f b)) xs ys → map f ys ≡ put_all lt (map f xs)
  sorted_as xs ys o up stable = ap (map f) (sorted_is (λ a b. lt (f a) (f b)) o xs ys up stable) ∙ map_put_all xs

-- ---- the orders of values and of rows

number_in : Value → ℤ
number_in (Int n) = n
number_in other = pos 0

compared : ℕ → Value → List ℕ
compared level (Text text) = if level == 2 then without_trailing_spaces text else text
compared level other = []

abbrev by_parts : ℕ → Value → Value → Ordering
by_parts level = then_cmp (on kind_place nat_cmp) (then_cmp (on number_in int_cmp) (on (compared level) (slice_cmp nat_cmp)))

parts_total : (level : ℕ) → IsTotalOrder (by_parts level)
parts_total level = then_total (on_total kind_place nat_cmp_total) (then_total (on_total number_in int_cmp_total) (on_texts (compared level)))

pub then_equal : (o : Ordering) → ordering_then o Equal ≡ o
then_equal Less = refl
then_equal Equal = refl
then_equal Greater = refl

by_parts_is : (level : ℕ) (a b : Value) → column_order level a b ≡ by_parts level a b
unfolding number_in compared text_order
by_parts_is level (Int a) (Int b) = sym (then_equal (int_cmp a b))
by_parts_is level (Text a) (Text b) = elim (level == 2) as (λ c. (if c then slice_cmp nat_cmp (without_trailing_spaces a) (without_trailing_spaces b) else slice_cmp nat_cmp a b) ≡ slice_cmp nat_cmp (if c then without_trailing_spaces a else a) (if c then without_trailing_spaces b else b)) [ true ↦ refl | false ↦ refl ]
by_parts_is level a Null = refl
by_parts_is level a (Row n) = refl
by_parts_is level a b = refl

pub column_total : (level : ℕ) → IsTotalOrder (column_order level)
column_total level = subst IsTotalOrder (λ i a b. sym (by_parts_is level a b) i) (parts_total level)

turned : (turns : Bool) {K : Type 0} (R : K → K → Ordering) → IsTotalOrder R → IsTotalOrder (λ a b. if turns then ordering_reverse (R a b) else R a b)
turned true R total = subst IsTotalOrder (λ i a b. total.antisymm b a i) (back_total total)
turned false R total = total

pub row_total : (level : ℕ) (keys : List (Key ℕ)) → IsTotalOrder (row_order level keys)
row_total level [] = on_total (λ (image : Image). image.row) nat_cmp_total
row_total level (key ∷ keys) = then_total (turned key.desc _ (on_total (λ (image : Image). value_at image key.column) (column_total level))) (row_total level keys)

module _ (level : ℕ) (keys : List (Key ℕ)) where
  abbrev comes_before : Image → Image → Bool
  comes_before a b = is_lt (row_order level keys a b)

  put_is : (image : Image) (rows : List Image) → put comes_before image rows ≡ insert_ordered level keys image rows
  put_is image [] = refl
  put_is image (first ∷ rest) = ap (λ l. if comes_before first image then first ∷ l else image ∷ first ∷ rest) (put_is image rest)

  put_all_is : (rows : List Image) → put_all comes_before rows ≡ ordered level keys rows
  unfolding ordered
  put_all_is [] = refl
  put_all_is (image ∷ rest) = put_is image (put_all comes_before rest) ∙ ap (insert_ordered level keys image) (put_all_is rest)

  -- in the order that a sort of references leaves
  pub ordered_sorted : (xs ys : List (Bor Image)) → IsSortedBy (λ a b. comes_before a.now b.now) ys → IsStableBy (λ a b. comes_before a.now b.now) xs ys → looked_at ys ≡ ordered level keys (looked_at xs)
  ordered_sorted xs ys up stable = sorted_as (λ (image : Bor Image). image.now) comes_before xs ys (ranks_by (row_total level keys) (λ (image : Bor Image). image.now)) up stable ∙ put_all_is (looked_at xs)

  -- they are the rows, and none comes before the one in front of it
  pub in_order : (rows : List Image) → IsSortedBy comes_before (ordered level keys rows)
  in_order rows = subst (IsSortedBy comes_before) (put_all_is rows) (sorted_from comes_before (ranks_by (row_total level keys) (λ (image : Image). image)) (put_all comes_before rows) (in_order_all comes_before (ranks_by (row_total level keys) (λ (image : Image). image)) rows))

  pub same_rows : (rows : List Image) → IsPermutation rows (ordered level keys rows)
  same_rows rows = subst (IsPermutation rows) (put_all_is rows) (moved_all comes_before rows)
