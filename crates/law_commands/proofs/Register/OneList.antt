-- Two runs whose stamps rise differ by one list alone.
use Rattle.std.proofs.Common.{◌≡◌, ℕ, ◌+◌, ◌<◌, ◌≤◌, Bool, true, false, cond, ◌==◌, ◌||◌, ltb, List, [], ◌∷◌, ◌++◌, length, get_or, IsPermutation, sum_by, Option, None, Some, refl, sym, ap, ◌∙◌, arith}
use Rattle.std.specs.List.{AllByRecursion}
use Rattle.std.specs.List.Sorted.{IsNonDecreasingBy}
use Rattle.std.proofs.lemmas.Bool.{eq-eqb, le-ltb, ltb-false, ne_eqb}
use Rattle.std.proofs.lemmas.List.Elements.{All-from_recursion, recursion_from_All}
use Rattle.std.proofs.lemmas.List.Sorted.{All-permutation, IsNonDecreasingBy-drop, sum_by-IsPermutation}
use Rattle.std.proofs.lemmas.List.Sums.{sum_by-cons}
use Rattle.replay_history.specs.declared.report.Line.{Line}
use Rattle.replay_history.specs.Class.{class_number}
use Rattle.run_register.specs.declared.kept.Accept.{Accept}
use Rattle.run_register.specs.declared.comparison.Difference.{Difference}
use Rattle.run_register.specs.declared.comparison.Difference.TheVariants.{New, Gone, Changed}
use Rattle.run_register.specs.Comparison.{AreDifferences, RiseFrom, all_differences, is_accepted, line_at, of_all_first, of_all_second, of_first, of_second, stamp_of}

-- ---- lists with the same elements, in the order of their keys

module _ {X : Type 0} (n : X → ℕ) (at : ℕ → Option X) where
  -- each is the one at its key
  abbrev pub AreAt : List X → Type 0
  AreAt xs = AllByRecursion (λ x. at (n x) ≡ Some x) xs

  -- the keys do not fall, from this one on
  Ascend : ℕ → List X → Type 0
  Ascend least [] = Unit {0}
  Ascend least (x ∷ xs) = (least ≤ n x) × Ascend (n x) xs

  ascend : (least : ℕ) (xs : List X) → ((d : X) → 0 < length xs → least ≤ n (get_or xs 0 d)) → IsNonDecreasingBy n xs → Ascend least xs
  unfolding Ascend
  ascend least [] first up = tt
  ascend least (x ∷ xs) first up = (first x (omega arith), ascend (n x) xs (λ d some. up 0 1 d (omega arith) (omega arith)) (IsNonDecreasingBy-drop n 1 (x ∷ xs) up))

  -- what is counted below a key
  below : ℕ → X → ℕ
  below key x = cond (ltb (n x) key) 1 0

  none_below : (key least : ℕ) (xs : List X) → key ≤ least → Ascend least xs → sum_by (below key) xs ≡ 0
  unfolding Ascend below
  none_below key least [] from up = refl
  none_below key least (x ∷ xs) from up =
      let here : below key x ≡ 0 = ap (λ (b : Bool). cond b 1 0) (le-ltb (n x) key (omega (arith, from, up.0))) in
      let rest = none_below key (n x) xs (omega (arith, from, up.0)) up.1 in
      let whole = sum_by-cons (below key) x xs in
      omega (arith, here, rest, whole)

  at_least : (key : ℕ) (x : X) → below key x ≡ 0 → key ≤ n x
  unfolding below
  at_least key x none = test (ltb (n x) key) refl none where
    test : (b : Bool) → ltb (n x) key ≡ b → cond {A = ℕ} b 1 0 ≡ 0 → key ≤ n x
    test true e one = absurd (omega (arith, one))
    test false e zero = ltb-false (n x) key e

  -- as much of anything is in both
  Same : List X → List X → Type 0
  Same xs ys = (f : X → ℕ) → sum_by f xs ≡ sum_by f ys

  -- the first of one is not behind the first of the other
  not_behind : (x y : X) (xs ys : List X) → Same (x ∷ xs) (y ∷ ys) → Ascend (n x) xs → n x ≤ n y
  unfolding Same Ascend
  not_behind x y xs ys same up =
      let none = none_below (n x) (n x) (x ∷ xs) (omega arith) (omega arith, up) in
      let whole = sum_by-cons (below (n x)) y ys in
      let also = same (below (n x)) in
      at_least (n x) y (omega (arith, none, whole, also))

  one_list : (xs ys : List X) (least other : ℕ) → Same xs ys → Ascend least xs → Ascend other ys → AreAt xs → AreAt ys → xs ≡ ys
  unfolding Same Ascend
  one_list [] [] least other same up also in_first in_second = refl
  one_list [] (y ∷ ys) least other same up also in_first in_second = let none = same (λ _. 1) in let some = sum_by-cons (λ (_ : X). 1) y ys in absurd (omega (arith, none, some))
  one_list (x ∷ xs) [] least other same up also in_first in_second = let none = same (λ _. 1) in let some = sum_by-cons (λ (_ : X). 1) x xs in absurd (omega (arith, none, some))
  one_list (x ∷ xs) (y ∷ ys) least other same up also in_first in_second =
      let front = not_behind x y xs ys same up.1 in
      let back = not_behind y x ys xs (λ f. sym (same f)) also.1 in
      let key : n x ≡ n y = omega (arith, front, back) in
      let found : Some x ≡ Some y = sym in_first.0 ∙ ap at key ∙ in_second.0 in
      let e : x ≡ y = cc found in
      let rest : Same xs ys = λ f. (
      let whole = same f in
      let first = sum_by-cons f x xs in
      let second = sum_by-cons f y ys in
      let here = ap f e in
      omega (arith, whole, first, second, here)
      ) in
      λ i. e i ∷ one_list xs ys (n x) (n y) rest up.1 also.1 in_first.1 in_second.1 i

  pub one_order : (all found other : List X) → AreAt all → IsPermutation all found → IsPermutation all other → IsNonDecreasingBy n found → IsNonDecreasingBy n other → found ≡ other
  unfolding Same
  one_order all found other in_all is also up rising =
      let P : X → Type 0 = λ x. at (n x) ≡ Some x in
      let are : (xs : List X) → IsPermutation all xs → AreAt xs = λ xs same. recursion_from_All P xs (All-permutation P all xs same (All-from_recursion P all in_all)) in
      one_list found other 0 0
      (λ f. sum_by-IsPermutation f all found is ∙ sym (sum_by-IsPermutation f all other also))
      (ascend 0 found (λ d some. omega arith) up)
      (ascend 0 other (λ d some. omega arith) rising)
      (are found is) (are other also)

-- ---- each difference is the one at its stamp

-- a run's line is the one at its stamp
lines_at : (least : ℕ) (lines : List Line) → RiseFrom least lines → AllByRecursion (λ l. (least ≤ l.stamp) × (line_at lines l.stamp ≡ Some l)) lines
lines_at least [] up = tt
lines_at least (l ∷ lines) up = ((up.0, ap (λ (b : Bool). cond b (Some l) (line_at lines l.stamp)) (eq-eqb l.stamp l.stamp refl)), later lines (lines_at (l.stamp + 1) lines up.1)) where
  later : (ms : List Line) → AllByRecursion (λ m. (l.stamp + 1 ≤ m.stamp) × (line_at lines m.stamp ≡ Some m)) ms → AllByRecursion (λ m. (least ≤ m.stamp) × (line_at (l ∷ lines) m.stamp ≡ Some m)) ms
  later [] each = tt
  later (m ∷ ms) each =
      let from = each.0.0 in
      let low = up.0 in
      let passed : line_at (l ∷ lines) m.stamp ≡ line_at lines m.stamp = ap (λ (b : Bool). cond b (Some l) (line_at lines m.stamp)) (ne_eqb l.stamp m.stamp (λ e. absurd (omega (arith, e, from)))) in
      ((omega (arith, from, low), passed ∙ each.0.1), later ms each.1)

module _ {X : Type 0} (P : X → Type 0) where
  each_append : (xs ys : List X) → AllByRecursion P xs → AllByRecursion P ys → AllByRecursion P (xs ++ ys)
  each_append [] ys h k = k
  each_append (x ∷ xs) ys h k = (h.0, each_append xs ys h.1 k)

module _ (a b : List Line) (accepts : ℕ → ℕ → Bool) where
  -- what the lines at one stamp give
  at_lines : Option Line → Option Line → Option Difference
  at_lines (Some l) (Some m) = Some (Changed l m.class)
  at_lines (Some l) None = Some (Gone l)
  at_lines None (Some m) = Some (New m)
  at_lines None None = None

  at_stamp : ℕ → Option Difference
  at_stamp stamp = at_lines (line_at a stamp) (line_at b stamp)

  IsAt : Difference → Type 0
  IsAt d = at_stamp (stamp_of d) ≡ Some d

  at_first : (l : Line) (o : Option Line) → line_at b l.stamp ≡ o → line_at a l.stamp ≡ Some l → AllByRecursion IsAt (of_first accepts l o)
  unfolding IsAt at_stamp at_lines
  at_first l None other own = ((λ i. at_lines (own i) (other i)), tt)
  at_first l (Some m) other own = at ((class_number l.class == class_number m.class) || accepts l.stamp (class_number m.class)) where
    at : (t : Bool) → AllByRecursion IsAt (cond t [] (Changed l m.class ∷ []))
    at true = tt
    at false = ((λ i. at_lines (own i) (other i)), tt)

  at_second : (m : Line) (o : Option Line) → line_at a m.stamp ≡ o → line_at b m.stamp ≡ Some m → AllByRecursion IsAt (of_second accepts m o)
  unfolding IsAt at_stamp at_lines
  at_second m (Some l) other own = tt
  at_second m None other own = at (accepts m.stamp (class_number m.class)) where
    at : (t : Bool) → AllByRecursion IsAt (cond t [] (New m ∷ []))
    at true = tt
    at false = ((λ i. at_lines (other i) (own i)), tt)

  all_first : (ls : List Line) → AllByRecursion (λ l. (0 ≤ l.stamp) × (line_at a l.stamp ≡ Some l)) ls → AllByRecursion IsAt (of_all_first accepts ls (line_at b))
  all_first [] each = tt
  all_first (l ∷ ls) each = each_append IsAt (of_first accepts l (line_at b l.stamp)) (of_all_first accepts ls (line_at b)) (at_first l (line_at b l.stamp) refl each.0.1) (all_first ls each.1)

  all_second : (ms : List Line) → AllByRecursion (λ m. (0 ≤ m.stamp) × (line_at b m.stamp ≡ Some m)) ms → AllByRecursion IsAt (of_all_second accepts ms (line_at a))
  all_second [] each = tt
  all_second (m ∷ ms) each = each_append IsAt (of_second accepts m (line_at a m.stamp)) (of_all_second accepts ms (line_at a)) (at_second m (line_at a m.stamp) refl each.0.1) (all_second ms each.1)

  all_at : RiseFrom 0 a → RiseFrom 0 b → AreAt stamp_of at_stamp (of_all_first accepts a (line_at b) ++ of_all_second accepts b (line_at a))
  unfolding IsAt
  all_at up rising = each_append IsAt (of_all_first accepts a (line_at b)) (of_all_second accepts b (line_at a)) (all_first a (lines_at 0 a up)) (all_second b (lines_at 0 b rising))

pub one_comparison : (a b : List Line) (accepted : List Accept) (found other : List Difference) → RiseFrom 0 a → RiseFrom 0 b → AreDifferences a b accepted found → AreDifferences a b accepted other → found ≡ other
one_comparison a b accepted found other up rising is also =
    one_order stamp_of (at_stamp a b (is_accepted accepted)) (all_differences a b accepted) found other (all_at a b (is_accepted accepted) up rising) is.all also.all is.by_stamp also.by_stamp
