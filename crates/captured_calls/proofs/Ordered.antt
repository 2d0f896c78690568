-- Where each call of an order stands at its stamp, the order is the one by stamp.
use Rattle.std.proofs.Common.{◌≡◌, ℕ, suc, ◌+◌, ◌<◌, Bool, false, List, [], ◌∷◌, length, get_or, refl, sym, ap, subst, ◌∙◌, arith, cond}
use Rattle.std.specs.Prelude.{None, Some, nat_eq, not, slice_get}
use Rattle.std.specs.List.{All, AllByRecursion, find, range_with_len}
use Rattle.std.specs.List.Sorted.{IsPermutation}
use Rattle.std.proofs.lemmas.Bool.{eq-eqb, ne_eqb}
use Rattle.std.proofs.lemmas.List.Sorted.{All-permutation, IsPermutation-sym, length_permutation, sum_by-IsPermutation}
use Rattle.std.proofs.lemmas.Option.{slice_get-get_or}
use Rattle.std.proofs.lemmas.List.Elements.{recursion_from_All}
use Rattle.desk_values.specs.declared.capture.Captured.{Captured}
use Rattle.replay_history.specs.Gap.{IsStamped}
use Rattle.captured_calls.specs.Stamps.{HasEach, by_stamp, count_at, has_stamp, stamps_for}
use Rattle.captured_calls.proofs.Counts.{count_no, count_yes}
use Rattle.captured_calls.proofs.Members.{found_holds, some_is}
use Rattle.captured_calls.proofs.Stamping.{by_stamp_get, by_stamp_len, stamp_is}

-- the calls have the stamps from this one on
abbrev pub StampedFrom : ℕ → List Captured → Type 0
StampedFrom a calls = (j : ℕ) (call : Captured) → slice_get calls j ≡ Some call → call.stamp ≡ a + j

pub later_on : (a : ℕ) (c : Captured) (cs : List Captured) → StampedFrom a (c ∷ cs) → StampedFrom (a + 1) cs
later_on a c cs stamped j call there = omega (arith, stamped (suc j) call there)

none_lower : (a : ℕ) (calls : List Captured) → StampedFrom a calls → (k : ℕ) → k < a → count_at calls k ≡ 0
none_lower a [] stamped k lt = refl
none_lower a (c ∷ cs) stamped k lt =
    let first : c.stamp ≡ a + 0 = stamped 0 c refl in
    count_no (has_stamp k) c cs (ne_eqb c.stamp k (λ same. absurd (omega (arith, first, same, lt)))) ∙ none_lower (a + 1) cs (later_on a c cs stamped) k (omega (arith, lt))

one_at : (a : ℕ) (calls : List Captured) → StampedFrom a calls → (j : ℕ) → j < length calls → count_at calls (a + j) ≡ 1
one_at a [] stamped j lt = absurd (omega (arith, lt))
one_at a (c ∷ cs) stamped Prim.Native.Nat.zero lt =
    let first : c.stamp ≡ a + 0 = stamped 0 c refl in
    let none : count_at cs (a + 0) ≡ 0 = none_lower (a + 1) cs (later_on a c cs stamped) (a + 0) (omega arith) in
    count_yes (has_stamp (a + 0)) c cs (eq-eqb c.stamp (a + 0) first) ∙ ap (λ (n : ℕ). 1 + n) none
one_at a (c ∷ cs) stamped (suc j) lt =
    let first : c.stamp ≡ a + 0 = stamped 0 c refl in
    count_no (has_stamp (a + suc j)) c cs (ne_eqb c.stamp (a + suc j) (λ same. absurd (omega (arith, first, same))))
    ∙ subst (λ (k : ℕ). count_at cs k ≡ 1) (omega arith) (one_at (a + 1) cs (later_on a c cs stamped) j (omega (arith, lt)))

none_found : (p : ℕ → Bool) (a n : ℕ) → ((j : ℕ) → j < n → p (a + j) ≡ false) → find p (range_with_len a n) ≡ None
none_found p a Prim.Native.Nat.zero each = refl
none_found p a (suc n) each =
    let head : p a ≡ false = subst (λ (k : ℕ). p k ≡ false) (omega arith) (each 0 (omega arith)) in
    ap (λ (b : Bool). cond b (Some a) (find p (range_with_len (a + 1) n))) head
    ∙ none_found p (a + 1) n (λ j lt. subst (λ (k : ℕ). p k ≡ false) (omega arith) (each (suc j) (omega (arith, lt))))

-- lists of one length with the same at each place
same_lists : {X : Type 0} (xs ys : List X) → length xs ≡ length ys → ((k : ℕ) (x : X) → slice_get xs k ≡ Some x → slice_get ys k ≡ Some x) → xs ≡ ys
same_lists [] [] len each = refl
same_lists [] (y ∷ ys) len each = absurd (omega (arith, len))
same_lists (x ∷ xs) [] len each = absurd (omega (arith, len))
same_lists {X = X} (x ∷ xs) (y ∷ ys) len each =
    let head : y ≡ x = some_is (each 0 x refl) in
    let tail : xs ≡ ys = same_lists xs ys (omega (arith, len)) (λ k z there. each (suc k) z there) in
    ap (λ (z : X). z ∷ xs) (sym head) ∙ ap (λ (l : List X). y ∷ l) tail

module _ (calls ordered : List Captured) (same : IsPermutation calls ordered) (is_stamped : IsStamped ordered) where
  stamped : StampedFrom 0 ordered
  stamped j call there = omega (arith, is_stamped j call there)

  pub len : length ordered ≡ length calls
  len = length_permutation calls ordered same

  one : (k : ℕ) → k < length calls → count_at calls k ≡ 1
  one k lt = sym (sum_by-IsPermutation (λ (c : Captured). cond (has_stamp k c) 1 0) calls ordered same) ∙ subst (λ (j : ℕ). count_at ordered j ≡ 1) (omega arith) (one_at 0 ordered stamped k (omega (arith, lt, len)))

  pub has : HasEach calls
  has = record { each = one }

  pub none_bad : find (λ k. not (nat_eq (count_at calls k) 1)) (stamps_for calls) ≡ None
  none_bad = none_found (λ k. not (nat_eq (count_at calls k) 1)) 0 (length calls) (λ j lt. ap not (eq-eqb (count_at calls (0 + j)) 1 (one (0 + j) (omega (arith, lt)))))

  -- each stands in the order at its stamp
  abbrev StandsAtStamp : Captured → Type 0
  StandsAtStamp call = slice_get ordered call.stamp ≡ Some call

  stand : All StandsAtStamp ordered
  stand k d lt =
      let there = slice_get-get_or ordered k d lt in
      let call = get_or ordered k d in
      let is : call.stamp ≡ k = omega (arith, stamped k call there) in
      subst (λ (j : ℕ). slice_get ordered j ≡ Some call) (sym is) there

  stand_too : AllByRecursion StandsAtStamp calls
  stand_too = recursion_from_All StandsAtStamp calls (All-permutation StandsAtStamp ordered calls (IsPermutation-sym calls ordered same) stand)

  pub order_is_by_stamp : ordered ≡ by_stamp calls
  order_is_by_stamp = sym (same_lists (by_stamp calls) ordered (by_stamp_len calls has ∙ sym len) at)
    where
      at : (k : ℕ) (call : Captured) → slice_get (by_stamp calls) k ≡ Some call → slice_get ordered k ≡ Some call
      at k call there =
          let found = by_stamp_get calls has k call there in
          subst (λ (j : ℕ). slice_get ordered j ≡ Some call) (stamp_is calls has k call there) (found_holds StandsAtStamp (has_stamp k) calls call stand_too found)
