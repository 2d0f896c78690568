-- Where each number is the stamp of one call: the calls by stamp.
use Rattle.std.proofs.Common.{◌≡◌, ◌≢◌, ℕ, zero, suc, ◌+◌, ◌<◌, Bool, true, false, List, length, refl, sym, ap, subst, ◌∙◌, arith}
use Rattle.std.specs.Prelude.{Option, None, Some, nat_eq, not, slice_get}
use Rattle.std.specs.List.{filter_map, find, range_with_len}
use Rattle.std.proofs.lemmas.Bool.{eqb-true, not-false}
use Rattle.std.proofs.lemmas.Option.{none-some}
use Rattle.desk_values.proofs.Words.{find_passes}
use Rattle.desk_values.specs.declared.capture.Captured.{Captured}
use Rattle.replay_history.specs.Gap.{IsStamped}
use Rattle.captured_calls.specs.Stamps.{HasEach, by_stamp, call_at, count_at, has_stamp, stamps_for}
use Rattle.captured_calls.proofs.Counts.{not_found}

none_before : (p : ℕ → Bool) (a n : ℕ) → find p (range_with_len a n) ≡ None → (j : ℕ) → j < n → p (a + j) ≡ false
none_before p a zero none j lt = absurd (omega (arith, lt))
none_before p a (suc n) none j lt = at (p a) refl (none_before p (a + 1) n) j lt
  where
    at : (b : Bool) → p a ≡ b → (find p (range_with_len (a + 1) n) ≡ None → (j : ℕ) → j < n → p (a + 1 + j) ≡ false) → (j : ℕ) → j < suc n → p (a + j) ≡ false
    at true hits later j lt = absurd (none-some a (sym (sym (rw hits refl) ∙ none)))
    at false misses later zero lt = subst (λ (k : ℕ). p k ≡ false) (omega arith) misses
    at false misses later (suc j) lt = subst (λ (k : ℕ). p k ≡ false) (omega arith) (later (sym (rw misses refl) ∙ none) j (omega (arith, lt)))

pub has_each : (calls : List Captured) → find (λ k. not (nat_eq (count_at calls k) 1)) (stamps_for calls) ≡ None → HasEach calls
has_each calls none = record { each = λ k lt. one k (subst (λ (j : ℕ). not (nat_eq (count_at calls j) 1) ≡ false) (omega arith) (none_before (λ k. not (nat_eq (count_at calls k) 1)) 0 (length calls) none k lt)) }
  where
    one : (k : ℕ) → not (nat_eq (count_at calls k) 1) ≡ false → count_at calls k ≡ 1
    one k e = eqb-true (count_at calls k) 1 (not-false _ e)

-- the k-th picked is what stands for the k-th number, where none is missing
module _ {X : Type 0} (f : ℕ → Option X) where
  abbrev HasAll : ℕ → ℕ → Type 0
  HasAll a n = (j : ℕ) → j < n → f (a + j) ≢ None

  fewer : (a n : ℕ) → HasAll a (suc n) → HasAll (a + 1) n
  fewer a n some j lt gone = some (suc j) (omega (arith, lt)) (subst (λ (i : ℕ). f i ≡ None) (omega arith) gone)

  first_gone : (a n : ℕ) → HasAll a (suc n) → f a ≡ None → ⊥
  first_gone a n some is = some 0 (omega arith) (subst (λ (i : ℕ). f i ≡ None) (omega arith) is)

  picked_get : (a n : ℕ) → HasAll a n → (k : ℕ) (x : X) → slice_get (filter_map f (range_with_len a n)) k ≡ Some x → f (a + k) ≡ Some x
  picked_get a zero some k x there = cc
  picked_get a (suc n) some k x there = at (f a) refl (picked_get (a + 1) n (fewer a n some)) k there
    where
      at : (o : Option X) → f a ≡ o → ((k : ℕ) (x : X) → slice_get (filter_map f (range_with_len (a + 1) n)) k ≡ Some x → f (a + 1 + k) ≡ Some x) → (k : ℕ) → slice_get (filter_map f (range_with_len a (suc n))) k ≡ Some x → f (a + k) ≡ Some x
      at None is later k there = absurd (first_gone a n some is)
      at (Some y) is later zero there = subst (λ (i : ℕ). f i ≡ Some x) (omega arith) (is ∙ sym (rw is refl) ∙ there)
      at (Some y) is later (suc k) there = subst (λ (i : ℕ). f i ≡ Some x) (omega arith) (later k x (sym (rw is refl) ∙ there))

  picked_len : (a n : ℕ) → HasAll a n → length (filter_map f (range_with_len a n)) ≡ n
  picked_len a zero some = refl
  picked_len a (suc n) some = at (f a) refl (picked_len (a + 1) n (fewer a n some))
    where
      at : (o : Option X) → f a ≡ o → length (filter_map f (range_with_len (a + 1) n)) ≡ n → length (filter_map f (range_with_len a (suc n))) ≡ suc n
      at None is later = absurd (first_gone a n some is)
      at (Some y) is later = rw is (ap suc later)

module _ (calls : List Captured) (has : HasEach calls) where
  some_at : (j : ℕ) → j < length calls → call_at calls (0 + j) ≢ None
  some_at j lt gone = absurd (zero_one (sym (not_found (has_stamp j) calls (subst (λ (i : ℕ). call_at calls i ≡ None) (omega arith) gone)) ∙ has.each j lt))
    where
      zero_one : ◌≡◌ {A = ℕ} 0 1 → ⊥
      zero_one e = cc

  pub by_stamp_len : length (by_stamp calls) ≡ length calls
  unfolding by_stamp
  by_stamp_len = picked_len (call_at calls) 0 (length calls) some_at

  pub by_stamp_get : (k : ℕ) (call : Captured) → slice_get (by_stamp calls) k ≡ Some call → call_at calls k ≡ Some call
  unfolding by_stamp
  by_stamp_get k call there = subst (λ (i : ℕ). call_at calls i ≡ Some call) (omega arith) (picked_get (call_at calls) 0 (length calls) some_at k call there)

  pub stamp_is : IsStamped (by_stamp calls)
  stamp_is k call there = eqb-true call.stamp k (find_passes (has_stamp k) calls call (by_stamp_get k call there))
