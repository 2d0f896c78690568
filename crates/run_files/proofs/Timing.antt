-- How often the calls of a capture have an event of a kind, as it is counted.
use Rattle.std.proofs.Common.{◌≡◌, ◌≢◌, ℕ, suc, ◌+◌, ◌-◌, ◌<◌, ◌≤◌, Bool, true, false, cond, List, [], ◌∷◌, ◌++◌, length, get_or, set, replicate, refl, sym, ap, subst, ◌∙◌, arith, length-set, zero-add}
use Rattle.std.specs.Prelude.{Option, None, Some, nat_eq, not, slice_index_or, count_by}
use Rattle.std.specs.List.{find, range_with_len}
use Rattle.std.proofs.lemmas.Bool.{eq-eqb, eqb-true, eqb-false, ne_eqb}
use Rattle.std.proofs.lemmas.List.{get_or-set_same, get_or-set_other, get_or-replicate, get_or_default, length-replicate}
use Rattle.std.proofs.lemmas.List.Sums.{sum_by-append}
use Rattle.desk_values.specs.declared.capture.Event.{Event}
use Rattle.run_files.specs.declared.misfit.Kind.{Kind}
use Rattle.run_files.specs.declared.times.Times.{Times}
use Rattle.run_files.specs.declared.times.Times.TheVariants.{Never, Once, Often}
use Rattle.run_files.specs.Fitting.{is_stamp, not_once, stamp_in, times_in}
use Rattle.run_files.specs.Inside.Times.{AreCounts, AreTimesOf, IsTimes, is_once, one_more_at}

-- ---- one event more

count_last : {X : Type 0} (p : X → Bool) (xs : List X) (x : X) → count_by p (xs ++ x ∷ []) ≡ count_by p xs + cond (p x) 1 0
count_last p xs x = sum_by-append (λ y. cond (p y) 1 0) xs (x ∷ []) ∙ ap (λ (n : ℕ). count_by p xs + n) (zero-add (cond (p x) 1 0))

-- what an event of this kind and stamp adds, or one that is of none
abbrev with_found : Option ℕ → (ℕ → ℕ) → ℕ → ℕ
with_found None counts k = counts k
with_found (Some stamp) counts k = one_more_at stamp counts k

found_adds : (found : Option ℕ) (n k : ℕ) → n + cond (is_stamp k found) 1 0 ≡ with_found found (λ (j : ℕ). n) k
found_adds None n k = omega arith
found_adds (Some stamp) n k = by (nat_eq stamp k)
  where
    by : (same : Bool) → n + cond same 1 0 ≡ cond same (n + 1) n
    by true = refl
    by false = omega arith

times_more : (kind : Kind) (history : List Event) (event : Event) (k : ℕ) → times_in kind (history ++ event ∷ []) k ≡ with_found (stamp_in kind event) (times_in kind history) k
times_more kind history event k =
    count_last (λ (e : Event). is_stamp k (stamp_in kind e)) history event ∙ found_adds (stamp_in kind event) (times_in kind history k) k ∙ at (stamp_in kind event)
  where
    at : (found : Option ℕ) → with_found found (λ (j : ℕ). times_in kind history k) k ≡ with_found found (times_in kind history) k
    at None = refl
    at (Some stamp) = refl

counts_same : (f g : ℕ → ℕ) (n : ℕ) (times : List Times) → ((k : ℕ) → f k ≡ g k) → AreCounts f n times → AreCounts g n times
counts_same f g n times same are = (are.0, λ k lt. subst (λ (m : ℕ). IsTimes m (slice_index_or times k Never)) (same k) (are.1 k lt))

-- an event of a stamp
pub times_taken : (kind : Kind) (history : List Event) (event : Event) (stamp n : ℕ) (times : List Times) → stamp_in kind event ≡ Some stamp → AreCounts (one_more_at stamp (times_in kind history)) n times → AreTimesOf kind (history ++ event ∷ []) n times
times_taken kind history event stamp n times is are =
    counts_same _ _ n times (λ k. sym (times_more kind history event k ∙ ap (λ (found : Option ℕ). with_found found (times_in kind history) k) is)) are

-- one of none
pub times_left : (kind : Kind) (history : List Event) (event : Event) (n : ℕ) (times : List Times) → stamp_in kind event ≡ None → AreTimesOf kind history n times → AreTimesOf kind (history ++ event ∷ []) n times
times_left kind history event n times is are =
    counts_same _ _ n times (λ k. sym (times_more kind history event k ∙ ap (λ (found : Option ℕ). with_found found (times_in kind history) k) is)) are

-- ---- one more at a stamp

module _ (counts : ℕ → ℕ) (n stamp : ℕ) (times : List Times) (are : AreCounts counts n times) where
  other_same : (k : ℕ) → stamp ≢ k → one_more_at stamp counts k ≡ counts k
  other_same k apart = ap (λ (b : Bool). cond b (counts k + 1) (counts k)) (ne_eqb stamp k apart)

  own_more : one_more_at stamp counts stamp ≡ counts stamp + 1
  own_more = ap (λ (b : Bool). cond b (counts stamp + 1) (counts stamp)) (eq-eqb stamp stamp refl)

  stays : (k : ℕ) → k < n → stamp ≢ k → IsTimes (one_more_at stamp counts k) (get_or times k Never)
  stays k lt apart = subst (λ (m : ℕ). IsTimes m (get_or times k Never)) (sym (other_same k apart)) (are.1 k lt)

  pub beyond : length times ≤ stamp → AreCounts (one_more_at stamp counts) n times
  beyond out = (are.0, λ k lt. stays k lt (λ same. absurd (omega (arith, same, lt, out, are.0))))

  pub one_more : (new : Times) → stamp < length times → IsTimes (counts stamp + 1) new → AreCounts (one_more_at stamp counts) n (set times stamp new)
  one_more new within is = (length-set times stamp new ∙ are.0, λ k lt. each k lt (nat_eq stamp k) refl)
    where
      each : (k : ℕ) → k < n → (b : Bool) → nat_eq stamp k ≡ b → IsTimes (one_more_at stamp counts k) (get_or (set times stamp new) k Never)
      each k lt true same = subst (λ (j : ℕ). IsTimes (one_more_at stamp counts j) (get_or (set times stamp new) j Never)) (eqb-true stamp k same)
          (subst (IsTimes (one_more_at stamp counts stamp)) (sym (get_or-set_same times stamp new Never within)) (subst (λ (m : ℕ). IsTimes m new) (sym own_more) is))
      each k lt false other =
          let apart : stamp ≢ k = eqb-false stamp k other in
          subst (IsTimes (one_more_at stamp counts k)) (sym (get_or-set_other times stamp k new Never (λ same. apart (sym same)))) (stays k lt apart)

-- what was read is what stands there
pub times_read : (counts : ℕ → ℕ) (n : ℕ) (times : List Times) (k : ℕ) (found : Times) → AreCounts counts n times → k < length times → found ≡ get_or times k found → IsTimes (counts k) found
times_read counts n times k found are lt read = subst (IsTimes (counts k)) (get_or_default times k Never found lt ∙ sym read) (are.1 k (omega (arith, lt, are.0)))

-- before the first event
pub none_counted : (kind : Kind) (n : ℕ) → AreTimesOf kind [] n (replicate n Never)
none_counted kind n = (length-replicate n Never, λ k lt. subst (IsTimes 0) (sym (get_or-replicate n k Never Never lt)) refl)

-- ---- the first that has not just one

range_front : (k n : ℕ) → k < n → range_with_len k (n - k) ≡ k ∷ range_with_len (k + 1) (n - (k + 1))
range_front k n lt = ap (range_with_len k) (less lt)
  where
    less : k < n → n - k ≡ suc (n - (k + 1))
    less lt = omega arith

pub found_on : (test : ℕ → Bool) (k n : ℕ) (found : Option ℕ) → k < n → test k ≡ false → find test (range_with_len k (n - k)) ≡ found → find test (range_with_len (k + 1) (n - (k + 1))) ≡ found
found_on test k n found lt fails is = sym (ap (find test) (range_front k n lt) ∙ rw fails refl) ∙ is

pub found_here : (test : ℕ → Bool) (k n : ℕ) (found : Option ℕ) → k < n → test k ≡ true → find test (range_with_len k (n - k)) ≡ found → found ≡ Some k
found_here test k n found lt holds is = sym is ∙ ap (find test) (range_front k n lt) ∙ rw holds refl

find_same : (p q : ℕ → Bool) (a n : ℕ) → ((k : ℕ) → a ≤ k → k < a + n → p k ≡ q k) → find p (range_with_len a n) ≡ find q (range_with_len a n)
find_same p q a Prim.Native.Nat.zero same = refl
find_same p q a (suc n) same = rw (same a (omega arith) (omega arith), find_same p q (a + 1) n (λ k from below. same k (omega (arith, from)) (omega (arith, below)))) refl

once_is : (n : ℕ) (times : Times) → IsTimes n times → is_once times ≡ nat_eq n 1
once_is n Never is = sym (ap (λ (m : ℕ). nat_eq m 1) is)
once_is n Once is = sym (ap (λ (m : ℕ). nat_eq m 1) is)
once_is n Often is = sym (ne_eqb n 1 (λ one. omega (arith, one, is)))

pub first_is : (kind : Kind) (history : List Event) (n : ℕ) (times : List Times) → AreTimesOf kind history n times → find (λ k. not (is_once (slice_index_or times k Never))) (range_with_len 0 (length times)) ≡ not_once kind history n
first_is kind history n times are =
    ap (λ (m : ℕ). find (λ k. not (is_once (slice_index_or times k Never))) (range_with_len 0 m)) are.0
    ∙ find_same _ _ 0 n (λ k from below. ap not (once_is (times_in kind history k) _ (are.1 k (omega (arith, below)))))
