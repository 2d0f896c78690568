-- The seats of calls by their stamps.
use Rattle.std.proofs.Common.{◌≡◌, ◌≢◌, ℕ, suc, ◌+◌, ◌-◌, ◌<◌, ◌≤◌, Bool, true, false, cond, List, [], ◌∷◌, ◌++◌, length, get_or, set, replicate, refl, sym, ap, subst, ◌∙◌, arith, length-set}
use Rattle.std.specs.Prelude.{Option, None, Some, nat_eq, not, slice_get, slice_index_or, option_map, Ok, Err}
use Rattle.std.specs.List.{cons_option, filter, find, filter_map, range_with_len}
use Rattle.std.proofs.lemmas.Bool.{eq-eqb, eqb-true, ne_eqb, true≢false}
use Rattle.std.proofs.lemmas.List.{append-nil, get_or-set_same, get_or-set_other, get_or-replicate, get_or_default, length-replicate}
use Rattle.std.proofs.lemmas.List.Elements.{filter-append}
use Rattle.std.proofs.lemmas.List.Sums.{length-filter}
use Rattle.desk_values.specs.declared.capture.Captured.{Captured}
use Rattle.captured_calls.specs.Stamps.{HasEach, has_stamp, count_at, call_at, by_stamp, stamps_for}
use Rattle.captured_calls.proofs.Stamping.{has_each}
use Rattle.prepare_plan.specs.declared.seats.Seat.{Seat}
use Rattle.prepare_plan.specs.declared.seats.Seat.TheVariants.{Empty, Taken, Crowded}
use Rattle.prepare_plan.specs.Inside.{calls_at, IsSeat, AreSeatsOf, is_taken, taken_call, ordered, ordered_or}
use Rattle.captured_calls.specs.declared.refusal.Refusal.TheVariants.{Stamp}

-- ---- one more call

module _ (calls : List Captured) (call : Captured) where
  own_more : calls_at (calls ++ call ∷ []) call.stamp ≡ calls_at calls call.stamp ++ call ∷ []
  own_more = filter-append (has_stamp call.stamp) calls (call ∷ []) ∙ ap (λ (b : Bool). calls_at calls call.stamp ++ cond b (call ∷ []) []) (eq-eqb call.stamp call.stamp refl)

  other_more : (k : ℕ) → call.stamp ≢ k → calls_at (calls ++ call ∷ []) k ≡ calls_at calls k
  other_more k apart = filter-append (has_stamp k) calls (call ∷ []) ∙ ap (λ (b : Bool). calls_at calls k ++ cond b (call ∷ []) []) (ne_eqb call.stamp k apart) ∙ append-nil (calls_at calls k)

  module _ (n : ℕ) (seats : List Seat) (are : AreSeatsOf calls n seats) where
    stays : (k : ℕ) → k < n → call.stamp ≢ k → IsSeat (calls_at (calls ++ call ∷ []) k) (get_or seats k Empty)
    stays k lt apart = subst (λ (mine : List Captured). IsSeat mine (get_or seats k Empty)) (sym (other_more k apart)) (are.1 k lt)

    pub seat_left : length seats ≤ call.stamp → AreSeatsOf (calls ++ call ∷ []) n seats
    seat_left out = (are.0, λ k lt. stays k lt (λ same. absurd (omega (arith, same, lt, out, are.0))))

    pub seat_taken : (seat : Seat) → call.stamp < length seats → IsSeat (calls_at calls call.stamp ++ call ∷ []) seat → AreSeatsOf (calls ++ call ∷ []) n (set seats call.stamp seat)
    seat_taken seat within is = (length-set seats call.stamp seat ∙ are.0, λ k lt. each k lt (nat_eq call.stamp k) refl)
      where
        each : (k : ℕ) → k < n → (b : Bool) → nat_eq call.stamp k ≡ b → IsSeat (calls_at (calls ++ call ∷ []) k) (get_or (set seats call.stamp seat) k Empty)
        each k lt true same = subst (λ (j : ℕ). IsSeat (calls_at (calls ++ call ∷ []) j) (get_or (set seats call.stamp seat) j Empty)) (eqb-true call.stamp k same)
            (subst (IsSeat (calls_at (calls ++ call ∷ []) call.stamp)) (sym (get_or-set_same seats call.stamp seat Empty within)) (subst (λ (mine : List Captured). IsSeat mine seat) (sym own_more) is))
        each k lt false other =
            let apart : call.stamp ≢ k = λ same. absurd (true≢false (sym (eq-eqb call.stamp k same) ∙ other)) in
            subst (IsSeat (calls_at (calls ++ call ∷ []) k)) (sym (get_or-set_other seats call.stamp k seat Empty (λ same. apart (sym same)))) (stays k lt apart)

-- the seat that was read is that of its stamp
pub seat_read : (calls : List Captured) (n : ℕ) (seats : List Seat) (k : ℕ) (seat : Seat) → AreSeatsOf calls n seats → k < length seats → seat ≡ get_or seats k seat → IsSeat (calls_at calls k) seat
seat_read calls n seats k seat are lt read = subst (IsSeat (calls_at calls k)) (get_or_default seats k Empty seat lt ∙ sym read) (are.1 k (omega (arith, lt, are.0)))

-- seats of no call
pub none_seated : (n : ℕ) → AreSeatsOf [] n (replicate n Empty)
none_seated n = (length-replicate n Empty, λ k lt. subst (IsSeat []) (sym (get_or-replicate n k Empty Empty lt)) refl)

-- ---- the first that is free

range_front : (k n : ℕ) → k < n → range_with_len k (n - k) ≡ k ∷ range_with_len (k + 1) (n - (k + 1))
range_front k n lt = ap (range_with_len k) (less lt)
  where
    less : k < n → n - k ≡ suc (n - (k + 1))
    less lt = omega arith

pub free_on : (test : ℕ → Bool) (k n : ℕ) (found : Option ℕ) → k < n → test k ≡ false → find test (range_with_len k (n - k)) ≡ found → find test (range_with_len (k + 1) (n - (k + 1))) ≡ found
free_on test k n found lt fails is = sym (ap (find test) (range_front k n lt) ∙ rw fails refl) ∙ is

find_same : (p q : ℕ → Bool) (a n : ℕ) → ((k : ℕ) → a ≤ k → k < a + n → p k ≡ q k) → find p (range_with_len a n) ≡ find q (range_with_len a n)
find_same p q a Prim.Native.Nat.zero same = refl
find_same p q a (suc n) same = rw (same a (omega arith) (omega arith), find_same p q (a + 1) n (λ k from below. same k (omega (arith, from)) (omega (arith, below)))) refl

taken_is : (mine : List Captured) (seat : Seat) → IsSeat mine seat → is_taken seat ≡ nat_eq (length mine) 1
taken_is mine Empty is = sym (ap (λ (cs : List Captured). nat_eq (length cs) 1) is)
taken_is mine (Taken call) is = sym (ap (λ (cs : List Captured). nat_eq (length cs) 1) is)
taken_is mine Crowded is = sym (ne_eqb (length mine) 1 (λ one. omega (arith, one, is)))

pub free_is : (calls : List Captured) (seats : List Seat) → AreSeatsOf calls (length seats) seats
    → find (λ k. not (is_taken (slice_index_or seats k Empty))) (range_with_len 0 (length seats)) ≡ find (λ k. not (nat_eq (count_at calls k) 1)) (range_with_len 0 (length seats))
free_is calls seats are = find_same _ _ 0 (length seats) (λ k from below. ap not (taken_is (calls_at calls k) _ (are.1 k (omega (arith, below))) ∙ ap (λ (n : ℕ). nat_eq n 1) (length-filter (has_stamp k) calls)))

-- ---- the calls of the seats

picked_same : {X Y : Type 0} (f : X → Option Y) (g : ℕ → Option Y) (d : X) (a : ℕ) (xs : List X) → ((k : ℕ) → k < length xs → f (get_or xs k d) ≡ g (a + k)) → filter_map f xs ≡ filter_map g (range_with_len a (length xs))
picked_same f g d a [] same = refl
picked_same {Y = Y} f g d a (x ∷ xs) same =
    let first : f x ≡ g a = same 0 (omega arith) ∙ ap g (omega arith) in
    let rest = picked_same f g d (a + 1) xs (λ k lt. same (suc k) (omega (arith, lt)) ∙ ap g (omega arith)) in
    ap (λ (o : Option Y). cons_option o (filter_map f xs)) first ∙ ap (λ (l : List Y). cons_option (g a) l) rest

found_first : (p : Captured → Bool) (xs : List Captured) → find p xs ≡ slice_get (filter p xs) 0
found_first p [] = refl
found_first p (x ∷ xs) = elim (p x) as (λ b. cond b (Some x) (find p xs) ≡ slice_get (cond b (x ∷ filter p xs) (filter p xs)) 0) [
  | true ↦ refl
  | false ↦ found_first p xs
]

call_is : (mine : List Captured) (seat : Seat) → IsSeat mine seat → length mine ≡ 1 → taken_call seat ≡ slice_get mine 0
call_is mine Empty is one = sym (ap (λ (cs : List Captured). slice_get cs 0) is)
call_is mine (Taken call) is one = sym (ap (λ (cs : List Captured). slice_get cs 0) is)
call_is mine Crowded is one = absurd (omega (arith, is, one))

listed_is : (calls : List Captured) (seats : List Seat) → AreSeatsOf calls (length seats) seats → length seats ≡ length calls → HasEach calls → filter_map taken_call seats ≡ filter_map (call_at calls) (range_with_len 0 (length seats))
listed_is calls seats are len has = picked_same taken_call (call_at calls) Empty 0 seats (λ k lt. call_is (calls_at calls k) _ (are.1 k lt) (length-filter (has_stamp k) calls ∙ has.each k (omega (arith, lt, len))) ∙ sym (found_first (has_stamp k) calls) ∙ ap (call_at calls) (omega arith))

module _ (looked : List Captured) (seats : List Seat) (are : AreSeatsOf looked (length looked) seats) (o : Option ℕ) (found : o ≡ find (λ k. not (is_taken (slice_index_or seats k Empty))) (range_with_len 0 (length seats))) where
  same_length : length seats ≡ length looked
  same_length = are.0

  own : AreSeatsOf looked (length seats) seats
  own = (refl, λ k lt. are.1 k (omega (arith, are.0, lt)))

  free : find (λ k. not (nat_eq (count_at looked k) 1)) (stamps_for looked) ≡ o
  free = sym (found ∙ free_is looked seats own ∙ ap (λ (n : ℕ). find (λ k. not (nat_eq (count_at looked k) 1)) (range_with_len 0 n)) same_length)

  pub order_fails : (stamp : ℕ) → o ≡ Some stamp → ordered looked ≡ Err (Stamp stamp)
  order_fails stamp is = ap (λ (f : Option ℕ). ordered_or (option_map Stamp f) looked) (free ∙ is)

  pub order_holds : (items : List Captured) → o ≡ None → items ≡ filter_map taken_call seats → ordered looked ≡ Ok items
  unfolding by_stamp
  order_holds items is listed =
      ap (λ (f : Option ℕ). ordered_or (option_map Stamp f) looked) (free ∙ is)
      ∙ ap (λ (l : List Captured). Ok l) (sym (listed ∙ listed_is looked seats own same_length (has_each looked (free ∙ is)) ∙ ap (λ (n : ℕ). filter_map (call_at looked) (range_with_len 0 n)) same_length))
