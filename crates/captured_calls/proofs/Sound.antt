-- What is known of numbered calls is sound.
use Rattle.std.proofs.Common.{◌≡◌, ℕ, zero, suc, ◌+◌, ◌<◌, Bool, true, false, List, [], ◌∷◌, length, get_or, take, refl, sym, ap, subst, ◌∙◌, arith, rules, cond}
use Rattle.std.specs.Prelude.{Some, count_by, if◌then◌else◌, nat_lt, slice_get}
use Rattle.desk_values.specs.declared.capture.Captured.{Captured}
use Rattle.object_depends.specs.declared.fact.Fact.{Fact}
use Rattle.object_depends.specs.Facts.{AreSound, commits_below, fact_at, is_commit, no_fact}
use Rattle.replay_history.specs.Capture.{commits, commits_before}
use Rattle.captured_calls.specs.Numbered.{AreKnown, AreNumbered}
use Rattle.captured_calls.proofs.Counts.{count_cons}
use Rattle.captured_calls.proofs.Members.{get_there}

-- a test of the one list and a test of the other say the same at each place
same_counts : {X Y : Type 0} (p : X → Bool) (q : Y → Bool) (d : Y) (xs : List X) (ys : List Y) → length ys ≡ length xs → ((j : ℕ) (x : X) → slice_get xs j ≡ Some x → q (get_or ys j d) ≡ p x) → (k : ℕ) → count_by q (take k ys) ≡ count_by p (take k xs)
same_counts p q d xs ys len same zero = refl
same_counts p q d [] [] len same (suc k) = refl
same_counts p q d [] (y ∷ ys) len same (suc k) = absurd (omega (arith, len))
same_counts p q d (x ∷ xs) [] len same (suc k) = absurd (omega (arith, len))
same_counts p q d (x ∷ xs) (y ∷ ys) len same (suc k) =
    let first = ap (λ (b : Bool). cond {A = ℕ} b 1 0) (same 0 x refl) in
    let rest = same_counts p q d xs ys (omega (arith, len)) (λ j. same (suc j)) k in
    omega (arith, count_cons q y (take k ys), count_cons p x (take k xs), first, rest)

positive : (n before : ℕ) (b : Bool) → n ≡ (if b then before + 1 else 0) → (nat_lt 0 n ≡ b) × (0 < n → n ≡ before + 1)
positive n before true is = (ap (nat_lt 0) is ∙ over before, λ some. is)
  where
    over : (m : ℕ) → nat_lt 0 (m + 1) ≡ true
    over m = search (arith, rules)
positive n before false is = (ap (nat_lt 0) is, λ some. absurd (omega (arith, is, some)))

pub known_sound : (calls : List Captured) (facts : List Fact) → AreNumbered calls → AreKnown calls facts → AreSound facts
known_sound calls facts numbered known k lt =
    let there = get_there calls k (omega (arith, lt, known.count)) in
    let call = there.0 in
    let own = known.each k call there.1 in
    let is = numbered k call there.1 in
    let below : commits_below facts k ≡ commits_before calls k = same_counts (λ (c : Captured). commits c.reply.outcome) is_commit no_fact calls facts known.count tells k in
    record {
      seen = own.0 ∙ is.0 ∙ sym below;
      number = λ some. own.1 ∙ (positive call.number (commits_before calls k) (commits call.reply.outcome) is.1).1 (subst (λ (n : ℕ). 0 < n) own.1 some) ∙ ap (λ (n : ℕ). n + 1) (sym below);
    }
  where
    tells : (j : ℕ) (call : Captured) → slice_get calls j ≡ Some call → is_commit (fact_at facts j) ≡ commits call.reply.outcome
    tells j call at = ap (nat_lt 0) (known.each j call at).1 ∙ (positive call.number (commits_before calls j) (commits call.reply.outcome) (numbered j call at).1).0
