-- When the last of a session's calls ended, and the call at the place before.
use Rattle.std.proofs.Common.{◌≡◌, ◌≤◌, ℕ, zero, suc, Bool, true, false, ◌⊎◌, inl, inr, ⊎_elim, List, [], ◌∷◌, ◌++◌, take, refl, sym, ap, subst, ◌∙◌, arith}
use Rattle.std.specs.Prelude.{Some, count_by, nat_eq, slice_get, if◌then◌else◌}
use Rattle.std.specs.List.{AllByRecursion, fold}
use Rattle.std.proofs.lemmas.Bool.{eq-eqb, eqb-true}
use Rattle.std.proofs.lemmas.List.Sums.{fold-append}
use Rattle.desk_values.specs.declared.capture.Captured.{Captured}
use Rattle.replay_history.specs.Capture.{session_calls_before}
use Rattle.replay_history.specs.Gap.{IsCallAt, IsJustBefore}
use Rattle.captured_calls.specs.Moments.{ended_in}
use Rattle.captured_calls.specs.Sessions.{is_of}
use Rattle.captured_calls.specs.Stamped.{ArePlaced}
use Rattle.captured_calls.proofs.Counts.{count_cons, count_no, count_yes, same_place}
use Rattle.captured_calls.proofs.Members.{some_is}

pub ended_more : (session : ℕ) (before : List Captured) (call : Captured) → ended_in session (before ++ call ∷ []) ≡ (if nat_eq call.session session then call.ended else ended_in session before)
ended_more session before call = fold-append _ 0 before (call ∷ [])

abbrev last_moment : ℕ → ℕ → List Captured → ℕ
last_moment session moment calls = fold (λ moment call. if nat_eq call.session session then call.ended else moment) moment calls

-- the last of a session's calls before k ended then
record IsLast (session : ℕ) (calls : List Captured) (k moment : ℕ) : Type 0 where
  place : ℕ
  call : Captured
  there : slice_get calls place ≡ Some call
  own : call.session ≡ session
  more : count_by (is_of session) (take k calls) ≡ suc (count_by (is_of session) (take place calls))
  is : moment ≡ call.ended

-- none of a session's calls stands before k, and the moment is the first
abbrev IsFresh : ℕ → ℕ → List Captured → ℕ → Type 0
IsFresh session moment calls k = (last_moment session moment (take k calls) ≡ moment) × (count_by (is_of session) (take k calls) ≡ 0)

last_found : (session moment : ℕ) (calls : List Captured) (k : ℕ) → IsFresh session moment calls k ⊎ IsLast session calls k (last_moment session moment (take k calls))
last_found session moment calls Prim.Native.Nat.zero = inl (refl, refl)
last_found session moment [] (suc k) = inl (refl, refl)
last_found session moment (x ∷ xs) (suc k) = ⊎_elim (λ fresh. at (is_of session x) refl fresh) (λ later. inr (behind later)) (last_found session moved xs k)
  where
    moved : ℕ
    moved = if nat_eq x.session session then x.ended else moment

    behind : IsLast session xs k (last_moment session moved (take k xs)) → IsLast session (x ∷ xs) (suc k) (last_moment session moment (take (suc k) (x ∷ xs)))
    behind r = record {
      place = suc r.place;
      call = r.call;
      there = r.there;
      own = r.own;
      more = omega (arith, count_cons (is_of session) x (take k xs), count_cons (is_of session) x (take r.place xs), r.more);
      is = r.is;
    }

    at : (b : Bool) → is_of session x ≡ b → IsFresh session moved xs k → IsFresh session moment (x ∷ xs) (suc k) ⊎ IsLast session (x ∷ xs) (suc k) (last_moment session moment (take (suc k) (x ∷ xs)))
    at true own fresh = inr (record {
      place = 0;
      call = x;
      there = refl;
      own = eqb-true x.session session own;
      more = omega (arith, count_yes (is_of session) x (take k xs) own, fresh.1);
      is = fresh.0 ∙ ap (λ (b : Bool). if b then x.ended else moment) own;
    })
    at false other fresh = inl (fresh.0 ∙ ap (λ (b : Bool). if b then x.ended else moment) other, count_no (is_of session) x (take k xs) other ∙ fresh.1)

pub ended_most : (session bound : ℕ) (calls : List Captured) → AllByRecursion (λ (c : Captured). c.ended ≤ bound) calls → ended_in session calls ≤ bound
ended_most session bound calls all = most 0 calls (omega arith) all
  where
    most : (moment : ℕ) (calls : List Captured) → moment ≤ bound → AllByRecursion (λ (c : Captured). c.ended ≤ bound) calls → last_moment session moment calls ≤ bound
    most moment [] le all = le
    most moment (c ∷ calls) le all = most (if nat_eq c.session session then c.ended else moment) calls (elim (nat_eq c.session session) as (λ b. (if b then c.ended else moment) ≤ bound) [
      | true ↦ all.0
      | false ↦ le
    ]) all.1

-- a call at the place that follows on those of its session in front of k
module _ (calls : List Captured) (k : ℕ) (call : Captured) (placed : ArePlaced calls) (place : call.place ≡ session_calls_before calls call.session k) where
  abbrev in_front : ℕ → ℕ
  in_front n = count_by (is_of call.session) (take n calls)

  -- the session's calls in front of k are one more than those in front of the call just before
  one_more : (j : ℕ) (before : Captured) → IsCallAt calls j before → IsJustBefore before call → in_front k ≡ suc (in_front j)
  one_more j before there just = sym place ∙ sym just.place ∙ ap suc (placed j before there ∙ ap (λ (s : ℕ). count_by (is_of s) (take j calls)) just.session)

  -- that call is the last one
  is_last : (r : IsLast call.session calls k (ended_in call.session (take k calls))) (j : ℕ) (before : Captured) → IsCallAt calls j before → IsJustBefore before call → before.ended ≡ ended_in call.session (take k calls)
  is_last r j before there just =
      let more = one_more j before there just in
      let counts : in_front j ≡ in_front r.place = omega (arith, more, r.more) in
      let same = same_place (is_of call.session) calls j r.place before r.call there r.there (eq-eqb before.session call.session just.session) (eq-eqb r.call.session call.session r.own) counts in
      let one : before ≡ r.call = some_is (sym there ∙ ap (slice_get calls) same ∙ r.there) in
      ap (λ (c : Captured). c.ended) one ∙ sym r.is

  pub follows : ended_in call.session (take k calls) ≤ call.began → (j : ℕ) (before : Captured) → IsCallAt calls j before → IsJustBefore before call → before.ended ≤ call.began
  follows waits j before there just = ⊎_elim (λ fresh. absurd (omega (arith, fresh.1, one_more j before there just))) (λ r. omega (arith, is_last r j before there just, waits)) (last_found call.session 0 calls k)

  pub waits : ((j : ℕ) (before : Captured) → IsCallAt calls j before → IsJustBefore before call → before.ended ≤ call.began) → ended_in call.session (take k calls) ≤ call.began
  waits each = ⊎_elim (λ fresh. omega (arith, fresh.0)) behind (last_found call.session 0 calls k)
    where
      behind : IsLast call.session calls k (ended_in call.session (take k calls)) → ended_in call.session (take k calls) ≤ call.began
      behind r =
          let own : r.call.place ≡ in_front r.place = placed r.place r.call r.there ∙ ap (λ (s : ℕ). count_by (is_of s) (take r.place calls)) r.own in
          let next : suc r.call.place ≡ call.place = ap suc own ∙ sym r.more ∙ sym place in
          subst (λ (m : ℕ). m ≤ call.began) (sym r.is) (each r.place r.call r.there (record { session = r.own; place = next }))
