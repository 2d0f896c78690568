-- The lists of seats, lane by lane.
use Rattle.std.proofs.Common.{◌≡◌, ◌∙◌, ◌+◌, ◌%◌, ◌<◌, ◌++◌, ◌∷◌, ℕ, Bool, true, false, cond, List, [], length, map, refl, ap, sym, eq-eqb, append_assoc, arith}
use Rattle.std.specs.List.{filter, range_with_len}
use Rattle.std.specs.Prelude.{nat_lt, slice_index_or, Result, Ok, Err, IsOk, OnOk}
use Rattle.desk_values.specs.declared.capture.Captured.{Captured}
use Rattle.desk_values.specs.Limits.{session_limit}
use Rattle.replay_lanes.specs.Inside.Seats.{noted_sessions}
use Rattle.replay_lanes.specs.Sessions.{is_seated, lane_sessions, sessions, takes_part}
use Rattle.replay_lanes.proofs.Ranges.{left_out, passing, taken}

pub lane_begins : (calls : List Captured) (lanes lane : ℕ) (its : List ℕ) → its ≡ [] → its ++ passing (is_seated calls lanes lane) 0 session_limit ≡ lane_sessions calls lanes lane
unfolding lane_sessions
lane_begins calls lanes lane its none = ap (λ (xs : List ℕ). xs ++ passing (is_seated calls lanes lane) 0 session_limit) none

pub home_begins : (noted : List Bool) (home : List ℕ) → home ≡ [] → home ++ passing (λ session. slice_index_or noted session false) 0 session_limit ≡ noted_sessions noted
unfolding noted_sessions
home_begins noted home none = ap (λ (xs : List ℕ). xs ++ passing (λ session. slice_index_or noted session false) 0 session_limit) none

pub succeeds : {E : Type 0} {P : Type 0} (result : Result (Unit {0}) E) → IsOk result → OnOk result P → P
succeeds (Ok done) ok gives = gives
succeeds (Err error) ok gives = absurd (cc ok)

module _ (calls : List Captured) (lanes : ℕ) where
  -- the seats of the lanes from this one on
  abbrev pub others : ℕ → List (List ℕ)
  others lane = map (lane_sessions calls lanes) (passing (λ l. nat_lt 0 (length (lane_sessions calls lanes l))) lane lanes)

  pub one_lane : (seats next : List (List ℕ)) (its : List ℕ) (lane : ℕ) (all : List (List ℕ)) → lane < lanes → its ≡ lane_sessions calls lanes lane → nat_lt 0 (length its) ≡ true → next ≡ seats ++ its ∷ [] → seats ++ others lane ≡ all → next ++ others (lane + 1) ≡ all
  one_lane seats next its lane all below are some is whole =
      ap (λ (xs : List (List ℕ)). xs ++ others (lane + 1)) is ∙ append_assoc seats (its ∷ []) (others (lane + 1)) ∙ ap (λ (x : List ℕ). seats ++ x ∷ others (lane + 1)) are
      ∙ ap (λ (ls : List ℕ). seats ++ map (lane_sessions calls lanes) ls) (sym (taken (λ l. nat_lt 0 (length (lane_sessions calls lanes l))) lane lanes below (ap (λ (x : List ℕ). nat_lt 0 (length x)) (sym are) ∙ some))) ∙ whole

  pub no_lane : (seats next : List (List ℕ)) (its : List ℕ) (lane : ℕ) (all : List (List ℕ)) → lane < lanes → its ≡ lane_sessions calls lanes lane → nat_lt 0 (length its) ≡ false → next ≡ seats → seats ++ others lane ≡ all → next ++ others (lane + 1) ≡ all
  no_lane seats next its lane all below are none is whole =
      ap (λ (xs : List (List ℕ)). xs ++ others (lane + 1)) is
      ∙ ap (λ (ls : List ℕ). seats ++ map (lane_sessions calls lanes) ls) (sym (left_out (λ l. nat_lt 0 (length (lane_sessions calls lanes l))) lane lanes below (ap (λ (x : List ℕ). nat_lt 0 (length x)) (sym are) ∙ none))) ∙ whole

-- ---- one lane alone

same_filter : {X : Type 0} (f g : X → Bool) (xs : List X) → ((x : X) → f x ≡ g x) → filter f xs ≡ filter g xs
same_filter f g [] same = refl
same_filter {X = X} f g (x ∷ xs) same = ap (λ (b : Bool). cond b (x ∷ filter f xs) (filter f xs)) (same x) ∙ ap (λ (l : List X). cond (g x) (x ∷ l) l) (same_filter f g xs same)

-- it serves all sessions
pub whole_lane : (calls : List Captured) → lane_sessions calls 1 0 ≡ sessions calls
unfolding lane_sessions sessions
whole_lane calls = same_filter (is_seated calls 1 0) (takes_part calls) (range_with_len 0 session_limit) (λ session. rw (eq-eqb (session % 1) 0 (omega arith)) refl)
