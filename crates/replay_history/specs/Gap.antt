-- The time between the calls of a session, and the pause that a replay makes of it.
use Rattle.std.specs.Prelude.{◌≡◌, ℕ, suc, ◌-◌, ◌*◌, ◌/◌, Bool, ◌&&◌, nat_eq, Option, Some, None, List, slice_get, ◌==◌, if◌then◌else◌}
use Rattle.std.specs.List.{find}
use Rattle.desk_values.specs.declared.capture.Captured.{Captured}

-- in this list by stamp, the call with this stamp
abbrev pub IsCallAt : List Captured → ℕ → Captured → Type 0
IsCallAt calls k call = slice_get calls k ≡ Some call

-- each call stands at its stamp
abbrev pub IsStamped : List Captured → Type 0
IsStamped calls = (k : ℕ) (call : Captured) → IsCallAt calls k call → call.stamp ≡ k

-- the first is the call just before the second in one session
pub record IsJustBefore (first second : Captured) : Type 0 where
  pub session : first.session ≡ second.session
  pub place : suc first.place ≡ second.place

-- from the capture's start to a session's first call; else from the end of the session's call before
abbrev pub IsGap : List Captured → Captured → ℕ → Type 0
IsGap calls call gap = ((call.place ≡ 0) → gap ≡ call.began)
    × ((j : ℕ) (before : Captured) → IsCallAt calls j before → IsJustBefore before call → gap ≡ call.began - before.ended)

-- whether the first is the call just before the second in one session
abbrev pub is_just_before : Captured → Captured → Bool
is_just_before before call = nat_eq before.session call.session && nat_eq (suc before.place) call.place

-- from the end of the call just before it; from the capture's start where there is none
abbrev pub gap_behind : Option Captured → Captured → ℕ
gap_behind None call = call.began
gap_behind (Some before) call = call.began - before.ended

-- the time before a call, in these calls
abbrev pub gap_of : List Captured → Captured → ℕ
gap_of calls call = gap_behind (find (λ before. is_just_before before call) calls) call

-- that many hundredths of a gap, rounded down
abbrev pub pause_of : ℕ → ℕ → ℕ
pause_of gap percent = gap * percent / 100

-- the pause of a call: its gap by the one percentage for the first call of a session, else by the other
abbrev pub pause_before : List Captured → ℕ → ℕ → Captured → ℕ
pause_before calls connect think call = pause_of (gap_of calls call) (if call.place == 0 then connect else think)
