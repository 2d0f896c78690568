-- Moments of the calls of a session.
use Rattle.std.specs.Prelude.{ℕ, if◌then◌else◌, nat_eq, List}
use Rattle.std.specs.List.{fold}
use Rattle.desk_values.specs.declared.capture.Captured.{Captured}

-- when the last of a session's calls ended, or 0
abbrev pub ended_in : ℕ → List Captured → ℕ
ended_in session calls = fold (λ moment call. if nat_eq call.session session then call.ended else moment) 0 calls
