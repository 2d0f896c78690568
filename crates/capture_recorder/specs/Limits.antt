-- The limits of a recorder, and of a generated capture.
use Rattle.std.specs.Prelude.{ℕ}

-- the most calls that are accepted: 100,000 but for the disconnects of 64 sessions
abbrev pub accepted_limit : ℕ
accepted_limit = 99936

-- the sessions of a generated capture
abbrev pub generated_sessions : ℕ
generated_sessions = 4
