-- What a dial tells of its lines.
use Rattle.std.specs.Prelude.{◌≡◌, ℕ, ◌<◌, ◌≤◌, List, [], ◌∷◌, ◌++◌, Option, Some, IsSomeAnd, Result, Ok, Err}
use Rattle.desk_values.specs.declared.memory.Memory.{Memory}
use Rattle.desk_files.specs.declared.fault.Failed.{Failed}
use Rattle.desk_files.specs.Outside.{HasRisen, Told, raised}
use Rattle.remote_link.specs.declared.heard.Heard.{Heard}

-- what a dial gives account of: what was said on each line that was given back, where it tells it; how many calls failed, here or on
-- a line that was given back; the port that was asked for last; how often it was dialled, and how often that failed; and how often a line
-- was given back, whatever came of it. Each count stands still at the last value of its counter.
pub record DialAccount : Type 0 where
  pub content : Option (List (List Heard))
  pub faults : ℕ
  pub port : Option ℕ
  pub dials : ℕ
  pub failed : ℕ
  pub backs : ℕ

-- nothing was said on a line, and it has no fault
pub record IsNew (told : Option (List Heard)) (faults : ℕ) : Type 0 where
  pub silent : Told told (λ list. list ≡ [])
  pub faultless : faults ≡ 0

-- the count of failed dials after one more dial
abbrev pub failed_by : {L : Type 0} → Result L Failed → ℕ → ℕ
failed_by (Ok line) n = n
failed_by (Err failed) n = raised n

-- what an answer of `back` says of a line that tells this
abbrev pub GivesBack : Option (List Heard) → Result (Unit {0}) Memory → Option (List (List Heard)) → Option (List (List Heard)) → Type 0
GivesBack line (Ok done) before after = Told before (λ lists. IsSomeAnd line (λ list. after ≡ Some (lists ++ list ∷ [])))
GivesBack line (Err memory) before after = after ≡ before

-- the count of a dial that was given back a line with so many faults
pub record CountsBack (faults before after : ℕ) : Type 0 where
  pub rises : 0 < faults → HasRisen before after
  pub stays : faults ≡ 0 → after ≡ before
  pub never_falls : before ≤ after
