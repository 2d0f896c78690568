-- What was taken of a host and given back to it.
use Rattle.std.specs.Prelude.{◌≡◌, ℕ}
use Rattle.desk_files.specs.Outside.{risen_by}
use Rattle.desk_files.specs.Hosts.{Handed}

-- so many connections were taken and nothing else was done
abbrev pub HasTaken : ℕ → Handed → Handed → Type 0
HasTaken n before after = after ≡ record before { taken = risen_by n before.taken }

-- so many were given back and nothing else was done
abbrev pub HasReturned : ℕ → Handed → Handed → Type 0
HasReturned n before after = after ≡ record before { backs = risen_by n before.backs }
