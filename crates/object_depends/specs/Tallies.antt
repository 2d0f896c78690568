-- How many calls are required and the last of them.
use Rattle.std.specs.Prelude.{ℕ, List, length}
use Rattle.object_depends.specs.declared.tally.Tally.{Tally}
use Rattle.object_depends.specs.Required.{last_of}

-- how many stamps there are, and the last
abbrev pub tally_of : List ℕ → Tally
tally_of stamps = record { count = length stamps; last = last_of stamps }
