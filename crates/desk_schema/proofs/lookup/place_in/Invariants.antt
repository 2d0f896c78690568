use Rattle.std.proofs.Common.{map}
use Rattle.std.specs.Str.{bytes_eq}
use Rattle.desk_schema.specs.Schema.{place_of}
use Rattle.desk_schema.proofs.Places.{Passed}
use Rattle.desk_schema.proofs.lookup.place_in.Given as goal

-- the place in all is the place in what is left, and as many more as were passed
abbrev pub invariant-loop-i : goal.invariant-loop-i
invariant-loop-i g l = Passed g.N.Named.name_in (λ other. bytes_eq other l.name) l.items l.i (place_of (map g.N.Named.name_in l.items) l.name)
