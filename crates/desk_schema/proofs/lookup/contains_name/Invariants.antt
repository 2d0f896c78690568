use Rattle.desk_schema.proofs.Members.{Remains}
use Rattle.desk_schema.proofs.lookup.contains_name.Given as goal

abbrev pub invariant-loop-item : goal.invariant-loop-item
invariant-loop-item g l = Remains g.N.Named.name_in l.items l.item-index l.name
