use Rattle.std.proofs.Common.{◌≡◌, Bor, List, ℕ, map, take}
use Rattle.csv.specs.Records.{fields_of}
use Rattle.desk_schema.proofs.change.fields_in.Given as goal

abbrev pub invariant-loop-i : goal.invariant-loop-i
invariant-loop-i l = map (λ (field : Bor (List ℕ)). field.now) l.fields.items ≡ take l.i (fields_of l.row)
