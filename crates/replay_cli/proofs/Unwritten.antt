-- A list of no file is written whole whatever fails.
use Rattle.std.proofs.Common.{◌≡◌, suc, true, false, eqb, List, [], ◌∷◌, length, Option, Some, None, Ok, refl, arith}
use Rattle.std.specs.Prelude.{IsSomeAnd}
use Rattle.std.proofs.lemmas.Bool.{eqb-true}
use Rattle.desk_files.specs.Outside.{FileMap, Told}
use Rattle.desk_files.specs.Writes.{LeavesOfWrites}
use Rattle.desk_files.specs.declared.writes.Write.{Write}

pub none_left : (c : Option FileMap) (writes : List Write) → eqb (length writes) 0 ≡ true → Told c (λ before. IsSomeAnd c (LeavesOfWrites writes before (Ok tt)))
none_left None writes e = tt
none_left (Some files) [] e = refl
none_left (Some files) (write ∷ writes) e = absurd (let none = eqb-true (suc (length writes)) 0 e in omega (arith, none))

pub some_left : (writes : List Write) → eqb (length writes) 0 ≡ false → writes ≡ [] → ⊥
some_left [] e none = absurd cc
some_left (write ∷ writes) e none = absurd cc
