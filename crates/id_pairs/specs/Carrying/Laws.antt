-- What the laws of carrying say.
use Rattle.std.specs.Prelude.{◌≡◌, List, Some}
use Rattle.desk_values.specs.declared.value.Value.{Value}
use Rattle.id_pairs.specs.Pairs.{HasNoIdTwice, IdPair}
use Rattle.id_pairs.specs.Renaming.{AreRenamed}
use Rattle.id_pairs.specs.Carrying.Carried.{carried_row}

-- values that are renamed pair by pair are carried to each other, where no id stands twice on one side
abbrev pub RenamedAreCarried : Type 0
RenamedAreCarried = (pairs : List IdPair) (values others : List Value) → HasNoIdTwice pairs
    → AreRenamed pairs values others → carried_row pairs values ≡ Some others
