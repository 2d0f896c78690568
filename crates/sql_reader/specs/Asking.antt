-- What a SELECT asks for.
use Rattle.std.specs.Prelude.{◌<◌, length}
use Rattle.sql_tree.specs.Plain.{Asked, columns, values, totals, Plan, select}

-- all columns, or at least one item
abbrev pub Asks : {N : Type 0} → Asked N → Type 0
Asks columns = Unit {0}
Asks (values es) = 0 < length es
Asks (totals ts) = 0 < length ts

abbrev pub AsksIfSelect : {N : Type 0} → Plan N → Type 0
AsksIfSelect (select table asked condition keys for_update) = Asks asked
AsksIfSelect other = Unit {0}
