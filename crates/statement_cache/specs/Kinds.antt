-- The kinds of binds.
use Rattle.std.specs.Prelude.{List, map}
use Rattle.desk_values.specs.declared.value.Value.{Value}
use Rattle.desk_values.specs.declared.value.Value.TheVariants as value
use Rattle.statement_cache.specs.declared.kinds.BindKind.{BindKind}
use Rattle.statement_cache.specs.declared.kinds.BindKind.TheVariants.{Null, Int, Text, Row, Draw}

abbrev pub kind_of_bind : Value → BindKind
kind_of_bind value.Null = Null
kind_of_bind (value.Int n) = Int
kind_of_bind (value.Text t) = Text
kind_of_bind (value.Row n) = Row
kind_of_bind (value.Draw sequence n) = Draw sequence

abbrev pub kinds_of : List Value → List BindKind
kinds_of binds = map kind_of_bind binds
