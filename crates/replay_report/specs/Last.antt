-- The last of several items that says something.
use Rattle.std.specs.Prelude.{List, [], ◌∷◌, Option, None}
use Rattle.std.specs.Option.{option_or}

abbrev pub last_of : {A X : Type 0} → (A → Option X) → List A → Option X
last_of says [] = None
last_of says (first ∷ others) = option_or (last_of says others) (says first)
