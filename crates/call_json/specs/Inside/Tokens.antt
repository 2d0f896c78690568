-- The tokens of what is written.
use Rattle.std.specs.Prelude.{ℕ, List, ◌∷◌}
use Rattle.json.specs.Token as json
use Rattle.json.specs.Tree.{json_tokens}
use Rattle.desk_values.specs.declared.value.Value.{Value}
use Rattle.desk_values.specs.declared.value.Image.{Image}
use Rattle.serde_json.specs.Data.{Data}
use Rattle.serde_json.specs.Written.{outline}
use Rattle.call_json.specs.Forms.{value_data, values_data, image_data}

-- those of a JSON value
abbrev pub data_tokens : Data → List json.Token
data_tokens d = json_tokens (outline d)

-- those of a key and the value there
abbrev pub member_tokens : List ℕ → Data → List json.Token
member_tokens key d = json.key key ∷ data_tokens d

abbrev pub value_tokens : Value → List json.Token
value_tokens value = data_tokens (value_data value)

abbrev pub row_tokens : List Value → List json.Token
row_tokens row = data_tokens (values_data row)

abbrev pub image_tokens : Image → List json.Token
image_tokens image = data_tokens (image_data image)
