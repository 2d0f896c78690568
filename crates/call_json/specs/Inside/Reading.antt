-- The value that a JSON value is, in the order of the tests.
use Rattle.std.specs.Prelude.{ℕ, ◌^◌, nat_lt, nat_le, if◌then◌else◌, ℤ, pos, negsuc, Bool, false, List, [], ◌∷◌, length, codes, Option, None, Some, option_map, Result}
use Rattle.desk_values.specs.Answers.{Answers}
use Rattle.desk_values.specs.Limits.{text_limit}
use Rattle.desk_values.specs.Reading.{◌>>=◌}
use Rattle.desk_values.specs.declared.value.Value.{Value}
use Rattle.desk_values.specs.declared.value.Value.TheVariants as value
use Rattle.serde_json.specs.Data.{Num, unsigned, negative, float, Data, null, boolean, number, string, array, object, Items, no_items, item, Members}
use Rattle.serde_json.specs.Find.{as_array, as_number, as_str, as_u64}
use Rattle.call_json.specs.declared.json_err.JsonErr.{JsonErr}
use Rattle.call_json.specs.declared.json_err.JsonErr.TheVariants.{NotOne, Memory}
use Rattle.call_json.specs.Inside.Members.{both, only}

-- what an error of a reader says of what there is to read: NotOne that there is nothing, want of memory nothing at all
abbrev pub unread : {T : Type 0} → JsonErr → Option (Option T)
unread NotOne = Some None
unread Memory = None

-- what a reader answers: what there is to read, or NotOne where there is nothing; want of memory may come at any time
abbrev pub Reads : {T : Type 0} → Result T JsonErr → Option T → Type 0
Reads result read = Answers Some unread result read

-- the bytes, where they are few enough for a text
abbrev pub short_text : List ℕ → Option (List ℕ)
short_text text = if nat_le (length text) text_limit then Some text else None

abbrev pub text_in : Data → Option (List ℕ)
text_in d = as_str d >>= short_text

-- a whole number of 64 bits with sign
abbrev pub integer_in : Num → Option ℤ
integer_in (unsigned n) = if nat_lt n (2 ^ 63) then Some (pos n) else None
integer_in (negative (pos n)) = None
integer_in (negative (negsuc n)) = Some (negsuc n)
integer_in (float x) = None

abbrev pub count_in : Data → Option ℕ
count_in d = as_number d >>= as_u64

abbrev pub small : ℕ → Option ℕ
small n = if nat_lt n (2 ^ 32) then Some n else None

abbrev pub small_in : Data → Option ℕ
small_in d = count_in d >>= small

abbrev pub row_value : Data → Option Value
row_value d = option_map (λ n. value.Row n) (count_in d)

abbrev pub draw_value : Data × Data → Option Value
draw_value p = do
  sequence ← small_in p.1
  n ← count_in p.0
  Some (value.Draw sequence n)

-- by what was found; else the other
abbrev pub found_or : {X : Type 0} → Option Data → (Data → Option X) → Option X → Option X
found_or None f other = other
found_or (Some d) f other = f d

-- an id: a row, or a value drawn from a sequence
abbrev pub id_in : Members → Option Value
id_in ms = found_or (only (codes "row") ms) row_value (both (codes "draw") (codes "seq") ms >>= draw_value)

abbrev pub value_in : Data → Option Value
value_in null = Some value.Null
value_in (boolean b) = None
value_in (number n) = option_map (λ z. value.Int z) (integer_in n)
value_in (string s) = option_map (λ t. value.Text t) (short_text s)
value_in (array ds) = None
value_in (object ms) = id_in ms

-- each of them read, in order
abbrev pub each_in : {T : Type 0} → (Data → Option T) → Items → Option (List T)
each_in f no_items = Some []
each_in f (item d ds) = do
  x ← f d
  xs ← each_in f ds
  Some (x ∷ xs)

abbrev pub values_in : Data → Option (List Value)
values_in d = as_array d >>= each_in value_in

abbrev pub is_yes : Data → Bool
is_yes null = false
is_yes (boolean b) = b
is_yes (number n) = false
is_yes (string s) = false
is_yes (array ds) = false
is_yes (object ms) = false
