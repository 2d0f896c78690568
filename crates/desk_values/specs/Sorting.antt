-- The ascending order of values and of rows, in which a text of rows can be told from another.
use Rattle.std.specs.Prelude.{ℕ, List}
use Rattle.std.specs.Ordering.{nat_cmp, int_cmp, ordering_then, is_lt}
use Rattle.std.specs.Cmp.Lexicographic.{slice_cmp}
use Rattle.std.specs.List.Sorted.{IsSortedBy}
use Rattle.std.specs.declared.cmp.Ordering.{Ordering}
use Rattle.desk_values.specs.declared.value.Value.{Value}
use Rattle.desk_values.specs.declared.value.Value.TheVariants.{Null, Int, Text, Row, Draw}

-- the place of a value's kind: no number, text or id is below a Null
abbrev pub place_of_kind : Value → ℕ
place_of_kind Null = 0
place_of_kind (Int n) = 1
place_of_kind (Text text) = 2
place_of_kind (Row n) = 3
place_of_kind (Draw sequence n) = 4

-- within a kind by number or by bytes, draws by their sequences first
abbrev pub kind_then_value : Value → Value → Ordering
kind_then_value (Int a) (Int b) = int_cmp a b
kind_then_value (Text a) (Text b) = slice_cmp nat_cmp a b
kind_then_value (Row a) (Row b) = nat_cmp a b
kind_then_value (Draw p a) (Draw q b) = ordering_then (nat_cmp p q) (nat_cmp a b)
kind_then_value a b = nat_cmp (place_of_kind a) (place_of_kind b)

-- rows compare value by value, and one that is the beginning of another stands before it
abbrev pub value_by_value : List Value → List Value → Ordering
value_by_value = slice_cmp kind_then_value

-- no row stands before one that is less
abbrev pub AreAscending : List (List Value) → Type 0
AreAscending = IsSortedBy (λ a b. is_lt (value_by_value a b))
