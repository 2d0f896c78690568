-- How two values compare at a level of the rules.
use Rattle.std.specs.Prelude.{ℕ, Bool, false, ◌&&◌, ◌==◌, if◌then◌else◌, List, [], ◌∷◌, reverse, Option, None, Some}
use Rattle.std.specs.Option.{option_map, unwrap_or}
use Rattle.std.specs.Ordering.{nat_cmp, int_cmp, is_eq}
use Rattle.std.specs.Cmp.Lexicographic.{slice_cmp}
use Rattle.std.specs.declared.cmp.Ordering.{Ordering}
use Rattle.desk_values.specs.declared.value.Value.{Value}
use Rattle.desk_values.specs.declared.value.Value.TheVariants.{Int, Text, Row, Draw}

-- the bytes without the spaces that lead them
abbrev pub skip_spaces : List ℕ → List ℕ
skip_spaces [] = []
skip_spaces (first ∷ rest) = if first == 32 then skip_spaces rest else first ∷ rest

-- a text without the spaces at its end
unfoldable pub without_trailing_spaces : List ℕ → List ℕ
without_trailing_spaces text = reverse (skip_spaces (reverse text))

-- texts compare byte by byte; at level 2 the spaces at their ends do not count
unfoldable pub text_order : ℕ → List ℕ → List ℕ → Ordering
text_order level a b = if level == 2 then slice_cmp nat_cmp (without_trailing_spaces a) (without_trailing_spaces b) else slice_cmp nat_cmp a b

-- the order of two numbers or two texts; nothing else has one
abbrev pub value_order : ℕ → Value → Value → Option Ordering
value_order level (Int a) (Int b) = Some (int_cmp a b)
value_order level (Text a) (Text b) = Some (text_order level a b)
value_order level other value = None

-- whether two values of one kind are equal; nobody knows of a Null
abbrev pub value_equal : ℕ → Value → Value → Option Bool
value_equal level (Row a) (Row b) = Some (a == b)
value_equal level (Draw p a) (Draw q b) = Some (p == q && a == b)
value_equal level a b = option_map is_eq (value_order level a b)

-- the two are one key: they are known to be equal
abbrev pub same_key : ℕ → Value → Value → Bool
same_key level a b = unwrap_or (value_equal level a b) false
