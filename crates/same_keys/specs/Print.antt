-- A number that keys share which are one key, at each level.
use Rattle.std.specs.Prelude.{◌≡◌, ℕ, ◌+◌, ◌*◌, ◌^◌, ◌%◌, true, List, [], ◌∷◌}
use Rattle.std.specs.Int.{w64, cast_unsigned}
use Rattle.desk_values.specs.declared.value.Value.{Value}
use Rattle.desk_values.specs.declared.value.Value.TheVariants.{Null, Int, Text, Row, Draw}
use Rattle.desk_values.specs.Comparison.{same_key, without_trailing_spaces}

-- the print of bytes, one after another
abbrev pub text_print : ℕ → List ℕ → ℕ
text_print print [] = print
text_print print (byte ∷ bytes) = text_print ((print * 1099511628211 % 2 ^ 64 + byte) % 2 ^ 64) bytes

-- spaces at the end of a text do not count
abbrev pub print_of : Value → ℕ
print_of Null = 0
print_of (Int n) = cast_unsigned w64 n
print_of (Text text) = text_print 14695981039346656037 (without_trailing_spaces text)
print_of (Row n) = n
print_of (Draw sequence n) = n

-- two that are one key share their print, and are the same key as the same others
pub record ArePrints (level : ℕ) (a b : Value) : Type 0 where
  pub print : print_of a ≡ print_of b
  pub others : (c : Value) → same_key level c a ≡ same_key level c b

abbrev pub KeysSharePrints : Type 0
KeysSharePrints = (level : ℕ) (a b : Value) → same_key level a b ≡ true → ArePrints level a b

abbrev pub SameKeysEitherWay : Type 0
SameKeysEitherWay = (level : ℕ) (a b : Value) → same_key level a b ≡ same_key level b a
