-- What a writer that was refused leaves, how no number begins, and what escapes stand for, one after the other.
use Rattle.std.specs.Prelude.{ℕ, ◌≡◌, ◌<◌, ◌+◌, ◌-◌, ◌*◌, ◌^◌, List, length, take, Bool, true, ◌&&◌, not, nat_lt, nat_le, ◌==◌, if◌then◌else◌, [], ◌∷◌, Option, None, Some, Result, Ok, Err}
use Rattle.std.specs.Char.{is_ascii_digit}
use Rattle.std.specs.Option.{option_map}
use Rattle.std.specs.List.{AllByRecursion}
use Rattle.desk_values.specs.declared.read_err.ReadErr.{ReadErr}
use Rattle.desk_values.specs.declared.read_err.ReadErr.TheVariants.{Bad, Memory}
use Rattle.desk_values.specs.Text.{is_plain, escaped}
use Rattle.desk_values.specs.Reading.{◌>>=◌}

-- the new bytes begin with all the old ones
abbrev pub IsKept : List ℕ → List ℕ → Type 0
IsKept old new = take (length old) new ≡ old

-- no byte, or a zero before more
abbrev pub is_loose : List ℕ → Bool
is_loose [] = true
is_loose (first ∷ rest) = first == 48 && not (length rest == 0)

-- the number of the digits behind those of n, where it is below 2 ^ 64
abbrev pub number_after : ℕ → List ℕ → Option ℕ
number_after n [] = Some n
number_after n (digit ∷ others) = if is_ascii_digit digit && nat_lt (n * 10 + (digit - 48)) (2 ^ 64) then number_after (n * 10 + (digit - 48)) others else None

-- what an upper-case hexadecimal digit stands for
abbrev pub hex_value : ℕ → Option ℕ
hex_value digit = if nat_lt digit 48 then None
    else (if nat_le digit 57 then Some (digit - 48)
    else (if nat_lt digit 65 then None
    else (if nat_le digit 70 then Some (digit - 65 + 10)
    else None)))

-- the byte that two such digits stand for, where it does not stand for itself
abbrev pub hex_byte : ℕ → ℕ → Option ℕ
hex_byte high low = do
  sixteens ← hex_value high
  ones ← hex_value low
  if is_plain (16 * sixteens + ones) then None else Some (16 * sixteens + ones)

-- the byte of this digit and the next, and what is left
abbrev pub behind_high : ℕ → List ℕ → Option (ℕ × List ℕ)
behind_high high [] = None
behind_high high (low ∷ rest) = option_map (λ byte. (byte, rest)) (hex_byte high low)

abbrev pub behind_percent : List ℕ → Option (ℕ × List ℕ)
behind_percent [] = None
behind_percent (high ∷ rest) = behind_high high rest

abbrev pub behind_first : ℕ → List ℕ → Option (ℕ × List ℕ)
behind_first first rest = if is_plain first then Some (first, rest) else (if first == 37 then behind_percent rest else None)

-- the byte that an escaped text begins with, and what is left
abbrev pub first_byte : List ℕ → Option (ℕ × List ℕ)
first_byte [] = None
first_byte (first ∷ rest) = behind_first first rest

-- the bytes are the escaped text of these
pub record IsUnescaped (bytes text : List ℕ) : Type 0 where
  pub spelled : bytes ≡ escaped text
  pub small : AllByRecursion (λ byte. byte < 256) text

-- what undoing the escapes answers
abbrev pub Unescapes : Result (List ℕ) ReadErr → List ℕ → Type 0
Unescapes (Ok text) bytes = IsUnescaped bytes text
Unescapes (Err Bad) bytes = (text : List ℕ) → ¬ IsUnescaped bytes text
Unescapes (Err Memory) bytes = Unit {0}
