-- Whether another row is found under a print.
use Rattle.std.specs.Prelude.{ℕ, Bool, false, ◌&&◌, nat_eq, not, Option, None, Some}
use Rattle.desk_values.specs.declared.value.Image.{Image}
use Rattle.same_keys.specs.Print.{print_of}
use Rattle.server_words.specs.Rows.{row_key}

-- there is a row, whose key has this print
abbrev pub has_print : ℕ → Option Image → Bool
has_print print None = false
has_print print (Some image) = nat_eq (print_of (row_key image)) print

-- what is found under the print has it, and is another row than this one
abbrev pub is_others : ℕ → ℕ → (ℕ → Option Image) → Option ℕ → Bool
is_others row print at None = false
is_others row print at (Some other) = not (nat_eq other row) && has_print print (at other)
