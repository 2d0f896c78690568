-- The words that a program is called with.
use Rattle.std.specs.Prelude.{◌≡◌, ℕ, ◌<◌, List, [], length, take, Option, None, Some, Result, Ok, Err}
use Rattle.std.specs.Option.{unwrap_or}
use Rattle.std.specs.declared.env.FillError.{FillError}
use Rattle.std.specs.declared.env.FillError.TheVariants.{NotPresent, TooLong}
use Rattle.desk_values.specs.Reading.{txt_in}

-- the word that the bytes are: their text, or the empty text where they are over 1,000 or are not UTF-8
abbrev pub word_in : List ℕ → List ℕ
word_in bytes = unwrap_or (txt_in bytes) []

-- a word is copied to the start of the buffer where it fits, and one that is not there is told so
abbrev pub Copies : Option (List ℕ) → Result ℕ FillError → List ℕ → Type 0
Copies None answer buffer = answer ≡ Err NotPresent
Copies (Some word) (Ok len) buffer = take len buffer ≡ word
Copies (Some word) (Err TooLong) buffer = length buffer < length word
Copies (Some word) (Err NotPresent) buffer = ⊥
