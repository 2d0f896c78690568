-- Bytes and the tokens that they spell.
use Rattle.std.specs.Prelude.{◌≡◌, ◌≢◌, ℕ, ◌<◌, ◌≤◌, ◌^◌, pos, Bool, true, false, ◌||◌, ◌&&◌, ◌==◌, if◌then◌else◌, List, [], ◌∷◌, ◌++◌, length, map, codes}
use Rattle.std.specs.List.{flat_map, list_all}
use Rattle.std.specs.Char.{is_ascii_alphabetic, is_ascii_alphanumeric, is_ascii_digit, to_ascii_lowercase}
use Rattle.std.specs.Str.Parse.{digits_value}
use Rattle.std.specs.Fmt.{decimal}
use Rattle.desk_values.specs.Good.{IsTxt}
use Rattle.desk_values.specs.declared.keyword.Keyword.{Keyword}
use Rattle.desk_values.specs.Limits.{name_limit, bind_limit}
use Rattle.sql_reader.specs.declared.token.Sign.{Sign}
use Rattle.sql_reader.specs.declared.token.Sign.TheVariants as sign
use Rattle.sql_reader.specs.declared.token.Token.{Token}
use Rattle.sql_reader.specs.declared.token.Token.TheVariants as token
use Rattle.desk_values.specs.Keyword.{keyword_word}
use Rattle.sql_reader.specs.Words.{sign_text}

-- a space, a tab, a line feed or a carriage return
abbrev pub is_space : ℕ → Bool
is_space byte = byte == 32 || byte == 9 || byte == 10 || byte == 13

-- a letter, a digit or `_`
abbrev pub is_part : ℕ → Bool
is_part byte = is_ascii_alphanumeric byte || byte == 95

-- a letter, and then letters, digits or `_`
abbrev pub is_word : List ℕ → Bool
is_word [] = false
is_word (first ∷ others) = is_ascii_alphabetic first && list_all is_part others

-- one digit or more
abbrev pub is_numeral : List ℕ → Bool
is_numeral [] = false
is_numeral (first ∷ others) = is_ascii_digit first && list_all is_ascii_digit others

-- the word without regard to case
abbrev pub folded : List ℕ → List ℕ
folded bytes = map to_ascii_lowercase bytes

-- a quote in a string is written twice
abbrev pub quoted : ℕ → List ℕ
quoted byte = if byte == 39 then 39 ∷ 39 ∷ [] else byte ∷ []

-- the bytes are one token
pub data Lexeme : List ℕ → Token → Type 0 where
  word : {bytes : List ℕ} {keyword : Keyword} → is_word bytes ≡ true → folded bytes ≡ keyword_word keyword
      → Lexeme bytes (token.Word keyword)
  -- a name is no longer than its limit, and no word of the language
  name : {bytes : List ℕ} → is_word bytes ≡ true
      → ((keyword : Keyword) → folded bytes ≢ keyword_word keyword) → length bytes ≤ name_limit
      → Lexeme bytes (token.Name (folded bytes))
  number : {bytes : List ℕ} → is_numeral bytes ≡ true → digits_value 10 bytes < 2 ^ 63
      → Lexeme bytes (token.Number (pos (digits_value 10 bytes)))
  string : {bytes : List ℕ} → IsTxt bytes → Lexeme (39 ∷ (flat_map quoted bytes ++ 39 ∷ [])) (token.Text bytes)
  -- binds count from 1
  bind : {n : ℕ} → 1 ≤ n → n ≤ bind_limit → Lexeme (58 ∷ decimal n) (token.Bind n)
  mark : {s : Sign} → Lexeme (sign_text s) (token.Sign s)
  other_not_equal : Lexeme (codes "!=") (token.Sign sign.NotEqual)

-- the sign and the byte begin a longer sign
abbrev pub lengthens : Sign → ℕ → Bool
lengthens sign.Less byte = byte == 61 || byte == 62
lengthens sign.Greater byte = byte == 61
lengthens other byte = false

-- the byte would go on the token, so it can't stand right after it
abbrev pub goes_on : Token → ℕ → Bool
goes_on (token.Text bytes) byte = byte == 39
goes_on (token.Sign s) byte = lengthens s byte
goes_on other byte = is_part byte

-- the token is the longest that stands before these bytes
abbrev pub EndsBefore : Token → List ℕ → Type 0
EndsBefore t [] = Unit {0}
EndsBefore t (byte ∷ bytes) = goes_on t byte ≡ false

-- the bytes are these tokens, with any spaces before, between and after them
pub data Tokens : List ℕ → List Token → Type 0 where
  end : Tokens [] []
  space : {byte : ℕ} {bytes : List ℕ} {tokens : List Token} → is_space byte ≡ true → Tokens bytes tokens
      → Tokens (byte ∷ bytes) tokens
  then : {text rest : List ℕ} {t : Token} {tokens : List Token} → Lexeme text t → EndsBefore t rest
      → Tokens rest tokens → Tokens (text ++ rest) (t ∷ tokens)
