-- Which bytes are ASCII and no `<`: those of texts, and of lines of them.
use Rattle.std.proofs.Common.{◌≡◌, ◌≢◌, ℕ, zero, suc, ◌<◌, ◌^◌, true, List, [], ◌∷◌, ◌++◌, ap, arith, lit<}
use Rattle.std.specs.Fmt.{decimal}
use Rattle.std.specs.List.{AllByRecursion, flat_map, list_all}
use Rattle.std.specs.Str.{IsAscii, IsUtf8}
use Rattle.std.proofs.lemmas.Bool.{and_parts, both_ways}
use Rattle.std.proofs.lemmas.Bool.Decides.{nat_tests}
use Rattle.std.proofs.lemmas.Str.{IsUtf8-from_ascii}
use Rattle.desk_values.specs.Fields.{Lacks}
use Rattle.desk_values.specs.Good.{IsTxt}
use Rattle.desk_values.specs.Text.{txt_text}
use Rattle.capture_format.proofs.Alphabet.{AreTextBytes, is_text, text_decimal, text_field, text_word}
use Rattle.capture_format.proofs.CallTexts.{txt_field}
use Rattle.capture_format.proofs.Cuts.{all_append, all_weaker}
use Rattle.desk_schema.specs.Name.{IsName, is_name, is_name_byte}
use Rattle.replay_page.specs.Quiet.{AreQuiet, IsQuiet}

-- a byte of a text is one
quiet_byte : (byte : ℕ) → is_text byte ≡ true → IsQuiet byte
quiet_byte byte test = record { ascii = grind (arith, nat_tests); unmarked = λ is. both_ways (is_text byte) (ap is_text is) test }

pub quiet_text : (bytes : List ℕ) → AreTextBytes bytes → AreQuiet bytes
quiet_text bytes are = all_weaker (λ byte. is_text byte ≡ true) IsQuiet quiet_byte bytes are

-- a word whose bytes are known
pub quiet_word : (bytes : List ℕ) → list_all is_text bytes ≡ true → AreQuiet bytes
quiet_word bytes test = quiet_text bytes (text_word bytes test)

pub quiet_decimal : (n : ℕ) → n < 2 ^ 64 → AreQuiet (decimal n)
quiet_decimal n small = quiet_text (decimal n) (text_decimal n small)

pub quiet_then : (xs ys : List ℕ) → AreQuiet xs → AreQuiet ys → AreQuiet (xs ++ ys)
quiet_then xs ys first second = all_append IsQuiet xs ys first second

-- a space
pub quiet_space : IsQuiet 32
quiet_space = record { ascii = lit< tt; unmarked = omega arith }

-- a field, a space and more
pub quiet_spaced : (field rest : List ℕ) → AreQuiet field → AreQuiet rest → AreQuiet (field ++ 32 ∷ rest)
quiet_spaced field rest first second = quiet_then field (32 ∷ rest) first (quiet_space, second)

-- a name
quiet_name_byte : (byte : ℕ) → is_name_byte byte ≡ true → IsQuiet byte
quiet_name_byte byte test = record { ascii = grind (arith, nat_tests); unmarked = λ is. both_ways (is_name_byte byte) (ap is_name_byte is) test }

quiet_name_bytes : (bytes : List ℕ) → list_all is_name_byte bytes ≡ true → AreQuiet bytes
quiet_name_bytes [] test = tt
quiet_name_bytes (byte ∷ bytes) test = let parts = and_parts (is_name_byte byte) (list_all is_name_byte bytes) test in (quiet_name_byte byte parts.0, quiet_name_bytes bytes parts.1)

pub quiet_name : (name : List ℕ) → IsName name → AreQuiet name
unfolding is_name
quiet_name name is = quiet_name_bytes name (and_parts _ _ (and_parts _ _ (and_parts _ _ is).0).0).1

-- a text as it is spelled
pub quiet_txt : (text : List ℕ) → IsTxt text → AreQuiet (txt_text text)
quiet_txt text is = quiet_text (txt_text text) (text_field (txt_text text) (txt_field text is))

-- ---- what follows

pub unmarked_all : (bytes : List ℕ) → AreQuiet bytes → Lacks 60 bytes
unmarked_all bytes are = all_weaker IsQuiet (λ byte. byte ≢ 60) (λ byte is. is.unmarked) bytes are

ascii : (bytes : List ℕ) → AreQuiet bytes → IsAscii bytes
ascii [] are i = omega arith
ascii (byte ∷ bytes) are zero = omega (arith, are.0.ascii)
ascii (byte ∷ bytes) are (suc i) = ascii bytes are.1 i

-- such bytes are UTF-8
pub quiet_utf8 : (bytes : List ℕ) → AreQuiet bytes → IsUtf8 bytes
quiet_utf8 bytes are = IsUtf8-from_ascii bytes (ascii bytes are)

-- each text with its line feed
pub quiet_lines : {X : Type 0} (Fits : X → Type 0) (text : X → List ℕ) → ((x : X) → Fits x → AreQuiet (text x)) → (xs : List X) → AllByRecursion Fits xs → AreQuiet (flat_map (λ x. text x ++ 10 ∷ []) xs)
quiet_lines Fits text quiet [] fit = tt
quiet_lines Fits text quiet (x ∷ xs) fit =
    quiet_then (text x ++ 10 ∷ []) (flat_map (λ y. text y ++ 10 ∷ []) xs) (quiet_then (text x) (10 ∷ []) (quiet x fit.0) (record { ascii = lit< tt; unmarked = omega arith }, tt)) (quiet_lines Fits text quiet xs fit.1)
