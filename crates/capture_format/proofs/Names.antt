-- A name is a text, and has no space, line feed or bracket.
use Rattle.std.proofs.Common.{◌≡◌, ◌≢◌, ℕ, zero, suc, ◌<◌, ◌≤◌, true, List, [], ◌∷◌, length, Some, None, refl, ap, sym, subst, arith}
use Rattle.std.specs.List.{AllByRecursion, list_all}
use Rattle.std.specs.Str.{IsAscii, IsUtf8}
use Rattle.std.proofs.lemmas.Bool.{and_parts, leb-true}
use Rattle.std.proofs.lemmas.Bool.Decides.{nat_tests}
use Rattle.std.proofs.lemmas.Str.{IsUtf8-from_ascii}
use Rattle.std.proofs.lemmas.Option.{cond_some}
use Rattle.desk_values.specs.Fields.{Lacks}
use Rattle.desk_values.specs.Good.{IsTxt}
use Rattle.desk_values.proofs.Options.{none_from}
use Rattle.desk_values.proofs.Readers.{IsReader}
use Rattle.desk_schema.specs.Name.{is_name_byte, is_name, IsName}
use Rattle.capture_format.specs.Inside.NameReading.{as_name}
use Rattle.capture_format.proofs.Cuts.{all_weaker}

-- a digit, a lower-case letter or `_`
pub record IsNameByte (byte : ℕ) : Type 0 where
  pub low : 48 ≤ byte
  pub high : byte < 128

name_byte : (byte : ℕ) → is_name_byte byte ≡ true → IsNameByte byte
name_byte byte test = record { low = grind (arith, nat_tests); high = grind (arith, nat_tests) }

name_bytes_all : (bytes : List ℕ) → list_all is_name_byte bytes ≡ true → AllByRecursion IsNameByte bytes
name_bytes_all [] test = tt
name_bytes_all (byte ∷ bytes) test = let parts = and_parts (is_name_byte byte) (list_all is_name_byte bytes) test in (name_byte byte parts.0, name_bytes_all bytes parts.1)

pub name_bytes : (bytes : List ℕ) → IsName bytes → AllByRecursion IsNameByte bytes
unfolding is_name
name_bytes bytes name = name_bytes_all bytes (and_parts _ _ (and_parts _ _ (and_parts _ _ name).0).0).1

name_short : (bytes : List ℕ) → IsName bytes → length bytes ≤ 30
unfolding is_name
name_short bytes name = leb-true _ _ (and_parts _ _ (and_parts _ _ name).0).1

ascii : (bytes : List ℕ) → AllByRecursion IsNameByte bytes → IsAscii bytes
ascii [] are i = omega arith
ascii (byte ∷ bytes) are zero = omega (arith, are.0.high)
ascii (byte ∷ bytes) are (suc i) = ascii bytes are.1 i

pub name_is_txt : (bytes : List ℕ) → IsName bytes → IsTxt bytes
name_is_txt bytes name = record { limit = let short = name_short bytes name in omega arith; utf8 = IsUtf8-from_ascii bytes (ascii bytes (name_bytes bytes name)) }

-- a byte below the digits stands in no name
pub name_lacks : (byte : ℕ) → byte < 48 → (bytes : List ℕ) → IsName bytes → Lacks byte bytes
name_lacks byte low bytes name = all_weaker IsNameByte (λ other. other ≢ byte) (λ other is same. absurd (omega (arith, is.low))) bytes (name_bytes bytes name)

name_takes : (bytes name : List ℕ) → as_name bytes ≡ Some name → IsName name × (bytes ≡ name)
name_takes bytes name e = let test = cond_some (is_name bytes) bytes name e in (subst (λ (n : List ℕ). IsName n) test.1 test.0, test.1)

name_again : (name : List ℕ) → IsName name → as_name name ≡ Some name
name_again name is = rw is refl

pub names : IsReader as_name IsName (λ name. name)
names = record { takes = name_takes; again = name_again }

-- what is no text is no name
pub long_is_none : (bytes : List ℕ) → 1000 < length bytes → as_name bytes ≡ None
long_is_none bytes long = none_from (as_name bytes) (λ name e. let short = (name_is_txt name (name_takes bytes name e).0).limit in let is = ap length (name_takes bytes name e).1 in absurd (omega arith))

pub no_text_is_none : (bytes : List ℕ) → (¬ (IsUtf8 bytes)) → as_name bytes ≡ None
no_text_is_none bytes not_text = none_from (as_name bytes) (λ name e. not_text (subst (λ (b : List ℕ). IsUtf8 b) (sym (name_takes bytes name e).1) (name_is_txt name (name_takes bytes name e).0).utf8))
