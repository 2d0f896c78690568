-- What a row keeps of a value.
use Rattle.std.proofs.Common.{◌≡◌, ℕ, Bool, true, false, [], ◌∷◌, length, refl, ap, arith}
use Rattle.std.specs.Prelude.{◌&&◌, ◌==◌, if◌then◌else◌, nat_eq}
use Rattle.std.proofs.lemmas.Bool.{ne_eqb}
use Rattle.desk_values.specs.declared.value.Value.{Value}
use Rattle.desk_values.specs.declared.value.Value.TheVariants.{Null, Int, Text, Row, Draw}
use Rattle.server_words.specs.Writes.{is_empty_text, stored}

pub kept_at_one : (value : Value) → stored 1 value ≡ value
kept_at_one value = elim (is_empty_text value) as (λ b. (if b && (1 == 2) then Null else value) ≡ value) [ true ↦ refl | false ↦ refl ]

-- a text with a byte is not empty
pub kept_but_empty : (level : ℕ) (value : Value) → ¬ (value ≡ Text []) → stored level value ≡ value
kept_but_empty level (Text []) other = absurd (other refl)
kept_but_empty level (Text (byte ∷ text)) other =
    let some : nat_eq (length (byte ∷ text)) 0 ≡ false = ne_eqb (length (byte ∷ text)) 0 (omega arith) in
    ap (λ (b : Bool). if b && (level == 2) then Null else Text (byte ∷ text)) some
kept_but_empty level Null other = refl
kept_but_empty level (Int n) other = refl
kept_but_empty level (Row n) other = refl
kept_but_empty level (Draw sequence n) other = refl
