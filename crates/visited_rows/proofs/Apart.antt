-- Whether a new row has the key of another, where no two rows have one.
use Rattle.std.proofs.Common.{◌≡◌, ℕ, Bool, true, false, not, ◌||◌, ◌==◌, if◌then◌else◌, List, [], ◌∷◌, length, map, refl, sym, ap, ◌∙◌, arith}
use Rattle.std.specs.List.{list_any}
use Rattle.std.proofs.Math.Bool.{or-false}
use Rattle.std.proofs.lemmas.Bool.{ne_eqb}
use Rattle.std.proofs.lemmas.List.{length-map}
use denote.Ref.{Bor}
use Rattle.desk_values.specs.declared.value.Value.{Value}
use Rattle.desk_values.specs.declared.value.Image.{Image}
use Rattle.desk_values.specs.Comparison.{same_key}
use Rattle.sql_eval.specs.Totals.{looked_at}
use Rattle.visited_rows.specs.ByKey.{is_of_key, of_key}
use Rattle.server_words.specs.Rows.{row_key}
use Rattle.server_words.specs.Writes.{repeats_key}
use Rattle.server_words.proofs.Repeating.{same_back}

some_of_key : (level : ℕ) (key : Value) (rows : List Image) → not (length (of_key level key rows) == 0) ≡ list_any (same_key level key) (map row_key rows)
some_of_key level key [] = refl
some_of_key level key (z ∷ rows) =
    let turned : is_of_key level key z ≡ same_key level key (row_key z) = same_back level (row_key z) key in
    ap (λ (b : Bool). not (length (if b then z ∷ of_key level key rows else of_key level key rows) == 0)) turned
    ∙ elim (same_key level key (row_key z)) as (λ b. not (length (if b then z ∷ of_key level key rows else of_key level key rows) == 0) ≡ (b || list_any (same_key level key) (map row_key rows))) [
      | true ↦ ap not (ne_eqb (length (z ∷ of_key level key rows)) 0 (omega arith))
      | false ↦ some_of_key level key rows
    ]

-- some are found of a key where a row has it
pub found_stands : (level : ℕ) (key : Value) (rows : List Image) (found : List (Bor Image)) → looked_at found ≡ of_key level key rows → not (length found == 0) ≡ list_any (same_key level key) (map row_key rows)
found_stands level key rows found is =
    let count : length found ≡ length (of_key level key rows) = sym (length-map found (λ (r : Bor Image). r.now)) ∙ ap (λ (l : List Image). length l) is in
    ap (λ (n : ℕ). not (n == 0)) count ∙ some_of_key level key rows

-- a new row has the key of another, or none is there twice
pub made_twice : (level : ℕ) (new : Image) (key : Value) (rows : List Image) → key ≡ row_key new → repeats_key level (map row_key rows) ≡ false
    → list_any (same_key level key) (map row_key rows) ≡ repeats_key level (map row_key (new ∷ rows))
unfolding repeats_key
made_twice level new key rows is apart =
    ap (λ (k : Value). list_any (same_key level k) (map row_key rows)) is
    ∙ sym (ap (λ (b : Bool). list_any (same_key level (row_key new)) (map row_key rows) || b) apart ∙ or-false (list_any (same_key level (row_key new)) (map row_key rows)))
