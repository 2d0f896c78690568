-- What is read of a line of the plain reads is spelled so, and what is spelled so is read.
use Rattle.std.proofs.Common.{◌≡◌, ℕ, ◌<◌, ◌≤◌, ◌^◌, false, List, ◌∷◌, Some, refl, subst, arith, lit≤}
use Rattle.std.specs.Prelude.{codes}
use Rattle.std.specs.Fmt.{decimal}
use Rattle.std.specs.List.{AllByRecursion}
use Rattle.std.specs.Option.{option_map}
use Rattle.std.specs.Str.{bytes_eq}
use Rattle.std.proofs.lemmas.Bool.{false_from_ne_true}
use Rattle.std.proofs.lemmas.Slice.Eq.{bytes_eq-Decides}
use Rattle.desk_values.specs.Reading.{number_below}
use Rattle.desk_values.proofs.Numbers.{numbers_below}
use Rattle.desk_values.proofs.Options.{map_some}
use Rattle.desk_values.proofs.Readers.{IsReader}
use Rattle.capture_format.proofs.Alphabet.{IsDigit, digits_decimal}
use Rattle.capture_format.proofs.Fields.{one_text}
use Rattle.run_files.specs.declared.reads_line.ReadsLine.{ReadsLine}
use Rattle.run_files.specs.declared.reads_line.ReadsLine.TheVariants.{Head, Stamp, End}
use Rattle.run_files.specs.ReadsFile.{IsReadsLine, reads_line_text}
use Rattle.run_files.specs.Inside.Reading.{reads_line_of}

stamps : IsReader (number_below (2 ^ 32)) (λ n. n < 2 ^ 32) decimal
stamps = numbers_below (2 ^ 32) (lit≤ tt)

stamp_taken : (bytes : List ℕ) (l : ReadsLine) → option_map Stamp (number_below (2 ^ 32) bytes) ≡ Some l → IsReadsLine l × (bytes ≡ reads_line_text l)
stamp_taken bytes l e =
    let found = map_some Stamp (number_below (2 ^ 32) bytes) l e in
    subst (λ (x : ReadsLine). IsReadsLine x × (bytes ≡ reads_line_text x)) found.2 (stamps.takes bytes found.0 found.1)

takes : (bytes : List ℕ) (l : ReadsLine) → reads_line_of bytes ≡ Some l → IsReadsLine l × (bytes ≡ reads_line_text l)
unfolding reads_line_of
takes bytes l =
    let spelled : ReadsLine → Type 0 = λ (x : ReadsLine). IsReadsLine x × (bytes ≡ reads_line_text x) in
    one_text bytes (codes "fence 1") Head _ spelled l (λ is. (tt, is)) (one_text bytes (codes "end") End _ spelled l (λ is. (tt, is)) (stamp_taken bytes l))

-- no number begins with a letter
no_number : (n first : ℕ) (rest : List ℕ) → n < 2 ^ 32 → 58 ≤ first → decimal n ≡ first ∷ rest → ⊥
no_number n first rest few letter is =
    let digits = subst (AllByRecursion IsDigit) is (digits_decimal n (omega (arith, few))) in
    let high = digits.0.high in
    omega (arith, high, letter)

not_head : (n : ℕ) → n < 2 ^ 32 → bytes_eq (decimal n) (codes "fence 1") ≡ false
not_head n few = false_from_ne_true (bytes_eq (decimal n) (codes "fence 1")) (λ is. no_number n _ _ few (lit≤ tt) ((bytes_eq-Decides (decimal n) (codes "fence 1")).0 is))

not_end : (n : ℕ) → n < 2 ^ 32 → bytes_eq (decimal n) (codes "end") ≡ false
not_end n few = false_from_ne_true (bytes_eq (decimal n) (codes "end")) (λ is. no_number n _ _ few (lit≤ tt) ((bytes_eq-Decides (decimal n) (codes "end")).0 is))

again : (l : ReadsLine) → IsReadsLine l → reads_line_of (reads_line_text l) ≡ Some l
unfolding reads_line_of
again Head fits = refl
again (Stamp n) fits = rw (not_head n fits, not_end n fits, stamps.again n fits) refl
again End fits = refl

pub reads_lines : IsReader reads_line_of IsReadsLine reads_line_text
reads_lines = record { takes = takes; again = again }
