use Rattle.std.proofs.Common.{◌≡◌, ◌∙◌, ℕ, List, Some, sym, subst}
use Rattle.std.proofs.lemmas.Slice.Eq.{bytes_eq-Decides}
use Rattle.desk_values.specs.Reading.{txt_of}
use Rattle.capture_format.proofs.known_texts.KnownTexts.known.Goals as goal

pub returns-then-is_spelled : goal.returns-then-is_spelled
returns-then-is_spelled c =
    subst (λ (bytes : List ℕ). txt_of bytes ≡ Some c.text.result.now) ((bytes_eq-Decides _ c.args.spelled.now).0 (sym c.is_spelled.ensures ∙ c.if-is_spelled.true)) c.text.ensures
