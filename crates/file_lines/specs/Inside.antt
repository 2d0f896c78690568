-- What the adding of a line answers.
use Rattle.std.specs.Prelude.{◌≡◌, Result, Ok, Err}
use Rattle.desk_values.specs.declared.read_err.ReadErr.{ReadErr}
use Rattle.desk_values.specs.declared.read_err.ReadErr.TheVariants.{Bad, Memory}
use Rattle.file_lines.specs.Form.{Form}

module _ {S L : Type 0} (form : Form S L) where
  -- what adding a line to a state answers: `Bad` just where the line lacks what it needs
  abbrev pub AddsLine : {U : Type 0} → Result U ReadErr → S → L → S → Type 0
  AddsLine (Ok u) s line t = form.May s line × (t ≡ form.added s line)
  AddsLine (Err Bad) s line t = ¬ form.May s line
  AddsLine (Err Memory) s line t = Unit {0}
