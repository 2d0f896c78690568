-- The file of the causes: a head, and a record for each line. No field of it has a comma or a quote.
use Rattle.std.specs.Prelude.{ℕ, List, ◌∷◌, ◌++◌, codes}
use Rattle.std.specs.List.{flat_map}
use Rattle.std.specs.Fmt.{decimal}
use Rattle.replay_history.specs.Texts.{line}
use Rattle.divergence_cause.specs.declared.cause.CauseLine.{CauseLine}
use Rattle.divergence_cause.specs.Cause.{cause_word}

abbrev pub cause_line : CauseLine → List ℕ
cause_line l = line (decimal l.stamp ++ 44 ∷ cause_word l.cause)

abbrev pub causes_text : List CauseLine → List ℕ
causes_text lines = line (codes "stamp,cause") ++ flat_map cause_line lines
