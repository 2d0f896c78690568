use Rattle.std.proofs.Common.{ℕ, List, subst}
use Rattle.desk_values.specs.Reading.{Reads, txt_of}
use Rattle.capture_format.proofs.known_texts.KnownTexts.read.Goals as goal

pub returns-in-Ok : goal.returns-in-Ok
returns-in-Ok c = subst (λ (bytes : List ℕ). Reads c.read_spelled.result (txt_of bytes)) c.in-Ok.ensures.cases.0 c.read_spelled.ensures
