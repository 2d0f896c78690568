use Rattle.hold_index.proofs.Telling.{nobody_told}
use Rattle.hold_index.proofs.index.HoldIndex.new.Goals as goal

pub returns : goal.returns
returns c = record {
  of_rows = λ kept. nobody_told _ c.new.ensures;
  of_prints = λ kept. nobody_told _ c.new-2.ensures;
}
