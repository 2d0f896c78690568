use Rattle.std.proofs.Common.{◌≡◌, drop}
use Rattle.server_words.specs.Draws.{drawn_value}
use Rattle.statement_acts.proofs.draws.drawn_value.Given as goal

abbrev pub invariant-loop-draw : goal.invariant-loop-draw
invariant-loop-draw l = drawn_value (drop l.draw-index l.draws) l.sequence ≡ drawn_value l.draws l.sequence
