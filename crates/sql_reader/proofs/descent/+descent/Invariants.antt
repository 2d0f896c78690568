use Rattle.std.proofs.Common.{◌≡◌, ◌+◌, ◌-◌, ◌*◌, length}
use Rattle.sql_tree.specs.Plain.{term_of}
use Rattle.sql_reader.specs.Grammar.{looseness, right_of}
use Rattle.sql_reader.specs.Reading.{more_at, chain_at, part_at}
use Rattle.sql_reader.proofs.descent.+descent.Given as goal

-- Each call goes to a tighter part, or one level deeper.
abbrev pub decreases-part : goal.decreases-part
decreases-part l = 20 * l.depth + (2 * looseness l.wanted + 2)

abbrev pub decreases-chain : goal.decreases-chain
decreases-chain l = 20 * l.depth + (2 * looseness l.line + 1)

abbrev pub decreases-negation : goal.decreases-negation
decreases-negation l = 20 * l.depth + 11

abbrev pub decreases-comparison : goal.decreases-comparison
decreases-comparison l = 20 * l.depth + 9

abbrev pub decreases-factor : goal.decreases-factor
decreases-factor l = 20 * l.depth + 3

abbrev pub decreases-primary : goal.decreases-primary
decreases-primary l = 20 * l.depth + 1

abbrev pub decreases-nested : goal.decreases-nested
decreases-nested l = 20 * l.depth

abbrev pub invariant-chain-loop : goal.invariant-chain-loop
invariant-chain-loop l = more_at (part_at l.depth (right_of l.line)) l.line (length l.tokens - l.counter) (term_of l.left) l.rest ≡ chain_at (part_at l.depth (right_of l.line)) l.line l.tokens
