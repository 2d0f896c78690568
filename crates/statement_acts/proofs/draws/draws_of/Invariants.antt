use Rattle.std.proofs.Common.{◌≡◌, ◌++◌, drop}
use Rattle.sql_tree.specs.Plain.{plan_of}
use Rattle.server_words.specs.Draws.{drawn_from, draws_from, draws_of}
use Rattle.statement_acts.proofs.draws.draws_of.Given as goal

abbrev pub invariant-loop-place : goal.invariant-loop-place
invariant-loop-place l = l.draws ++ drawn_from (draws_from (plan_of l.statement)) l.place (drop l.place l.next_values) ≡ draws_of (plan_of l.statement) l.next_values
