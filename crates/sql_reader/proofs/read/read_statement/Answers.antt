use Rattle.std.proofs.Common.{◌∙◌, subst, List, ℕ}
use Rattle.std.specs.Prelude.{IfOk, Some}
use Rattle.sql_tree.specs.Plain.{Plan, plan_of, Name}
use Rattle.sql_reader.specs.Spelling.{Spells, Returns}
use Rattle.sql_reader.proofs.Complete.{ok_spells, ok_written, only_spelled}
use Rattle.sql_reader.proofs.read.read_statement.Goals as goal

pub returns-clause-ok : goal.returns-clause-ok
returns-clause-ok c = subst (λ (t : List ℕ). IfOk c.read.result (λ s. Spells t (plan_of s))) (c.as_bytes.ensures.value ∙ c.as_str.ensures.value) (ok_spells c.as_bytes.result.now c.read.result c.read.ensures)

pub returns-clause-only : goal.returns-clause-only
returns-clause-only c = subst (λ (t : List ℕ). (s : Plan Name) → Spells t s → Returns plan_of c.read.result (Some s)) (c.as_bytes.ensures.value ∙ c.as_str.ensures.value) (only_spelled c.as_bytes.result.now c.read.result c.read.ensures)

pub returns-clause-written : goal.returns-clause-written
returns-clause-written c = ok_written c.as_bytes.result.now c.read.result c.read.ensures
