use Rattle.std.proofs.Common.{◌≡◌, sym, ◌∙◌}
use Rattle.std.specs.Prelude.{true}
use Rattle.sql_tree.specs.Plain.{term_of}
use Rattle.sql_eval.specs.Value.{is_connective}
use Rattle.sql_eval.proofs.Condition.{joined_truth}
use Rattle.sql_eval.proofs.value.+truth_of.Goals as goal

pub returns-then-is_connective_op : goal.returns-then-is_connective_op
returns-then-is_connective_op t c =
    let h : is_connective c.in-Bin.op ≡ true = sym c.is_connective_op.ensures ∙ c.if-is_connective_op.true in
    rw c.in-Bin.is
    (joined_truth c.args.level c.args.row c.args.values.now c.args.binds.now c.in-Bin.op (term_of c.in-Bin.left.value) (term_of c.in-Bin.right.value) _ _ _ h (rw c.deref-then-is_connective_op.ensures at c.truth_of-left.ensures) (rw c.deref-then-is_connective_op-2.ensures at c.truth_of-right.ensures) c.connected_truths.ensures)
