use Rattle.std.proofs.Common.{◌++◌, ap, ◌∙◌}
use Rattle.server_words.specs.Causes.{ranked}
use Rattle.found_rows.specs.Evaluation.{env_of}
use Rattle.server_words.specs.View.{keys_held}
use Rattle.server_words.specs.Writes.{is_locked_key}
use Rattle.server_words.specs.Answer.{new_causes}
use Rattle.visited_rows.specs.Basis.{view_of_basis}
use Rattle.statement_acts.proofs.Adding.{any_held}
use Rattle.statement_acts.proofs.Refusing.{all_told, first_told}
use Rattle.statement_acts.proofs.inserting.insert_fault.Goals as goal

pub returns-in-Some : goal.returns-in-Some
returns-in-Some c = first_told (new_causes (env_of c.args.with) c.args.columns.now (view_of_basis c.args.basis) c.args.faults c.args.new.now) c.first-first.result _ c.in-Some.ensures (cc)

pub returns : goal.returns
returns c =
    let level = c.args.with.level in
    let others = c.args.basis.others.before.now ++ c.args.basis.others.after.now in
    let locked = c.hold_key-locked.ensures ∙ any_held level c.args.basis.table c.row_key-key.result.now others ∙ ap (is_locked_key level (keys_held others c.args.basis.table)) c.row_key-key.ensures in
    c.ranked-2.ensures ∙ ap ranked (rw c.from_ref.ensures.value at c.tested-causes.ensures ∙ all_told (new_causes (env_of c.args.with) c.args.columns.now (view_of_basis c.args.basis) c.args.faults c.args.new.now) c.first-first.result c.hold_key-locked.result c.in_ok-duplicate.duplicate (cc) locked c.in_ok-duplicate.ensures)
