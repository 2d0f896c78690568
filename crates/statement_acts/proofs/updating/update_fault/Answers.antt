use Rattle.std.proofs.Common.{◌≡◌, ◌++◌, ℕ, List, map, refl, sym, ap, subst, ◌∙◌}
use Rattle.desk_values.specs.declared.value.Image.{Image}
use Rattle.sql_tree.specs.Plain.{change_of, condition_of}
use Rattle.server_words.specs.Causes.{ranked}
use Rattle.found_rows.specs.Evaluation.{env_of}
use Rattle.server_words.specs.Found.{matching}
use Rattle.server_words.specs.Rows.{lay, row_key}
use Rattle.server_words.specs.Writes.{repeats_key}
use Rattle.visited_rows.specs.Basis.{view_of_basis}
use Rattle.statement_acts.proofs.Changing.{update_rest}
use Rattle.server_words.proofs.Looks.{rising_seen}
use Rattle.statement_acts.proofs.updating.update_fault.Goals as goal

pub returns : goal.returns
returns c =
    let changes = map (change_of {N = ℕ}) c.args.says.settings.now in
    let condition = condition_of c.args.says.condition.now in
    let basis = c.args.basis in
    let view = view_of_basis basis in
    let found = matching (env_of c.args.with) condition view.rows in
    let others = basis.others.before.now ++ basis.others.after.now in
    c.ranked.ensures ∙ ap ranked (c.tested-causes.ensures ∙ update_rest (env_of c.args.with) c.args.says.columns.now view changes condition found refl c.args.first c.requires.first
    others refl c.as_slice-images.result.now (c.as_slice-images.ensures.value ∙ c.requires.images) c.args.changed.now.locked c.in_ok-duplicate.duplicate c.requires.locked
    (rising_seen basis.start.now basis.commits.now basis.session.now basis.table c.requires.is_basis.rising) (subst (λ (l : List Image). c.in_ok-duplicate.duplicate ≡ repeats_key c.args.with.level (map row_key (lay view.rows l))) (sym c.as_slice-images.ensures.value) c.in_ok-duplicate.ensures))
