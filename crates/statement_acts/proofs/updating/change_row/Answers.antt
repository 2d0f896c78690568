use Rattle.std.proofs.Common.{◌≡◌, ◌||◌, ◌&&◌, ◌++◌, ℕ, Bool, true, false, not, List, map, refl, ap, ◌∙◌}
use Rattle.desk_values.specs.declared.value.Value.{Value}
use Rattle.desk_values.specs.declared.value.Image.{Image}
use Rattle.desk_values.specs.Comparison.{same_key}
use Rattle.sql_tree.specs.Plain.{change_of}
use Rattle.statement_acts.specs.declared.updating.Changed.{Changed}
use Rattle.found_rows.specs.Evaluation.{env_of}
use Rattle.server_words.specs.Rows.{row_key}
use Rattle.server_words.specs.View.{keys_held}
use Rattle.server_words.specs.Writes.{is_locked_key, updated}
use Rattle.statement_acts.proofs.Adding.{any_held}
use Rattle.statement_acts.proofs.updating.change_row.Goals as goal
use Rattle.statement_acts.proofs.updating.change_row.Goals.{then-not-same_row_key+in_ok-copy+in_ok-push+in_ok-copy-2+in_ok-push-2, else-not-same_row_key}

module _ (level : ℕ) (locked : List Value) (old new : Value) where
  moves : false ≡ same_key level old new → is_locked_key level locked new ≡ (not (same_key level old new) && is_locked_key level locked new)
  moves apart = rw (← apart) refl

  stays : (b : Bool) → true ≡ same_key level old new → b ≡ (b || (not (same_key level old new) && is_locked_key level locked new))
  stays true same = refl
  stays false same = rw (← same) refl

pub returns-clause-locked : goal.returns-clause-locked
returns-clause-locked c =
    let level = c.args.with.level in
    let table = c.args.basis.table in
    let others = c.args.basis.others.before.now ++ c.args.basis.others.after.now in
    let image = c.args.image.now in
    let new = updated (env_of c.args.with) (map (change_of {N = ℕ}) c.args.settings.now) image in
    elim c.if-not-same_row_key.branch [
      | then-not-same_row_key+in_ok-copy+in_ok-push+in_ok-copy-2+in_ok-push-2 w ↦
          let apart : false ≡ same_key level (row_key image) (row_key new) = w.if-not-same_row_key.ensures ∙ ap (λ (n : Image). same_key level (row_key image) (row_key n)) c.in_ok-new.ensures in
          ap (λ (changed : Changed). changed.locked) w.changed-is
          ∙ ap (λ b. c.args.changed.now.locked || b) (w.hold_key.ensures ∙ any_held level table w.row_key-key.result.now others ∙ ap (is_locked_key level (keys_held others table)) (w.row_key-key.ensures ∙ ap row_key c.in_ok-new.ensures) ∙ moves level (keys_held others table) (row_key image) (row_key new) apart)
      | else-not-same_row_key w ↦
          let same : true ≡ same_key level (row_key image) (row_key new) = w.if-not-same_row_key.ensures ∙ ap (λ (n : Image). same_key level (row_key image) (row_key n)) c.in_ok-new.ensures in
          ap (λ (changed : Changed). changed.locked) w.changed-is ∙ stays level (keys_held others table) (row_key image) (row_key new) c.args.changed.now.locked same
    ]
