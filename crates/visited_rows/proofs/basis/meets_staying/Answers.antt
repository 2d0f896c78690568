use Rattle.std.proofs.Common.{◌∙◌, None, Some, ap, refl}
use Rattle.std.specs.Option.{option_and_then}
use Rattle.desk_values.specs.declared.value.Value.{Value}
use Rattle.sql_eval.specs.Totals.{looked_at}
use Rattle.same_keys.specs.Print.{print_of}
use Rattle.server_words.specs.Rows.{row_key, row_at}
use Rattle.visited_rows.specs.Inside.Indexed.{committed_rows}
use Rattle.machine_stores.specs.Index.{row_under}
use Rattle.visited_rows.proofs.Twice.{meets_gone, meets_nobody, meets_same}
use Rattle.visited_rows.proofs.basis.meets_staying.Goals as goal

pub returns-in_default : goal.returns-in_default
returns-in_default c =
    meets_nobody (row_under c.args.indexed.index.now) (committed_rows c.args.indexed.basis) c.requires.rows c.requires.finds c.args.with.level (row_key c.args.image.now) None
    (c.in_default.ensures ∙ ap (λ (key : Value). option_and_then (λ row. row_at row (committed_rows c.args.indexed.basis)) (row_under c.args.indexed.index.now (print_of key))) c.row_key-key.ensures) (looked_at c.args.indexed.changes.now) refl

pub returns-then-not-is_changed : goal.returns-then-not-is_changed
returns-then-not-is_changed c =
    meets_same (row_under c.args.indexed.index.now) (committed_rows c.args.indexed.basis) c.requires.rows c.requires.finds c.args.with.level (row_key c.args.image.now) (Some c.in-Some.other.now)
    (c.in-Some.ensures ∙ ap (λ (key : Value). option_and_then (λ row. row_at row (committed_rows c.args.indexed.basis)) (row_under c.args.indexed.index.now (print_of key))) c.row_key-key.ensures) (looked_at c.args.indexed.changes.now) c.in-Some.other.now refl
    c.is_changed.result c.same_key.result c.if-not-is_changed.true c.is_changed.ensures (rw (c.row_key-key.ensures, c.row_key.ensures) at c.same_key.ensures)

pub returns-else-not-is_changed : goal.returns-else-not-is_changed
returns-else-not-is_changed c =
    meets_gone (row_under c.args.indexed.index.now) (committed_rows c.args.indexed.basis) c.requires.rows c.requires.finds c.args.with.level (row_key c.args.image.now) (Some c.in-Some.other.now)
    (c.in-Some.ensures ∙ ap (λ (key : Value). option_and_then (λ row. row_at row (committed_rows c.args.indexed.basis)) (row_under c.args.indexed.index.now (print_of key))) c.row_key-key.ensures) (looked_at c.args.indexed.changes.now) c.in-Some.other.now refl
    c.is_changed.result c.if-not-is_changed.false c.is_changed.ensures
