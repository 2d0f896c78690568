use Rattle.std.proofs.Common.{List, map, ap, sym, ◌∙◌}
use Rattle.std.specs.List.{list_any}
use denote.Ref.{Bor}
use Rattle.desk_values.specs.declared.value.Image.{Image}
use Rattle.sql_eval.specs.Totals.{looked_at}
use Rattle.server_words.specs.Rows.{row_key}
use Rattle.server_words.specs.Writes.{repeats_key}
use Rattle.visited_rows.specs.Inside.Indexed.{committed_rows, staying}
use Rattle.machine_stores.specs.Index.{row_under}
use Rattle.visited_rows.proofs.Twice.{laid_changed, laid_staying, meets}
use Rattle.visited_rows.proofs.basis.have_indexed_twice.Goals as goal

pub returns-then-branch : goal.returns-then-branch
returns-then-branch c =
    laid_changed (row_under c.args.indexed.index.now) (committed_rows c.args.indexed.basis) c.requires.rows c.requires.finds c.args.with.level (looked_at c.args.indexed.changes.now) c.requires.changes
    (looked_at c.in_ok-changed.changed.items) c.in_ok-changed.ensures (sym c.if-branch.true ∙ c.in_ok-repeats_key.ensures ∙ ap (λ (seen : List (Bor Image)). repeats_key c.args.with.level (map row_key (looked_at seen))) c.deref.ensures.value)

pub returns : goal.returns
returns c =
    laid_staying (row_under c.args.indexed.index.now) (committed_rows c.args.indexed.basis) c.requires.rows c.requires.finds c.args.with.level (looked_at c.args.indexed.changes.now) c.requires.changes
    (looked_at c.in_ok-changed.changed.items) c.in_ok-changed.ensures c.some_meets_staying.result (sym c.if-branch.false ∙ c.in_ok-repeats_key.ensures ∙ ap (λ (seen : List (Bor Image)). repeats_key c.args.with.level (map row_key (looked_at seen))) c.deref.ensures.value)
    (c.some_meets_staying.ensures ∙ ap (λ (seen : List (Bor Image)). list_any (meets c.args.with.level (staying (committed_rows c.args.indexed.basis) (looked_at c.args.indexed.changes.now))) (looked_at seen)) c.deref-2.ensures.value)
