use Rattle.std.proofs.Common.{◌∷◌, Bool, true, false, List, map, refl, ap, sym, ◌∙◌}
use Rattle.std.specs.List.{list_any}
use denote.Ref.{Bor}
use Rattle.desk_values.specs.declared.value.Image.{Image}
use Rattle.sql_eval.specs.Totals.{looked_at}
use Rattle.server_words.specs.Rows.{row_key}
use Rattle.server_words.specs.Writes.{repeats_key}
use Rattle.visited_rows.specs.Inside.Indexed.{committed_rows, staying}
use Rattle.machine_stores.specs.Index.{row_under}
use Rattle.visited_rows.proofs.Twice.{meets, twice_changed, twice_staying}
use Rattle.visited_rows.proofs.basis.makes_indexed_twice.Goals as goal
use Rattle.visited_rows.proofs.basis.makes_indexed_twice.Goals.{then-meets_staying, else-meets_staying}

pub returns-then-branch : goal.returns-then-branch
returns-then-branch c =
    twice_changed (row_under c.args.indexed.index.now) (committed_rows c.args.indexed.basis) c.requires.rows c.requires.finds c.args.with.level (looked_at c.args.indexed.changes.now) c.requires.changes
    (looked_at c.in_ok-changed.changed.items) c.in_ok-changed.ensures c.args.new.now (sym c.if-branch.true ∙ c.in_ok-makes_key_twice.ensures ∙ ap (λ (seen : List (Bor Image)). repeats_key c.args.with.level (map row_key (c.args.new.now ∷ looked_at seen))) c.deref.ensures.value)

pub returns : goal.returns
returns c =
    let changed = sym c.if-branch.false ∙ c.in_ok-makes_key_twice.ensures ∙ ap (λ (seen : List (Bor Image)). repeats_key c.args.with.level (map row_key (c.args.new.now ∷ looked_at seen))) c.deref.ensures.value in
    let so = λ (met : Bool) (some : Bool). twice_staying (row_under c.args.indexed.index.now) (committed_rows c.args.indexed.basis) c.requires.rows c.requires.finds c.args.with.level (looked_at c.args.indexed.changes.now) c.requires.changes
    (looked_at c.in_ok-changed.changed.items) c.in_ok-changed.ensures c.args.new.now met some changed in
    elim c.if-meets_staying.branch [
      | then-meets_staying w ↦ w.result-is ∙ w.if-meets_staying.true ∙ so true _ (sym w.if-meets_staying.true ∙ c.meets_staying.ensures) refl
      | else-meets_staying w ↦ w.result-is ∙ so false w.some_meets_staying.result (sym w.if-meets_staying.false ∙ c.meets_staying.ensures) (w.some_meets_staying.ensures ∙ ap (λ (seen : List (Bor Image)). list_any (meets c.args.with.level (staying (committed_rows c.args.indexed.basis) (looked_at c.args.indexed.changes.now))) (looked_at seen)) w.deref-else-meets_staying.ensures.value)
    ]
