use Rattle.std.proofs.Common.{true, arith, refl, subst, sym, List}
use Rattle.std.proofs.lemmas.List.{drop_all}
use denote.Ref.{Bor}
use Rattle.desk_values.specs.declared.value.Image.{Image}
use Rattle.row_versions.specs.History.{AreRowsAt}
use Rattle.sql_eval.specs.Totals.{looked_at}
use Rattle.machine_stores.specs.Index.{HasRows}
use Rattle.machine_stores.specs.Tables.{told_at}
use Rattle.server_words.proofs.Looks.{front_of}
use Rattle.machine_stores.proofs.Noting.{nothing_noted}
use Rattle.machine_stores.proofs.index.KeyIndex.of.Goals as goal

pub rows_at-requires : goal.rows_at-requires
rows_at-requires c = c.requires.floor

pub loop-image-init : goal.loop-image-init
loop-image-init c =
    let read = subst (λ (l : List (Bor Image)). AreRowsAt c.args.versions.now.list c.args.number (looked_at l)) (sym c.deref-image-items.ensures.value) c.in_ok-rows.ensures in
    nothing_noted (record { is_kept = true; prints = c.new.result }) c.args.versions.now c.args.number (looked_at c.deref-image-items.result.now) read

pub loop-image-preserved : goal.loop-image-preserved
loop-image-preserved c = c.note.ensures c.image-item.result.now _ refl (subst (λ (l : List (Bor Image)). HasRows c.loop-image.index (told_at c.args.versions.now.list c.args.number) (looked_at l)) (front_of c.deref-image-items.result.now c.loop-image.image-index c.image-item.result (omega arith) c.image-item.is) c.loop-image.invariant)

pub returns : goal.returns
returns c = subst (λ (l : List (Bor Image)). HasRows c.loop-image.index (told_at c.args.versions.now.list c.args.number) (looked_at l)) (drop_all c.loop-image.image-index c.deref-image-items.result.now (omega arith)) c.loop-image.invariant
