use Rattle.std.proofs.Common.{◌≡◌, List, ◌∷◌, get_or, refl, subst, sym, arith}
use Rattle.desk_values.specs.declared.value.Image.{Image}
use Rattle.machine_stores.specs.declared.index.KeyIndex.{KeyIndex}
use Rattle.machine_stores.specs.Index.{HasRows}
use Rattle.machine_stores.specs.Tables.{told_at}
use Rattle.machine_stores.proofs.Noting.{note_last}
use Rattle.machine_stores.proofs.Storing.{within_here}
use Rattle.machine_stores.proofs.index.note_image.Goals as goal

pub note-requires : goal.note-requires
note-requires c = within_here c.args.number c.args.tables.now c.args.image.now.table c.index-tables-table.result c.requires c.if-table-tables.true c.index-tables-table.is

pub returns-then-table-len : goal.returns-then-table-len
returns-then-table-len c =
    let told = told_at c.index-tables-table.result.list c.args.number in
    let notes : (first : Image) (others : List Image) → first.row ≡ c.args.image.now.row → HasRows (get_or c.args.indexes.now.items c.args.image.now.table c.index_mut.result.now) told (first ∷ others) → HasRows c.note.new.self told others =
    λ first others same has. c.note.ensures first others same (subst (λ (i : KeyIndex). HasRows i told (first ∷ others)) (sym c.index_mut.ensures.value) has) in
    note_last c.args.indexes.now.items c.args.tables.now c.args.number c.args.image.now.table c.index_mut.result.now c.note.new.self c.index-tables-table.result c.args.image.now (omega (arith, c.len.ensures, c.if-table-len.true)) c.if-table-tables.true c.index-tables-table.is refl notes
