use Rattle.std.proofs.Common.{◌≡◌, Some, subst, sym, ◌∙◌}
use Rattle.machine_stores.specs.Tables.{told_at}
use Rattle.machine_stores.proofs.Storing.{told_is}
use Rattle.machine_stores.proofs.index.KeyIndex.note.Goals as goal

pub note_row-requires-clause-among : goal.note_row-requires-clause-among
note_row-requires-clause-among c = subst (λ n. told_at c.args.versions.now.list c.args.number n ≡ Some c.in-Some.image.now) (sym (told_is c.args.row c.args.number c.args.versions.now.list c.in-Some.image.now (sym c.in-Some.ensures))) (sym c.in-Some.ensures)

pub returns-in-Some : goal.returns-in-Some
returns-in-Some c = λ image rest same. c.note_row.ensures image rest (same ∙ sym (told_is c.args.row c.args.number c.args.versions.now.list c.in-Some.image.now (sym c.in-Some.ensures)))
