use Rattle.std.proofs.Common.{ap, sym, ◌∙◌}
use Rattle.row_versions.specs.History.{left_of}
use Rattle.machine_stores.proofs.Storing.{left_gone, left_there}
use Rattle.machine_stores.proofs.tables.row_at.Goals as goal
use Rattle.machine_stores.proofs.tables.row_at.Goals.{in_default-via-in-Some+else-is_some, in_default-via-in_default}

pub row_at-requires : goal.row_at-requires
row_at-requires c = c.requires

pub returns-in-Some : goal.returns-in-Some
returns-in-Some c = sym (left_there c.in-Some.image.now (sym c.is_some.ensures ∙ c.if-is_some.true)) ∙ ap left_of c.in-Some.ensures

pub returns-in_default : goal.returns-in_default
returns-in_default c = elim c.in_default.branch [
  | in_default-via-in-Some+else-is_some w ↦ sym (left_gone w.in-Some.image.now (sym w.is_some.ensures ∙ w.if-is_some.false)) ∙ ap left_of w.in-Some.ensures
  | in_default-via-in_default w ↦ ap left_of w.in_default.ensures
]
