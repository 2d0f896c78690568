use Rattle.std.proofs.Common.{◌∙◌, Bor, List, ℕ, map, sym}
use Rattle.desk_schema.proofs.Edits.{edit_fits}
use Rattle.desk_schema.proofs.change.changed.Goals as goal

pub edited-requires : goal.edited-requires
edited-requires c = edit_fits c.args.start.now (map (λ (field : Bor (List ℕ)). field.now) c.deref.result.now) c.in-Some.edit (sym c.in_ok-edit.ensures ∙ c.in-Some.is)
