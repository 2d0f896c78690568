use Rattle.std.proofs.Common.{◌∷◌, ◌++◌, ℕ, List, [], refl, subst}
use Rattle.hold_index.specs.Told.{RowsMove, Told}
use Rattle.hold_index.proofs.Telling.{rows_held}
use Rattle.hold_index.proofs.index.HoldIndex.hold_row.Goals as goal

pub returns : goal.returns
returns c =
    let old : Told = record { is_kept = c.self.inside.is_kept; rows = c.self.inside.rows.sessions.entries; prints = c.self.inside.prints.sessions.entries } in
    let new : Told = record { is_kept = c.hold-stands.result; rows = c.hold-stands.new.numbers.sessions.entries; prints = c.self.inside.prints.sessions.entries } in
    subst (λ (t : Told). (list : List ℕ) → RowsMove t new c.args.session list (list ++ c.args.row ∷ [])) c.self.view_is
    (rows_held old new c.args.session c.args.row c.hold-stands.ensures.kept c.hold-stands.ensures.free c.hold-stands.ensures.added refl)
