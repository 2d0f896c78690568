use Rattle.std.proofs.Common.{ℕ, [], refl, subst}
use Rattle.hold_index.specs.Told.{RowsMove, Told}
use Rattle.hold_index.proofs.Telling.{rows_freed}
use Rattle.hold_index.proofs.index.HoldIndex.free_rows.Goals as goal

pub returns : goal.returns
returns c =
    let old : Told = record { is_kept = c.self.inside.is_kept; rows = c.self.inside.rows.sessions.entries; prints = c.self.inside.prints.sessions.entries } in
    let new : Told = record { is_kept = c.self.inside.is_kept; rows = c.take_all_out.new.numbers.sessions.entries; prints = c.self.inside.prints.sessions.entries } in
    subst (λ (t : Told). (session : ℕ) → RowsMove t new session c.args.rows.now []) c.self.view_is (rows_freed old new c.args.rows.now refl c.take_all_out.ensures refl)
