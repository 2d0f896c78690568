use Rattle.std.proofs.Common.{◌∷◌, ◌++◌, ℕ, List, [], refl, subst}
use Rattle.hold_index.specs.Told.{PrintsMove, Told, print_in}
use Rattle.hold_index.proofs.Telling.{prints_held}
use Rattle.hold_index.proofs.index.HoldIndex.hold_key.Goals as goal

pub returns : goal.returns
returns c =
    let old : Told = record { is_kept = c.self.inside.is_kept; rows = c.self.inside.rows.sessions.entries; prints = c.self.inside.prints.sessions.entries } in
    let new : Told = record { is_kept = c.hold-stands.result; rows = c.self.inside.rows.sessions.entries; prints = c.hold-stands.new.numbers.sessions.entries } in
    subst (λ (t : Told). (list : List ℕ) → PrintsMove t new c.args.session list (list ++ print_in c.args.table c.args.key.now ∷ [])) c.self.view_is
    (subst (λ (n : ℕ). (list : List ℕ) → PrintsMove old new c.args.session list (list ++ n ∷ [])) c.print_in-print.ensures
    (prints_held old new c.args.session c.print_in-print.result c.hold-stands.ensures.kept c.hold-stands.ensures.free c.hold-stands.ensures.added refl))
