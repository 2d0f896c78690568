use Rattle.std.proofs.Common.{◌∙◌, ℕ, Bool, List, IfOk, ap, subst}
use Rattle.std.specs.Prelude.{◌↔◌, IsTrue}
use Rattle.law_server.specs.Renaming.Twins.{AreSets, IsRenamedRow}
use Rattle.replay_walk.specs.Inside.Standing.{held_captured, held_replayed}
use Rattle.replay_walk.proofs.standing.twin_held.Goals as goal

pub returns : goal.returns
returns c =
    let with = c.args.with in
    let pairs = with.map.now.pairs in
    subst (λ (ones : List ℕ). IfOk c.twin_rows.result (λ (twins : Bool). IsTrue twins ↔ AreSets (IsRenamedRow pairs) ones (held_replayed with c.args.others.now))) (c.in_ok-captured.ensures ∙ ap (held_captured with) c.as_slice.ensures)
    (subst (λ (others : List ℕ). IfOk c.twin_rows.result (λ (twins : Bool). IsTrue twins ↔ AreSets (IsRenamedRow pairs) c.in_ok-captured.captured others)) (c.in_ok-replayed.ensures ∙ ap (held_replayed with) c.as_slice-2.ensures) c.twin_rows.ensures)
