use Rattle.std.proofs.Common.{◌≡◌, ◌<◌, arith, sym, length}
use Rattle.object_depends.specs.Facts.{fact_at}
use Rattle.std.proofs.lemmas.Bool.{leb-true, le-leb}
use Rattle.commit_gate.specs.Inside.Heads.{IsHead}
use Rattle.commit_gate.proofs.Sessions.{turn_by_head}
use Rattle.commit_gate.proofs.gate.Gate.is_turn.Goals as goal

pub returns-in-Some : goal.returns-in-Some
returns-in-Some c =
    let a = c.self.inside in
    let stamp : c.args.k < length a.facts = rw (← c.self.view_is) at c.requires.stamp in
    let own : c.args.session ≡ (fact_at a.facts c.args.k).session = rw (← c.self.view_is) at c.requires.session in
    let found : IsHead a.facts a.answered.items c.args.session c.in-Some.head.now = rw (← c.in-Some.ensures.value) at (c.self.invariant.heads c.args.session) in
    let head : IsHead a.facts a.answered.items (fact_at a.facts c.args.k).session c.in-Some.head.now = rw own at found in
    let both = turn_by_head a.facts a.started.items a.answered.items c.args.k c.in-Some.head.now head c.self.invariant.order stamp in
    rw (← c.self.view_is) (λ is. both.0 (leb-true _ _ is), λ turn. le-leb _ _ (both.1 turn))

pub returns-in-None : goal.returns-in-None
returns-in-None c =
    let a = c.self.inside in
    let stamp : c.args.k < length a.facts = rw (← c.self.view_is) at c.requires.stamp in
    let own : c.args.session ≡ (fact_at a.facts c.args.k).session = rw (← c.self.view_is) at c.requires.session in
    let none = rw (← c.in-None.ensures.value) at (c.self.invariant.heads c.args.session) in
    absurd (none c.args.k (omega arith) stamp (sym own))
