use Rattle.std.proofs.Common.{◌<◌, arith, inl, inr, refl, length}
use Rattle.std.proofs.lemmas.Bool.{leb-true, le-leb, cases_lt, both_ways}
use Rattle.commit_gate.specs.Gates.{is_in}
use Rattle.commit_gate.specs.Inside.Heads.{IsHead}
use Rattle.commit_gate.proofs.gate.Gate.done_of.Goals as goal

pub returns-in-Some : goal.returns-in-Some
returns-in-Some c =
    let a = c.self.inside in
    let at = c.in-Some.head.now in
    let head : IsHead a.facts a.answered.items c.args.session at = rw (← c.in-Some.ensures.value) at (c.self.invariant.heads c.args.session) in
    rw (← c.self.view_is) (
      λ is k lt own. let past = leb-true _ _ is in head.below k (omega (arith, c.len.ensures)) own,
      λ done.
          elim (cases_lt at c.len.result) [
            | inl lt ↦
                let within : at < length a.facts = omega (arith, c.len.ensures) in
                absurd (both_ways (is_in a.answered.items at) (head.unanswered within) (done at within (head.own within)))
            | inr over ↦ le-leb _ _ over
          ],
    )

pub returns-in-None : goal.returns-in-None
returns-in-None c =
    let none = rw (← c.in-None.ensures.value) at (c.self.invariant.heads c.args.session) in
    rw (← c.self.view_is) (λ _ k lt own. absurd (none k (omega arith) lt own), λ _. refl)
