use Rattle.std.proofs.Common.{◌∙◌}
use Rattle.commit_gate.specs.declared.mark.Watch.TheVariants.{Commits}
use Rattle.commit_gate.proofs.Readiness.{front_is_kind}
use Rattle.commit_gate.proofs.gate.Gate.mark.Goals as goal

pub returns : goal.returns
returns c =
    let a = c.self.inside in
    let is = c.self.invariant in
    rw (← c.self.view_is) (c.from.ensures ∙ front_is_kind Commits a.facts a.answered.items a.commits is.answered_len is.commits)
