use Rattle.std.proofs.Common.{◌<◌, length, arith}
use Rattle.commit_gate.specs.View.{view_of}
use Rattle.commit_gate.proofs.Readiness.{first_is_ready, first_by_mark}
use Rattle.commit_gate.proofs.gate.Gate.first_open.Goals as goal

pub returns-then-first-len-clause-never_stuck : goal.returns-then-first-len-clause-never_stuck
returns-then-first-len-clause-never_stuck c =
    let a = c.self.inside in
    let lt : a.every.at < length a.facts = omega arith in
    rw (← c.self.view_is) (first_is_ready (view_of a) c.self.invariant.sound a.every.at (first_by_mark a c.self.invariant lt))
