use Rattle.std.proofs.Common.{refl}
use Rattle.std.proofs.lemmas.Bool.{both_ways, false≢true}
use Rattle.std.proofs.lemmas.Result.{IfOk-weaker}
use Rattle.replay_job.specs.Job.{seen}
use Rattle.replay_walk.specs.Inside.Passing.{AreKept, HaveTold, IsToldOn, IsToldTwin, stage_of}
use Rattle.replay_walk.proofs.Captures.{came_to}
use Rattle.replay_walk.proofs.Both.{told_kept_on, told_still}
use Rattle.replay_walk.proofs.Meeting.{may_tell_on, other_calls, other_footings, told_on, twin_alone}
use Rattle.replay_walk.proofs.servers.Servers.is_twin_of.Goals as goal

pub footing-requires : goal.footing-requires
footing-requires c = (c.requires.may.sound.replayable.legal.each c.args.call.now.stamp c.args.call.now c.requires.may.at).session

-- another call was sent
pub returns-then-not-branch-clause-told : goal.returns-then-not-branch-clause-told
returns-then-not-branch-clause-told c = λ captured came. (
  λ is. absurd (false≢true is),
  λ twin. absurd (other_calls (seen c.args.job.now) c.args.call.now c.args.met.now c.args.self.now c.requires.may c.know_map.ensures captured came c.schema.result.now c.schema.ensures.value c.args.sent.now c.requires.sent
      (λ parts. both_ways c.in_ok-are_twin_calls.field-0 c.if-not-branch.true (c.in_ok-are_twin_calls.ensures.1 parts)) twin),
)

pub returns-then-not-branch-clause-rest : goal.returns-then-not-branch-clause-rest
returns-then-not-branch-clause-rest c = told_still (seen c.args.job.now) c.args.call.now.stamp c.args.self.now c.requires.may.both

-- it stands on something else
pub returns-then-not-branch-2-clause-told : goal.returns-then-not-branch-2-clause-told
returns-then-not-branch-2-clause-told c = λ captured came. (
  λ is. absurd (false≢true is),
  λ twin. absurd (other_footings (seen c.args.job.now) c.args.call.now c.args.met.now c.args.self.now c.requires.may c.know_map.ensures captured came c.schema.result.now c.schema.ensures.value c.args.sent.now c.requires.sent
      c.in_ok-meets.meets c.in_ok-meets.ensures.footing
      (λ twins. both_ways c.in_ok-twin_footings.field-0 c.if-not-branch-2.true (c.in_ok-twin_footings.ensures.1 twins)) twin),
)

pub returns-then-not-branch-2-clause-rest : goal.returns-then-not-branch-2-clause-rest
returns-then-not-branch-2-clause-rest c = told_still (seen c.args.job.now) c.args.call.now.stamp c.args.self.now c.requires.may.both

-- it is on a table
pub is_twin_on-requires : goal.is_twin_on-requires
is_twin_on-requires c =
    let came = came_to (seen c.args.job.now) c.requires.may.sound.replayable c.args.call.now.stamp in
    may_tell_on (seen c.args.job.now) c.args.call.now c.args.met.now c.args.self.now c.requires.may c.know_map.ensures came.0 came.1 c.schema.result.now c.schema.ensures.value c.args.sent.now c.requires.sent c.in_ok-meets.meets c.in_ok-meets.ensures.footing c.in_ok-meets.ensures.changes_rise
    c.in-Some.table c.in-Some.is (c.in_ok-twin_footings.ensures.0 c.if-not-branch-2.false)
    (c.requires.may.sound.replayable.legal.each c.args.call.now.stamp c.args.call.now c.requires.may.at).session

pub returns-in-Some-clause-told : goal.returns-in-Some-clause-told
returns-in-Some-clause-told c =
    let job = seen c.args.job.now in
    let call = c.args.call.now in
    IfOk-weaker c.is_twin_on.result (IsToldOn c.in-Some.table c.args.met.now.footing c.in_ok-meets.meets c.args.self.now) (IsToldTwin job call (stage_of c.args.self.now))
    (λ twin told captured came.
    let both = told_on job call c.args.met.now c.args.self.now c.requires.may c.know_map.ensures captured came c.schema.result.now c.schema.ensures.value c.args.sent.now c.requires.sent
    c.in_ok-meets.meets c.in_ok-meets.ensures.footing c.in_ok-meets.ensures.changes_rise c.in-Some.table c.in-Some.is (c.in_ok-twin_footings.ensures.0 c.if-not-branch-2.false) (c.in_ok-are_twin_calls.ensures.0 c.if-not-branch.false) in
    (λ is. both.1 (told.0 is), λ is. told.1 (both.0 is))) c.is_twin_on.ensures.told

pub returns-in-Some-clause-rest : goal.returns-in-Some-clause-rest
returns-in-Some-clause-rest c =
    let job = seen c.args.job.now in
    let new = c.is_twin_on.new.self in
    IfOk-weaker c.is_twin_on.result (λ _. AreKept new) (λ _. HaveTold job c.args.call.now.stamp c.args.self.now new)
    (λ twin kept. told_kept_on job c.args.call.now.stamp c.args.self.now new c.is_twin_on.ensures.replay c.is_twin_on.ensures.map c.is_twin_on.ensures.behind kept c.requires.may.both) c.is_twin_on.ensures.kept

-- it is on none
pub returns-clause-told : goal.returns-clause-told
returns-clause-told c = λ captured came. (
  λ is. twin_alone (seen c.args.job.now) c.args.call.now c.args.met.now c.args.self.now c.requires.may c.know_map.ensures captured came c.schema.result.now c.schema.ensures.value c.args.sent.now c.requires.sent
      c.in_ok-meets.meets c.in_ok-meets.ensures.footing c.in-None.is (c.in_ok-are_twin_calls.ensures.0 c.if-not-branch.false) (c.in_ok-twin_footings.ensures.0 c.if-not-branch-2.false),
  λ twin. refl,
)

pub returns-clause-rest : goal.returns-clause-rest
returns-clause-rest c = told_still (seen c.args.job.now) c.args.call.now.stamp c.args.self.now c.requires.may.both
