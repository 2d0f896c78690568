use Rattle.std.proofs.Common.{◌≡◌, Bool, List, length, subst, sym}
use Rattle.std.specs.Prelude.{Vec}
use Rattle.std.specs.declared.alloc.Global.{Global}
use Rattle.desk_values.specs.declared.capture.Event.{Event}
use Rattle.replay_job.specs.Job.{seen}
use Rattle.replay_job.specs.Replays.{IsReplay}
use Rattle.replay_walk.specs.Walked.{AreOpen, AreTold}
use Rattle.replay_walk.specs.Inside.Walking.{IsWalkedTo}
use Rattle.replay_walk.proofs.Walking.{are_open, are_told}
use Rattle.replay_walk.proofs.along.walk.Goals as goal

pub gone_along-requires-clause-replay : goal.gone_along-requires-clause-replay
gone_along-requires-clause-replay c =
    let last = c.requires.complete.0 in
    (last, subst (λ (events : List Event). IsReplay (seen c.args.job.now) events last) (sym c.as_slice.ensures) (record { sound = c.requires.sound; complete = c.requires.complete.1 }))

pub returns-clause-open_calls : goal.returns-clause-open_calls
returns-clause-open_calls c = λ reads.
    let job = seen c.args.job.now in
    let history = c.args.history.now.items in
    let walk = c.in_ok-walk.walk in
    let walked = subst (λ (events : List Event). IsWalkedTo job c.args.asks events (length events) walk) c.as_slice.ensures c.in_ok-walk.ensures in
    subst (λ (v : Vec Bool Global). AreOpen job history v.items) (sym c.told.ensures.open_calls)
    (are_open job c.args.asks history c.requires.complete.0 (record { sound = c.requires.sound; complete = c.requires.complete.1 }) walk walked reads)

pub returns-clause-twins : goal.returns-clause-twins
returns-clause-twins c =
    let job = seen c.args.job.now in
    let history = c.args.history.now.items in
    let walk = c.in_ok-walk.walk in
    let walked = subst (λ (events : List Event). IsWalkedTo job c.args.asks events (length events) walk) c.as_slice.ensures c.in_ok-walk.ensures in
    subst (λ (v : Vec Bool Global). AreTold job history c.args.asks.twins.now v.items) (sym c.told.ensures.twins)
    (are_told job c.args.asks history c.requires.complete.0 (record { sound = c.requires.sound; complete = c.requires.complete.1 }) walk walked)
