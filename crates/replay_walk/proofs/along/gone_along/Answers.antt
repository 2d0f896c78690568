use Rattle.std.proofs.Common.{◌≡◌, ℕ, length, refl, subst, arith}
use Rattle.std.proofs.lemmas.Option.{slice_get_read}
use Rattle.replay_job.specs.Job.{seen}
use Rattle.replay_walk.specs.Inside.Walking.{HasBegun, IsWalkedTo}
use Rattle.replay_walk.proofs.Walking.{begins, may_pass, passed}
use Rattle.replay_walk.proofs.along.gone_along.Goals as goal

pub loop-event-init : goal.loop-event-init
loop-event-init c =
    let begun = subst (λ (n : ℕ). HasBegun (seen c.args.job.now) n c.in_ok-walk.walk) c.tables_asked.ensures c.in_ok-walk.ensures in
    begins (seen c.args.job.now) c.args.asks c.args.events.now c.requires.replay.0 c.requires.replay.1 c.in_ok-walk.walk begun

pub pass-requires-clause-may : goal.pass-requires-clause-may
pass-requires-clause-may c =
    let events = c.args.events.now in
    let i = c.loop-event.event-index in
    let event = c.event-item.result in
    let at = slice_get_read events (length events) i event refl c.loop-event-test.true c.event-item.is in
    may_pass (seen c.args.job.now) c.args.asks events c.requires.replay.0 c.requires.replay.1 i c.loop-event.walk c.loop-event.invariant event at

pub loop-event-preserved : goal.loop-event-preserved
loop-event-preserved c =
    let events = c.args.events.now in
    let i = c.loop-event.event-index in
    let event = c.event-item.result in
    let at = slice_get_read events (length events) i event refl c.loop-event-test.true c.event-item.is in
    passed (seen c.args.job.now) c.args.asks events c.requires.replay.0 c.requires.replay.1 i c.loop-event.walk c.loop-event.invariant event at c.pass.new.self c.in_ok-pass.ensures

pub returns : goal.returns
returns c =
    let events = c.args.events.now in
    let place : c.loop-event.event-index ≡ length events = omega arith in
    subst (λ (n : ℕ). IsWalkedTo (seen c.args.job.now) c.args.asks events n c.loop-event.walk) place c.loop-event.invariant
