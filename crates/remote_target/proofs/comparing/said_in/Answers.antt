use Rattle.std.proofs.Common.{◌∙◌, ◌++◌, ap, length, subst, sym}
use Rattle.std.specs.List.{flat_map}
use Rattle.std.proofs.lemmas.List.{take_all}
use Rattle.replay_job.specs.Job.{JobView}
use Rattle.remote_desk.specs.Said.{said_at, said_in}
use Rattle.remote_target.specs.Inside.{ArePlaces}
use Rattle.remote_target.proofs.Stepping.{flat_more}
use Rattle.remote_target.proofs.comparing.said_in.Goals as goal

pub push_said-requires : goal.push_said-requires
push_said-requires c =
    let desk = c.args.desk.now in
    let calls = c.as_slice-calls.ensures ∙ ap (λ (job : JobView). job.calls) c.job.ensures in
    let events = c.as_slice-events.ensures ∙ c.events.ensures in
    subst (λ l. ArePlaces l (length c.as_slice-calls.result.now) c.args.replies.now) (sym events) (subst (λ l. ArePlaces desk.events (length l) c.args.replies.now) (sym calls) c.requires)

pub loop-event-preserved : goal.loop-event-preserved
loop-event-preserved c =
    let events = c.as_slice-events.result.now in
    let says = said_at c.as_slice-calls.result.now events c.args.session in
    c.in_ok-push_said.ensures ∙ ap (λ l. l ++ says c.event-item.result) c.loop-event.invariant ∙ sym (flat_more says events c.loop-event.event-index c.event-item.result c.loop-event-test.true c.event-item.is)

pub returns : goal.returns
returns c =
    let desk = c.args.desk.now in
    let session = c.args.session in
    let calls = c.as_slice-calls.result.now in
    let events = c.as_slice-events.result.now in
    let calls_is = c.as_slice-calls.ensures ∙ ap (λ (job : JobView). job.calls) c.job.ensures in
    let events_is = c.as_slice-events.ensures ∙ c.events.ensures in
    c.loop-event.invariant ∙ ap (flat_map (said_at calls events session)) (take_all c.loop-event.event-index events c.loop-event-test.false)
    ∙ ap (λ l. said_in l events session) calls_is ∙ ap (λ l. said_in desk.job.calls l session) events_is
