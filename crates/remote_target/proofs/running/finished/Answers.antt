use Rattle.std.proofs.Common.{◌∙◌, ap, map, subst, sym}
use Rattle.replay_history.specs.History.{AnswersAll}
use Rattle.replay_job.specs.Job.{JobView}
use Rattle.replay_lanes.specs.Sessions.{sessions}
use Rattle.remote_desk.specs.Desk.{RemoteView}
use Rattle.remote_desk.specs.History.{plain}
use Rattle.remote_target.specs.Agreement.{heard_on}
use Rattle.remote_target.specs.Inside.{IsEnded, refusal_on}
use Rattle.remote_target.proofs.Ending.{ended_whole, refused_broken, succeeded}
use Rattle.remote_target.proofs.running.finished.Goals as goal

pub finish-requires-after_bounds : goal.finish-requires-after_bounds
finish-requires-after_bounds g c κs within = ap (λ (d : RemoteView). d.stopped) c.new-sending.ensures.desk ∙ c.requires.going

pub returns-in-Ok-clause-sessions : goal.returns-in-Ok-clause-sessions
returns-in-Ok-clause-sessions g c =
    let job = ap (λ (d : RemoteView). d.job) c.into_parts-desk.ensures.desk ∙ c.finish.ensures.job ∙ ap (λ (d : RemoteView). d.job) c.new-sending.ensures.desk in
    c.into_parts-desk.ensures.sessions ∙ ap (λ (j : JobView). sessions j.calls) job

pub returns-in-Err-clause-sessions : goal.returns-in-Err-clause-sessions
returns-in-Err-clause-sessions g c =
    let job = ap (λ (d : RemoteView). d.job) c.into_parts-desk.ensures.desk ∙ c.finish.ensures.job ∙ ap (λ (d : RemoteView). d.job) c.new-sending.ensures.desk in
    c.into_parts-desk.ensures.sessions ∙ ap (λ (j : JobView). sessions j.calls) job

pub returns-in-Ok-clause-outcome : goal.returns-in-Ok-clause-outcome
returns-in-Ok-clause-outcome g c =
    let desk = c.into_parts-desk.result.0 in
    let lines = c.into_parts-desk.result.1.items in
    let job = ap (λ (d : RemoteView). d.job) c.into_parts-desk.ensures.desk ∙ c.finish.ensures.job ∙ ap (λ (d : RemoteView). d.job) c.new-sending.ensures.desk in
    let all = succeeded c.finish.result c.finish.ensures.all (sym c.is_ok-done.ensures.value ∙ c.in-Ok.ensures.done) in
    let whole = subst (λ (d : RemoteView). AnswersAll d.job.calls (plain d.events)) (sym c.into_parts-desk.ensures.desk) all in
    let fair = rw c.as_slice.ensures.value at c.in-Ok.ensures.refused in
    subst (λ (j : JobView). IsEnded j (map heard_on lines) (map refusal_on lines) desk) job (ended_whole desk lines c.history_is_kept.ensures c.into_parts-desk.ensures.agree fair whole)

pub returns-in-Err-clause-outcome : goal.returns-in-Err-clause-outcome
returns-in-Err-clause-outcome g c =
    let desk = c.into_parts-desk.result.0 in
    let lines = c.into_parts-desk.result.1.items in
    let job = ap (λ (d : RemoteView). d.job) c.into_parts-desk.ensures.desk ∙ c.finish.ensures.job ∙ ap (λ (d : RemoteView). d.job) c.new-sending.ensures.desk in
    let refused = rw c.as_slice.ensures.value at c.in-Err.ensures.refused in
    refused_broken c.args.desk.job desk lines c.in-Err.error job c.history_is_kept.ensures c.into_parts-desk.ensures.agree refused
