use Rattle.std.proofs.Common.{◌≡◌, ◌∙◌, ap, length, sym, take, arith}
use Rattle.std.proofs.lemmas.List.{length-map}
use Rattle.std.proofs.lemmas.Result.{err_from_is_err_and}
use Rattle.replay_history.specs.History.{AnswersAll}
use Rattle.replay_job.specs.Job.{seen}
use Rattle.replay_lanes.specs.Sessions.{sessions}
use Rattle.remote_desk.specs.Desk.{RemoteView}
use Rattle.remote_desk.specs.History.{plain}
use Rattle.remote_target.specs.Dialled.{asked_for}
use Rattle.desk_files.specs.Outside.{risen_by}
use Rattle.remote_target.specs.Inside.{session_on}
use Rattle.remote_target.proofs.Dials.{all_handed, all_once, but_one_handed, first_once, none_handed, none_once}
use Rattle.remote_target.proofs.Returning.{none_unbroken, rises_on}
use Rattle.remote_target.proofs.Ending.{all_answer, all_counted, all_differ, all_jobs, all_returned, first_counted, first_returned, link_says, none_returned}
use Rattle.remote_target.proofs.running.run_by.Goals as goal

pub returns-in_err-sessions-clause-back : goal.returns-in_err-sessions-clause-back
returns-in_err-sessions-clause-back g c = let p = err_from_is_err_and c.from_residual.result c.from_residual.ensures.1 in rw (p.1, p.2) (none_returned (seen c.args.job.now) (g.L.Dial.account c.args.dial.now).content)

pub returns-in_err-sessions-clause-unbroken : goal.returns-in_err-sessions-clause-unbroken
returns-in_err-sessions-clause-unbroken g c = none_unbroken (g.L.Dial.account c.args.dial.now).content

pub returns-in_err-lines-clause-unbroken : goal.returns-in_err-lines-clause-unbroken
returns-in_err-lines-clause-unbroken g c = none_unbroken (g.L.Dial.account c.args.dial.now).content

pub returns-in-Ok-clause-unbroken : goal.returns-in-Ok-clause-unbroken
returns-in-Ok-clause-unbroken g c = rw c.dial_each.ensures.content at c.returned.ensures.unbroken

pub returns-clause-unbroken : goal.returns-clause-unbroken
returns-clause-unbroken g c = rw c.dial_each.ensures.content at c.returned-in-Err.ensures.unbroken

pub returns-in_err-sessions-clause-ends : goal.returns-in_err-sessions-clause-ends
returns-in_err-sessions-clause-ends g c = let p = err_from_is_err_and c.from_residual.result c.from_residual.ensures.1 in rw (p.1, p.2) (omega arith)

pub returns-in_err-sessions-clause-differs : goal.returns-in_err-sessions-clause-differs
returns-in_err-sessions-clause-differs g c = let p = err_from_is_err_and c.from_residual.result c.from_residual.ensures.1 in rw (p.1, p.2) tt

pub returns-in_err-lines-clause-back : goal.returns-in_err-lines-clause-back
returns-in_err-lines-clause-back g c = let p = err_from_is_err_and c.from_residual-in_err-lines.result c.from_residual-in_err-lines.ensures.1 in rw (p.1, p.2) (none_returned (seen c.args.job.now) (g.L.Dial.account c.args.dial.now).content)

pub returns-in_err-lines-clause-ends : goal.returns-in_err-lines-clause-ends
returns-in_err-lines-clause-ends g c = let p = err_from_is_err_and c.from_residual-in_err-lines.result c.from_residual-in_err-lines.ensures.1 in rw (p.1, p.2) (omega arith)

pub returns-in_err-lines-clause-differs : goal.returns-in_err-lines-clause-differs
returns-in_err-lines-clause-differs g c = let p = err_from_is_err_and c.from_residual-in_err-lines.result c.from_residual-in_err-lines.ensures.1 in rw (p.1, p.2) tt

pub replayed-lines-requires-clause-sessions : goal.replayed-lines-requires-clause-sessions
replayed-lines-requires-clause-sessions g c κs within = c.in-Ok.ensures.all ∙ c.as_slice-2.ensures ∙ c.in_ok-sessions.ensures ∙ ap sessions c.as_slice.ensures

pub returns-in-Ok-clause-job : goal.returns-in-Ok-clause-job
returns-in-Ok-clause-job g c =
    let back = rw c.dial_each.ensures.content at c.returned.ensures.returns in
    all_jobs (seen c.args.job.now) c.replayed-lines.result.0.items c.returned.result (g.L.Dial.account c.args.dial.now).content (g.L.Dial.account c.returned.new.dial).content c.replayed-lines.ensures.sessions c.replayed-lines.result.1 c.replayed-lines.ensures.outcome back

pub returns-in-Ok-clause-all : goal.returns-in-Ok-clause-all
returns-in-Ok-clause-all g c =
    let back = rw c.dial_each.ensures.content at c.returned.ensures.returns in
    all_answer (seen c.args.job.now) c.replayed-lines.result.0.items c.returned.result (g.L.Dial.account c.args.dial.now).content (g.L.Dial.account c.returned.new.dial).content c.replayed-lines.ensures.sessions c.replayed-lines.result.1 c.replayed-lines.ensures.outcome back

pub returns-in-Ok-clause-back : goal.returns-in-Ok-clause-back
returns-in-Ok-clause-back g c =
    let back = rw c.dial_each.ensures.content at c.returned.ensures.returns in
    all_returned (seen c.args.job.now) c.replayed-lines.result.0.items c.returned.result (g.L.Dial.account c.args.dial.now).content (g.L.Dial.account c.returned.new.dial).content c.replayed-lines.ensures.sessions c.replayed-lines.result.1 c.replayed-lines.ensures.outcome back

pub returns-in-Ok-clause-ends : goal.returns-in-Ok-clause-ends
returns-in-Ok-clause-ends g c =
    let back = rw c.dial_each.ensures.content at c.returned.ensures.returns in
    all_counted (seen c.args.job.now) c.replayed-lines.result.0.items c.returned.result (g.L.Dial.account c.args.dial.now).content (g.L.Dial.account c.returned.new.dial).content c.replayed-lines.ensures.sessions c.replayed-lines.result.1 c.replayed-lines.ensures.outcome
    (g.L.Dial.account c.args.dial.now).faults (g.L.Dial.account c.dial_each.new.dial).faults (g.L.Dial.account c.returned.new.dial).faults c.in-Ok.ensures.counts c.returned.ensures.counts back

pub returns-in-Ok-clause-differs : goal.returns-in-Ok-clause-differs
returns-in-Ok-clause-differs g c =
    let back = rw c.dial_each.ensures.content at c.returned.ensures.returns in
    all_differ (seen c.args.job.now) c.replayed-lines.result.0.items c.returned.result (g.L.Dial.account c.args.dial.now).content (g.L.Dial.account c.returned.new.dial).content c.replayed-lines.ensures.sessions c.replayed-lines.result.1 c.replayed-lines.ensures.outcome back

pub returns-clause-job : goal.returns-clause-job
returns-clause-job g c =
    let back = rw c.dial_each.ensures.content at c.returned-in-Err.ensures.returns in
    (link_says (seen c.args.job.now) c.dial_each.new.lines.items c.returned-in-Err.result (g.L.Dial.account c.args.dial.now).content (g.L.Dial.account c.returned-in-Err.new.dial).content (λ (desk : RemoteView). desk.job ≡ seen c.args.job.now) back).0

pub returns-clause-all : goal.returns-clause-all
returns-clause-all g c =
    let back = rw c.dial_each.ensures.content at c.returned-in-Err.ensures.returns in
    (link_says (seen c.args.job.now) c.dial_each.new.lines.items c.returned-in-Err.result (g.L.Dial.account c.args.dial.now).content (g.L.Dial.account c.returned-in-Err.new.dial).content (λ (desk : RemoteView). AnswersAll desk.job.calls (plain desk.events)) back).0

pub returns-clause-back : goal.returns-clause-back
returns-clause-back g c =
    let lines = c.dial_each.new.lines.items in
    let back = rw c.dial_each.ensures.content at c.returned-in-Err.ensures.returns in
    let first = c.dial_each.ensures.sessions ∙ ap (take (length lines)) (c.as_slice-2.ensures ∙ c.in_ok-sessions.ensures ∙ ap sessions c.as_slice.ensures) in
    first_returned (seen c.args.job.now) lines c.returned-in-Err.result (g.L.Dial.account c.args.dial.now).content (g.L.Dial.account c.returned-in-Err.new.dial).content c.dial_each.ensures.fresh first back

pub returns-clause-ends : goal.returns-clause-ends
returns-clause-ends g c =
    let lines = c.dial_each.new.lines.items in
    let back = rw c.dial_each.ensures.content at c.returned-in-Err.ensures.returns in
    let first = c.dial_each.ensures.sessions ∙ ap (take (length lines)) (c.as_slice-2.ensures ∙ c.in_ok-sessions.ensures ∙ ap sessions c.as_slice.ensures) in
    let risen = c.in-Err.ensures.counts in
    first_counted (seen c.args.job.now) lines c.returned-in-Err.result (g.L.Dial.account c.args.dial.now).content (g.L.Dial.account c.returned-in-Err.new.dial).content c.dial_each.ensures.fresh first
    (g.L.Dial.account c.args.dial.now).faults (g.L.Dial.account c.dial_each.new.dial).faults (g.L.Dial.account c.returned-in-Err.new.dial).faults risen.0 risen.1 c.returned-in-Err.ensures.counts back

pub returns-clause-differs : goal.returns-clause-differs
returns-clause-differs g c =
    let back = rw c.dial_each.ensures.content at c.returned-in-Err.ensures.returns in
    (link_says (seen c.args.job.now) c.dial_each.new.lines.items c.returned-in-Err.result (g.L.Dial.account c.args.dial.now).content (g.L.Dial.account c.returned-in-Err.new.dial).content (λ (desk : RemoteView). desk.job ≡ seen c.args.job.now) back).1

pub returns-in_err-sessions-clause-once : goal.returns-in_err-sessions-clause-once
returns-in_err-sessions-clause-once g c = let p = err_from_is_err_and c.from_residual.result c.from_residual.ensures.1 in rw (p.1, p.2) (none_once (seen c.args.job.now).calls (g.L.Dial.account c.args.dial.now).content (g.L.Dial.account c.args.dial.now))

pub returns-in_err-lines-clause-once : goal.returns-in_err-lines-clause-once
returns-in_err-lines-clause-once g c = let p = err_from_is_err_and c.from_residual-in_err-lines.result c.from_residual-in_err-lines.ensures.1 in rw (p.1, p.2) (none_once (seen c.args.job.now).calls (g.L.Dial.account c.args.dial.now).content (g.L.Dial.account c.args.dial.now))

pub returns-in-Ok-clause-once : goal.returns-in-Ok-clause-once
returns-in-Ok-clause-once g c =
    let lines = c.replayed-lines.result.0.items in
    let back = rw c.dial_each.ensures.content at c.returned.ensures.returns in
    let each = c.as_slice-2.ensures ∙ c.in_ok-sessions.ensures ∙ ap sessions c.as_slice.ensures in
    let counted = c.returned.ensures.dialled ∙ c.in-Ok.ensures.dialled ∙ ap (λ l. risen_by (length l) (g.L.Dial.account c.args.dial.now).dials) each in
    let backs = c.returned.ensures.backs ∙ ap (λ n. risen_by (length lines) n) c.dial_each.ensures.backs in
    all_once (seen c.args.job.now).calls (g.L.Dial.account c.args.dial.now).content (g.L.Dial.account c.returned.new.dial).content (g.L.Dial.account c.args.dial.now) (g.L.Dial.account c.returned.new.dial) lines c.returned.result backs c.replayed-lines.result.1 c.replayed-lines.ensures.sessions counted back

pub returns-clause-once : goal.returns-clause-once
returns-clause-once g c =
    let lines = c.dial_each.new.lines.items in
    let back = rw c.dial_each.ensures.content at c.returned-in-Err.ensures.returns in
    let each = ap length (c.as_slice-2.ensures ∙ c.in_ok-sessions.ensures ∙ ap sessions c.as_slice.ensures) in
    let few = c.in-Err.ensures.few in
    let backs = c.returned-in-Err.ensures.backs ∙ ap (λ n. risen_by (length lines) n) c.dial_each.ensures.backs in
    let risen = rises_on _ _ _ c.in-Err.ensures.counts.0 c.in-Err.ensures.counts.1 c.returned-in-Err.ensures.counts.never_falls in
    first_once (seen c.args.job.now).calls (g.L.Dial.account c.args.dial.now).content (g.L.Dial.account c.returned-in-Err.new.dial).content (g.L.Dial.account c.args.dial.now) (g.L.Dial.account c.returned-in-Err.new.dial) lines c.returned-in-Err.result backs (omega (arith, few, each)) (c.returned-in-Err.ensures.dialled ∙ c.in-Err.ensures.failed) risen back

pub returns-in_err-sessions-clause-handed : goal.returns-in_err-sessions-clause-handed
returns-in_err-sessions-clause-handed g c = none_handed (seen c.args.job.now).calls c.args.port (g.L.Dial.account c.args.dial.now)

pub returns-in_err-lines-clause-handed : goal.returns-in_err-lines-clause-handed
returns-in_err-lines-clause-handed g c = none_handed (seen c.args.job.now).calls c.args.port (g.L.Dial.account c.args.dial.now)

pub returns-in-Ok-clause-handed : goal.returns-in-Ok-clause-handed
returns-in-Ok-clause-handed g c =
    let lines = c.replayed-lines.result.0.items in
    let old = g.L.Dial.account c.args.dial.now in
    let each = c.as_slice-2.ensures ∙ c.in_ok-sessions.ensures ∙ ap sessions c.as_slice.ensures in
    let many : length lines ≡ length (sessions (seen c.args.job.now).calls) = sym (length-map lines session_on) ∙ ap length c.replayed-lines.ensures.sessions in
    let all = ap length each ∙ sym many in
    let dialled = c.returned.ensures.dialled ∙ c.in-Ok.ensures.dialled ∙ ap (λ n. risen_by n old.dials) all in
    let backs = c.returned.ensures.backs ∙ ap (λ n. risen_by (length lines) n) c.dial_each.ensures.backs in
    let asked = c.returned.ensures.port ∙ c.in-Ok.ensures.asked ∙ ap (λ n. asked_for n c.args.port old.port) all in
    all_handed (seen c.args.job.now).calls c.args.port (length lines) old (g.L.Dial.account c.returned.new.dial) backs many dialled (c.returned.ensures.failed ∙ c.in-Ok.ensures.unrefused) asked

pub returns-clause-handed : goal.returns-clause-handed
returns-clause-handed g c =
    let lines = c.dial_each.new.lines.items in
    let each = ap length (c.as_slice-2.ensures ∙ c.in_ok-sessions.ensures ∙ ap sessions c.as_slice.ensures) in
    let few = c.in-Err.ensures.few in
    let backs = c.returned-in-Err.ensures.backs ∙ ap (λ n. risen_by (length lines) n) c.dial_each.ensures.backs in
    but_one_handed (seen c.args.job.now).calls c.args.port (length lines) (g.L.Dial.account c.args.dial.now) (g.L.Dial.account c.returned-in-Err.new.dial) backs (omega (arith, few, each)) (c.returned-in-Err.ensures.dialled ∙ c.in-Err.ensures.failed) (c.returned-in-Err.ensures.failed ∙ c.in-Err.ensures.refused) (c.returned-in-Err.ensures.port ∙ c.in-Err.ensures.port)
