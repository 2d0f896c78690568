use Rattle.std.proofs.Common.{Err, Ok, inr, refl}
use Rattle.std.proofs.lemmas.Result.{err_from_is_err_and}
use Rattle.replay_cli.specs.Decision.{MayRefuseLeft, Task, ToShow, shown_of, stamp_in}
use Rattle.replay_cli.specs.Inside.Showing.{together_seen}
use Rattle.replay_cli.specs.Steps.{Is}
use Rattle.replay_cli.proofs.Refusals.{fails_weaker, no_call, together_any}
use Rattle.replay_cli.proofs.Sessions.{free_error}
use Rattle.replay_cli.proofs.StepLaws.{stops_here}
use Rattle.replay_cli.proofs.ShowSteps.{show_stamped}
use Rattle.replay_cli.proofs.showing.decide_show.Goals as goal

pub returns-in_err-stamp_in-clause-step : goal.returns-in_err-stamp_in-clause-step
returns-in_err-stamp_in-clause-step g c =
    let p = err_from_is_err_and c.from_residual-in_err-stamp_in.result c.from_residual-in_err-stamp_in.ensures.1 in
    let t = together_seen c.in_ok-found.found in
    let failure = c.in_err-stamp_in.field-0.0 in
    rw (p.1, p.2) (show_stamped c.args.capture.now c.args.out.now c.args.stamp t _ _ _ _ c.in_ok-found.ensures.step (Err failure)
    (stops_here (Is (stamp_in c.args.stamp t.legal.calls)) (λ one. Is (Ok (ToShow (shown_of t) c.args.stamp))) failure (rw c.as_slice.ensures at c.in_err-stamp_in.ensures.says)) (free_error (Unit {0}) Task failure c.in_err-stamp_in.ensures.free))

pub returns-clause-step : goal.returns-clause-step
returns-clause-step g c =
    let t = together_seen c.in_ok-found.found in
    show_stamped c.args.capture.now c.args.out.now c.args.stamp t _ _ _ _ c.in_ok-found.ensures.step _ (tt, rw c.as_slice.ensures at c.in_ok-stamp_in.ensures.says, refl) tt

pub returns-clause-work : goal.returns-clause-work
returns-clause-work g c =
    let whole = c.in_ok-found.ensures.whole in
    (record { facts = whole.facts; count = whole.count; stamps = whole.stamps }, rw c.as_slice.ensures at c.in_ok-stamp_in.ensures.within)

pub returns-clause-task : goal.returns-clause-task
returns-clause-task g c = (refl, (together_seen c.in_ok-found.found, c.in_ok-found.ensures.whole.together, refl))

pub returns-in_err-found-clause-refused : goal.returns-in_err-found-clause-refused
returns-in_err-found-clause-refused g c =
    let p = err_from_is_err_and c.from_residual.result c.from_residual.ensures.1 in
    rw (p.1, p.2) (fails_weaker _ _ (together_any c.args.capture.now c.args.out.now c.args.stamp) c.in_err-found.field-0.0 c.in_err-found.ensures.kind)

pub returns-in_err-stamp_in-clause-refused : goal.returns-in_err-stamp_in-clause-refused
returns-in_err-stamp_in-clause-refused g c =
    let p = err_from_is_err_and c.from_residual-in_err-stamp_in.result c.from_residual-in_err-stamp_in.ensures.1 in
    let failure = c.in_err-stamp_in.field-0.0 in
    rw (p.1, p.2) (fails_weaker (MayRefuseLeft c.args.out.now c.args.stamp) _ (λ refusal h. inr h) failure (no_call c.args.out.now c.args.stamp _ failure c.in_err-stamp_in.ensures.says))
