use Rattle.std.proofs.Common.{None, inl, inr}
use Rattle.std.proofs.lemmas.Result.{err_from_is_err_and}
use Rattle.replay_cli.specs.Inside.Steps.{IsOverlong}
use Rattle.replay_cli.specs.Decision.{CausesOf, MayRefuseLeft}
use Rattle.replay_cli.specs.FileNames.{causes_name}
use Rattle.replay_cli.proofs.ShowSteps.{perhaps_cut, perhaps_then}
use Rattle.replay_cli.proofs.Refusals.{bad_causes, fails_weaker, overlong_left, said_kind}
use Rattle.replay_cli.proofs.showing.causes_in.Goals as goal

pub returns-in_err-found-clause-kind : goal.returns-in_err-found-clause-kind
returns-in_err-found-clause-kind g c =
    let p = err_from_is_err_and c.from_residual-in_err-found.result c.from_residual-in_err-found.ensures.1 in
    rw (p.1, p.2) (fails_weaker (IsOverlong c.in_ok-name.name) (MayRefuseLeft c.args.out.now None) (overlong_left c.args.out.now c.in_ok-name.name (inr (inl c.in_ok-name.ensures))) c.in_err-found.field-0.0 c.in_err-found.ensures.kind)

pub returns-clause-kind : goal.returns-clause-kind
returns-clause-kind g c = said_kind (CausesOf c.args.lines.now) (MayRefuseLeft c.args.out.now None) (bad_causes c.args.out.now c.args.lines.now) c.in_ok-found.found c.said_causes.result c.said_causes.ensures.says

pub returns-in_err-found-clause-step : goal.returns-in_err-found-clause-step
returns-in_err-found-clause-step g c =
    let p = err_from_is_err_and c.from_residual-in_err-found.result c.from_residual-in_err-found.ensures.1 in
    let name = causes_name c.args.out.now in
    rw (p.1, p.2) (perhaps_cut (CausesOf c.args.lines.now) name _ _ _ _ c.in_err-found.field-0.0 (rw c.in_ok-name.ensures at c.in_err-found.ensures.step))

pub returns-clause-step : goal.returns-clause-step
returns-clause-step g c =
    let name = causes_name c.args.out.now in
    perhaps_then (CausesOf c.args.lines.now) name _ _ _ _ c.in_ok-found.found (rw c.in_ok-name.ensures at c.in_ok-found.ensures.step) c.said_causes.result c.said_causes.ensures.says c.said_causes.ensures.free
