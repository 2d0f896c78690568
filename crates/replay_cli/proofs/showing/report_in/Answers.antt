use Rattle.std.proofs.Common.{None, inl, inr}
use Rattle.std.proofs.lemmas.Result.{err_from_is_err_and}
use Rattle.replay_cli.specs.Inside.Steps.{IsUntaken}
use Rattle.replay_cli.specs.Decision.{MayRefuseLeft}
use Rattle.replay_cli.proofs.Refusals.{bad_left_report, fails_weaker, untaken_left}
use Rattle.replay_cli.proofs.showing.report_in.Goals as goal

pub returns-in_err-bytes-clause-kind : goal.returns-in_err-bytes-clause-kind
returns-in_err-bytes-clause-kind g c =
    let p = err_from_is_err_and c.from_residual-in_err-bytes.result c.from_residual-in_err-bytes.ensures.1 in
    rw (p.1, p.2) (fails_weaker (IsUntaken c.in_ok-name.name) (MayRefuseLeft c.args.out.now None) (untaken_left c.args.out.now c.in_ok-name.name (inr c.in_ok-name.ensures)) c.in_err-bytes.field-0.0 c.in_err-bytes.ensures.kind)

pub returns-in_err-report-clause-kind : goal.returns-in_err-report-clause-kind
returns-in_err-report-clause-kind g c =
    let p = err_from_is_err_and c.from_residual-in_err-report.result c.from_residual-in_err-report.ensures.1 in
    rw (p.1, p.2) (bad_left_report c.args.out.now c.in_ok-name.name c.in_ok-bytes.bytes c.in_ok-name.ensures c.in_err-report.field-0.0 c.in_err-report.ensures.says)
