use Rattle.std.proofs.Common.{Err, Ok, ap, sym}
use Rattle.std.proofs.lemmas.Result.{err_from_is_err_and}
use Rattle.replay_cli.specs.declared.failure.Failure.TheVariants.{OutOfMemory}
use Rattle.replay_cli.specs.Decision.{Left}
use Rattle.replay_cli.specs.Inside.Showing.{journal_seen, left_seen}
use Rattle.replay_cli.proofs.ShowSteps.{left_all, left_no_causes, left_no_reads, left_no_report}
use Rattle.replay_cli.proofs.showing.read_left.Goals as goal

pub returns-in_err-report_bytes-clause-step : goal.returns-in_err-report_bytes-clause-step
returns-in_err-report_bytes-clause-step g c =
    let p = err_from_is_err_and c.from_residual-in_err-report_bytes.result c.from_residual-in_err-report_bytes.ensures.1 in
    rw (p.1, p.2) (left_no_report c.args.out.now _ _ _ _ (c.in_ok-journal_bytes.journal_bytes, journal_seen c.in_ok-journal_bytes.journal) c.in_ok-journal_bytes.ensures.step _ _ c.in_err-report_bytes.field-0.0 c.in_err-report_bytes.ensures.step)

pub returns-in_err-causes-clause-step : goal.returns-in_err-causes-clause-step
returns-in_err-causes-clause-step g c =
    let p = err_from_is_err_and c.from_residual-in_err-causes.result c.from_residual-in_err-causes.ensures.1 in
    rw (p.1, p.2) (left_no_causes c.args.out.now _ _ _ _ (c.in_ok-journal_bytes.journal_bytes, journal_seen c.in_ok-journal_bytes.journal) c.in_ok-journal_bytes.ensures.step _ _ (c.in_ok-report_bytes.report_bytes, c.in_ok-report_bytes.report) c.in_ok-report_bytes.ensures.step _ _ c.in_err-causes.field-0.0 (rw c.as_slice.ensures at c.in_err-causes.ensures.step))

pub returns-in_err-reads-clause-step : goal.returns-in_err-reads-clause-step
returns-in_err-reads-clause-step g c =
    let p = err_from_is_err_and c.from_residual-in_err-reads.result c.from_residual-in_err-reads.ensures.1 in
    rw (p.1, p.2) (left_no_reads c.args.out.now _ _ _ _ (c.in_ok-journal_bytes.journal_bytes, journal_seen c.in_ok-journal_bytes.journal) c.in_ok-journal_bytes.ensures.step _ _ (c.in_ok-report_bytes.report_bytes, c.in_ok-report_bytes.report) c.in_ok-report_bytes.ensures.step _ _ c.in_ok-causes.causes (rw c.as_slice.ensures at c.in_ok-causes.ensures.step) _ _ c.in_err-reads.field-0.0 c.in_err-reads.ensures.step)

pub returns-in_err-left-clause-step : goal.returns-in_err-left-clause-step
returns-in_err-left-clause-step g c =
    let p = err_from_is_err_and c.from_residual-in_err-left.result c.from_residual-in_err-left.ensures.1 in
    rw (p.1, p.2) (left_all c.args.out.now _ _ _ _ (c.in_ok-journal_bytes.journal_bytes, journal_seen c.in_ok-journal_bytes.journal) c.in_ok-journal_bytes.ensures.step _ _ (c.in_ok-report_bytes.report_bytes, c.in_ok-report_bytes.report) c.in_ok-report_bytes.ensures.step _ _ c.in_ok-causes.causes (rw c.as_slice.ensures at c.in_ok-causes.ensures.step) _ _ c.in_ok-reads.reads c.in_ok-reads.ensures.step (Err OutOfMemory) tt tt)

pub returns-clause-step : goal.returns-clause-step
returns-clause-step g c =
    left_all c.args.out.now _ _ _ _ (c.in_ok-journal_bytes.journal_bytes, journal_seen c.in_ok-journal_bytes.journal) c.in_ok-journal_bytes.ensures.step _ _ (c.in_ok-report_bytes.report_bytes, c.in_ok-report_bytes.report) c.in_ok-report_bytes.ensures.step _ _ c.in_ok-causes.causes (rw c.as_slice.ensures at c.in_ok-causes.ensures.step) _ _ c.in_ok-reads.reads c.in_ok-reads.ensures.step (Ok (left_seen c.in_ok-left.left)) (ap (λ (left : Left). Ok left) (sym c.in_ok-left.ensures.left)) tt
