use Rattle.std.proofs.Common.{arith}
use Rattle.std.proofs.lemmas.Result.{err_from_is_err_and}
use Rattle.register_work.proofs.Runs.{bad_stops, got_more}
use Rattle.register_work.proofs.reading.append_runs.Goals as goal

pub returns-in_err-report-clause-stops : goal.returns-in_err-report-clause-stops
returns-in_err-report-clause-stops c =
    let p = err_from_is_err_and c.from_residual.result c.from_residual.ensures.1 in
    rw (p.1, p.2) (bad_stops c.args.runs.now c.loop-run.run-index c.run-item.result (omega arith) c.run-item.is c.args.to.now c.loop-run.to c.in_err-report.field-0.0 c.loop-run.invariant (rw c.as_slice.ensures at c.in_err-report.ensures.stops))

pub loop-run-preserved : goal.loop-run-preserved
loop-run-preserved c =
    got_more c.args.runs.now c.loop-run.run-index c.run-item.result (omega arith) c.run-item.is c.args.to.now c.loop-run.to c.append_run.new.to c.in_ok-report.report c.loop-run.invariant (rw c.as_slice.ensures at c.in_ok-report.ensures.report) c.in_ok-append_run.ensures
