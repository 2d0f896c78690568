use Rattle.std.proofs.Common.{◌∙◌, length, ap}
use Rattle.std.specs.Prelude.{nat_lt}
use Rattle.replay_history.specs.declared.report.Report.{Report}
use Rattle.replay_cli.specs.Lines.{replayed_line}
use Rattle.replay_cli.proofs.sending.sent.Goals as goal

pub returns : goal.returns
returns c =
    let lines = ap (λ (r : Report). length r.lines) c.in_ok-report.ensures in
    let divergent = c.len-divergent.ensures ∙ lines in
    let calls = ap (λ n. replayed_line n c.len-divergent.result) c.call_count.ensures in
    let line = c.in_ok-line.ensures ∙ calls ∙ ap (replayed_line (length c.args.desk.now.job.calls)) divergent in
    record { line = line; differs = ap (nat_lt 0) divergent; writes = c.in_ok-writes.ensures }
