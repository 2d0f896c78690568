use Rattle.std.proofs.Common.{◌≡◌, ◌∙◌, List, ap, refl}
use Rattle.desk_values.specs.declared.capture.Event.{Event}
use Rattle.replay_history.specs.declared.report.Report.{Report}
use Rattle.replay_history.specs.Texts.{journal_text, report_text, tables_text}
use Rattle.remap_ids.specs.MapsText.{maps_text}
use Rattle.replay_job.specs.Job.{JobView}
use Rattle.replay_job.specs.Runs.{end_tables, learnt_in}
use Rattle.replay_report.specs.Differences.{csv_text}
use Rattle.replay_report.specs.Report.{report_in}
use Rattle.replay_cli.proofs.Written.{maps_are}
use Rattle.replay_cli.proofs.plan.history_files.Goals as goal

pub returns : goal.returns
returns c =
    let job = c.args.desk.now.job in
    let history = c.args.desk.now.history in
    let last = c.args.desk.now.stage in
    let journal : c.in_ok-journal.journal ≡ journal_text job.mode history = c.in_ok-journal.ensures ∙ ap (λ (h : List Event). journal_text c.job-job.result.now.mode h) c.history-history.ensures ∙ ap (λ (j : JobView). journal_text j.mode history) c.job-job.ensures in
    let text : c.in_ok-text.text ≡ report_text (report_in job history) = c.in_ok-text.ensures ∙ ap report_text c.requires.report in
    let table : c.in_ok-table.table ≡ csv_text job.calls history (report_in job history).lines =
    c.in_ok-table.ensures ∙ ap (λ (h : List Event). csv_text c.job-job.result.now.calls.items h c.args.report.now.lines) c.history-history.ensures ∙ ap (λ (j : JobView). csv_text j.calls history c.args.report.now.lines) c.job-job.ensures
    ∙ ap (λ (r : Report). csv_text job.calls history r.lines) c.requires.report in
    let tables : c.in_ok-tables-2.tables ≡ tables_text (end_tables last.state) = c.in_ok-tables-2.ensures ∙ ap tables_text c.in_ok-tables.ensures.value in
    let maps : c.in_ok-maps.maps ≡ maps_text (learnt_in job.calls history) = c.in_ok-maps.ensures ∙ maps_are job history last c.map.result.now.pairs c.map.result.now.own c.requires.replay.replay c.map.ensures.pairs c.map.ensures.own in
    rw (c.in_ok-push-5.ensures.ok, c.in_ok-push-4.ensures.ok, c.in_ok-push-3.ensures.ok, c.in_ok-push-2.ensures.ok, c.in_ok-push.ensures.ok, c.new-writes.ensures, c.in_ok-write_in.ensures, c.in_ok-write_in-2.ensures, c.in_ok-write_in-3.ensures, c.in_ok-write_in-4.ensures, c.in_ok-write_in-5.ensures, journal, text, table, tables, maps) refl
