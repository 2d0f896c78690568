use Rattle.std.proofs.Common.{◌≡◌, ◌∙◌, List, ℕ, length, drop, ap, refl}
use Rattle.desk_values.specs.declared.capture.Event.{Event}
use Rattle.id_pairs.specs.Pairs.{IdPair}
use Rattle.replay_history.specs.declared.report.Report.{Report}
use Rattle.replay_history.specs.Texts.{journal_text, report_text}
use Rattle.remap_ids.specs.IdMap.{start_pairs}
use Rattle.remap_ids.specs.MapsText.{maps_text}
use Rattle.replay_job.specs.Job.{JobView}
use Rattle.replay_report.specs.Differences.{csv_text}
use Rattle.replay_report.specs.Report.{heard_report_in}
use Rattle.remote_desk.specs.History.{pairs_behind, plain}
use Rattle.replay_cli.proofs.sending.sent_files.Goals as goal

pub returns : goal.returns
returns c =
    let job = c.args.desk.now.job in
    let events = c.args.desk.now.events in
    let journal : c.in_ok-journal.journal ≡ journal_text job.mode (plain events) = c.in_ok-journal.ensures ∙ ap (λ (h : List Event). journal_text c.job-job.result.now.mode h) c.requires.history ∙ ap (λ (j : JobView). journal_text j.mode (plain events)) c.job-job.ensures in
    let text : c.in_ok-text.text ≡ report_text (heard_report_in job (plain events)) = c.in_ok-text.ensures ∙ ap report_text c.requires.report in
    let table : c.in_ok-table.table ≡ csv_text job.calls (plain events) (heard_report_in job (plain events)).lines =
    c.in_ok-table.ensures ∙ ap (λ (h : List Event). csv_text c.job-job.result.now.calls.items h c.args.report.now.lines) c.requires.history ∙ ap (λ (j : JobView). csv_text j.calls (plain events) c.args.report.now.lines) c.job-job.ensures
    ∙ ap (λ (r : Report). csv_text job.calls (plain events) r.lines) c.requires.report in
    let maps : c.in_ok-maps.maps ≡ maps_text (drop (length (start_pairs job.start)) (pairs_behind job events)) =
    c.in_ok-maps.ensures ∙ ap (λ (n : ℕ). maps_text (drop n c.map.result.now.pairs)) c.map.ensures.own ∙ ap (λ (ps : List IdPair). maps_text (drop (length (start_pairs job.start)) ps)) (c.map.ensures.pairs ∙ c.requires.kept.pairs) in
    rw (c.in_ok-push-4.ensures.ok, c.in_ok-push-3.ensures.ok, c.in_ok-push-2.ensures.ok, c.in_ok-push.ensures.ok, c.new-writes.ensures, c.in_ok-write_in.ensures, c.in_ok-write_in-2.ensures, c.in_ok-write_in-3.ensures, c.in_ok-write_in-4.ensures, journal, text, table, maps) refl
