-- The report of a run stands as it was written behind the run, where it is to be registered.
use Rattle.std.proofs.Common.{◌≡◌, ◌≢◌, ◌∙◌, ℕ, List, [], ◌∷◌, ◌++◌, drop, length, get_or, Option, None, Some, ap, arith}
use Rattle.std.specs.Prelude.{codes}
use Rattle.std.specs.FinMap.{get, insert}
use Rattle.std.specs.List.{AllByRecursion}
use Rattle.std.proofs.lemmas.List.{append_cancel_left}
use Rattle.desk_files.specs.Outside.{FileMap}
use Rattle.desk_files.specs.Writes.{with_all}
use Rattle.desk_files.specs.declared.writes.Write.{Write}
use Rattle.desk_files.proofs.FileLaws.{get-insert_same}
use Rattle.remap_ids.specs.MapsText.{maps_text}
use Rattle.replay_history.specs.Texts.{journal_text, report_text, tables_text}
use Rattle.replay_job.specs.Runs.{end_tables, learnt_in}
use Rattle.replay_report.specs.Differences.{csv_text}
use Rattle.replay_report.specs.Report.{heard_report_in, report_in}
use Rattle.remap_ids.specs.IdMap.{start_pairs}
use Rattle.remote_desk.specs.History.{pairs_behind, plain}
use Rattle.replay_cli.specs.declared.told.Told.{Told}
use Rattle.replay_cli.specs.Done.{told_files}
use Rattle.replay_cli.specs.FileNames.{journal_name, maps_name, report_name, table_of_report_name, tables_name}
use Rattle.law_commands.specs.Commands.Reports.{RunsAreRegistered, SentReportsAreRegistered}
use Rattle.law_commands.proofs.Commands.Served.{kept}
use Rattle.law_commands.proofs.Commands.Whole.{sent_whole, whole_registered, written_registered}

module _ (out : List ℕ) where
  -- the report has another name than a file that differs from it in one letter
  apart : (other : List ℕ) (place : ℕ) → get_or (codes "/report.txt") place 0 ≢ get_or other place 0 → report_name out ≢ out ++ other
  apart other place differs same = differs (ap (λ (l : List ℕ). get_or l place 0) (append_cancel_left out (codes "/report.txt") other same))

  told_apart : (told : Told) → AllByRecursion (λ (write : Write). report_name out ≢ write.name) (told_files out told)
  told_apart told = at told.reads
    where
      causes_apart : report_name out ≢ out ++ codes "/causes.csv"
      causes_apart = apart (codes "/causes.csv") 1 (λ e. let n : 114 ≡ 99 = e in omega (arith, n))

      at : (reads : Option (List ℕ)) → AllByRecursion (λ (write : Write). report_name out ≢ write.name) (told_files out (record { reads = reads; causes = told.causes }))
      at None = (causes_apart, tt)
      at (Some stamps) = (apart (codes "/fence.txt") 1 (λ e. let n : 114 ≡ 102 = e in omega (arith, n)), (causes_apart, tt))

  -- the files that are written behind the report
  abbrev later : List ℕ → List ℕ → List ℕ → Told → List Write
  later table tables maps told =
      record { name = table_of_report_name out; bytes = table } ∷ record { name = tables_name out; bytes = tables } ∷ record { name = maps_name out; bytes = maps } ∷ told_files out told

  others : (table tables maps : List ℕ) (told : Told) → AllByRecursion (λ (write : Write). report_name out ≢ write.name) (later table tables maps told)
  others table tables maps told =
      (apart (codes "/report.csv") 8 (λ e. let n : 116 ≡ 99 = e in omega (arith, n)), (apart (codes "/tables.txt") 1 (λ e. let n : 114 ≡ 116 = e in omega (arith, n)), (apart (codes "/maps.csv") 1 (λ e. let n : 114 ≡ 109 = e in omega (arith, n)), told_apart told)))

  held : (files : FileMap) (journal report table tables maps : List ℕ) (told : Told)
      → get (with_all (record { name = journal_name out; bytes = journal } ∷ record { name = report_name out; bytes = report } ∷ later table tables maps told) files) (report_name out) ≡ Some report
  held files journal report table tables maps told =
      let first = insert files (journal_name out) journal in
      kept (later table tables maps told) (insert first (report_name out) report) (report_name out) (others table tables maps told) ∙ get-insert_same first (report_name out) report

  -- the files that are written behind the report of a replay against another server
  sent_others : (table maps : List ℕ) → AllByRecursion (λ (write : Write). report_name out ≢ write.name) (record { name = table_of_report_name out; bytes = table } ∷ record { name = maps_name out; bytes = maps } ∷ [])
  sent_others table maps = (apart (codes "/report.csv") 8 (λ e. let n : 116 ≡ 99 = e in omega (arith, n)), (apart (codes "/maps.csv") 1 (λ e. let n : 114 ≡ 109 = e in omega (arith, n)), tt))

  sent_held : (files : FileMap) (journal report table maps : List ℕ)
      → get (with_all (record { name = journal_name out; bytes = journal } ∷ record { name = report_name out; bytes = report } ∷ record { name = table_of_report_name out; bytes = table } ∷ record { name = maps_name out; bytes = maps } ∷ []) files) (report_name out) ≡ Some report
  sent_held files journal report table maps =
      let first = insert files (journal_name out) journal in
      kept (record { name = table_of_report_name out; bytes = table } ∷ record { name = maps_name out; bytes = maps } ∷ []) (insert first (report_name out) report) (report_name out) (sent_others table maps) ∙ get-insert_same first (report_name out) report

pub behind : RunsAreRegistered
behind words files out run job plan history last command sound done =
    let report = report_in job history in
    let there : get (with_all plan.writes files) (report_name out) ≡ Some (report_text report) =
    ap (λ (writes : List Write). get (with_all writes files) (report_name out)) done.2.writes_are
    ∙ held out files (journal_text job.mode history) (report_text report) (csv_text job.calls history report.lines) (tables_text (end_tables last.state)) (maps_text (learnt_in job.calls history)) done.2.told in
    written_registered words (with_all plan.writes files) out run job history last command sound done.0 there

pub sent_behind : SentReportsAreRegistered
sent_behind words files out run job plan dial sent command sound =
    let history = plain sent.events in
    let report = heard_report_in job history in
    let there : get (with_all plan.writes files) (report_name out) ≡ Some (report_text report) =
    ap (λ (writes : List Write). get (with_all writes files) (report_name out)) sent.writes
    ∙ sent_held out files (journal_text job.mode history) (report_text report) (csv_text job.calls history report.lines) (maps_text (drop (length (start_pairs job.start)) (pairs_behind job sent.events))) in
    whole_registered words (with_all plan.writes files) out run report command (sent_whole out job plan dial sent sound) there
