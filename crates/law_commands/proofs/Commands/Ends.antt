-- What a replay that is done has written, by the laws of whole replays.
use Rattle.std.proofs.Common.{◌≡◌, ◌∙◌, List, [], ◌∷◌, Option, None, Some, ℕ, length, refl, sym, ap, subst, arith, rules}
use Rattle.std.specs.Prelude.{false, nat_lt, true, IfSome}
use Rattle.std.specs.List.{AllByRecursion}
use Rattle.desk_values.specs.declared.capture.Captured.{Captured}
use Rattle.desk_values.specs.declared.capture.Event.{Event}
use Rattle.replay_history.specs.declared.report.Class.{Class}
use Rattle.replay_history.specs.declared.report.Class.TheVariants.{Same}
use Rattle.replay_history.specs.declared.report.Line.{Line}
use Rattle.replay_history.specs.declared.report.Report.{Report}
use Rattle.replay_history.specs.Texts.{journal_text}
use Rattle.replay_job.specs.Events.{IsEvent}
use Rattle.desk_schema.specs.Start.{StartView}
use Rattle.replay_job.specs.Job.{JobView}
use Rattle.replay_job.specs.Runs.{Stage}
use Rattle.replay_report.specs.JournalFile.{IsJournal}
use Rattle.replay_report.specs.Report.{class_of}
use Rattle.replay_report.proofs.JournalFiles.{one_file}
use Rattle.law_replays.specs.End.Answers.{FencesCommits, IsReplay}
use Rattle.law_replays.proofs.End.Seen.{commits_seen}
use Rattle.law_replays.proofs.End.Stages.{one_call}
use Rattle.law_replays.proofs.End.Whole.{again_as_captured, tables_carried}
use Rattle.law_replays.proofs.Reports.Classed.{each_classed}
use Rattle.law_replays.proofs.Reports.Named.{again_clean, no_line_none, twins_not_named}
use Rattle.desk_files.specs.declared.writes.Write.{Write}
use Rattle.fence_law.specs.Laws.{AreSame, OneListOfPlainReads, PlainReadsAreSame}
use Rattle.fence_law.specs.Plain.{ArePlainReads}
use Rattle.divergence_cause.specs.Laws.{NoUpgradeWhereUnchanged, OneListOfCauses}
use Rattle.remote_desk.specs.History.{plain}
use Rattle.replay_cli.specs.Done.{AreReadsOf}
use Rattle.replay_cli.specs.Lines.{replayed_line}
use Rattle.replay_cli.proofs.Sound.{is_replay}
use Rattle.law_commands.specs.Commands.Ends.{JournalsTellTheirHistory, OneIsTold, PlansTellTheirHistory, QuietRunsCarryTables, ReadsMeetTheirCommits, RunsAgainAreQuiet, SentJournalsTellTheirHistory, SentPlansTellTheirHistory, SentReadsMeetTheirCommits, TablesAreCarried, ToldIsQuiet, TwinsAreQuiet}

is_journal : (job : JobView) (history : List Event) (texts : AllByRecursion IsEvent history) → IsJournal (journal_text job.mode history) job.mode history
is_journal job history texts = record { fit = texts; text = refl }

pub journal_tells : JournalsTellTheirHistory
journal_tells out job plan history last done =
    let is = is_journal job history done.0.1 in
    (is, λ mode other also. one_file (journal_text job.mode history) mode job.mode other history also is)

pub sent_journal_tells : SentJournalsTellTheirHistory
sent_journal_tells out job plan dial sent =
    let history = plain sent.events in
    let is = is_journal job history sent.texts in
    (is, λ mode other also. one_file (journal_text job.mode history) mode job.mode other history also is)

-- the bytes of the first file
first_bytes : List Write → List ℕ
first_bytes [] = []
first_bytes (write ∷ writes) = write.bytes

pub plan_tells : PlansTellTheirHistory
unfolding first_bytes
plan_tells out job plan history other last later done also =
    let same : journal_text job.mode other ≡ journal_text job.mode history = ap first_bytes (sym also.2.writes_are ∙ done.2.writes_are) in
    let told = (journal_tells out job plan history last done).1 job.mode other (subst (λ (bytes : List ℕ). IsJournal bytes job.mode other) same (is_journal job other also.0.1)) in
    told.1

pub sent_plan_tells : SentPlansTellTheirHistory
unfolding first_bytes
sent_plan_tells out job plan dial later sent other =
    let same : journal_text job.mode (plain other.events) ≡ journal_text job.mode (plain sent.events) = ap first_bytes (sym other.writes ∙ sent.writes) in
    let told = (sent_journal_tells out job plan dial sent).1 job.mode (plain other.events) (subst (λ (bytes : List ℕ). IsJournal bytes job.mode (plain other.events)) same (is_journal job (plain other.events) other.texts)) in
    told.1

one_reads : OneListOfPlainReads → (job : JobView) (history : List Event) (reads others : Option (List ℕ)) → AreReadsOf job history reads → AreReadsOf job history others → reads ≡ others
one_reads one job history None None are also = refl
one_reads one job history None (Some others) are also = absurd (are also.0)
one_reads one job history (Some reads) None are also = absurd (also are.0)
one_reads one job history (Some reads) (Some others) are also = ap (λ (stamps : List ℕ). Some stamps) (one job history reads others are.1 also.1)

pub one_told : OneListOfPlainReads → OneListOfCauses → OneIsTold
one_told one alone job history told other is also =
    let reads = one_reads one job history told.reads other.reads is.reads_are also.reads_are in
    let causes = alone job history told.causes other.causes is.causes_are also.causes_are in
    λ i. record { reads = reads i; causes = causes i }

pub again_quiet : RunsAgainAreQuiet
again_quiet out job plan history last sound again done =
    let replay = is_replay job history last sound done.0 in
    let clean = again_clean job history last replay again in (
      done.1.differs ∙ ap (λ (r : Report). nat_lt 0 (length r.lines)) clean,
      done.1.line ∙ ap (λ (r : Report). replayed_line (length job.calls) (length r.lines)) clean,
      again_as_captured job history last replay again,
    )

pub carried : TablesAreCarried
carried out job plan history last captured sound waits done none came = tables_carried job history last captured (is_replay job history last sound done.0) waits none came

pub no_lines : (lines : List Line) → nat_lt 0 (length lines) ≡ false → lines ≡ []
no_lines [] none = refl
no_lines (line ∷ lines) none =
    let some : nat_lt 0 (length (line ∷ lines)) ≡ true = search (arith, rules) in
    absurd (let never = sym some ∙ none in cc)

pub quiet_carried : QuietRunsCarryTables
quiet_carried out job plan history last captured sound waits done quiet came =
    let replay = is_replay job history last sound done.0 in
    let none = no_line_none job history last replay (no_lines _ (sym done.1.differs ∙ quiet)) in
    tables_carried job history last captured replay waits none came

pub reads_meet : ReadsMeetTheirCommits
reads_meet out job plan history last sound may done = commits_seen job history sound.replayable done.0.0.legal may

pub sent_reads_meet : SentReadsMeetTheirCommits
sent_reads_meet out job plan dial sent sound may = commits_seen job (plain sent.events) sound.replayable sent.history.legal may

pub twins_quiet : TwinsAreQuiet
twins_quiet out job plan history last captured sound done schemas = twins_not_named job history last captured (is_replay job history last sound done.0) schemas

-- each stamp among the plain reads is that of a call that is the same
reads_same : PlainReadsAreSame → (job : JobView) (history : List Event) (last : Stage) → IsReplay job history last → FencesCommits job.mode → job.target.schema ≡ job.start.schema
    → (stamps : List ℕ) → ArePlainReads job history stamps → AreSame job history stamps
reads_same same job history last replay may schemas stamps are k call there at =
    let p = (are.each k).0 there in
    let class = each_classed job history last replay p.0 k p.1 p.2 p.3 p.4 p.6.there in
    let one = same job history last replay may schemas k p.0 p.1 p.2 p.3 p.4 p.5 p.6 in
    subst (λ (c : Captured). class_of job history c ≡ Some Same) (one_call job.calls k call p.1 at p.6.there.is_call) (class ∙ ap (λ (c : Class). Some c) one)

told_same : PlainReadsAreSame → (job : JobView) (history : List Event) (last : Stage) (reads : Option (List ℕ)) → IsReplay job history last → AreReadsOf job history reads → IfSome reads (AreSame job history)
told_same same job history last None replay are = tt
told_same same job history last (Some stamps) replay are =
    let may : FencesCommits job.mode = subst FencesCommits (sym are.0.mode) tt in
    reads_same same job history last replay may (ap (λ (start : StartView). start.schema) are.0.target) stamps are.1

pub told_quiet : PlainReadsAreSame → NoUpgradeWhereUnchanged → ToldIsQuiet
told_quiet same timing out job plan history last told sound done is =
    let replay = is_replay job history last sound done.0 in
    (told_same same job history last told.reads replay is.reads_are, λ schemas. timing job history last told.causes replay schemas is.causes_are)
