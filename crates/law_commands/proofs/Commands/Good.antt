-- A register of reports stays one, whatever a command comes to.
use Rattle.std.proofs.Common.{◌≡◌, ℕ, List, inl, inr, None, Some, Ok, Err, ap, ◌∙◌}
use Rattle.std.specs.Option.{option_map}
use Rattle.desk_files.specs.Outside.{Answered, DeviceFailed, Ending, MemoryShort}
use Rattle.desk_words.specs.declared.words.Command.{Command}
use Rattle.desk_words.specs.declared.words.Command.TheVariants.{Run, Prepare, Serve, Generate, Trial, Register, Runs, Accept, Compare, Page, Show}
use Rattle.capture_serve.specs.declared.failing.Finding.{Finding}
use Rattle.replay_history.specs.declared.report.Report.{Report}
use Rattle.report_format.specs.ReportFile.{IsReport}
use Rattle.run_register.specs.Register.{RunMap, after_adding, registered}
use Rattle.register_work.specs.declared.errand.Answer.{Answer}
use Rattle.register_work.specs.declared.errand.Errand.{Errand}
use Rattle.register_work.specs.declared.errand.Errand.TheVariants as errand
use Rattle.register_work.specs.Errand.{AreGood, IsAnswered, unfailed}
use Rattle.law_commands.proofs.Register.Answering.{kept_good}
use Rattle.replay_cli.specs.declared.failure.Failure.TheVariants.{BadCommand, Refused, Differs, NotDone, NotSent, DeviceFault, OutOfMemory}
use Rattle.replay_cli.specs.declared.plan.Plan.{Plan}
use Rattle.replay_cli.specs.Decision.{IsErrandOf, IsTaskOf, Task, ToKeep, ToMake, ToPage, ToReplay, ToSend, ToServe, ToShow, ToTell, ToTry}
use Rattle.replay_cli.specs.Done.{IsDone, IsKept}
use Rattle.replay_cli.specs.Ending.{IsUnsentOf, MayDiffer, MayHaveKept}
use Rattle.replay_cli.specs.declared.unsent.Unsent.{Unsent}
use Rattle.replay_cli.specs.Hosting.{Hosting, IsUnasked}
use Rattle.law_commands.specs.Commands.Complete.{RegistersStayGood, TellsReports}

-- all that is kept then is reports
abbrev LeavesReports : Hosting → Type 0
LeavesReports h = (runs : RunMap) × (h.keeper.runs_after ≡ Some runs) × AreGood runs

-- ---- where the runs are as before

same_leaves : (h : Hosting) → TellsReports h → h.keeper.runs_after ≡ h.keeper.runs_before → LeavesReports h
same_leaves h tells same = (tells.0, same ∙ tells.1, tells.2)

unasked_leaves : (h : Hosting) → TellsReports h → IsUnasked h → LeavesReports h
unasked_leaves h tells unasked = same_leaves h tells unasked.1.runs

differs_leaves : (command : Command) (finding : Finding) (h : Hosting) → TellsReports h → MayDiffer command finding h → LeavesReports h
differs_leaves (Serve capture start connections port) finding h tells may = same_leaves h tells may.2.runs
differs_leaves (Run capture out ways) finding h tells may = absurd may
differs_leaves (Prepare capture out) finding h tells may = absurd may
differs_leaves (Generate n out) finding h tells may = absurd may
differs_leaves (Trial n) finding h tells may = absurd may
differs_leaves (Register out run) finding h tells may = absurd may
differs_leaves Runs finding h tells may = absurd may
differs_leaves (Accept run stamp class) finding h tells may = absurd may
differs_leaves (Compare base other) finding h tells may = absurd may
differs_leaves (Page capture out) finding h tells may = absurd may
differs_leaves (Show capture out stamp) finding h tells may = absurd may

-- ---- where an errand is done

-- what is registered is a report
report_of : (command : Command) (name bytes : List ℕ) (report : Report) → IsTaskOf command (ToKeep (errand.Register name bytes report)) → IsReport bytes report
report_of (Register out run) name bytes report is = is.1
report_of (Run capture out ways) name bytes report is = absurd is
report_of (Prepare capture out) name bytes report is = absurd is
report_of (Serve capture start connections port) name bytes report is = absurd is
report_of (Generate n out) name bytes report is = absurd is
report_of (Trial n) name bytes report is = absurd is
report_of Runs name bytes report is = absurd is
report_of (Accept run stamp class) name bytes report is = absurd is
report_of (Compare base other) name bytes report is = absurd is
report_of (Page capture out) name bytes report is = absurd is
report_of (Show capture out stamp) name bytes report is = absurd is

errand_leaves : (command : Command) (asked : Errand) (plan : Plan) (h : Hosting) → TellsReports h → IsTaskOf command (ToKeep asked) → IsKept asked h.keeper plan → LeavesReports h
errand_leaves command (errand.Register name bytes report) plan h tells is kept =
    let left : h.keeper.runs_after ≡ Some (registered tells.0 (name, bytes)) = kept.0.runs ∙ ap (option_map (after_adding Answered (name, bytes))) tells.1 in
    (registered tells.0 (name, bytes), left, kept_good tells.0 name bytes report tells.2 (report_of command name bytes report is))
errand_leaves command errand.Runs plan h tells is kept = same_leaves h tells kept.0.keeps.runs
errand_leaves command (errand.Accept name stamp class) plan h tells is kept = same_leaves h tells kept.0.runs
errand_leaves command (errand.Compare a b) plan h tells is kept = same_leaves h tells kept.0.keeps.runs

answered_leaves : (command : Command) (asked : Errand) (answer : Answer) (h : Hosting) → TellsReports h → IsTaskOf command (ToKeep asked) → IsAnswered asked (unfailed h.keeper) answer → LeavesReports h
answered_leaves command (errand.Register name bytes report) answer h tells is kept =
    let left : h.keeper.runs_after ≡ Some (registered tells.0 (name, bytes)) = kept.runs ∙ ap (option_map (after_adding Answered (name, bytes))) tells.1 in
    (registered tells.0 (name, bytes), left, kept_good tells.0 name bytes report tells.2 (report_of command name bytes report is))
answered_leaves command errand.Runs answer h tells is kept = same_leaves h tells kept.keeps.runs
answered_leaves command (errand.Accept name stamp class) answer h tells is kept = same_leaves h tells kept.runs
answered_leaves command (errand.Compare a b) answer h tells is kept = same_leaves h tells kept.keeps.runs

done_leaves : (command : Command) (task : Task) (plan : Plan) (h : Hosting) → TellsReports h → IsTaskOf command task → IsDone task plan h → LeavesReports h
done_leaves command (ToServe out start most port) plan h tells is done = same_leaves h tells done.1.runs
done_leaves command (ToKeep asked) plan h tells is done = errand_leaves command asked plan h tells is done.0
done_leaves command (ToReplay out job) plan h tells is done = unasked_leaves h tells done.1
done_leaves command (ToSend out job port) plan h tells is done = same_leaves h tells done.2.runs
done_leaves command (ToTell out facts) plan h tells is done = unasked_leaves h tells done.1
done_leaves command (ToMake n out) plan h tells is done = unasked_leaves h tells done.1
done_leaves command (ToTry n) plan h tells is done = unasked_leaves h tells done.1
done_leaves command (ToPage page calls divergent) plan h tells is done = unasked_leaves h tells done.1
done_leaves command (ToShow view asked) plan h tells is done = unasked_leaves h tells done.1

-- ---- where a replay against another server came to no end

unsent_leaves : (task : Task) (cause : Unsent) (h : Hosting) → TellsReports h → IsUnsentOf task cause h → LeavesReports h
unsent_leaves (ToSend out job port) cause h tells is = same_leaves h tells is.2.runs
unsent_leaves (ToServe out start most port) cause h tells is = absurd is
unsent_leaves (ToKeep asked) cause h tells is = absurd is
unsent_leaves (ToReplay out job) cause h tells is = absurd is
unsent_leaves (ToTell out facts) cause h tells is = absurd is
unsent_leaves (ToMake n out) cause h tells is = absurd is
unsent_leaves (ToTry n) cause h tells is = absurd is
unsent_leaves (ToPage page calls divergent) cause h tells is = absurd is
unsent_leaves (ToShow view asked) cause h tells is = absurd is

-- ---- where a device failed or memory was short

task_of_errand : (command : Command) (asked : Errand) → IsErrandOf command asked → IsTaskOf command (ToKeep asked)
task_of_errand (Run capture out ways) asked is = absurd is
task_of_errand (Prepare capture out) asked is = absurd is
task_of_errand (Serve capture start connections port) asked is = absurd is
task_of_errand (Generate n out) asked is = absurd is
task_of_errand (Trial n) asked is = absurd is
task_of_errand (Register out run) asked is = is
task_of_errand Runs asked is = is
task_of_errand (Accept run stamp class) asked is = is
task_of_errand (Compare base other) asked is = is
task_of_errand (Page capture out) asked is = absurd is
task_of_errand (Show capture out stamp) asked is = absurd is

kept_leaves : (command : Command) (ending : Ending) (h : Hosting) → TellsReports h → MayHaveKept command ending h → LeavesReports h
kept_leaves command ending h tells (inl kept) = same_leaves h tells kept.0
kept_leaves command ending h tells (inr left) = answered_leaves command left.0 left.2.answer h tells (task_of_errand command left.0 left.1) left.2.answered

pub registers_good : RegistersStayGood
registers_good None h done tells may = unasked_leaves h tells may.1
registers_good (Some command) h (Ok plan) tells may = done_leaves command may.0 plan h tells may.1 may.2
registers_good (Some command) h (Err BadCommand) tells may = absurd may
registers_good (Some command) h (Err (Refused refusal)) tells may = unasked_leaves h tells may.1
registers_good (Some command) h (Err (Differs finding)) tells may = differs_leaves command finding h tells may
registers_good (Some command) h (Err (NotDone cause)) tells may = unasked_leaves h tells may.2.1
registers_good (Some command) h (Err (NotSent cause)) tells may = unsent_leaves may.0 cause h tells may.2
registers_good (Some command) h (Err DeviceFault) tells may = kept_leaves command DeviceFailed h tells may
registers_good (Some command) h (Err OutOfMemory) tells may = kept_leaves command MemoryShort h tells may
