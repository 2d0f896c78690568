use Rattle.std.proofs.Common.{◌∙◌, Err, Ok, ap, inl, inr, refl, subst, sym}
use Rattle.std.proofs.lemmas.Result.{err_from_is_err_and}
use Rattle.replay_cli.specs.declared.capture.Legal.{Legal as Loaded}
use Rattle.captured_calls.specs.Verdict.{verdict}
use Rattle.desk_schema.specs.Start.{StartView}
use Rattle.replay_job.specs.Job.{JobView, seen}
use Rattle.desk_words.specs.declared.words.Command.TheVariants.{Run}
use Rattle.replay_cli.specs.Decision.{IsTaskOf, MayBeRefused, MayRefuseCapture, MayRefuseChange, MayRefuseRemap, MayRunOn, Task, legal_from, run_job, run_task}
use Rattle.replay_cli.specs.Inside.Work.{legal_of, read_of}
use Rattle.replay_cli.specs.Steps.{Is}
use Rattle.replay_cli.proofs.Refusals.{fails_weaker, tested}
use Rattle.replay_cli.proofs.Sessions.{free_error}
use Rattle.replay_cli.proofs.Runs.{task_run}
use Rattle.replay_cli.proofs.StepLaws.{stops_here}
use Rattle.replay_cli.proofs.Steps.{run_cut, run_tested, run_unchanged}
use Rattle.replay_cli.proofs.Targets.{start_stays}
use Rattle.replay_cli.proofs.work.decide_run.Goals as goal

pub returns-in_err-remap-clause-step : goal.returns-in_err-remap-clause-step
returns-in_err-remap-clause-step g c =
    let p = err_from_is_err_and c.from_residual-in_err-remap.result c.from_residual-in_err-remap.ensures.1 in
    rw (p.1, p.2) (run_cut c.args.capture.now c.args.out (read_of c.in_ok-read.read) _ _ _ _ c.in_ok-read.ensures.step c.args.ways _ _ c.in_err-remap.field-0.0 c.in_err-remap.ensures.step)

pub returns-in_err-target-clause-step : goal.returns-in_err-target-clause-step
returns-in_err-target-clause-step g c =
    let p = err_from_is_err_and c.from_residual-in_err-target.result c.from_residual-in_err-target.ensures.1 in
    rw (p.1, p.2) (run_unchanged c.args.capture.now c.args.out (read_of c.in_ok-read.read) _ _ _ _ c.in_ok-read.ensures.step c.args.ways _ _ c.in_ok-remap.remap c.in_ok-remap.ensures.step _ _ c.in_err-target.field-0.0 c.in_err-target.ensures.step)

pub returns-in_err-legal-clause-step : goal.returns-in_err-legal-clause-step
returns-in_err-legal-clause-step g c =
    let p = err_from_is_err_and c.from_residual-in_err-legal.result c.from_residual-in_err-legal.ensures.1 in
    let read = read_of c.in_ok-read.read in
    let failure = c.in_err-legal.field-0.0 in
    rw (p.1, p.2) (run_tested c.args.capture.now c.args.out read _ _ _ _ c.in_ok-read.ensures.step c.args.ways _ _ c.in_ok-remap.remap c.in_ok-remap.ensures.step _ _ c.in_ok-target.target c.in_ok-target.ensures.step (Err failure) (stops_here (Is (legal_from read.start (verdict read.start read.sessions))) (λ legal. Is (Ok (run_task c.args.out (run_job legal c.in_ok-target.target c.in_ok-remap.remap c.args.ways) c.args.ways.target))) failure c.in_err-legal.ensures.says) (free_error Loaded Task failure c.in_err-legal.ensures.free))

pub returns-clause-step : goal.returns-clause-step
returns-clause-step g c = run_tested c.args.capture.now c.args.out (read_of c.in_ok-read.read) _ _ _ _ c.in_ok-read.ensures.step c.args.ways _ _ c.in_ok-remap.remap c.in_ok-remap.ensures.step _ _ c.in_ok-target.target c.in_ok-target.ensures.step _ (legal_of c.in_ok-legal.legal, c.in_ok-legal.ensures.says, ap (λ (job : JobView). Ok (run_task c.args.out job c.args.ways.target)) (sym c.job_of-job.ensures.job) ∙ ap (λ (task : Task). Ok task) (sym c.run_of.ensures.task)) tt

pub returns-in_err-read-clause-refused : goal.returns-in_err-read-clause-refused
returns-in_err-read-clause-refused g c =
    let p = err_from_is_err_and c.from_residual.result c.from_residual.ensures.1 in
    rw (p.1, p.2) (fails_weaker (MayRefuseCapture c.args.capture.now) (MayBeRefused (Run c.args.capture.now c.args.out c.args.ways)) (λ refusal h. inl h) c.in_err-read.field-0.0 c.in_err-read.ensures.kind)

pub returns-in_err-remap-clause-refused : goal.returns-in_err-remap-clause-refused
returns-in_err-remap-clause-refused g c =
    let p = err_from_is_err_and c.from_residual-in_err-remap.result c.from_residual-in_err-remap.ensures.1 in
    rw (p.1, p.2) (fails_weaker (MayRefuseRemap c.args.ways.remap) (MayBeRefused (Run c.args.capture.now c.args.out c.args.ways)) (λ refusal h. inr (inl h)) c.in_err-remap.field-0.0 c.in_err-remap.ensures.kind)

pub returns-in_err-target-clause-refused : goal.returns-in_err-target-clause-refused
returns-in_err-target-clause-refused g c =
    let p = err_from_is_err_and c.from_residual-in_err-target.result c.from_residual-in_err-target.ensures.1 in
    rw (p.1, p.2) (fails_weaker (MayRefuseChange c.args.ways.change) (MayBeRefused (Run c.args.capture.now c.args.out c.args.ways)) (λ refusal h. inr (inr h)) c.in_err-target.field-0.0 c.in_err-target.ensures.kind)

pub returns-in_err-legal-clause-refused : goal.returns-in_err-legal-clause-refused
returns-in_err-legal-clause-refused g c =
    let read = read_of c.in_ok-read.read in
    let p = err_from_is_err_and c.from_residual-in_err-legal.result c.from_residual-in_err-legal.ensures.1 in
    rw (p.1, p.2) (fails_weaker (MayRefuseCapture c.args.capture.now) (MayBeRefused (Run c.args.capture.now c.args.out c.args.ways)) (λ refusal h. inl h) c.in_err-legal.field-0.0 (tested c.args.capture.now read.start read.sessions c.in_err-legal.field-0.0 c.in_err-legal.ensures.says))

pub returns-clause-task : goal.returns-clause-task
returns-clause-task g c =
    let read = read_of c.in_ok-read.read in
    let may = subst (λ (start : StartView). MayRunOn c.args.ways.change start c.in_ok-target.target) (sym (start_stays read.start (verdict read.start read.sessions) (legal_of c.in_ok-legal.legal) c.in_ok-legal.ensures.says)) c.in_ok-target.ensures.may in
    let run = task_run c.args.capture.now c.args.out c.args.ways (seen c.job_of-job.result) (legal_of c.in_ok-legal.legal, c.in_ok-target.target, c.in_ok-remap.remap, (read.start, read.sessions, c.in_ok-legal.ensures.says), may, c.in_ok-remap.ensures.may, c.job_of-job.ensures.job) in
    subst (λ (task : Task). IsTaskOf (Run c.args.capture.now c.args.out c.args.ways) task) (sym c.run_of.ensures.task) run
