use Rattle.std.proofs.Common.{Err, Ok, refl}
use Rattle.std.proofs.lemmas.Result.{err_from_is_err_and}
use Rattle.captured_calls.specs.Verdict.{verdict}
use Rattle.replay_cli.specs.declared.capture.Legal.{Legal as Loaded}
use Rattle.replay_cli.specs.Decision.{Task, ToTell, legal_from}
use Rattle.replay_cli.specs.Inside.Work.{legal_of, read_of}
use Rattle.replay_cli.specs.Steps.{Is}
use Rattle.replay_cli.proofs.Refusals.{tested}
use Rattle.replay_cli.proofs.Sessions.{free_error}
use Rattle.replay_cli.proofs.StepLaws.{stops_here}
use Rattle.replay_cli.proofs.Steps.{told_tested}
use Rattle.replay_cli.proofs.work.decide_prepare.Goals as goal

pub returns-in_err-legal-clause-step : goal.returns-in_err-legal-clause-step
returns-in_err-legal-clause-step g c =
    let p = err_from_is_err_and c.from_residual-in_err-legal.result c.from_residual-in_err-legal.ensures.1 in
    let read = read_of c.in_ok-read.read in
    let failure = c.in_err-legal.field-0.0 in
    rw (p.1, p.2) (told_tested c.args.capture.now c.args.out read _ _ _ _ c.in_ok-read.ensures.step (Err failure) (stops_here (Is (legal_from read.start (verdict read.start read.sessions))) (λ legal. Is (Ok (ToTell c.args.out legal.facts))) failure c.in_err-legal.ensures.says) (free_error Loaded Task failure c.in_err-legal.ensures.free))

pub returns-clause-step : goal.returns-clause-step
returns-clause-step g c = told_tested c.args.capture.now c.args.out (read_of c.in_ok-read.read) _ _ _ _ c.in_ok-read.ensures.step _ (legal_of c.in_ok-legal.legal, c.in_ok-legal.ensures.says, refl) tt

pub returns-in_err-legal-clause-refused : goal.returns-in_err-legal-clause-refused
returns-in_err-legal-clause-refused g c =
    let read = read_of c.in_ok-read.read in
    let p = err_from_is_err_and c.from_residual-in_err-legal.result c.from_residual-in_err-legal.ensures.1 in
    rw (p.1, p.2) (tested c.args.capture.now read.start read.sessions c.in_err-legal.field-0.0 c.in_err-legal.ensures.says)

pub returns-clause-task : goal.returns-clause-task
returns-clause-task g c =
    let read = read_of c.in_ok-read.read in
    (refl, (legal_of c.in_ok-legal.legal, (read.start, read.sessions, c.in_ok-legal.ensures.says), refl))
