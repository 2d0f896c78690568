use Rattle.std.proofs.Common.{◌∙◌, Err, List, Ok, ap, arith, inl, inr, length, subst, sym}
use Rattle.std.specs.List.{AllByRecursion}
use Rattle.captured_calls.specs.Sessions.{AreSessionsFrom}
use Rattle.std.proofs.lemmas.Result.{err_from_is_err_and}
use Rattle.captured_calls.specs.Verdict.{verdict}
use Rattle.desk_values.specs.Room.{Room}
use Rattle.desk_values.specs.declared.capture.Captured.{Captured}
use Rattle.prepare_plan.specs.Lists.{lists_of}
use Rattle.run_files.specs.Fitting.{misfit_of}
use Rattle.replay_page.specs.Captured.{AreSpelled, captured_files}
use Rattle.replay_page.specs.declared.page.NamedText.{NamedText}
use Rattle.replay_cli.specs.declared.capture.Legal.{Legal as Loaded}
use Rattle.replay_cli.specs.Decision.{MayRefuseCapture, MayRefuseLeft, Together, fitting, legal_from}
use Rattle.replay_cli.specs.Inside.Showing.{left_seen}
use Rattle.replay_cli.specs.Inside.Work.{legal_of, read_of}
use Rattle.replay_cli.specs.Steps.{Is}
use Rattle.replay_cli.proofs.Refusals.{fails_weaker, fits, not_fit, tested}
use Rattle.replay_cli.proofs.Sessions.{free_error}
use Rattle.replay_cli.proofs.StepLaws.{stops_here, stops_then}
use Rattle.replay_cli.proofs.ShowSteps.{fitted_of, together_cut, together_tested}
use Rattle.replay_cli.proofs.showing.read_together.Goals as goal

pub captured_files-requires-clause-count : goal.captured_files-requires-clause-count
captured_files-requires-clause-count g c = let same = ap (λ (lists : List (Room Captured)). length lists) c.as_slice.ensures in let few = c.in_ok-read.ensures.count in omega (arith, same, few)

pub captured_files-requires-clause-lists : goal.captured_files-requires-clause-lists
captured_files-requires-clause-lists g c = subst (λ (lists : List (Room Captured)). AreSessionsFrom 0 (lists_of lists)) (sym c.as_slice.ensures) c.in_ok-read.ensures.lists

pub captured_files-requires-clause-spelled : goal.captured_files-requires-clause-spelled
captured_files-requires-clause-spelled g c =
    subst (λ (lists : List (Room Captured)). AllByRecursion (AreSpelled c.in_ok-read.read.start.schema.version) (lists_of lists)) (sym c.as_slice.ensures) c.in_ok-read.ensures.spelled

pub fit-requires : goal.fit-requires
fit-requires g c = let known = c.in_ok-legal.ensures.known.count in let facts = c.in_ok-legal.ensures.facts in omega (arith, known, facts)

pub returns-in_err-left-clause-step : goal.returns-in_err-left-clause-step
returns-in_err-left-clause-step g c =
    let p = err_from_is_err_and c.from_residual-in_err-left.result c.from_residual-in_err-left.ensures.1 in
    rw (p.1, p.2) (together_cut c.args.capture.now c.args.out.now (read_of c.in_ok-read.read) _ _ _ _ c.in_ok-read.ensures.step _ _ c.in_err-left.field-0.0 c.in_err-left.ensures.step)

pub returns-in_err-legal-clause-step : goal.returns-in_err-legal-clause-step
returns-in_err-legal-clause-step g c =
    let p = err_from_is_err_and c.from_residual-in_err-legal.result c.from_residual-in_err-legal.ensures.1 in
    let read = read_of c.in_ok-read.read in
    let left = left_seen c.in_ok-left.left in
    let failure = c.in_err-legal.field-0.0 in
    rw (p.1, p.2) (together_tested c.args.capture.now c.args.out.now read _ _ _ _ c.in_ok-read.ensures.step _ _ left c.in_ok-left.ensures.step (Err failure) (stops_here (Is (legal_from read.start (verdict read.start read.sessions))) (fitted_of read left) failure c.in_err-legal.ensures.says) (free_error Loaded Together failure c.in_err-legal.ensures.free))

pub returns-in_err-fit-clause-step : goal.returns-in_err-fit-clause-step
returns-in_err-fit-clause-step g c =
    let p = err_from_is_err_and c.from_residual-in_err-fit.result c.from_residual-in_err-fit.ensures.1 in
    let read = read_of c.in_ok-read.read in
    let left = left_seen c.in_ok-left.left in
    let legal = legal_of c.in_ok-legal.legal in
    let failure = c.in_err-fit.field-0.0 in
    rw (p.1, p.2) (together_tested c.args.capture.now c.args.out.now read _ _ _ _ c.in_ok-read.ensures.step _ _ left c.in_ok-left.ensures.step (Err failure)
    (stops_then (Is (legal_from read.start (verdict read.start read.sessions))) (fitted_of read left) legal failure c.in_ok-legal.ensures.says
    (stops_here (Is (fitting (misfit_of legal.calls left.run))) (λ one. Is (Ok (record { legal = legal; left = left; captured = captured_files read.start read.sessions }))) failure c.in_err-fit.ensures.says))
    (free_error (Unit {0}) Together failure c.in_err-fit.ensures.free))

pub returns-clause-step : goal.returns-clause-step
returns-clause-step g c =
    let read = read_of c.in_ok-read.read in
    let left = left_seen c.in_ok-left.left in
    let legal = legal_of c.in_ok-legal.legal in
    let files = c.in_ok-captured.ensures.files ∙ ap (λ (lists : List (Room Captured)). captured_files read.start (lists_of lists)) c.as_slice.ensures in
    together_tested c.args.capture.now c.args.out.now read _ _ _ _ c.in_ok-read.ensures.step _ _ left c.in_ok-left.ensures.step
    (Ok (record { legal = legal; left = left; captured = c.in_ok-captured.captured }))
    (legal, c.in_ok-legal.ensures.says, (tt, c.in_ok-fit.ensures.says, ap (λ (all : List NamedText). Ok (record { legal = legal; left = left; captured = all })) (sym files))) tt

pub returns-clause-whole : goal.returns-clause-whole
returns-clause-whole g c =
    let known = c.in_ok-legal.ensures.known.count in
    record {
      left = c.in_ok-left.ensures.quiet;
      captured = c.in_ok-captured.ensures.quiet;
      facts = c.in_ok-legal.ensures.facts;
      count = omega (arith, known);
      stamps = λ k call at. (c.in_ok-legal.ensures.legal.each k call at).stamp;
      together = (((read_of c.in_ok-read.read).start, (read_of c.in_ok-read.read).sessions, c.in_ok-legal.ensures.says), fits _ c.in_ok-fit.ensures.says);
    }

pub returns-in_err-read-clause-kind : goal.returns-in_err-read-clause-kind
returns-in_err-read-clause-kind g c =
    let p = err_from_is_err_and c.from_residual.result c.from_residual.ensures.1 in
    rw (p.1, p.2) (fails_weaker (MayRefuseCapture c.args.capture.now) _ (λ refusal h. inl h) c.in_err-read.field-0.0 c.in_err-read.ensures.kind)

pub returns-in_err-left-clause-kind : goal.returns-in_err-left-clause-kind
returns-in_err-left-clause-kind g c =
    let p = err_from_is_err_and c.from_residual-in_err-left.result c.from_residual-in_err-left.ensures.1 in
    rw (p.1, p.2) (fails_weaker (MayRefuseLeft c.args.out.now _) _ (λ refusal h. inr h) c.in_err-left.field-0.0 c.in_err-left.ensures.kind)

pub returns-in_err-legal-clause-kind : goal.returns-in_err-legal-clause-kind
returns-in_err-legal-clause-kind g c =
    let p = err_from_is_err_and c.from_residual-in_err-legal.result c.from_residual-in_err-legal.ensures.1 in
    let read = read_of c.in_ok-read.read in
    let failure = c.in_err-legal.field-0.0 in
    rw (p.1, p.2) (fails_weaker (MayRefuseCapture c.args.capture.now) _ (λ refusal h. inl h) failure (tested c.args.capture.now read.start read.sessions failure c.in_err-legal.ensures.says))

pub returns-in_err-fit-clause-kind : goal.returns-in_err-fit-clause-kind
returns-in_err-fit-clause-kind g c =
    let p = err_from_is_err_and c.from_residual-in_err-fit.result c.from_residual-in_err-fit.ensures.1 in
    let failure = c.in_err-fit.field-0.0 in
    rw (p.1, p.2) (fails_weaker (MayRefuseLeft c.args.out.now _) _ (λ refusal h. inr h) failure (not_fit c.args.out.now (legal_of c.in_ok-legal.legal).calls (left_seen c.in_ok-left.left).run failure c.in_err-fit.ensures.says))
