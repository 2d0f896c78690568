use Rattle.std.proofs.Common.{List, ℕ, subst}
use Rattle.std.proofs.lemmas.Result.{err_from_is_err_and}
use Rattle.desk_words.specs.declared.words.Command.TheVariants.{Register}
use Rattle.replay_cli.specs.Decision.{MayBeRefused, MayRefuseReport}
use Rattle.replay_cli.specs.Inside.Steps.{IsUntaken, MayFail}
use Rattle.replay_cli.proofs.Refusals.{bad_report, fails_weaker, untaken_report}
use Rattle.replay_cli.proofs.work.decide_register.Goals as goal

pub returns-in_err-bytes-clause-refused : goal.returns-in_err-bytes-clause-refused
returns-in_err-bytes-clause-refused g c =
    let p = err_from_is_err_and c.from_residual-in_err-bytes.result c.from_residual-in_err-bytes.ensures.1 in
    let name = c.in_ok-name.name in
    rw (p.1, p.2) (fails_weaker (IsUntaken name) (MayBeRefused (Register c.args.out.now c.args.run)) (λ refusal h. subst (λ (n : List ℕ). MayRefuseReport n refusal) c.in_ok-name.ensures (untaken_report name refusal h)) c.in_err-bytes.field-0.0 c.in_err-bytes.ensures.kind)

pub returns-in_err-report-clause-refused : goal.returns-in_err-report-clause-refused
returns-in_err-report-clause-refused g c =
    let p = err_from_is_err_and c.from_residual-in_err-report.result c.from_residual-in_err-report.ensures.1 in
    let failure = c.in_err-report.field-0.0 in
    rw (p.1, p.2) (subst (λ (n : List ℕ). MayFail (MayRefuseReport n) failure) c.in_ok-name.ensures (bad_report c.in_ok-name.name c.in_ok-bytes.bytes failure c.in_err-report.ensures.says))
