use Rattle.std.proofs.Common.{None, inr}
use Rattle.std.proofs.lemmas.Result.{err_from_is_err_and}
use Rattle.replay_cli.specs.Inside.Steps.{IsOverlong}
use Rattle.replay_cli.specs.Decision.{ReadsOf, MayRefuseLeft}
use Rattle.replay_cli.proofs.Refusals.{bad_reads, fails_weaker, overlong_left, said_kind}
use Rattle.replay_cli.proofs.showing.reads_in.Goals as goal

pub returns-in_err-found-clause-kind : goal.returns-in_err-found-clause-kind
returns-in_err-found-clause-kind g c =
    let p = err_from_is_err_and c.from_residual-in_err-found.result c.from_residual-in_err-found.ensures.1 in
    rw (p.1, p.2) (fails_weaker (IsOverlong c.in_ok-name.name) (MayRefuseLeft c.args.out.now None) (overlong_left c.args.out.now c.in_ok-name.name (inr (inr c.in_ok-name.ensures))) c.in_err-found.field-0.0 c.in_err-found.ensures.kind)

pub returns-clause-kind : goal.returns-clause-kind
returns-clause-kind g c = said_kind (ReadsOf c.in_ok-name.name) (MayRefuseLeft c.args.out.now None) (λ bytes. bad_reads c.args.out.now c.in_ok-name.name bytes c.in_ok-name.ensures) c.in_ok-found.found c.said_reads.result c.said_reads.ensures.says
