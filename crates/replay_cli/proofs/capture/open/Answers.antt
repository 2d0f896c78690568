use Rattle.std.proofs.Common.{inl}
use Rattle.std.proofs.lemmas.Result.{err_from_is_err_and}
use Rattle.replay_cli.specs.Decision.{MayRefuseCapture}
use Rattle.replay_cli.specs.Inside.Steps.{IsUntaken}
use Rattle.replay_cli.proofs.Refusals.{bad_start, fails_weaker, untaken_in}
use Rattle.replay_cli.proofs.capture.open.Goals as goal

pub returns-in_err-bytes-clause-kind : goal.returns-in_err-bytes-clause-kind
returns-in_err-bytes-clause-kind g c =
    let p = err_from_is_err_and c.from_residual-in_err-bytes.result c.from_residual-in_err-bytes.ensures.1 in
    rw (p.1, p.2) (fails_weaker (IsUntaken c.in_ok-name.name) (MayRefuseCapture c.args.capture.now) (untaken_in c.args.capture.now c.in_ok-name.name (inl c.in_ok-name.ensures)) c.in_err-bytes.field-0.0 c.in_err-bytes.ensures.kind)

pub returns-in_err-file-clause-kind : goal.returns-in_err-file-clause-kind
returns-in_err-file-clause-kind g c =
    let p = err_from_is_err_and c.from_residual-in_err-file.result c.from_residual-in_err-file.ensures.1 in
    rw (p.1, p.2) (bad_start c.args.capture.now c.in_ok-name.name c.in_ok-bytes.bytes c.in_ok-name.ensures c.in_err-file.field-0.0 c.in_err-file.ensures.says)
