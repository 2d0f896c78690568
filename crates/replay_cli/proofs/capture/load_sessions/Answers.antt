use Rattle.std.proofs.Common.{◌∙◌, ap, length, subst, arith}
use Rattle.std.proofs.lemmas.Result.{IfErr-weaker}
use Rattle.replay_cli.specs.Decision.{MayRefuseCapture}
use Rattle.replay_cli.specs.FileNames.{session_names}
use Rattle.replay_cli.specs.Inside.Steps.{MayFail, RefusesOne}
use Rattle.replay_cli.proofs.Refusals.{fails_weaker, one_in}
use Rattle.replay_cli.proofs.Sessions.{count_names, few_lists}
use Rattle.replay_cli.proofs.capture.load_sessions.Goals as goal

pub read_sessions-requires-clause-names : goal.read_sessions-requires-clause-names
read_sessions-requires-clause-names g c =
    let same = ap (λ names. length names) (c.as_slice.ensures ∙ c.in_ok-names.ensures) ∙ count_names c.args.capture.now c.args.opened.now.file.sessions in
    omega (arith, same, c.requires.sessions)

pub returns-clause-count : goal.returns-clause-count
returns-clause-count g c =
    let same = ap (λ names. length names) (c.as_slice.ensures ∙ c.in_ok-names.ensures) ∙ count_names c.args.capture.now c.args.opened.now.file.sessions in
    few_lists c.read_sessions.result (length c.as_slice.result.now) (omega (arith, same, c.requires.sessions)) c.read_sessions.ensures.count

pub returns-clause-kind : goal.returns-clause-kind
returns-clause-kind g c =
    let folder = c.args.capture.now in
    let count = c.args.opened.now.file.sessions in
    let names_are = c.as_slice.ensures ∙ c.in_ok-names.ensures in
    IfErr-weaker c.read_sessions.result (MayFail (RefusesOne c.as_slice.result.now)) (MayFail (MayRefuseCapture folder))
    (λ failure h. fails_weaker (RefusesOne (session_names folder count)) (MayRefuseCapture folder) (one_in folder count c.requires.sessions) failure (subst (λ names. MayFail (RefusesOne names) failure) names_are h)) c.read_sessions.ensures.kind
