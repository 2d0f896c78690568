use Rattle.std.proofs.Common.{◌∙◌, sym, length, eq-eqb}
use Rattle.std.proofs.lemmas.Bool.{eqb-true}
use Rattle.std.proofs.lemmas.Result.{err_from_is_err_and}
use Rattle.std.proofs.lemmas.List.{append-nil}
use Rattle.sql_reader.specs.Reading.{scanned, tokens_at}
use Rattle.sql_reader.proofs.Loops.{tokens_go_on, tokens_fail, tokens_done, tokens_left}
use Rattle.sql_reader.proofs.scanner.scan.Goals as goal
use Rattle.sql_reader.proofs.scanner.scan.Goals.{in-Some+in_ok-push, in_default}

pub returns-in_err-token : goal.returns-in_err-token
unfolding scanned
returns-in_err-token c =
    let p = err_from_is_err_and c.from_residual.result c.from_residual.ensures.1 in
    rw (p.1, p.2) (tokens_fail c.in_err-token.field-0.0 c.loop.tokens.items (length c.args.bytes.now) c.loop.counter c.loop.rest.now (tokens_at (length c.args.bytes.now) c.args.bytes.now) c.loop-test.true c.in_err-token.ensures c.loop.invariant)

pub loop-preserved : goal.loop-preserved
loop-preserved c =
    let next = tokens_go_on c.loop.tokens.items (length c.args.bytes.now) c.loop.counter c.loop.rest.now c.in_ok-token.token c.in_ok-token.after.now (tokens_at (length c.args.bytes.now) c.args.bytes.now) c.loop-test.true c.in_ok-token.ensures c.loop.invariant in
    elim c.match-token.branch [
      | in-Some+in_ok-push w ↦ rw (w.tokens-is, w.in_ok-push.ensures.items) (rw w.in-Some.is at next)
      | in_default w ↦ rw w.tokens-is (rw (append-nil c.loop.tokens.items) at (rw w.in_default.is at next))
    ]

pub returns-then-not-is_empty : goal.returns-then-not-is_empty
unfolding scanned
returns-then-not-is_empty c = tokens_left c.loop.tokens.items (length c.args.bytes.now) c.loop.counter c.loop.rest.now (tokens_at (length c.args.bytes.now) c.args.bytes.now) c.loop-test.false (λ e. let t = eq-eqb (length c.loop.rest.now) 0 e in cc) c.loop.invariant

pub returns : goal.returns
unfolding scanned
returns c = tokens_done c.loop.tokens.items (length c.args.bytes.now) c.loop.counter c.loop.rest.now (tokens_at (length c.args.bytes.now) c.args.bytes.now) c.loop-test.false (eqb-true (length c.loop.rest.now) 0 (sym c.is_empty.ensures ∙ c.if-not-is_empty.false)) c.loop.invariant
