use Rattle.std.proofs.Common.{length, sym}
use Rattle.std.proofs.lemmas.Result.{err_from_is_err_and}
use Rattle.sql_tree.specs.Plain.{term_of}
use Rattle.sql_reader.specs.Grammar.{right_of}
use Rattle.sql_reader.specs.Reading.{chain_at, part_at}
use Rattle.sql_reader.proofs.Loops.{chain_begins, chain_fails, chain_goes_on, nothing_nests, one_level}
use Rattle.sql_reader.proofs.descent.+descent.Goals as goal

pub chain-returns-in_err-first : goal.chain-returns-in_err-first
chain-returns-in_err-first t c =
    let p = err_from_is_err_and c.from_residual.result c.from_residual.ensures.1 in
    rw (p.1, p.2) (chain_fails (part_at c.args.depth (right_of c.args.line)) c.args.line c.in_err-first.field-0.0 c.args.tokens.now (rw c.right.ensures at c.in_err-first.ensures))

pub chain-loop-init : goal.chain-loop-init
chain-loop-init t c = chain_begins (part_at c.args.depth (right_of c.args.line)) c.args.line c.args.tokens.now (term_of c.in_ok-first.first) c.in_ok-first.after.now (rw c.right.ensures at c.in_ok-first.ensures)

pub chain-loop-preserved : goal.chain-loop-preserved
chain-loop-preserved t c =
    rw (c.in_ok-new.ensures.ok, c.in_ok-new-2.ensures.ok) (chain_goes_on (part_at c.args.depth (right_of c.args.line)) c.args.line (length c.args.tokens.now) c.loop.counter (term_of c.loop.left) c.loop.rest.now c.in-Some.op c.in-Some.after_operator.now (term_of c.in_ok-right.right) c.in_ok-right.after.now (chain_at (part_at c.args.depth (right_of c.args.line)) c.args.line c.args.tokens.now) c.loop-test.true c.in-Some.ensures (rw c.right-in-loop.ensures at c.in_ok-right.ensures) c.loop.invariant)

pub nested-returns-then-depth-eq0 : goal.nested-returns-then-depth-eq0
nested-returns-then-depth-eq0 t c = nothing_nests c.args.depth c.args.inner c.args.tokens.now c.if-depth-eq0.true

pub nested-returns : goal.nested-returns
nested-returns t c = rw (sym (one_level c.args.depth c.args.inner c.args.tokens.now c.if-depth-eq0.false)) c.part.ensures
