use Rattle.std.proofs.Common.{sym, arith}
use Rattle.std.proofs.lemmas.List.{take_rest}
use Rattle.desk_values.proofs.Cuts.{cut_place, cut_at-cut, cut_at-none, Lacks-from_places}
use Rattle.desk_values.proofs.fields.cut_near.Goals as goal

pub returns-then-other-byte-clause-value : goal.returns-then-other-byte-clause-value
returns-then-other-byte-clause-value c =
    let bytes = c.args.bytes.now in
    rw take_rest (sym (cut_at-cut c.args.byte bytes _ _ (cut_place c.args.byte c.loop-i.i bytes (omega arith) c.if-other-byte.true c.loop-i.invariant)))

pub returns-then-other-byte-clause-found : goal.returns-then-other-byte-clause-found
returns-then-other-byte-clause-found c =
    let bytes = c.args.bytes.now in
    let is = cut_place c.args.byte c.loop-i.i bytes (omega arith) c.if-other-byte.true c.loop-i.invariant in
    rw take_rest (is.parts, is.lacks)

pub returns-clause-value : goal.returns-clause-value
returns-clause-value c =
    sym (cut_at-none c.args.byte c.args.bytes.now (Lacks-from_places c.args.byte c.args.bytes.now (λ k lt. c.loop-i.invariant k (omega arith))))

pub returns-clause-none : goal.returns-clause-none
returns-clause-none c = Lacks-from_places c.args.byte c.args.bytes.now (λ k lt. c.loop-i.invariant k (omega arith))
