use Rattle.std.proofs.Common.{sym}
use Rattle.std.proofs.lemmas.Result.{err_from_is_err_and}
use Rattle.desk_values.specs.Reading.{each_of}
use Rattle.desk_values.specs.Fields.{pieces}
use Rattle.desk_values.proofs.Cuts.{each_none, each_more, each_last, each_bad, each_last_bad}
use Rattle.capture_format.proofs.separated.read_pieces.Goals as goal

pub loop-piece-init : goal.loop-piece-init
loop-piece-init g c = each_none g.T.Piece.reading c.args.separator c.args.bytes.now c.new-items.result c.new-items.ensures

pub returns-in_err-read : goal.returns-in_err-read
returns-in_err-read g c =
    let p = err_from_is_err_and c.from_residual.result c.from_residual.ensures.1 in
    rw (p.1, p.2) (each_bad g.T.Piece.reading c.args.separator c.loop-piece.rest.now c.in-Some.piece.now c.in-Some.after.now c.loop-piece.items (each_of g.T.Piece.reading (pieces c.args.separator c.args.bytes.now)) c.in_err-read.field-0.0 (sym c.in-Some.ensures.value) c.in_err-read.ensures c.loop-piece.invariant)

pub loop-piece-preserved : goal.loop-piece-preserved
loop-piece-preserved g c =
    rw c.in_ok-push.ensures.ok (each_more g.T.Piece.reading c.args.separator c.loop-piece.rest.now c.in-Some.piece.now c.in-Some.after.now c.loop-piece.items c.in_ok-read.field-0 (each_of g.T.Piece.reading (pieces c.args.separator c.args.bytes.now)) (sym c.in-Some.ensures.value) c.in_ok-read.ensures c.loop-piece.invariant)

pub returns-in_err-read-2 : goal.returns-in_err-read-2
returns-in_err-read-2 g c =
    let p = err_from_is_err_and c.from_residual-in_err-read-2.result c.from_residual-in_err-read-2.ensures.1 in
    rw (p.1, p.2) (each_last_bad g.T.Piece.reading c.args.separator c.loop-piece.rest.now c.loop-piece.items (each_of g.T.Piece.reading (pieces c.args.separator c.args.bytes.now)) c.in_err-read-2.field-0.0 (sym c.in_default.ensures.value) c.in_err-read-2.ensures c.loop-piece.invariant)

pub returns : goal.returns
returns g c =
    rw c.in_ok-push-2.ensures.ok (each_last g.T.Piece.reading c.args.separator c.loop-piece.rest.now c.loop-piece.items c.in_ok-read-2.field-0 (each_of g.T.Piece.reading (pieces c.args.separator c.args.bytes.now)) (sym c.in_default.ensures.value) c.in_ok-read-2.ensures c.loop-piece.invariant)
