use Rattle.std.proofs.Common.{◌≡◌, ◌∷◌, ◌++◌, ◌+◌, [], take, get_or, sym, subst, arith}
use Rattle.std.proofs.lemmas.List.{take_all, take_more}
use Rattle.hold_index.specs.Told.{RowsMove}
use Rattle.call_deeds.proofs.holding.tell_rows.Goals as goal

pub loop-row-init : goal.loop-row-init
loop-row-init c = λ rest prints are. are

pub loop-row-preserved : goal.loop-row-preserved
loop-row-preserved c =
    let done = take c.loop-row.row-index c.args.rows.now in
    let row = get_or c.args.rows.now c.loop-row.row-index 0 in
    let more : done ++ row ∷ [] ≡ take (c.loop-row.row-index + 1) c.args.rows.now = sym (take_more c.args.rows.now c.loop-row.row-index 0 (omega arith)) in
    subst (RowsMove c.args.holds.now c.hold_row.new.self c.args.session []) more (λ rest prints are. c.hold_row.ensures done rest prints (c.loop-row.invariant rest prints are))

pub returns : goal.returns
returns c = subst (RowsMove c.args.holds.now c.loop-row.holds c.args.session []) (take_all c.loop-row.row-index c.args.rows.now (omega arith)) c.loop-row.invariant
