use Rattle.std.proofs.Common.{arith, map, subst}
use Rattle.desk_schema.specs.Start.{row_line}
use Rattle.desk_schema.proofs.LinesSaid.{IsOnTheWay, arrives, begins, front_of, goes_on, row_refused, none_left, refused_on}
use Rattle.desk_schema.proofs.declaring.declare_rows.Goals as goal

pub loop-row-init : goal.loop-row-init
loop-row-init c = begins c.args.draft.now (map row_line c.args.rows.now)

pub loop-row-preserved : goal.loop-row-preserved
loop-row-preserved c =
    let all = map row_line c.args.rows.now in
    let way = subst (IsOnTheWay c.args.draft.now all c.loop-row.draft) (front_of row_line c.args.rows.now c.loop-row.row-index c.row-item.result (omega arith) c.row-item.is) c.loop-row.invariant in
    goes_on c.args.draft.now c.loop-row.draft all c.declare_row.new.draft _ _ way c.in_ok-declare_row.ensures.rule c.in_ok-declare_row.ensures.ok

pub returns-in_err-declare_row : goal.returns-in_err-declare_row
returns-in_err-declare_row c =
    let all = map row_line c.args.rows.now in
    let way = subst (IsOnTheWay c.args.draft.now all c.loop-row.draft) (front_of row_line c.args.rows.now c.loop-row.row-index c.row-item.result (omega arith) c.row-item.is) c.loop-row.invariant in
    refused_on c.from_residual.result c.in_err-declare_row.field-0.0 c.args.draft.now c.declare_row.new.draft all c.from_residual.ensures
    (row_refused c.args.draft.now c.loop-row.draft c.declare_row.new.draft all _ _ c.in_err-declare_row.field-0.0 way c.in_err-declare_row.ensures.rule)

pub returns : goal.returns
returns c =
    let all = map row_line c.args.rows.now in
    arrives c.args.draft.now c.loop-row.draft all (subst (IsOnTheWay c.args.draft.now all c.loop-row.draft) (none_left row_line c.args.rows.now c.loop-row.row-index (omega arith)) c.loop-row.invariant)
