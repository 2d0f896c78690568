use Rattle.std.proofs.Common.{arith, map, subst}
use Rattle.desk_schema.specs.Start.{service_line}
use Rattle.desk_schema.proofs.LinesSaid.{IsOnTheWay, arrives, begins, front_of, goes_on, line_refused, none_left, refused_on}
use Rattle.desk_schema.proofs.declaring.declare_services.Goals as goal

pub loop-service-init : goal.loop-service-init
loop-service-init c = begins c.args.draft.now (map service_line c.args.services.now)

pub loop-service-preserved : goal.loop-service-preserved
loop-service-preserved c =
    let all = map service_line c.args.services.now in
    let way = subst (IsOnTheWay c.args.draft.now all c.loop-service.draft) (front_of service_line c.args.services.now c.loop-service.service-index c.service-item.result (omega arith) c.service-item.is) c.loop-service.invariant in
    goes_on c.args.draft.now c.loop-service.draft all c.add_service.new.self _ _ way c.in_ok-add_service.ensures.rule c.in_ok-add_service.ensures.ok

pub returns-in_err-add_service : goal.returns-in_err-add_service
returns-in_err-add_service c =
    let all = map service_line c.args.services.now in
    let way = subst (IsOnTheWay c.args.draft.now all c.loop-service.draft) (front_of service_line c.args.services.now c.loop-service.service-index c.service-item.result (omega arith) c.service-item.is) c.loop-service.invariant in
    refused_on c.from_residual.result c.in_err-add_service.field-0.0 c.args.draft.now c.add_service.new.self all c.from_residual.ensures
    (line_refused c.args.draft.now c.loop-service.draft c.add_service.new.self all _ _ c.in_err-add_service.field-0.0 way c.in_err-add_service.ensures.rule)

pub returns : goal.returns
returns c =
    let all = map service_line c.args.services.now in
    arrives c.args.draft.now c.loop-service.draft all (subst (IsOnTheWay c.args.draft.now all c.loop-service.draft) (none_left service_line c.args.services.now c.loop-service.service-index (omega arith)) c.loop-service.invariant)
