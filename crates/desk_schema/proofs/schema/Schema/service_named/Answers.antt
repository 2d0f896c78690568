use Rattle.std.proofs.Common.{◌≡◌, ◌∙◌, ap, sym, arith, length, true, get_or, Some, None}
use Rattle.std.specs.Str.{bytes_eq}
use Rattle.desk_schema.proofs.Granted.{one_found, all_passed, none_found}
use Rattle.desk_schema.proofs.schema.Schema.service_named.Goals as goal

pub returns-then-eq-clause-none : goal.returns-then-eq-clause-none
returns-then-eq-clause-none c =
    let whole : c.as_slice-service-items.result.now ≡ c.args.self.now.services = c.as_slice-service-items.ensures ∙ ap (λ s. s.services) c.self.view_is in
    let same : bytes_eq c.service-item.result.name c.args.name.now ≡ true = cc in
    none_found _ _ (Some c.service-item.result.rights)
    (one_found c.args.self.now.services c.args.name.now c.loop-service.service-index c.service-item.result (omega (arith, ap length whole))
    (c.service-item.is ∙ ap (λ services. get_or services c.loop-service.service-index c.service-item.result) whole) same c.loop-service.invariant)

pub returns-clause-none : goal.returns-clause-none
returns-clause-none c =
    let whole : c.as_slice-service-items.result.now ≡ c.args.self.now.services = c.as_slice-service-items.ensures ∙ ap (λ s. s.services) c.self.view_is in
    none_found _ _ None (sym (all_passed c.args.self.now.services c.args.name.now c.loop-service.service-index (omega (arith, ap length whole)) c.loop-service.invariant))
