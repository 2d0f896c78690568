use Rattle.std.proofs.Common.{List, IfNone, ap, subst}
use Rattle.std.specs.List.{Contains}
use Rattle.id_pairs.specs.declared.Id.{Id as AnyId}
use Rattle.id_pairs.specs.Pairs.{IdPair}
use Rattle.remap_ids.specs.IdMap.{IdMapView}
use Rattle.remap_ids.proofs.id_map.IdMap.origin.Goals as goal

pub returns-clause-none : goal.returns-clause-none
returns-clause-none c =
    let own = ap (λ (view : IdMapView). view.pairs) c.self.view_is in
    subst (λ (pairs : List IdPair). IfNone c.origin.result ((captured : AnyId) → ¬ Contains pairs (captured, c.args.id))) own c.origin.ensures.none
