use Rattle.std.proofs.Common.{◌≡◌, ℕ, List, Option, None, Some, IfNone, IfSome, refl, sym, subst}
use Rattle.std.specs.List.{Contains}
use Rattle.id_pairs.specs.declared.Id.{Id}
use Rattle.id_pairs.specs.declared.Id.TheVariants.{Row, Draw}
use Rattle.id_pairs.specs.Carrying.Carried.{row_of}
use Rattle.id_pairs.specs.Pairs.{IdPair, IsIdMap}
use Rattle.law_ids.proofs.Replays.Starts.{each_in}
use Rattle.law_server.specs.Renaming.Twins.{IsRenamedRow}
use Rattle.twin_tables.proofs.judging.row_origin.Goals as goal

module _ (pairs : List IdPair) (is_map : IsIdMap pairs) (row : ℕ) where
  origin_some : (id : Id) → Contains pairs (id, Row row) → IfSome (row_of id) (λ captured. IsRenamedRow pairs captured row)
  origin_some (Row n) c = c
  origin_some (Draw q n) c = tt

  origin_none : (id : Id) → Contains pairs (id, Row row) → IfNone (row_of id) ((captured : ℕ) → ¬ IsRenamedRow pairs captured row)
  origin_none (Row n) c = tt
  origin_none (Draw q n) c = absurd (each_in _ pairs is_map.like (Draw q n, Row row) c)

pub returns-in-Some-clause-some : goal.returns-in-Some-clause-some
returns-in-Some-clause-some c =
    let pairs = c.args.map.now.pairs in
    subst (λ (o : Option ℕ). IfSome o (λ captured. IsRenamedRow pairs captured c.args.row)) (sym c.row_of.ensures) (origin_some pairs c.know_map.ensures c.args.row c.in-Some.captured c.in-Some.ensures.some)

pub returns-in-Some-clause-none : goal.returns-in-Some-clause-none
returns-in-Some-clause-none c =
    let pairs = c.args.map.now.pairs in
    subst (λ (o : Option ℕ). IfNone o ((captured : ℕ) → ¬ IsRenamedRow pairs captured c.args.row)) (sym c.row_of.ensures) (origin_none pairs c.know_map.ensures c.args.row c.in-Some.captured c.in-Some.ensures.some)

pub returns-in-None-clause-none : goal.returns-in-None-clause-none
returns-in-None-clause-none c = λ captured pair. c.in-None.ensures.none (Row captured) pair
