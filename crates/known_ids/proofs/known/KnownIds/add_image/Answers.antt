use Rattle.std.proofs.Common.{◌++◌, ◌∷◌, [], arith}
use Rattle.desk_values.specs.declared.value.Value.TheVariants.{Row}
use Rattle.known_ids.proofs.Entries.{knows_image}
use Rattle.known_ids.proofs.known.KnownIds.add_image.Goals as goal

pub returns-in_ok-add_values : goal.returns-in_ok-add_values
returns-in_ok-add_values c = λ count known knows. knows_image c.add_values.new.self count known c.as_slice.result.now c.in-Some.values c.args.image.now c.in-Some.is c.as_slice.ensures
    (c.in_ok-add_values.ensures.then_on count (known ++ Row c.args.image.now.row ∷ []) (omega arith) (c.in_ok-add.ensures.then_on count known (omega arith) knows))
