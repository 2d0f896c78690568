use Rattle.std.proofs.Common.{◌≡◌, ap, rules}
use Rattle.std.specs.Ordering.{is_lt}
use Rattle.std.proofs.lemmas.Fn.{always_returns_same}
use Rattle.std.proofs.lemmas.List.MinMax.{ranks_by}
use Rattle.desk_values.specs.Sorting.{value_by_value}
use Rattle.desk_values.proofs.ValueOrder.{row_total}
use Rattle.desk_values.proofs.sorting.sort_rows.Goals as goal

pub returns-clause-ascending : goal.returns-clause-ascending
returns-clause-ascending c =
    let answers = always_returns_same _ _ _ (λ a r f called. let same : r ≡ value_by_value a.0.now a.1.0.now = search rules in (ap is_lt same, search rules)) in
    rw (c.from_vec.ensures) (c.in_ok-sort_by.ensures.sorted (λ a b. is_lt (value_by_value a b)) (ranks_by row_total (λ row. row)) answers)
