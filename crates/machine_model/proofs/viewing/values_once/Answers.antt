use Rattle.std.proofs.Common.{◌≡◌, ap, rules, ◌∙◌}
use Rattle.std.specs.List.{dedup}
use Rattle.std.specs.Ordering.{eq_by_cmp, is_lt}
use Rattle.std.proofs.lemmas.Fn.{always_returns_same, dedup_same}
use Rattle.std.proofs.lemmas.List.MinMax.{ranks_by}
use Rattle.desk_values.specs.declared.value.Value.{Value}
use Rattle.desk_values.specs.Sorting.{kind_then_value}
use Rattle.desk_values.proofs.ValueOrder.{value_total}
use Rattle.server_words.proofs.Once.{once, value_exact}
use Rattle.machine_model.proofs.viewing.values_once.Goals as goal

pub returns : goal.returns
returns c =
    let before = λ (a b : Value). is_lt (kind_then_value a b) in
    let order = ranks_by value_total (λ (value : Value). value) in
    let answers = always_returns_same _ _ _ (λ a r f called. let same : r ≡ kind_then_value a.0.now a.1.0.now = search rules in (ap is_lt same, search rules)) in
    let left : c.dedup_by.new.self.items ≡ dedup (eq_by_cmp kind_then_value) c.sort_by.new.self.items = dedup_same _ (eq_by_cmp kind_then_value) _ (λ x y b f' x' y' k. search rules) _ _ c.dedup_by.ensures.filtered in
    once kind_then_value value_total value_exact _ _ _ c.in_ok-sort_by.ensures.permutation (c.in_ok-sort_by.ensures.sorted before order answers) (c.from_vec.ensures ∙ left)
