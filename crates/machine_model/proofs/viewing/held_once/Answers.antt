use Rattle.std.proofs.Common.{◌≡◌, List, ap, rules, subst, ◌∙◌}
use Rattle.std.specs.List.{dedup}
use Rattle.std.specs.Ordering.{eq_by_cmp, is_lt}
use Rattle.std.proofs.lemmas.Fn.{always_returns_same, dedup_same}
use Rattle.std.proofs.lemmas.List.MinMax.{ranks_by}
use Rattle.server_words.specs.declared.views.KeyId.{KeyId}
use Rattle.server_words.specs.Views.{AreOnce, key_order}
use Rattle.server_words.proofs.Once.{key_exact, key_total, once}
use Rattle.machine_model.proofs.viewing.held_once.Goals as goal

pub returns : goal.returns
returns c =
    let before = λ (a b : KeyId). is_lt (key_order a b) in
    let order = ranks_by key_total (λ (key : KeyId). key) in
    let answers = always_returns_same _ _ _ (λ a r f called. let same : r ≡ key_order a.0.now a.1.0.now = search rules in (ap is_lt same, search rules)) in
    let left : c.dedup_by.new.self.items ≡ dedup (eq_by_cmp key_order) c.sort_by.new.self.items = dedup_same _ (eq_by_cmp key_order) _ (λ x y b f' x' y' k. search rules) _ _ c.dedup_by.ensures.filtered in
    subst (λ (keys : List KeyId). AreOnce key_order keys c.from_vec.result) c.in_ok-keys.ensures
    (once key_order key_total key_exact _ _ _ c.in_ok-sort_by.ensures.permutation (c.in_ok-sort_by.ensures.sorted before order answers) (c.from_vec.ensures ∙ left))
