use Rattle.std.proofs.Common.{◌≡◌, ap, rules}
use Rattle.std.specs.List.{dedup}
use Rattle.std.specs.Ordering.{eq_by_cmp, is_lt}
use Rattle.std.proofs.lemmas.Fn.{always_returns_same, dedup_same}
use Rattle.std.proofs.lemmas.List.MinMax.{ranks_by}
use Rattle.server_words.proofs.Once.{once}
use Rattle.twin_tables.proofs.sets.ascending.Goals as goal

pub returns : goal.returns
returns g c =
    let order = g.T.Member.order_of in
    let ranks = ranks_by g.met.T.Member.total (λ x. x) in
    let answers = always_returns_same _ _ _ (λ a r f called. let same : r ≡ order a.0.now a.1.0.now = search rules in (ap is_lt same, search rules)) in
    let left : c.dedup_by.new.self.items ≡ dedup (eq_by_cmp order) c.sort_by.new.self.items = dedup_same _ (eq_by_cmp order) _ (λ x y b f' x' y' k. search rules) _ _ c.dedup_by.ensures.filtered in
    once order g.met.T.Member.total g.met.T.Member.exact _ _ _ c.in_ok-sort_by.ensures.permutation (c.in_ok-sort_by.ensures.sorted (λ a b. is_lt (order a b)) ranks answers) left
