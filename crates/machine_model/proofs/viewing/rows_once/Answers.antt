use Rattle.std.proofs.Common.{ℕ, List, subst, ◌∙◌}
use Rattle.std.specs.Ordering.{nat_cmp}
use Rattle.std.proofs.lemmas.List.Filters.{dedup_is}
use Rattle.server_words.specs.Views.{AreOnce}
use Rattle.server_words.proofs.Once.{numbers_once}
use Rattle.machine_model.proofs.viewing.rows_once.Goals as goal

pub returns : goal.returns
returns c =
    subst (λ (rows : List ℕ). AreOnce nat_cmp rows c.from_vec.result) c.in_ok-sorted.ensures.items
    (numbers_once _ _ _ c.in_ok-sort.ensures.permutation c.in_ok-sort.ensures.sorted (c.from_vec.ensures ∙ dedup_is _ _ _ c.dedup.ensures.filtered))
