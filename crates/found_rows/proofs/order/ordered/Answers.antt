use Rattle.std.proofs.Common.{◌≡◌, ap, rules}
use Rattle.std.specs.Ordering.{is_lt}
use Rattle.std.proofs.lemmas.Fn.{always_returns_same}
use Rattle.std.proofs.lemmas.List.MinMax.{ranks_by}
use denote.Ref.{Bor}
use Rattle.desk_values.specs.declared.value.Image.{Image}
use Rattle.server_words.specs.Found.{row_order}
use Rattle.server_words.proofs.Ordering.{ordered_sorted, row_total}
use Rattle.found_rows.proofs.order.ordered.Goals as goal

pub returns : goal.returns
returns c =
    let level = c.args.with.level in
    let keys = c.args.keys.now in
    let before = λ (a b : Bor Image). is_lt (row_order level keys a.now b.now) in
    let order = ranks_by (row_total level keys) (λ (image : Bor Image). image.now) in
    let answers = always_returns_same _ _ _ (λ a r f called. let same : r ≡ row_order level keys a.0.now.now a.1.0.now.now = search rules in (ap is_lt same, search rules)) in
    ordered_sorted level keys c.args.found.items c.sort_by.new.self.items (c.in_ok-sort_by.ensures.sorted before order answers) (c.in_ok-sort_by.ensures.stable before order answers)
