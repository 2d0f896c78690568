use Rattle.std.proofs.Common.{◌≡◌, true, ap, map, sym, ◌∙◌, rules}
use Rattle.std.proofs.lemmas.Fn.{always_returns_same}
use denote.Ref.{Bor}
use Rattle.desk_values.specs.declared.value.Value.{Value}
use Rattle.std.specs.Ordering.{is_lt}
use Rattle.std.proofs.lemmas.List.MinMax.{ranks_by}
use Rattle.server_words.specs.Inside.Repeats.{keys_rise, order_of_keys, same_neighbours}
use Rattle.server_words.proofs.Repeating.{keys_total, repeats_sorted, rising_apart}
use Rattle.found_rows.proofs.repeats.repeat.Goals as goal

pub returns : goal.returns
returns c =
    let level = c.args.level in
    let now : Bor Value → Value = λ (k : Bor Value). k.now in
    let before = λ (a b : Bor Value). is_lt (order_of_keys level a.now b.now) in
    let order = ranks_by (keys_total level) now in
    let answers = always_returns_same _ _ _ (λ a r f called. let same : r ≡ order_of_keys level a.0.now.now a.1.0.now.now = search rules in (ap is_lt same, search rules)) in
    c.same_neighbours.ensures
    ∙ ap (λ ks. same_neighbours level (map now ks)) c.deref-2.ensures.value
    ∙ repeats_sorted level c.args.keys.items c.sort_by.new.self.items (c.in_ok-sort_by.ensures.sorted before order answers) (c.in_ok-sort_by.ensures.stable before order answers)

pub returns-then-keys_rise : goal.returns-then-keys_rise
returns-then-keys_rise c =
    let level = c.args.level in
    let now : Bor Value → Value = λ (k : Bor Value). k.now in
    let rise : keys_rise level (map now c.args.keys.items) ≡ true = ap (λ ks. keys_rise level (map now ks)) (sym c.deref.ensures.value) ∙ sym c.keys_rise.ensures ∙ c.if-keys_rise.true in
    rising_apart level (map now c.args.keys.items) rise
