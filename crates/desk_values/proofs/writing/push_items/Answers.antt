use Rattle.std.proofs.Common.{sym, ◌∙◌, ap, append_assoc, arith, List, ℕ, ◌++◌, ◌∷◌, ◌≡◌, ◌-◌, take, drop, length}
use Rattle.std.specs.List.{flat_map}
use Rattle.std.proofs.lemmas.List.{take_rest}
use Rattle.desk_values.specs.declared.value.Value.{Value}
use Rattle.desk_values.specs.Text.{value_text}
use Rattle.desk_values.proofs.Cuts.{join_first}
use Rattle.desk_values.proofs.writing.push_items.Goals as goal

pub returns-clause-ok : goal.returns-clause-ok
returns-clause-ok c =
    let values = c.args.values.now in
    let others : flat_map (λ (value : Value). 44 ∷ value_text value) (take (length values - 1) (drop 1 values)) ≡ flat_map (λ (value : Value). 44 ∷ value_text value) (drop 1 values) = ap (λ (vs : List Value). flat_map (λ (value : Value). 44 ∷ value_text value) vs) (take_rest values 1) in
    rw (c.in_ok-push_more.ensures.ok, c.in_ok-push_value.ensures.ok, others)
    (append_assoc c.args.to.now (value_text c.first-item.result) (flat_map (λ (value : Value). 44 ∷ value_text value) (drop 1 values)) ∙ ap (λ (bs : List ℕ). c.args.to.now ++ bs) (sym (join_first 44 value_text values c.first-item.result (omega arith) c.first-item.is)))
