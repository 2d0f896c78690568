-- The truth of two conditions joined by AND or OR.
use Rattle.std.proofs.Common.{◌≡◌, ℕ, List, ◌∙◌, ap}
use Rattle.std.specs.Prelude.{true, Result, Ok}
use Rattle.desk_values.specs.declared.value.Value.{Value}
use Rattle.desk_values.specs.declared.fault.Fault.{Fault}
use Rattle.sql_tree.specs.declared.tree.Op.{Op}
use Rattle.sql_eval.specs.declared.logic.Truth.{Truth}
use Rattle.sql_tree.specs.Plain.{Term}
use Rattle.sql_tree.specs.Plain.{bin}
use Rattle.sql_eval.specs.Value.{both, connected, is_connective, then_apply, truth_value}

pub joined_truth : (level row : ℕ) (values binds : List Value) (op : Op) (a b : Term ℕ) (s t r : Result Truth Fault) → is_connective op ≡ true → s ≡ truth_value level row values binds a → t ≡ truth_value level row values binds b → r ≡ then_apply (λ (p : Truth × Truth). Ok (connected op p.0 p.1)) (both s t) → r ≡ truth_value level row values binds (bin op a b)
joined_truth level row values binds op a b s t r h p q e =
    let join : Result Truth Fault → Result Truth Fault → Result Truth Fault = λ x y. then_apply (λ (p : Truth × Truth). Ok (connected op p.0 p.1)) (both x y) in
    rw h (e ∙ ap (λ x. join x t) p ∙ ap (λ y. join (truth_value level row values binds a) y) q)
