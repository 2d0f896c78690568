-- Quantities over rows in another order.
use Rattle.std.proofs.Common.{◌≡◌, ℕ, List, [], ◌∷◌, map, refl, subst, None, Some}
use Rattle.desk_values.specs.declared.value.Value.{Value}
use Rattle.sql_tree.specs.Plain.{Total, columns, values, totals}
use Rattle.sql_eval.specs.declared.logic.Truth.{Truth}
use Rattle.sql_eval.specs.Faults.{any_fault, divides, overflows}
use Rattle.sql_eval.specs.Moved.{Moved, along}
use Rattle.sql_eval.specs.Totals.{values_in}
use Rattle.sql_eval.proofs.Moved.{moved_any, moved_length}
use Rattle.sql_eval.proofs.TotalLaws.{total_ignores_order}
use Rattle.server_words.specs.Found.{faults_over, matches, sound, truth_in, values_for}
use Rattle.server_words.specs.Answer.{totals_in}
use Rattle.law_server.proofs.Rows.Bags.{moved_back, moved_filter, moved_map, moved_same}
use Rattle.law_server.specs.Renaming.Order.{CountIgnoresOrder, FaultsIgnoreOrder, ItemsIgnoreOrder, KeysIgnoreOrder, RowFaultsIgnoreOrder, WhereIgnoresOrder}
use Rattle.law_server.proofs.Renaming.Keys.{moved_repeats}
use Rattle.law_server.proofs.Renaming.Selecting.{ordered_moved}

pub faults_ignore : (A : Type 0) → FaultsIgnoreOrder A
unfolding any_fault
faults_ignore A part rows others m = let d = moved_any (λ row. divides (part row)) m in let o = moved_any (λ row. overflows (part row)) m in λ i. record { divides = d i; overflows = o i }

pub where_ignores : WhereIgnoresOrder
where_ignores env None rows others m = refl
where_ignores env (Some e) rows others m = faults_ignore Truth (truth_in env e) rows others m

pub row_faults_ignore : RowFaultsIgnoreOrder
unfolding faults_over
row_faults_ignore faults rows others m = let d = moved_any (λ row. (faults row).divides) m in let o = moved_any (λ row. (faults row).overflows) m in λ i. record { divides = d i; overflows = o i }

pub count_ignores : CountIgnoresOrder
count_ignores env condition rows others m = moved_length (moved_filter (matches env condition) m)

pub items_ignore : ItemsIgnoreOrder
items_ignore env columns keys found others m = moved_map values_in (along _ _ _ (ordered_moved env.level keys found) (along _ _ _ m (moved_back (ordered_moved env.level keys others))))
items_ignore env (values es) keys found others m = moved_map (values_for env es) (along _ _ _ (ordered_moved env.level keys found) (along _ _ _ m (moved_back (ordered_moved env.level keys others))))
items_ignore env (totals ts) keys found others m =
    let e : totals_in env found ts ≡ totals_in env others ts = λ i. map (λ (t : Total ℕ). sound (total_ignores_order env.level env.binds t found others m i)) ts in
    let P : List Value → Type 0 = λ vs. Moved (totals_in env found ts ∷ []) (vs ∷ []) in
    subst P e (moved_same (totals_in env found ts ∷ []))

pub keys_ignore : KeysIgnoreOrder
keys_ignore level keys others m = moved_repeats level m
