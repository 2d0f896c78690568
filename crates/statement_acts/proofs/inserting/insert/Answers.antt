use Rattle.std.proofs.Common.{◌≡◌, ℕ, List, map, None, Some, sym, ◌∙◌}
use Rattle.desk_values.specs.declared.value.Value.{Value}
use Rattle.desk_values.specs.declared.value.Image.{Image}
use Rattle.desk_values.specs.declared.fault.Fault.{Fault}
use Rattle.desk_schema.specs.declared.schema.Column.{Column}
use Rattle.sql_tree.specs.Plain.{Entry, entry_of}
use Rattle.sql_eval.specs.declared.faults.Faults.{Faults}
use Rattle.sql_eval.specs.Faults.{any_fault}
use Rattle.server_words.specs.declared.effect.Effect.{Effect}
use Rattle.server_words.specs.declared.effect.Decision.{Decision}
use Rattle.server_words.specs.Causes.{ranked}
use Rattle.found_rows.specs.Evaluation.{env_of}
use Rattle.server_words.specs.Found.{Environment}
use Rattle.server_words.specs.View.{View}
use Rattle.server_words.specs.Writes.{input_value}
use Rattle.server_words.specs.Answer.{done, insert_causes, insert_effect, new_causes, new_row, refused, ruled}
use Rattle.server_words.specs.Decision.{Decides}
use Rattle.visited_rows.specs.Basis.{view_of_basis}
use Rattle.statement_acts.proofs.Refusing.{ruled_done, ruled_refused}
use Rattle.statement_acts.proofs.inserting.insert.Goals as goal

-- where the new row and the faults of its inputs are these
module _ (env : Environment) (columns : List Column) (view : View) (draws : List Value) (table : ℕ) (entries : List (Entry ℕ)) (decision : Decision)
    (new made : Image) (faults : Faults) (new_is : new ≡ made) (faults_are : faults ≡ any_fault (input_value env draws) entries) where
  refuses : (fault : Fault) → Some fault ≡ ranked (new_causes env columns view faults new) → Decides view (refused view draws fault) decision → Decides view (ruled table view draws (insert_causes env columns view draws made entries) (insert_effect made)) decision
  refuses fault told decides = ruled_refused view table draws (insert_causes env columns view draws made entries) (insert_effect made) decision fault (rw (new_is, faults_are) at told) decides

  inserts : (effect : Effect) → None ≡ ranked (new_causes env columns view faults new) → effect ≡ insert_effect new → Decides view (done table view draws effect) decision → Decides view (ruled table view draws (insert_causes env columns view draws made entries) (insert_effect made)) decision
  inserts effect told effect_is decides = ruled_done view table draws (insert_causes env columns view draws made entries) (insert_effect made) decision (rw (new_is, faults_are) at told) (rw (effect_is, new_is) at decides)

pub returns-in-Some : goal.returns-in-Some
returns-in-Some c =
    let env = env_of c.args.with in
    let view = view_of_basis c.args.basis in
    let entries = map (entry_of {N = ℕ}) c.args.inputs.now in
    refuses env c.args.columns.now view c.args.draws c.args.basis.table entries c.refusal.result
    c.in_ok-new.new (new_row env c.args.columns.now c.args.draws c.args.row c.args.basis.table c.args.named.now entries) c.in_ok-new.faults
    (rw (c.as_slice.ensures, c.as_slice-2.ensures) at c.in_ok-new.ensures.image) (rw (c.as_slice.ensures, c.as_slice-2.ensures) at c.in_ok-new.ensures.faults)
    c.in-Some.fault (sym c.in-Some.is ∙ c.in_ok-fault.ensures) (c.refusal.ensures view)

pub returns-in_ok-effect-in-None : goal.returns-in_ok-effect-in-None
returns-in_ok-effect-in-None c =
    let env = env_of c.args.with in
    let view = view_of_basis c.args.basis in
    let entries = map (entry_of {N = ℕ}) c.args.inputs.now in
    inserts env c.args.columns.now view c.args.draws c.args.basis.table entries c.done.result
    c.in_ok-new.new (new_row env c.args.columns.now c.args.draws c.args.row c.args.basis.table c.args.named.now entries) c.in_ok-new.faults
    (rw (c.as_slice.ensures, c.as_slice-2.ensures) at c.in_ok-new.ensures.image) (rw (c.as_slice.ensures, c.as_slice-2.ensures) at c.in_ok-new.ensures.faults)
    c.in_ok-effect-in-None.effect (sym c.in-None.is ∙ c.in_ok-fault.ensures) c.in_ok-effect-in-None.ensures (c.done.ensures view)
