-- A read that holds nothing depends on the rows that it sees, and on no hold.
use Rattle.std.proofs.Common.{◌≡◌, ℕ, false, ◌&&◌, ◌||◌, not, List, [], length, Option, None, Some, refl, sym, ap, if◌then◌else◌, ◌∙◌}
use Rattle.std.specs.Prelude.{is_none}
use Rattle.desk_values.specs.declared.value.Value.{Value}
use Rattle.desk_values.specs.declared.value.Image.{Image}
use Rattle.desk_values.specs.declared.fault.Fault.{Fault}
use Rattle.desk_schema.specs.declared.schema.Rights.TheVariants.{ReadOnly}
use Rattle.desk_schema.specs.Schema.{SchemaView}
use Rattle.sql_tree.specs.declared.tree.Key.{Key}
use Rattle.sql_tree.specs.Plain.{Asked, Term, select}
use Rattle.server_words.specs.State.{nothing}
use Rattle.server_words.specs.View.{View}
use Rattle.server_words.specs.Causes.{ranked, statement_fault}
use Rattle.server_words.specs.Request.{Request, statement, unsound}
use Rattle.server_words.specs.Answer.{Answer, answer, done, ruled, select_causes, select_effect, unless}
use Rattle.server_words.specs.Found.{Environment}

-- the view of a session that only reads, with nothing of its own and nothing held by others
abbrev pub bare : List Image → View
bare rows = record { rights = Some ReadOnly; reads_only = false; own = nothing; savepoints = []; rows = rows; locked = []; locked_keys = [] }

module _ (view : View) (connected : is_none view.rights ≡ false) (fresh : view.own.changes ≡ []) (schema : SchemaView) (ns ms : List ℕ) (row made : ℕ) where
  reply_alike : (other : View) (table : ℕ) (env : Environment) (f : Option Fault) (asked : Asked ℕ) (condition : Option (Term ℕ)) (keys : List (Key ℕ)) (t : View) → t.rows ≡ view.rows
      → (unless view [] f (done table view [] (select_effect env view asked condition keys false))).reply ≡ (unless t [] f (done table t [] (select_effect env t asked condition keys false))).reply
  reply_alike other table env None asked condition keys t e = rw e refl
  reply_alike other table env (Some fault) asked condition keys t e = refl

  pub read_alike : (table : ℕ) (asked : Asked ℕ) (condition : Option (Term ℕ)) (keys : List (Key ℕ)) (binds : List Value)
      → (answer schema view ns row (statement (select table asked condition keys false) binds)).reply ≡ (answer schema (bare view.rows) ms made (statement (select table asked condition keys false) binds)).reply
  unfolding statement_fault
  read_alike table asked condition keys binds =
      let env : Environment = record { level = schema.level; binds = binds } in
      let causes : select_causes env view asked condition false ≡ select_causes env (bare view.rows) asked condition false = rw fresh refl in
      rw (connected, causes) (reply_alike view table env (ranked (select_causes env (bare view.rows) asked condition false)) asked condition keys (bare view.rows) refl)
