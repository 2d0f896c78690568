-- What a session is answered has a good shape, and its changes stay sound.
use Rattle.std.proofs.Common.{◌≡◌, ◌≢◌, ◌∙◌, ◌≤◌, ℕ, ◌+◌, ◌<◌, Bool, true, false, List, [], ◌∷◌, length, map, refl, sym, ap, arith}
use Rattle.std.proofs.lemmas.List.{length-map}
use Rattle.std.specs.Prelude.{nat_eq, if◌then◌else◌, Option, None, Some}
use Rattle.std.specs.List.{AllByRecursion}
use Rattle.std.proofs.lemmas.Bool.{eq-eqb, false≢true}
use Rattle.desk_values.specs.declared.value.Value.{Value}
use Rattle.desk_values.specs.declared.value.Value.TheVariants.{Draw}
use Rattle.desk_values.specs.declared.value.Image.{Image}
use Rattle.desk_values.specs.declared.fault.Fault.{Fault}
use Rattle.desk_values.specs.Good.{HasGoodShape, HasValues, IsDraw, IsShapedImage, IsShapedOutcome}
use Rattle.desk_schema.specs.Schema.{IsSchema, SchemaView, columns_of}
use Rattle.sql_tree.specs.declared.tree.Key.{Key}
use Rattle.sql_tree.specs.Plain.{Term, Asked, columns, values, totals, Total, Plan, select, next, insert, update, delete, commit, rollback, set_read_only, savepoint, rollback_to}
use Rattle.sql_eval.specs.Totals.{values_in}
use Rattle.server_words.specs.declared.effect.Effect.{Effect}
use Rattle.server_words.specs.View.{View}
use Rattle.server_words.specs.Request.{Request, connect, disconnect, unreadable, unsound, statement}
use Rattle.server_words.specs.Draws.{draws_of, drawn_from, draws_from}
use Rattle.server_words.specs.Causes.{connect_fault, disconnect_fault, statement_fault}
use Rattle.server_words.specs.Found.{Environment, matches, matching, ordered, sound, values_for}
use Rattle.server_words.specs.Writes.{gone, updated}
use Rattle.server_words.specs.Answer.{Answer, answer, delete_effect, done, executed, insert_effect, new_row, select_effect, select_rows, total_in, unless, update_effect}
use Rattle.server_words.specs.Sound.{AreSound, KeepsSound}
use Rattle.server_words.proofs.Marks.{each_up_to, each_with, own_at_one}
use Rattle.server_words.specs.declared.session.Transaction.{Transaction}
use Rattle.server_words.proofs.Members.{each_filtered, each_mapped, each_weaker}
use Rattle.server_words.proofs.SoundRows.{IsStanding, each_ordered, rising_ascends, shaped_gone, shaped_updated, some_columns, some_row_values, sound_none, sound_noted}
use Rattle.sql_reader.specs.Asking.{Asks}
use Rattle.server_words.proofs.SoundPlans.{IsSoundPlan, IsSoundRequest}

pub record IsSoundAnswer (a : Answer) : Type 0 where
  pub reply : HasGoodShape a.reply
  pub own : AreSound a.own.changes
  pub kept : AllByRecursion KeepsSound a.savepoints

pub record IsSoundView (view : View) : Type 0 where
  pub rows : AllByRecursion IsStanding view.rows
  pub own : AreSound view.own.changes
  pub kept : AllByRecursion KeepsSound view.savepoints

-- ---- what is drawn

module _ (draws : ℕ → Bool) where
  each_drawn : (sequence : ℕ) (ns : List ℕ) → AllByRecursion IsDraw (drawn_from draws sequence ns)
  each_drawn sequence [] = tt
  each_drawn sequence (n ∷ ns) =
      elim (draws sequence) as (λ b. AllByRecursion IsDraw (if b then Draw sequence n ∷ drawn_from draws (sequence + 1) ns else drawn_from draws (sequence + 1) ns)) [
        | true ↦ (tt, each_drawn (sequence + 1) ns)
        | false ↦ each_drawn (sequence + 1) ns
      ]

  some_drawn : (from at : ℕ) (ns : List ℕ) → draws at ≡ true → from ≤ at → at < from + length ns → HasValues (drawn_from draws from ns)
  some_drawn from at [] is above within = absurd (omega arith)
  some_drawn from at (n ∷ ns) is above within =
      elim (draws from) as (λ b. draws from ≡ b → HasValues (if b then Draw from n ∷ drawn_from draws (from + 1) ns else drawn_from draws (from + 1) ns)) [
        | true ↦ λ here. omega arith
        | false ↦ λ not_here. let apart : from ≢ at = λ same. false≢true (sym not_here ∙ ap draws same ∙ is) in some_drawn (from + 1) at ns is (omega arith) (omega arith)
      ] refl

-- ---- the rows of a SELECT

some_mapped : {X Y : Type 0} (f : X → Y) (xs : List X) → 0 < length xs → 0 < length (map f xs)
some_mapped f xs some = omega (arith, some, length-map xs f)

each_whatever : {X : Type 0} (P : X → Type 0) → ((x : X) → P x) → (xs : List X) → AllByRecursion P xs
each_whatever P holds [] = tt
each_whatever P holds (x ∷ xs) = (holds x, each_whatever P holds xs)

some_selected : (env : Environment) (asked : Asked ℕ) (keys : List (Key ℕ)) (found : List Image) → Asks asked → AllByRecursion IsStanding found → AllByRecursion HasValues (select_rows env asked keys found)
some_selected env columns keys found asks stand = each_mapped HasValues values_in (ordered env.level keys found) (each_weaker IsStanding (λ image. HasValues (values_in image)) (λ image is. is.values) (ordered env.level keys found) (each_ordered IsStanding env.level keys found stand))
some_selected env (values es) keys found asks stand = each_mapped HasValues (values_for env es) (ordered env.level keys found) (each_whatever (λ image. HasValues (values_for env es image)) (λ image. some_mapped _ es asks) (ordered env.level keys found))
some_selected env (totals ts) keys found asks stand = (some_mapped (λ (t : Total ℕ). sound (total_in env found t)) ts asks, tt)

-- ---- answers

unless_sound : (view : View) (draws : List Value) (fault : Option Fault) (a : Answer) → IsSoundView view → AllByRecursion IsDraw draws → IsSoundAnswer a → IsSoundAnswer (unless view draws fault a)
unless_sound view draws None a v drawn is = is
unless_sound view draws (Some fault) a v drawn is = record { reply = record { outcome = tt; draws = drawn }; own = v.own; kept = v.kept }

done_sound : (table : ℕ) (view : View) (draws : List Value) (effect : Effect) → IsSoundView view → AllByRecursion IsDraw draws → IsShapedOutcome effect.outcome → AllByRecursion IsShapedImage effect.writing.images → IsSoundAnswer (done table view draws effect)
done_sound table view draws effect v drawn outcome images = record { reply = record { outcome = outcome; draws = drawn }; own = sound_noted view.own.changes effect.writing.images v.own images; kept = v.kept }

module _ (schema : SchemaView) (is_schema : IsSchema schema) (view : View) (v : IsSoundView view) (next_values : List ℕ) (count : length next_values ≡ length schema.sequences) (row : ℕ) where
  found_stand : (env : Environment) (condition : Option (Term ℕ)) → AllByRecursion IsStanding (matching env condition view.rows)
  found_stand env condition = each_filtered IsStanding (matches env condition) view.rows v.rows

  each_changed : (P : Image → Image) → ((image : Image) → IsStanding image → IsShapedImage (P image)) → (env : Environment) (condition : Option (Term ℕ)) → AllByRecursion IsShapedImage (map P (matching env condition view.rows))
  each_changed P keeps env condition = let found = matching env condition view.rows in each_mapped IsShapedImage P found (each_weaker IsStanding (λ image. IsShapedImage (P image)) keeps found (found_stand env condition))

  executed_sound : (env : Environment) (plan : Plan ℕ) → IsSoundPlan schema plan → IsSoundAnswer (executed schema view next_values row env plan)
  executed_sound env (select table asked condition keys for_update) asks = unless_sound view [] _ _ v tt (done_sound table view [] (select_effect env view asked condition keys for_update) v tt (some_selected env asked keys (matching env condition view.rows) asks (found_stand env condition)) tt)
  executed_sound env (next sequence) within = record { reply = record { outcome = (some_drawn (nat_eq sequence) 0 sequence next_values (eq-eqb sequence sequence refl) (omega arith) (omega (arith, within, count)), tt); draws = each_drawn (nat_eq sequence) 0 next_values }; own = v.own; kept = v.kept }
  executed_sound env (insert table named entries) within =
      let cs = columns_of schema.tables table in
      let drawn = each_drawn (draws_from (insert table named entries)) 0 next_values in
      let new = new_row env cs (draws_of (insert table named entries) next_values) row table named entries in
      let image : IsShapedImage new = record { table = omega (arith, within, is_schema.tables); left = some_row_values named _ cs (some_columns schema.tables table is_schema.columns within) } in
      unless_sound view _ _ _ v drawn (done_sound table view _ (insert_effect new) v drawn tt (image, tt))
  executed_sound env (update table changes condition) is = unless_sound view [] _ _ v tt (done_sound table view [] (update_effect env view changes condition) v tt tt (each_changed (updated env changes) (shaped_updated env changes) env condition))
  executed_sound env (delete table condition) is = unless_sound view [] _ _ v tt (done_sound table view [] (delete_effect env view condition) v tt tt (each_changed gone shaped_gone env condition))
  executed_sound env commit is = record { reply = record { outcome = (v.own.shaped, rising_ascends view.own.changes v.own.rising); draws = tt }; own = sound_none; kept = tt }
  executed_sound env rollback is = record { reply = record { outcome = tt; draws = tt }; own = sound_none; kept = tt }
  executed_sound env set_read_only is = record { reply = record { outcome = tt; draws = tt }; own = v.own; kept = v.kept }
  executed_sound env (savepoint name) is = record { reply = record { outcome = tt; draws = tt }; own = v.own; kept = each_with KeepsSound view.savepoints (record { name = name; own = view.own }) v.kept v.own }
  executed_sound env (rollback_to name) is =
      record { reply = record { outcome = tt; draws = tt }; own = own_at_one (λ (own : Transaction). AreSound own.changes) name view.own view.savepoints v.own v.kept; kept = each_up_to KeepsSound name view.savepoints v.kept }

  pub answer_sound : (request : Request) → IsSoundRequest schema request → IsSoundAnswer (answer schema view next_values row request)
  answer_sound (connect service) is = unless_sound view [] (connect_fault view service) _ v tt (record { reply = record { outcome = tt; draws = tt }; own = v.own; kept = v.kept })
  answer_sound disconnect is = unless_sound view [] (disconnect_fault view) _ v tt (record { reply = record { outcome = tt; draws = tt }; own = sound_none; kept = tt })
  answer_sound unreadable is = record { reply = record { outcome = tt; draws = tt }; own = v.own; kept = v.kept }
  answer_sound (unsound table fault) is = record { reply = record { outcome = tt; draws = tt }; own = v.own; kept = v.kept }
  answer_sound (statement plan binds) is = unless_sound view [] (statement_fault view plan) _ v tt (executed_sound (record { level = schema.level; binds = binds }) plan is)
