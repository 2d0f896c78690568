-- What is answered depends on the rows that match, on the faults of the condition and on the holds of those rows: so it is the
-- same by the rows that are visited as by all.
use Rattle.std.proofs.Common.{◌≡◌, ℕ, Bool, true, false, ◌&&◌, ◌||◌, not, List, [], ◌∷◌, map, length, Option, None, Some, refl, sym, ap, ◌∙◌, arith, Ok}
use Rattle.std.specs.List.{filter, list_any}
use Rattle.desk_values.specs.declared.value.Value.{Value}
use Rattle.desk_values.specs.declared.value.Image.{Image}
use Rattle.sql_tree.specs.Plain.{Term}
use Rattle.sql_eval.specs.declared.logic.Truth.{Truth}
use Rattle.sql_eval.specs.declared.logic.Truth.TheVariants.{True, False, Unknown}
use Rattle.sql_eval.specs.Faults.{any_fault, divides, joined, overflows}
use Rattle.sql_eval.specs.Totals.{values_in}
use Rattle.key_conditions.specs.Sought.{key_sought}
use Rattle.key_conditions.specs.Laws.{AsksFor}
use Rattle.key_conditions.proofs.Sound.{asks_for}
use Rattle.server_words.specs.declared.session.Session.{Session}
use Rattle.server_words.specs.Causes.{no_cause}
use Rattle.visited_rows.specs.ByKey.{AnswersAlike, is_of_key, of_key, those_of, visited}
use Rattle.server_words.specs.Found.{Environment, is_true, matches, matching, no_faults, row_faults, truth_in, where_faults}
use Rattle.server_words.specs.Answer.{are_totals, asked_faults, changing, deletion, is_over, meets_lock, selection, too_many_rows, with_faults, with_images}
use Rattle.server_words.specs.View.{View, is_held, with_table}
use Rattle.server_words.specs.Writes.{sources, updated}
use Rattle.found_rows.proofs.Adding.{any_filtered}

-- ---- rows

filter_within : (test wide : Image → Bool) (rows : List Image) → ((image : Image) → test image ≡ true → wide image ≡ true) → filter test (filter wide rows) ≡ filter test rows
filter_within test wide [] h = refl
filter_within test wide (x ∷ xs) h = by (test x) refl (wide x) refl (filter_within test wide xs h)
  where
    by : (t : Bool) → test x ≡ t → (w : Bool) → wide x ≡ w → filter test (filter wide xs) ≡ filter test xs → filter test (filter wide (x ∷ xs)) ≡ filter test (x ∷ xs)
    by true e true f rest = grind (arith, e, f, rest)
    by true e false f rest = absurd (let there = h x e in grind (arith, there, f))
    by false e true f rest = grind (arith, e, f, rest)
    by false e false f rest = grind (arith, e, f, rest)

none_passes : (test : Image → Bool) (rows : List Image) → ((image : Image) → test image ≡ false) → list_any test rows ≡ false
none_passes test [] h = refl
none_passes test (x ∷ xs) h = let first = h x in let rest = none_passes test xs h in grind (arith, first, rest)

no_fault_over : (env : Environment) (condition : Term ℕ) (rows : List Image) → ((image : Image) → (t : Truth) × (truth_in env condition image ≡ Ok t)) → any_fault (truth_in env condition) rows ≡ no_faults
unfolding any_fault
no_fault_over env condition rows h i = record {
  divides = none_passes (λ (image : Image). divides (truth_in env condition image)) rows (λ image. ap divides (h image).1) i;
  overflows = none_passes (λ (image : Image). overflows (truth_in env condition image)) rows (λ image. ap overflows (h image).1) i;
}

only_true : (t : Truth) → is_true (Ok t) ≡ true → t ≡ True
only_true True h = refl
only_true False h = absurd (grind (arith, h))
only_true Unknown h = absurd (grind (arith, h))

module _ (env : Environment) where
  -- where a key is sought, each row that matches has it, and no row has a fault
  row_asks : (c : Term ℕ) (key : Value) → key_sought env.level env.binds (Some c) ≡ Some key → (image : Image) → AsksFor env.level image.row (values_in image) env.binds c key
  row_asks c key sought image = asks_for env.level image.row (values_in image) env.binds c key sought

  row_has : (c : Term ℕ) (key : Value) → key_sought env.level env.binds (Some c) ≡ Some key → (image : Image) → matches env (Some c) image ≡ true → is_of_key env.level key image ≡ true
  row_has c key sought image m = let asks = row_asks c key sought image in asks.only (only_true asks.truth (sym (ap is_true asks.is) ∙ m))

  row_sound : (c : Term ℕ) (key : Value) → key_sought env.level env.binds (Some c) ≡ Some key → (image : Image) → (t : Truth) × (truth_in env c image ≡ Ok t)
  row_sound c key sought image = let asks = row_asks c key sought image in (asks.truth, asks.is)

  found_among : (condition : Option (Term ℕ)) (o : Option Value) (rows : List Image) → key_sought env.level env.binds condition ≡ o → matching env condition (those_of env.level o rows) ≡ matching env condition rows
  found_among condition None rows sought = refl
  found_among None (Some key) rows sought = absurd (cc)
  found_among (Some c) (Some key) rows sought = filter_within (matches env (Some c)) (is_of_key env.level key) rows (row_has c key sought)

  faults_among : (condition : Option (Term ℕ)) (o : Option Value) (rows : List Image) → key_sought env.level env.binds condition ≡ o → where_faults env condition (those_of env.level o rows) ≡ where_faults env condition rows
  faults_among condition None rows sought = refl
  faults_among None (Some key) rows sought = absurd (cc)
  faults_among (Some c) (Some key) rows sought = no_fault_over env c (of_key env.level key rows) (row_sound c key sought) ∙ sym (no_fault_over env c rows (row_sound c key sought))

  pub found_visited : (condition : Option (Term ℕ)) (rows : List Image) → matching env condition (visited env condition rows) ≡ matching env condition rows
  found_visited condition rows = found_among condition (key_sought env.level env.binds condition) rows refl

  pub faults_visited : (condition : Option (Term ℕ)) (rows : List Image) → where_faults env condition (visited env condition rows) ≡ where_faults env condition rows
  faults_visited condition rows = faults_among condition (key_sought env.level env.binds condition) rows refl

-- ---- answers

pub answers_alike : (env : Environment) (condition : Option (Term ℕ)) (view : View) (sessions : List Session) (table : ℕ) (rows : List Image)
    → AnswersAlike env condition (with_table view sessions table (visited env condition rows)) (with_table view sessions table rows)
answers_alike env condition view sessions table rows =
    let few = visited env condition rows in
    let found : matching env condition few ≡ matching env condition rows = found_visited env condition rows in
    let faults : where_faults env condition few ≡ where_faults env condition rows = faults_visited env condition rows in
    let test : Image → Bool = matches env condition in
    let held : Image → Bool = is_held sessions in
    let locked : list_any test (filter held few) ≡ list_any test (filter held rows) = any_filtered test held few ∙ ap (list_any held) found ∙ sym (any_filtered test held rows) in
    let wide = with_table view sessions table rows in
    record {
      selects = λ asked for_update i. with_faults (joined (faults i) (asked_faults env asked (found i))) (record no_cause {
        too_many = (not (are_totals asked) && is_over (length (found i))) || is_over (length view.own.changes);
        locked = for_update && locked i;
      });
      selected = λ asked keys for_update. ap (selection env asked keys for_update) found;
      deletes = λ i. with_faults (faults i) (record no_cause {
        too_many = too_many_rows view.own.changes (found i);
        locked = locked i;
      });
      deleted = ap deletion found;
      updates = λ cs changes twice i. record (with_images env.level cs (map (updated env changes) (found i)) [] (with_faults (joined (faults i) (row_faults env (sources changes) (found i))) (record no_cause {
        too_many = too_many_rows view.own.changes (found i);
        locked = locked i || list_any (meets_lock env wide changes) (found i);
      }))) { duplicate = twice };
      updated = λ changes. ap (changing env changes) found;
    }
