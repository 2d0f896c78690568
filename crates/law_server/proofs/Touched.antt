-- What the rows that a checked statement touches bring, and when each fault of rows applies: the two are one.
use Rattle.std.proofs.Common.{◌≡◌, ℕ, Bool, true, false, not, List, length, Option, None, Some, refl}
use Rattle.std.proofs.lemmas.Bool.{false≢true}
use Rattle.std.proofs.lemmas.Bool.Decides.{Decides-and, Decides-ltb, Decides-or}
use Rattle.std.proofs.lemmas.List.Folds.{Any-from_list_any, list_any-from_Any}
use Rattle.std.specs.Bool.{Decides}
use Rattle.std.specs.List.{Any, list_any}
use Rattle.std.specs.Prelude.{Result, Ok, Err}
use Rattle.desk_values.specs.declared.value.Value.{Value}
use Rattle.desk_values.specs.declared.value.Image.{Image}
use Rattle.desk_values.specs.declared.fault.Fault.{Fault}
use Rattle.desk_values.specs.declared.fault.Fault.TheVariants.{Locked, DuplicateKey, NullValue, OutOfRange, TextTooLong, ZeroDivisor, Overflow, TooManyRows}
use Rattle.desk_values.specs.Comparison.{same_key}
use Rattle.desk_schema.specs.Schema.{SchemaView, columns_of}
use Rattle.sql_tree.specs.Plain.{Asked, Change, Plan, Term, columns, values, totals, select, next, insert, update, delete, commit, rollback, set_read_only, savepoint, rollback_to}
use Rattle.sql_eval.specs.Faults.{any_fault, divides, joined, overflows}
use Rattle.server_words.specs.declared.causes.Causes.{Causes}
use Rattle.server_words.specs.Causes.{no_cause}
use Rattle.server_words.specs.Limits.{row_limit}
use Rattle.server_words.specs.Found.{Environment, faults_over, matches, matching, row_faults, truth_in, value_in, where_faults}
use Rattle.server_words.specs.Rows.{row_key}
use Rattle.server_words.specs.Draws.{draws_of}
use Rattle.server_words.specs.View.{View}
use Rattle.server_words.specs.Writes.{changed_rows, exceeds, input_value, is_locked_key, leaves, moves_key, sources, updated, violates_not_null}
use Rattle.server_words.specs.Answer.{are_totals, asked_faults, delete_causes, insert_causes, is_over, meets_lock, new_row, select_causes, too_many_rows, total_in, update_causes}
use Rattle.law_server.specs.Ranks.{Brings}
use Rattle.law_server.specs.Applies.{AreTooMany, AskedGives, ChangesTooMany, ConditionGives, MeetsHold, MeetsKey, MeetsRow, MovesOntoKey, RepeatsKey, ValuesGive, WritesAgainst}

-- ---- tests

itself : (b : Bool) → Decides b (b ≡ true)
itself b = (λ is. is, λ is. is)

nowhere : Decides false ⊥
nowhere = (false≢true, λ never. absurd never)

turned : (b : Bool) → Decides (not b) (b ≡ false)
turned true = (λ is. absurd (false≢true is), λ is. cc)
turned false = (λ is. refl, λ is. refl)

any_mapped : {X : Type 0} (P Q : X → Type 0) → ((x : X) → P x → Q x) → (xs : List X) → Any P xs → Any Q xs
any_mapped P Q f xs one = (one.0, one.1, one.2, one.3, f one.1 one.4)

any_of : {X : Type 0} (p : X → Bool) (P : X → Type 0) → ((x : X) → Decides (p x) (P x)) → (xs : List X) → Decides (list_any p xs) (Any P xs)
any_of p P each xs = (
  λ is. any_mapped (λ x. p x ≡ true) P (λ x. (each x).0) xs (Any-from_list_any p xs is),
  λ one. list_any-from_Any p xs (any_mapped P (λ x. p x ≡ true) (λ x. (each x).1) xs one),
)

divides_is : {A : Type 0} (r : Result A Fault) → Decides (divides r) (r ≡ Err ZeroDivisor)
divides_is (Ok a) = (λ is. absurd (false≢true is), λ is. absurd (cc))
divides_is (Err ZeroDivisor) = (λ is. refl, λ is. refl)
divides_is (Err other) = (λ is. absurd (false≢true is), λ is. absurd (cc))

overflows_is : {A : Type 0} (r : Result A Fault) → Decides (overflows r) (r ≡ Err Overflow)
overflows_is (Ok a) = (λ is. absurd (false≢true is), λ is. absurd (cc))
overflows_is (Err Overflow) = (λ is. refl, λ is. refl)
overflows_is (Err other) = (λ is. absurd (false≢true is), λ is. absurd (cc))

module _ (schema : SchemaView) (view : View) (next_values : List ℕ) (row : ℕ) (env : Environment) where
  -- what the rows that a checked statement touches bring, an INSERT's new row with the values that it draws
  abbrev pub causes_of : Plan ℕ → Causes
  causes_of (select table asked condition keys for_update) = select_causes env view asked condition for_update
  causes_of (insert table named entries) =
      let cs = columns_of schema.tables table in
      let draws = draws_of (insert table named entries) next_values in
      insert_causes env cs view draws (new_row env cs draws row table named entries) entries
  causes_of (update table changes condition) = update_causes env (columns_of schema.tables table) view changes condition
  causes_of (delete table condition) = delete_causes env view condition
  causes_of other = no_cause

  -- ---- the values that it takes

  condition_divides : (condition : Option (Term ℕ)) → Decides (where_faults env condition view.rows).divides (ConditionGives schema view next_values row env condition ZeroDivisor)
  unfolding any_fault
  condition_divides None = nowhere
  condition_divides (Some condition) = any_of (λ image. divides (truth_in env condition image)) (λ image. truth_in env condition image ≡ Err ZeroDivisor) (λ image. divides_is (truth_in env condition image)) view.rows

  condition_overflows : (condition : Option (Term ℕ)) → Decides (where_faults env condition view.rows).overflows (ConditionGives schema view next_values row env condition Overflow)
  unfolding any_fault
  condition_overflows None = nowhere
  condition_overflows (Some condition) = any_of (λ image. overflows (truth_in env condition image)) (λ image. truth_in env condition image ≡ Err Overflow) (λ image. overflows_is (truth_in env condition image)) view.rows

  parts_divide : (es : List (Term ℕ)) (rows : List Image) → Decides (row_faults env es rows).divides (Any (λ (image : Image). Any (λ (e : Term ℕ). value_in env image e ≡ Err ZeroDivisor) es) rows)
  unfolding any_fault faults_over
  parts_divide es rows = any_of (λ image. list_any (λ e. divides (value_in env image e)) es) (λ image. Any (λ (e : Term ℕ). value_in env image e ≡ Err ZeroDivisor) es)
      (λ image. any_of (λ e. divides (value_in env image e)) (λ e. value_in env image e ≡ Err ZeroDivisor) (λ e. divides_is (value_in env image e)) es) rows

  parts_overflow : (es : List (Term ℕ)) (rows : List Image) → Decides (row_faults env es rows).overflows (Any (λ (image : Image). Any (λ (e : Term ℕ). value_in env image e ≡ Err Overflow) es) rows)
  unfolding any_fault faults_over
  parts_overflow es rows = any_of (λ image. list_any (λ e. overflows (value_in env image e)) es) (λ image. Any (λ (e : Term ℕ). value_in env image e ≡ Err Overflow) es)
      (λ image. any_of (λ e. overflows (value_in env image e)) (λ e. value_in env image e ≡ Err Overflow) (λ e. overflows_is (value_in env image e)) es) rows

  asked_divides : (condition : Option (Term ℕ)) (asked : Asked ℕ) → Decides (asked_faults env asked (matching env condition view.rows)).divides (AskedGives schema view next_values row env condition asked ZeroDivisor)
  unfolding any_fault
  asked_divides condition columns = nowhere
  asked_divides condition (values es) = parts_divide es (matching env condition view.rows)
  asked_divides condition (totals ts) =
      let found = matching env condition view.rows in
      any_of (λ t. divides (total_in env found t)) (λ t. total_in env found t ≡ Err ZeroDivisor) (λ t. divides_is (total_in env found t)) ts

  asked_overflows : (condition : Option (Term ℕ)) (asked : Asked ℕ) → Decides (asked_faults env asked (matching env condition view.rows)).overflows (AskedGives schema view next_values row env condition asked Overflow)
  unfolding any_fault
  asked_overflows condition columns = nowhere
  asked_overflows condition (values es) = parts_overflow es (matching env condition view.rows)
  asked_overflows condition (totals ts) =
      let found = matching env condition view.rows in
      any_of (λ t. overflows (total_in env found t)) (λ t. total_in env found t ≡ Err Overflow) (λ t. overflows_is (total_in env found t)) ts

  pub values_divide : (plan : Plan ℕ) → Decides (causes_of plan).divides (ValuesGive schema view next_values row env plan ZeroDivisor)
  unfolding any_fault joined
  values_divide (select table asked condition keys for_update) =
      Decides-or (where_faults env condition view.rows).divides (asked_faults env asked (matching env condition view.rows)).divides (condition_divides condition) (asked_divides condition asked)
  values_divide (insert table named entries) =
      let draws = draws_of (insert table named entries) next_values in
      any_of (λ entry. divides (input_value env draws entry)) (λ entry. input_value env draws entry ≡ Err ZeroDivisor) (λ entry. divides_is (input_value env draws entry)) entries
  values_divide (update table changes condition) =
      let found = matching env condition view.rows in
      Decides-or (where_faults env condition view.rows).divides (row_faults env (sources changes) found).divides (condition_divides condition) (parts_divide (sources changes) found)
  values_divide (delete table condition) = condition_divides condition
  values_divide (next sequence) = nowhere
  values_divide commit = nowhere
  values_divide rollback = nowhere
  values_divide set_read_only = nowhere
  values_divide (savepoint name) = nowhere
  values_divide (rollback_to name) = nowhere

  pub values_overflow : (plan : Plan ℕ) → Decides (causes_of plan).overflows (ValuesGive schema view next_values row env plan Overflow)
  unfolding any_fault joined
  values_overflow (select table asked condition keys for_update) =
      Decides-or (where_faults env condition view.rows).overflows (asked_faults env asked (matching env condition view.rows)).overflows (condition_overflows condition) (asked_overflows condition asked)
  values_overflow (insert table named entries) =
      let draws = draws_of (insert table named entries) next_values in
      any_of (λ entry. overflows (input_value env draws entry)) (λ entry. input_value env draws entry ≡ Err Overflow) (λ entry. overflows_is (input_value env draws entry)) entries
  values_overflow (update table changes condition) =
      let found = matching env condition view.rows in
      Decides-or (where_faults env condition view.rows).overflows (row_faults env (sources changes) found).overflows (condition_overflows condition) (parts_overflow (sources changes) found)
  values_overflow (delete table condition) = condition_overflows condition
  values_overflow (next sequence) = nowhere
  values_overflow commit = nowhere
  values_overflow rollback = nowhere
  values_overflow set_read_only = nowhere
  values_overflow (savepoint name) = nowhere
  values_overflow (rollback_to name) = nowhere

  -- ---- how many rows it touches, and what others hold

  changes_too_many : (found : List Image) → Decides (too_many_rows view.own.changes found) (ChangesTooMany schema view next_values row found)
  changes_too_many found = Decides-or (is_over (length found)) (is_over (changed_rows view.own.changes found)) (Decides-ltb row_limit (length found)) (Decides-ltb row_limit (changed_rows view.own.changes found))

  pub are_too_many : (plan : Plan ℕ) → Decides (causes_of plan).too_many (AreTooMany schema view next_values row env plan)
  are_too_many (select table asked condition keys for_update) =
      let found = matching env condition view.rows in
      let mine = view.own.changes in
      let match = Decides-and (not (are_totals asked)) (is_over (length found)) (turned (are_totals asked)) (Decides-ltb row_limit (length found)) in
      Decides-or _ (is_over (length mine)) match (Decides-ltb row_limit (length mine))
  are_too_many (insert table named entries) = Decides-ltb row_limit _
  are_too_many (update table changes condition) = changes_too_many (matching env condition view.rows)
  are_too_many (delete table condition) = changes_too_many (matching env condition view.rows)
  are_too_many (next sequence) = nowhere
  are_too_many commit = nowhere
  are_too_many rollback = nowhere
  are_too_many set_read_only = nowhere
  are_too_many (savepoint name) = nowhere
  are_too_many (rollback_to name) = nowhere

  meets_row : (condition : Option (Term ℕ)) → Decides (list_any (matches env condition) view.locked) (MeetsRow schema view next_values row env condition)
  meets_row condition = any_of (matches env condition) (λ image. matches env condition image ≡ true) (λ image. itself (matches env condition image)) view.locked

  meets_key : (key : Value) → Decides (is_locked_key env.level view.locked_keys key) (MeetsKey schema view next_values row env key)
  meets_key key = any_of (same_key env.level key) (λ held. same_key env.level key held ≡ true) (λ held. itself (same_key env.level key held)) view.locked_keys

  moves_onto : (changes : List (Change ℕ)) (image : Image) → Decides (meets_lock env view changes image) (MovesOntoKey schema view next_values row env changes image)
  moves_onto changes image =
      let key = row_key (updated env changes image) in
      Decides-and (moves_key env changes image) (is_locked_key env.level view.locked_keys key) (itself (moves_key env changes image)) (meets_key key)

  pub meets_hold : (plan : Plan ℕ) → Decides (causes_of plan).locked (MeetsHold schema view next_values row env plan)
  meets_hold (select table asked condition keys for_update) = Decides-and for_update (list_any (matches env condition) view.locked) (itself for_update) (meets_row condition)
  meets_hold (insert table named entries) = meets_key _
  meets_hold (update table changes condition) =
      let found = matching env condition view.rows in
      Decides-or (list_any (matches env condition) view.locked) (list_any (meets_lock env view changes) found) (meets_row condition)
      (any_of (meets_lock env view changes) (MovesOntoKey schema view next_values row env changes) (moves_onto changes) found)
  meets_hold (delete table condition) = meets_row condition
  meets_hold (next sequence) = nowhere
  meets_hold commit = nowhere
  meets_hold rollback = nowhere
  meets_hold set_read_only = nowhere
  meets_hold (savepoint name) = nowhere
  meets_hold (rollback_to name) = nowhere

  -- ---- the rows that it writes

  pub writes_null : (plan : Plan ℕ) → Decides (causes_of plan).null (WritesAgainst schema view next_values row violates_not_null env plan)
  writes_null (select table asked condition keys for_update) = nowhere
  writes_null (insert table named entries) = itself _
  writes_null (update table changes condition) = itself _
  writes_null (delete table condition) = nowhere
  writes_null (next sequence) = nowhere
  writes_null commit = nowhere
  writes_null rollback = nowhere
  writes_null set_read_only = nowhere
  writes_null (savepoint name) = nowhere
  writes_null (rollback_to name) = nowhere

  pub writes_long : (plan : Plan ℕ) → Decides (causes_of plan).too_long (WritesAgainst schema view next_values row exceeds env plan)
  writes_long (select table asked condition keys for_update) = nowhere
  writes_long (insert table named entries) = itself _
  writes_long (update table changes condition) = itself _
  writes_long (delete table condition) = nowhere
  writes_long (next sequence) = nowhere
  writes_long commit = nowhere
  writes_long rollback = nowhere
  writes_long set_read_only = nowhere
  writes_long (savepoint name) = nowhere
  writes_long (rollback_to name) = nowhere

  pub writes_out : (plan : Plan ℕ) → Decides (causes_of plan).out_of_range (WritesAgainst schema view next_values row leaves env plan)
  writes_out (select table asked condition keys for_update) = nowhere
  writes_out (insert table named entries) = itself _
  writes_out (update table changes condition) = itself _
  writes_out (delete table condition) = nowhere
  writes_out (next sequence) = nowhere
  writes_out commit = nowhere
  writes_out rollback = nowhere
  writes_out set_read_only = nowhere
  writes_out (savepoint name) = nowhere
  writes_out (rollback_to name) = nowhere

  pub repeats : (plan : Plan ℕ) → Decides (causes_of plan).duplicate (RepeatsKey schema view next_values row env plan)
  repeats (select table asked condition keys for_update) = nowhere
  repeats (insert table named entries) = itself _
  repeats (update table changes condition) = itself _
  repeats (delete table condition) = nowhere
  repeats (next sequence) = nowhere
  repeats commit = nowhere
  repeats rollback = nowhere
  repeats set_read_only = nowhere
  repeats (savepoint name) = nowhere
  repeats (rollback_to name) = nowhere

  -- ---- each fault of rows

  -- when it applies to a checked statement
  abbrev pub Meets : Plan ℕ → Fault → Type 0
  Meets plan ZeroDivisor = ValuesGive schema view next_values row env plan ZeroDivisor
  Meets plan Overflow = ValuesGive schema view next_values row env plan Overflow
  Meets plan TooManyRows = AreTooMany schema view next_values row env plan
  Meets plan Locked = MeetsHold schema view next_values row env plan
  Meets plan NullValue = WritesAgainst schema view next_values row violates_not_null env plan
  Meets plan TextTooLong = WritesAgainst schema view next_values row exceeds env plan
  Meets plan OutOfRange = WritesAgainst schema view next_values row leaves env plan
  Meets plan DuplicateKey = RepeatsKey schema view next_values row env plan
  Meets plan other = ⊥

  pub brought : (plan : Plan ℕ) (fault : Fault) → Meets plan fault → Brings (causes_of plan) fault
  brought plan ZeroDivisor is = (values_divide plan).1 is
  brought plan Overflow is = (values_overflow plan).1 is
  brought plan TooManyRows is = (are_too_many plan).1 is
  brought plan Locked is = (meets_hold plan).1 is
  brought plan NullValue is = (writes_null plan).1 is
  brought plan TextTooLong is = (writes_long plan).1 is
  brought plan OutOfRange is = (writes_out plan).1 is
  brought plan DuplicateKey is = (repeats plan).1 is
  brought plan other is = absurd is

  pub met : (plan : Plan ℕ) (fault : Fault) → Brings (causes_of plan) fault → Meets plan fault
  met plan ZeroDivisor is = (values_divide plan).0 is
  met plan Overflow is = (values_overflow plan).0 is
  met plan TooManyRows is = (are_too_many plan).0 is
  met plan Locked is = (meets_hold plan).0 is
  met plan NullValue is = (writes_null plan).0 is
  met plan TextTooLong is = (writes_long plan).0 is
  met plan OutOfRange is = (writes_out plan).0 is
  met plan DuplicateKey is = (repeats plan).0 is
  met plan other is = absurd is
