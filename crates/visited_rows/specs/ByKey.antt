-- Which rows a statement visits: where its condition asks for a key, those of that key alone. It is answered by them as by all.
use Rattle.std.specs.Prelude.{◌≡◌, ℕ, Bool, List, Option, None, Some}
use Rattle.std.specs.List.{filter}
use Rattle.desk_values.specs.declared.value.Value.{Value}
use Rattle.desk_values.specs.declared.value.Image.{Image}
use Rattle.desk_values.specs.Comparison.{same_key}
use Rattle.desk_schema.specs.declared.schema.Column.{Column}
use Rattle.sql_tree.specs.declared.tree.Key.{Key}
use Rattle.sql_tree.specs.Plain.{Asked, Change, Term}
use Rattle.key_conditions.specs.Sought.{key_sought}
use Rattle.server_words.specs.declared.session.Session.{Session}
use Rattle.server_words.specs.Found.{Environment}
use Rattle.server_words.specs.Rows.{row_key}
use Rattle.server_words.specs.View.{View, with_table}
use Rattle.server_words.specs.Answer.{delete_causes, delete_effect, select_causes, select_effect, update_causes, update_effect}

abbrev pub is_of_key : ℕ → Value → Image → Bool
is_of_key level key image = same_key level (row_key image) key

abbrev pub of_key : ℕ → Value → List Image → List Image
of_key level key rows = filter (is_of_key level key) rows

abbrev pub those_of : ℕ → Option Value → List Image → List Image
those_of level None rows = rows
those_of level (Some key) rows = of_key level key rows

-- the rows that a statement with this condition visits
abbrev pub visited : Environment → Option (Term ℕ) → List Image → List Image
visited env condition rows = those_of env.level (key_sought env.level env.binds condition) rows

-- a SELECT and a DELETE are answered by the one view as by the other, and so is an UPDATE, but for whether a key stands twice
pub record AnswersAlike (env : Environment) (condition : Option (Term ℕ)) (narrow wide : View) : Type 0 where
  pub selects : (asked : Asked ℕ) (for_update : Bool) → select_causes env narrow asked condition for_update ≡ select_causes env wide asked condition for_update
  pub selected : (asked : Asked ℕ) (keys : List (Key ℕ)) (for_update : Bool) → select_effect env narrow asked condition keys for_update ≡ select_effect env wide asked condition keys for_update
  pub deletes : delete_causes env narrow condition ≡ delete_causes env wide condition
  pub deleted : delete_effect env narrow condition ≡ delete_effect env wide condition
  pub updates : (cs : List Column) (changes : List (Change ℕ)) (twice : Bool) → record (update_causes env cs narrow changes condition) { duplicate = twice } ≡ record (update_causes env cs wide changes condition) { duplicate = twice }
  pub updated : (changes : List (Change ℕ)) → update_effect env narrow changes condition ≡ update_effect env wide changes condition

-- so it is by the rows that are visited
abbrev pub VisitedAnswer : Type 0
VisitedAnswer = (env : Environment) (condition : Option (Term ℕ)) (view : View) (sessions : List Session) (table : ℕ) (rows : List Image)
    → AnswersAlike env condition (with_table view sessions table (visited env condition rows)) (with_table view sessions table rows)
