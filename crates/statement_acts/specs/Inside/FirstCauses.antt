-- What the bodies find of the causes before the rest: those that go first, and what meets a hold.
use Rattle.std.specs.Prelude.{Bool, ℕ, ◌||◌, List, Option}
use Rattle.std.specs.List.{list_any}
use Rattle.server_words.specs.declared.causes.Causes.{Causes}
use Rattle.desk_values.specs.declared.value.Image.{Image}
use Rattle.sql_tree.specs.Plain.{Term, Change}
use Rattle.sql_eval.specs.Faults.{joined}
use Rattle.server_words.specs.declared.session.Session.{Session}
use Rattle.server_words.specs.View.{View, is_held}
use Rattle.server_words.specs.Found.{Environment, row_faults, where_faults}
use Rattle.server_words.specs.Writes.{sources}
use Rattle.server_words.specs.Answer.{meets_lock, too_many_rows}
use Rattle.server_words.specs.Causes.{first_causes}

-- what is found first of an UPDATE, where it finds these rows
abbrev pub update_first : Environment → View → List (Change ℕ) → Option (Term ℕ) → List Image → Causes
update_first env view changes condition found = first_causes
    (joined (where_faults env condition view.rows) (row_faults env (sources changes) found))
    (too_many_rows view.own.changes found)

-- others hold one of these rows, or a key that one of them moves to
abbrev pub meets_hold : List Session → Environment → View → List (Change ℕ) → List Image → Bool
meets_hold others env view changes found = list_any (is_held others) found || list_any (meets_lock env view changes) found
