-- What of a session's savepoints an answer depends on.
use Rattle.std.specs.Prelude.{◌≡◌, ◌⊎◌, ℕ, Bool, false, List, []}
use Rattle.desk_schema.specs.Schema.{SchemaView}
use Rattle.server_words.specs.declared.session.Savepoint.{Savepoint}
use Rattle.server_words.specs.Answer.{Answer, answer}
use Rattle.server_words.specs.Causes.{is_empty}
use Rattle.server_words.specs.Request.{Request, statement, names_savepoint}
use Rattle.server_words.specs.View.{View}

-- it is for SAVEPOINT or ROLLBACK TO
abbrev pub is_on_savepoints : Request → Bool
is_on_savepoints (statement plan binds) = names_savepoint plan
is_on_savepoints other = false

-- the same view with other savepoints
abbrev pub marked_so : List Savepoint → View → View
marked_so savepoints view = record view { savepoints = savepoints }

-- the second answer is the first, but that each leaves the savepoints as they are in its view, or both drop all of them
pub record IsSameButMarks (view other : View) (a b : Answer) : Type 0 where
  pub reply : b.reply ≡ a.reply
  pub rights : b.rights ≡ a.rights
  pub reads_only : b.reads_only ≡ a.reads_only
  pub own : b.own ≡ a.own
  pub savepoints : ((a.savepoints ≡ view.savepoints) × (b.savepoints ≡ other.savepoints)) ⊎ ((a.savepoints ≡ []) × (b.savepoints ≡ []))

-- what any other request is answered depends on the savepoints by whether there is one alone
abbrev pub OthersReadNoSavepoint : Type 0
OthersReadNoSavepoint =
    (schema : SchemaView) (view : View) (next_values : List ℕ) (row : ℕ) (request : Request) (savepoints : List Savepoint)
    → is_on_savepoints request ≡ false → is_empty savepoints ≡ is_empty view.savepoints
    → let other = marked_so savepoints view in
    IsSameButMarks view other (answer schema view next_values row request) (answer schema other next_values row request)
