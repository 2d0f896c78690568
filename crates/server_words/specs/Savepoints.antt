-- Savepoints of a session, the oldest first: each is what its transaction had of its own when it was set.
use Rattle.std.specs.Prelude.{ℕ, Bool, if◌then◌else◌, List, [], ◌∷◌, ◌++◌}
use Rattle.std.specs.List.{list_any}
use Rattle.std.specs.Str.{bytes_eq}
use Rattle.server_words.specs.declared.session.Savepoint.{Savepoint}
use Rattle.server_words.specs.declared.session.Transaction.{Transaction}

abbrev pub is_named : List ℕ → Savepoint → Bool
is_named name savepoint = bytes_eq savepoint.name name

-- there is one of this name
abbrev pub has_savepoint : List ℕ → List Savepoint → Bool
has_savepoint name savepoints = list_any (is_named name) savepoints

-- those but the one of this name
abbrev pub without : List ℕ → List Savepoint → List Savepoint
without name [] = []
without name (savepoint ∷ others) = if is_named name savepoint then others else savepoint ∷ without name others

-- those and one more at the end, in the place of the one of its name
abbrev pub with_savepoint : List Savepoint → Savepoint → List Savepoint
with_savepoint savepoints savepoint = without savepoint.name savepoints ++ savepoint ∷ []

-- those up to the one of this name, and it
abbrev pub up_to : List ℕ → List Savepoint → List Savepoint
up_to name [] = []
up_to name (savepoint ∷ others) = savepoint ∷ (if is_named name savepoint then [] else up_to name others)

-- what the transaction had at the one of this name; what it has, where there is none
abbrev pub own_at : List ℕ → Transaction → List Savepoint → Transaction
own_at name own [] = own
own_at name own (savepoint ∷ others) = if is_named name savepoint then savepoint.own else own_at name own others
