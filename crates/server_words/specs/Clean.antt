-- Sessions that see of each table what is committed.
use Rattle.std.specs.Prelude.{ℕ, Bool, true, false, ◌&&◌, List, [], ◌∷◌, is_none, is_some}
use Rattle.desk_values.specs.declared.value.Image.{Image}
use Rattle.server_words.specs.State.{State, session_at}

abbrev pub changes_nothing : List Image → Bool
changes_nothing [] = true
changes_nothing (image ∷ images) = false

-- the session is connected, reads the latest commit, and has changed nothing
abbrev pub is_clean : State → ℕ → Bool
is_clean state session =
    let mine = session_at state session in
    is_some mine.rights && (is_none mine.snapshot && changes_nothing mine.own.changes)
