-- States in which no session sees two rows with one key.
use Rattle.std.specs.Prelude.{◌≡◌, ℕ, false, map}
use Rattle.server_words.specs.Rows.{row_key}
use Rattle.server_words.specs.State.{State, session_at}
use Rattle.server_words.specs.View.{rows_seen}
use Rattle.server_words.specs.Writes.{repeats_key}

abbrev pub KeysAreApart : State → Type 0
KeysAreApart state = (session table : ℕ)
    → repeats_key state.start.schema.level (map row_key (rows_seen state.start.rows state.commits (session_at state session) table)) ≡ false
