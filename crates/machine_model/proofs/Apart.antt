-- No two rows that a session sees have one key: the same of rows that are lent.
use Rattle.std.proofs.Common.{◌≡◌, ℕ, false, List, map, sym}
use Rattle.desk_values.specs.declared.value.Image.{Image}
use Rattle.server_words.specs.declared.session.Session.{Session}
use Rattle.server_words.specs.Rows.{row_key}
use Rattle.server_words.specs.View.{rows_seen}
use Rattle.server_words.specs.Writes.{repeats_key}
use Rattle.machine_stores.proofs.Telling.{along_four}

-- the same of rows that are lent
pub seen_apart : (level level' : ℕ) (start start' : List Image) (commits commits' : List (List Image)) (session session' : Session) (table : ℕ) → level ≡ level' → start ≡ start' → commits ≡ commits' → session ≡ session'
    → repeats_key level' (map row_key (rows_seen start' commits' session' table)) ≡ false → repeats_key level (map row_key (rows_seen start commits session table)) ≡ false
seen_apart level level' start start' commits commits' session session' table p q r s apart =
    along_four (λ (l : ℕ) (rows : List Image) (cs : List (List Image)) (mine : Session). repeats_key l (map row_key (rows_seen rows cs mine table)) ≡ false) (sym p) (sym q) (sym r) (sym s) apart
