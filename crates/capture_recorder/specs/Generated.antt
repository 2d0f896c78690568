-- The generated capture: sessions that update, read and commit the rows of one table, in turns.
use Rattle.std.specs.Prelude.{ℕ, ◌+◌, ◌-◌, ◌*◌, ◌/◌, ◌%◌, ◌==◌, if◌then◌else◌, pos, true, false, List, [], ◌∷◌, map, Some, codes}
use Rattle.std.specs.List.{fold, range_with_len}
use Rattle.desk_values.specs.declared.value.Value.TheVariants as value
use Rattle.desk_values.specs.declared.value.Image.{Image}
use Rattle.desk_values.specs.declared.call.Call.{Call}
use Rattle.desk_values.specs.declared.call.Call.TheVariants.{Connect, Sql}
use Rattle.desk_schema.specs.declared.schema.Column.{Column}
use Rattle.desk_schema.specs.declared.schema.Kind.TheVariants as kind
use Rattle.desk_schema.specs.declared.schema.Rights.TheVariants.{ReadWrite}
use Rattle.desk_schema.specs.declared.schema.Service.{Service}
use Rattle.desk_schema.specs.declared.schema.Table.{Table}
use Rattle.desk_schema.specs.Start.{StartView}
use Rattle.capture_recorder.specs.Limits.{generated_sessions}
use Rattle.capture_recorder.specs.Recording.{Recording, opened, recorded}

-- ---- its start

-- row k of the table is account k, with a balance of 1000
abbrev pub account : ℕ → Image
account k = record { row = k; table = 0; left = Some (value.Int (pos k) ∷ value.Int (pos 1000) ∷ []) }

-- so many accounts, from this one on
unfoldable pub accounts : ℕ → ℕ → List Image
accounts first count = map account (range_with_len first count)

abbrev pub id_column : Column
id_column = record { name = codes "id"; kind = kind.Int (pos 1) (pos 100); not_null = true }

abbrev pub balance_column : Column
balance_column = record { name = codes "bal"; kind = kind.Int (pos 0) (pos 1000000); not_null = false }

abbrev pub accounts_table : Table
accounts_table = record { name = codes "acct"; columns = id_column ∷ balance_column ∷ [] }

abbrev pub main_service : Service
main_service = record { name = codes "main"; rights = ReadWrite }

-- one service, one table with 100 accounts, no sequence
abbrev pub generated_start : StartView
generated_start = record {
  schema = record { version = 1; level = 1; sequences = []; services = main_service ∷ []; tables = accounts_table ∷ [] };
  rows = accounts 1 100;
  next_row = 101;
  next_values = [];
}

-- ---- its calls

-- a call that a session is to make, and the moments at which it begins and ends
pub record Request : Type 0 where
  pub session : ℕ
  pub call : Call
  pub began : ℕ
  pub ended : ℕ

-- the account that the call with this stamp is about
abbrev pub account_of : ℕ → ℕ
account_of i = (7 * i) % 100 + 1

abbrev pub about : ℕ → List ℕ → Call
about i text = Sql text (value.Int (pos (account_of i)) ∷ [])

-- a session updates an account, reads another one and commits, in turns
abbrev pub call_in_turn : ℕ → ℕ → Call
call_in_turn i turn =
    if turn == 0 then about i (codes "UPDATE acct SET bal = bal + 1 WHERE id = :1")
    else if turn == 1 then about i (codes "SELECT bal FROM acct WHERE id = :1")
    else Sql (codes "COMMIT") []

-- the call with stamp i in this round of the sessions: first each connects
abbrev pub call_in_round : ℕ → ℕ → Call
call_in_round i round = if round == 0 then Connect (codes "main") else call_in_turn i ((round - 1) % 3)

-- the sessions make their calls in turn, one every ten microseconds
abbrev pub generated_request : ℕ → Request
generated_request i = record { session = i % generated_sessions; call = call_in_round i (i / generated_sessions); began = 10 * i; ended = 10 * i + 5 }

abbrev pub generated_requests : ℕ → List Request
generated_requests n = map generated_request (range_with_len 0 n)

-- ---- as they are recorded

abbrev pub with_request : Recording → Request → Recording
with_request r request = recorded r request.session request.call request.began request.ended

-- these requests one after the other
abbrev pub recorded_all : Recording → List Request → Recording
recorded_all r requests = fold with_request r requests

-- the first n calls, each with the reply that the server gives it
unfoldable pub generated : ℕ → Recording
generated n = recorded_all (opened generated_start) (generated_requests n)
