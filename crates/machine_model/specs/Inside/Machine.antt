-- What a machine keeps beside its state.
use Rattle.std.specs.Prelude.{ℕ, ◌+◌, ◌≤◌, ◌&&◌, nat_eq, if◌then◌else◌, List, length}
use Rattle.desk_values.specs.declared.value.Value.{Value}
use Rattle.sql_tree.specs.Plain.{Plan}
use Rattle.server_words.specs.Request.{Request, names_savepoint, statement, unreadable}
use Rattle.std.specs.List.{All}
use Rattle.server_words.specs.Sound.{IsSoundState}
use Rattle.row_versions.specs.History.{History}
use Rattle.machine_stores.specs.Tables.{AreTold, least_seen}
use Rattle.server_words.specs.Machine.{Running}
use Rattle.server_words.specs.declared.effect.Decision.{Decision}
use Rattle.server_words.specs.State.{State}
use Rattle.server_words.specs.Step.{view_for}
use Rattle.server_words.specs.Answer.{executed}
use Rattle.server_words.specs.Decision.{Decides}

-- the most steps of a server
abbrev pub step_limit : ℕ
step_limit = 1048576

-- what it keeps: the versions of the rows that sessions may read, and how large its numbers can have become
pub record Keeps (running : Running) (tables : List History) : Type 0 where
  pub sound : IsSoundState running.state
  pub told : AreTold (least_seen (length running.state.commits) running.state.sessions) running.state.start.rows running.state.commits tables
  pub steps : running.steps ≤ step_limit
  pub next_row : running.state.next_row ≤ 549755813888 + running.steps
  pub next_values : All (λ (n : ℕ). n ≤ 549755813888 + running.steps) running.state.next_values

-- what a checked statement asks for of a server of this version: at version 1 one on savepoints is none
abbrev pub known_request : ℕ → Plan ℕ → List Value → Request
known_request version plan binds = if nat_eq version 1 && names_savepoint plan then unreadable else statement plan binds

-- the decision is what a checked statement is answered that nothing forbids
abbrev pub Executes : State → ℕ → List Value → Plan ℕ → Decision → Type 0
Executes state session binds plan decision =
    let view = view_for state session (statement plan binds) in
    Decides view
    (executed state.start.schema view state.next_values state.next_row
    (record { level = state.start.schema.level; binds = binds }) plan) decision
