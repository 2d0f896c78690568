-- Which faults apply to a call, each told by itself, and the laws on the one that is told.
use Rattle.std.specs.Prelude.{◌≡◌, ◌⊎◌, ◌+◌, ◌<◌, Bool, true, false, if◌then◌else◌, nat_lt, Err, IsOkAnd, IsSomeAnd, List, [], ◌∷◌, map, length, Option, None, Some, ℕ}
use Rattle.std.specs.List.{Any}
use Rattle.std.specs.Option.{option_map, unwrap_or}
use Rattle.desk_values.specs.declared.value.Value.{Value}
use Rattle.desk_values.specs.declared.value.Image.{Image}
use Rattle.desk_values.specs.declared.call.Call.{Call}
use Rattle.desk_values.specs.declared.call.Call.TheVariants.{Connect, Sql, Disconnect}
use Rattle.desk_values.specs.declared.call.Outcome.{Outcome}
use Rattle.desk_values.specs.declared.call.Outcome.TheVariants.{Refused}
use Rattle.desk_values.specs.declared.fault.Fault.{Fault}
use Rattle.desk_values.specs.declared.fault.Fault.TheVariants.{Syntax, UnknownTable, UnknownColumn, UnknownSequence, UnknownService, Kinds, BindMissing, Locked, DuplicateKey, NullValue, OutOfRange, TextTooLong, ZeroDivisor, Overflow, ReadOnly, NotConnected, AlreadyConnected, UnderWay, TooManyRows, NoSavepoint}
use Rattle.desk_values.specs.Comparison.{same_key}
use Rattle.desk_values.specs.Fault.{fault_rank}
use Rattle.desk_schema.specs.declared.schema.Column.{Column}
use Rattle.desk_schema.specs.Schema.{SchemaView, columns_of, rights_of}
use Rattle.sql_tree.specs.Plain.{Asked, Change, Entry, Name, Plan, Term, Total, columns, values, totals, select, insert, update, delete}
use Rattle.sql_eval.specs.Check.{applies, check_of}
use Rattle.sql_eval.specs.SchemaNames.{numbered}
use Rattle.server_words.specs.Limits.{row_limit}
use Rattle.server_words.specs.Found.{Environment, matches, matching, truth_in, value_in}
use Rattle.server_words.specs.Rows.{row_key}
use Rattle.server_words.specs.Draws.{draws_of}
use Rattle.server_words.specs.Writes.{any_value, changed_rows, exceeds, input_value, leaves, moves_key, repeats_key, sources, updated, violates_not_null}
use Rattle.server_words.specs.State.{State}
use Rattle.server_words.specs.View.{View}
use Rattle.server_words.specs.Request.{request_of, statement_in}
use Rattle.server_words.specs.Answer.{are_totals, new_row, rows_after, total_in}
use Rattle.server_words.specs.Step.{reply_in, view_for}
use Rattle.law_server.specs.Renaming.Laws.{reply_to}
use Rattle.law_server.specs.Ranks.{BeginsTooLate, GoesBackToNone, Refuses, TellsLowest, WritesUnallowed}

-- the text is that of a statement of a server of this version, and this is so of it
abbrev pub IsRead : ℕ → List ℕ → (Plan Name → Type 0) → Type 0
IsRead version text Says = IsSomeAnd (statement_in version text) Says

-- ---- a call where it meets this schema, what its session sees, the next value of each sequence and the number of the next row

module _ (schema : SchemaView) (view : View) (next_values : List ℕ) (row : ℕ) where
  -- ---- the values that a checked statement takes

  -- the condition has this fault for some row that the session sees, whether the row matches or not
  abbrev pub ConditionGives : Environment → Option (Term ℕ) → Fault → Type 0
  ConditionGives env None fault = ⊥
  ConditionGives env (Some condition) fault = Any (λ (image : Image). truth_in env condition image ≡ Err fault) view.rows

  -- one of these expressions has it for some row that matches
  abbrev pub PartsGive : Environment → Option (Term ℕ) → List (Term ℕ) → Fault → Type 0
  PartsGive env condition es fault =
      Any (λ (image : Image). Any (λ (e : Term ℕ). value_in env image e ≡ Err fault) es) (matching env condition view.rows)

  -- what is asked of the rows that match has it: an expression for some row of them, or a total over them
  abbrev pub AskedGives : Environment → Option (Term ℕ) → Asked ℕ → Fault → Type 0
  AskedGives env condition columns fault = ⊥
  AskedGives env condition (values es) fault = PartsGive env condition es fault
  AskedGives env condition (totals ts) fault = Any (λ (t : Total ℕ). total_in env (matching env condition view.rows) t ≡ Err fault) ts

  -- The condition has this fault, or what is asked, set or given. An expression has one fault for a row, and a total has one over
  -- its rows: the zero divisor where a part divides by zero, although another part leaves 64 bits. So of one expression Overflow
  -- is not said beside ZeroDivisor; of two, or for two rows, each is said whatever the other does.
  abbrev pub ValuesGive : Environment → Plan ℕ → Fault → Type 0
  ValuesGive env (select table asked condition keys for_update) fault =
      ConditionGives env condition fault ⊎ AskedGives env condition asked fault
  ValuesGive env (insert table named entries) fault =
      let draws = draws_of (insert table named entries) next_values in
      Any (λ (entry : Entry ℕ). input_value env draws entry ≡ Err fault) entries
  ValuesGive env (update table changes condition) fault =
      ConditionGives env condition fault ⊎ PartsGive env condition (sources changes) fault
  ValuesGive env (delete table condition) fault = ConditionGives env condition fault
  ValuesGive env other fault = ⊥

  -- ---- how many rows it touches, and what others hold

  -- a statement that changes rows: too many match, or its transaction would have changed too many
  abbrev pub ChangesTooMany : List Image → Type 0
  ChangesTooMany found = (row_limit < length found) ⊎ (row_limit < changed_rows view.own.changes found)

  -- more rows than the limit match, where rows and no totals are asked, or its transaction has changed or would change more
  abbrev pub AreTooMany : Environment → Plan ℕ → Type 0
  AreTooMany env (select table asked condition keys for_update) =
      ((are_totals asked ≡ false) × (row_limit < length (matching env condition view.rows))) ⊎ (row_limit < length view.own.changes)
  AreTooMany env (insert table named entries) = row_limit < length view.own.changes + 1
  AreTooMany env (update table changes condition) = ChangesTooMany (matching env condition view.rows)
  AreTooMany env (delete table condition) = ChangesTooMany (matching env condition view.rows)
  AreTooMany env other = ⊥

  -- another session holds some row that matches
  abbrev pub MeetsRow : Environment → Option (Term ℕ) → Type 0
  MeetsRow env condition = Any (λ (image : Image). matches env condition image ≡ true) view.locked

  -- another session holds this key
  abbrev pub MeetsKey : Environment → Value → Type 0
  MeetsKey env key = Any (λ (held : Value). same_key env.level key held ≡ true) view.locked_keys

  -- an UPDATE would change this row's key to another one, which another session holds
  abbrev pub MovesOntoKey : Environment → List (Change ℕ) → Image → Type 0
  MovesOntoKey env changes image = (moves_key env changes image ≡ true) × MeetsKey env (row_key (updated env changes image))

  -- the row that an INSERT would make, with the values that it draws
  abbrev pub made_by : Environment → ℕ → Option (List ℕ) → List (Entry ℕ) → Image
  made_by env table named entries =
      let draws = draws_of (insert table named entries) next_values in
      new_row env (columns_of schema.tables table) draws row table named entries

  -- another session holds a row that the statement would lock, change or delete, or a key that it would give to a row
  abbrev pub MeetsHold : Environment → Plan ℕ → Type 0
  MeetsHold env (select table asked condition keys for_update) = (for_update ≡ true) × MeetsRow env condition
  MeetsHold env (insert table named entries) = MeetsKey env (row_key (made_by env table named entries))
  MeetsHold env (update table changes condition) =
      MeetsRow env condition ⊎ Any (MovesOntoKey env changes) (matching env condition view.rows)
  MeetsHold env (delete table condition) = MeetsRow env condition
  MeetsHold env other = ⊥

  -- ---- the rows that it writes. Where a value has a fault, Null holds its place; faults of values have the lower ranks

  -- a value that an INSERT or an UPDATE writes fails this test of its column
  abbrev pub WritesAgainst : (Column → Value → Bool) → Environment → Plan ℕ → Type 0
  WritesAgainst fails env (insert table named entries) =
      any_value fails (columns_of schema.tables table) (made_by env table named entries ∷ []) ≡ true
  WritesAgainst fails env (update table changes condition) =
      any_value fails (columns_of schema.tables table) (map (updated env changes) (matching env condition view.rows)) ≡ true
  WritesAgainst fails env other = ⊥

  -- two rows of the table would have one key afterwards
  abbrev pub RepeatsKey : Environment → Plan ℕ → Type 0
  RepeatsKey env (insert table named entries) =
      repeats_key env.level (map row_key (made_by env table named entries ∷ view.rows)) ≡ true
  RepeatsKey env (update table changes condition) =
      repeats_key env.level (map row_key (rows_after env changes condition view.rows)) ≡ true
  RepeatsKey env other = ⊥

  -- ---- the call

  -- The text is that of a statement that no check refuses, and this is so of it with its binds. Of any other nothing is said of
  -- rows: without table, columns and binds there are none that it could touch.
  abbrev pub IsChecked : List ℕ → List Value → (Environment → Plan ℕ → Type 0) → Type 0
  IsChecked text binds Says =
      let env : Environment = record { level = schema.level; binds = binds } in
      IsRead schema.version text (λ parsed. IsOkAnd (check_of schema binds parsed) (Says env))

  -- The fault applies to the call, whatever others do, but for the two faults of one expression. They stand here in the order of
  -- rank.
  abbrev pub Applies : Call → Fault → Type 0
  -- the text is that of no statement that a server of the schema's version has
  Applies (Sql text binds) Syntax = statement_in schema.version text ≡ None
  -- the session is not connected
  Applies (Sql text binds) NotConnected = view.rights ≡ None
  Applies Disconnect NotConnected = view.rights ≡ None
  -- the session is connected already
  Applies (Connect service) AlreadyConnected = Refuses view (rights_of schema.services service) AlreadyConnected
  -- there is no such service
  Applies (Connect service) UnknownService = Refuses view (rights_of schema.services service) UnknownService
  -- a check finds that the statement's table is not there
  Applies (Sql text binds) UnknownTable = IsRead schema.version text (λ parsed. applies schema binds parsed UnknownTable ≡ true)
  -- a check finds fault with its columns: one is not there, is named twice, or stands where none may
  Applies (Sql text binds) UnknownColumn = IsRead schema.version text (λ parsed. applies schema binds parsed UnknownColumn ≡ true)
  -- a check finds that a sequence of it is not there
  Applies (Sql text binds) UnknownSequence = IsRead schema.version text (λ parsed. applies schema binds parsed UnknownSequence ≡ true)
  -- a check finds that a bind of it was not given
  Applies (Sql text binds) BindMissing = IsRead schema.version text (λ parsed. applies schema binds parsed BindMissing ≡ true)
  -- a check finds that the kinds of its parts do not agree
  Applies (Sql text binds) Kinds = IsRead schema.version text (λ parsed. applies schema binds parsed Kinds ≡ true)
  -- the statement writes, holds rows or draws, and the session may only read
  Applies (Sql text binds) ReadOnly = IsRead schema.version text (λ parsed. WritesUnallowed view (numbered schema parsed))
  -- the statement is SET TRANSACTION READ ONLY, and the session's transaction is under way
  Applies (Sql text binds) UnderWay = IsRead schema.version text (λ parsed. BeginsTooLate view (numbered schema parsed))
  -- the statement is ROLLBACK TO, and the session has no savepoint of its name
  Applies (Sql text binds) NoSavepoint = IsRead schema.version text (λ parsed. GoesBackToNone view (numbered schema parsed))
  -- a value that it takes divides by zero
  Applies (Sql text binds) ZeroDivisor = IsChecked text binds (λ env plan. ValuesGive env plan ZeroDivisor)
  -- one leaves 64 bits
  Applies (Sql text binds) Overflow = IsChecked text binds (λ env plan. ValuesGive env plan Overflow)
  -- too many rows match, or would be changed
  Applies (Sql text binds) TooManyRows = IsChecked text binds AreTooMany
  -- another session holds a row or a key
  Applies (Sql text binds) Locked = IsChecked text binds MeetsHold
  -- a new value is Null where none may be
  Applies (Sql text binds) NullValue = IsChecked text binds (WritesAgainst violates_not_null)
  -- a new text is longer than its column takes
  Applies (Sql text binds) TextTooLong = IsChecked text binds (WritesAgainst exceeds)
  -- a new number is out of its column's range
  Applies (Sql text binds) OutOfRange = IsChecked text binds (WritesAgainst leaves)
  -- two rows would have one key
  Applies (Sql text binds) DuplicateKey = IsChecked text binds RepeatsKey
  -- no other fault ever applies to a call of that kind
  Applies call fault = ⊥

-- the fault applies to the session's call in this state
abbrev pub AppliesIn : State → ℕ → Call → Fault → Type 0
AppliesIn state session call =
    let schema = state.start.schema in
    Applies schema (view_for state session (request_of schema call)) state.next_values state.next_row call

-- the fault that a call of this outcome is refused for
abbrev pub fault_told : Outcome → Option Fault
fault_told (Refused fault) = Some fault
fault_told other = None

-- ---- the laws

-- where a fault applies to a call its reply tells one, the one of the lowest rank; where none does it tells none
abbrev pub AnswersByRank : Type 0
AnswersByRank = (schema : SchemaView) (view : View) (next_values : List ℕ) (row : ℕ) (call : Call)
    → TellsLowest (Applies schema view next_values row call) (fault_told (reply_to schema view next_values row call).outcome)

-- and so does the reply that a session's call gets in a state
abbrev pub RepliesByRank : Type 0
RepliesByRank = (state : State) (session : ℕ) (call : Call)
    → TellsLowest (AppliesIn state session call) (fault_told (reply_in state session call).outcome)

-- the values that a call's statement draws
abbrev pub drawn_by : SchemaView → List ℕ → Call → List Value
drawn_by schema next_values (Sql text binds) =
    unwrap_or (option_map (λ (parsed : Plan Name). draws_of (numbered schema parsed) next_values) (statement_in schema.version text)) []
drawn_by schema next_values other = []

-- the fault has a rank below those of rows
abbrev pub is_told_early : Option Fault → Bool
is_told_early (Some fault) = nat_lt (fault_rank fault) (fault_rank ZeroDivisor)
is_told_early None = false

-- a call draws nothing where it is refused so early, and else all that its statement draws, refused or not
abbrev pub DrawsByRank : Type 0
DrawsByRank = (schema : SchemaView) (view : View) (next_values : List ℕ) (row : ℕ) (call : Call)
    → let reply = reply_to schema view next_values row call in
    reply.draws ≡ (if is_told_early (fault_told reply.outcome) then [] else drawn_by schema next_values call)

-- no two faults have one rank
abbrev pub RanksDiffer : Type 0
RanksDiffer = (some other : Fault) → fault_rank some ≡ fault_rank other → some ≡ other
