-- Why a call is refused: each cause once, in the order in which they are told.
use Rattle.std.specs.Prelude.{ℕ, Bool, true, false, ◌&&◌, ◌||◌, not, if◌then◌else◌, List, [], Option, None, Some, is_some, is_none}
use Rattle.desk_values.specs.declared.fault.Fault.{Fault}
use Rattle.desk_values.specs.declared.fault.Fault.TheVariants.{UnknownService, Locked, DuplicateKey, NullValue, OutOfRange, TextTooLong, ZeroDivisor, Overflow, ReadOnly, NotConnected, AlreadyConnected, UnderWay, TooManyRows, NoSavepoint}
use Rattle.desk_schema.specs.declared.schema.Rights.{Rights}
use Rattle.desk_schema.specs.declared.schema.Rights.TheVariants as rights
use Rattle.sql_tree.specs.Plain.{Plan, select, next, insert, update, delete, commit, rollback, set_read_only, savepoint, rollback_to}
use Rattle.server_words.specs.declared.causes.Causes.{Causes}
use Rattle.server_words.specs.Savepoints.{has_savepoint}
use Rattle.server_words.specs.View.{View}
use Rattle.sql_eval.specs.declared.faults.Faults.{Faults}

-- ---- before anything is drawn

-- the fault of a connection, with the rights of its service where there is such a service
abbrev pub connect_fault : View → Option Rights → Option Fault
connect_fault view service = if is_some view.rights then Some AlreadyConnected else if is_none service then Some UnknownService else None

abbrev pub disconnect_fault : View → Option Fault
disconnect_fault view = if is_none view.rights then Some NotConnected else None

-- the statement writes, holds rows or draws
abbrev pub needs_write_access : Plan ℕ → Bool
needs_write_access (select table asked condition keys for_update) = for_update
needs_write_access (next sequence) = true
needs_write_access (insert table named entries) = true
needs_write_access (update table changes condition) = true
needs_write_access (delete table condition) = true
needs_write_access commit = false
needs_write_access rollback = false
needs_write_access set_read_only = false
needs_write_access (savepoint name) = false
needs_write_access (rollback_to name) = false

abbrev pub is_read_only : Option Rights → Bool
is_read_only (Some rights.ReadOnly) = true
is_read_only other = false

abbrev pub sets_read_only : Plan ℕ → Bool
sets_read_only set_read_only = true
sets_read_only other = false

abbrev pub is_empty : {X : Type 0} → List X → Bool
is_empty [] = true
is_empty other = false

-- the session's transaction only reads, or has changes or savepoints, or holds something
abbrev pub is_under_way : View → Bool
is_under_way view = view.reads_only || not (is_empty view.own.changes) || not (is_empty view.own.rows) || not (is_empty view.own.keys) || not (is_empty view.savepoints)

-- the statement goes back to a savepoint that the session does not have
abbrev pub lacks_savepoint : View → Plan ℕ → Bool
lacks_savepoint view (rollback_to name) = not (has_savepoint name view.savepoints)
lacks_savepoint view other = false

-- the fault of a checked statement for the session's rights and transaction
unfoldable pub statement_fault : View → Plan ℕ → Option Fault
statement_fault view plan =
    if is_none view.rights then Some NotConnected
    else if needs_write_access plan && (is_read_only view.rights || view.reads_only) then Some ReadOnly
    else if sets_read_only plan && is_under_way view then Some UnderWay
    else if lacks_savepoint view plan then Some NoSavepoint
    else None

-- ---- after the draws

-- the first cause that applies to any row that a statement touches
unfoldable pub ranked : Causes → Option Fault
ranked causes =
    if causes.divides then Some ZeroDivisor
    else if causes.overflows then Some Overflow
    else if causes.too_many then Some TooManyRows
    else if causes.locked then Some Locked
    else if causes.null then Some NullValue
    else if causes.too_long then Some TextTooLong
    else if causes.out_of_range then Some OutOfRange
    else if causes.duplicate then Some DuplicateKey
    else None

abbrev pub no_cause : Causes
no_cause = record { divides = false; overflows = false; too_many = false; locked = false; null = false; too_long = false; out_of_range = false; duplicate = false }

-- the causes that go before all that holds and new images bring
abbrev pub first_causes : Faults → Bool → Causes
first_causes faults too_many = record no_cause { divides = faults.divides; overflows = faults.overflows; too_many = too_many }
