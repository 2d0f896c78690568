-- Which faults apply to a call, each told by itself, and the law on the one that is told.
use Rattle.std.specs.Prelude.{◌≡◌, ◌≤◌, ◌⊎◌, true, IfSome, IsSome, IsSomeAnd, Option, None, Some, ℕ}
use Rattle.std.specs.List.{AllByRecursion}
use Rattle.desk_values.specs.declared.fault.Fault.{Fault}
use Rattle.desk_values.specs.declared.fault.Fault.TheVariants.{UnknownService, Locked, DuplicateKey, NullValue, OutOfRange, TextTooLong, ZeroDivisor, Overflow, ReadOnly, NotConnected, AlreadyConnected, UnderWay, TooManyRows, NoSavepoint}
use Rattle.desk_values.specs.Fault.{fault_rank}
use Rattle.desk_schema.specs.declared.schema.Rights.{Rights}
use Rattle.desk_schema.specs.declared.schema.Rights.TheVariants as rights
use Rattle.sql_tree.specs.Plain.{Plan, set_read_only, rollback_to}
use Rattle.sql_eval.specs.declared.faults.Faults.{Faults}
use Rattle.sql_eval.specs.Faults.{told}
use Rattle.server_words.specs.declared.causes.Causes.{Causes}
use Rattle.server_words.specs.declared.session.Savepoint.{Savepoint}
use Rattle.server_words.specs.Causes.{connect_fault, is_under_way, needs_write_access, ranked, statement_fault}
use Rattle.server_words.specs.View.{View}

-- what is told applies; and where a fault applies, one is told of a rank no higher
pub record TellsLowest (Applies : Fault → Type 0) (said : Option Fault) : Type 0 where
  pub applies : IfSome said Applies
  pub lowest : (other : Fault) → Applies other → IsSomeAnd said (λ fault. fault_rank fault ≤ fault_rank other)

-- the rows that a statement touches bring this fault
abbrev pub Brings : Causes → Fault → Type 0
Brings causes ZeroDivisor = causes.divides ≡ true
Brings causes Overflow = causes.overflows ≡ true
Brings causes TooManyRows = causes.too_many ≡ true
Brings causes Locked = causes.locked ≡ true
Brings causes NullValue = causes.null ≡ true
Brings causes TextTooLong = causes.too_long ≡ true
Brings causes OutOfRange = causes.out_of_range ≡ true
Brings causes DuplicateKey = causes.duplicate ≡ true
Brings causes other = ⊥

-- the session may not write: its service does not, or its transaction does not
abbrev pub MayOnlyRead : View → Type 0
MayOnlyRead view = (view.rights ≡ Some rights.ReadOnly) ⊎ (view.reads_only ≡ true)

-- the statement writes, holds rows or draws, where the session may only read
abbrev pub WritesUnallowed : View → Plan ℕ → Type 0
WritesUnallowed view plan = (needs_write_access plan ≡ true) × MayOnlyRead view

-- the statement is SET TRANSACTION READ ONLY, where the session's transaction is under way
abbrev pub BeginsTooLate : View → Plan ℕ → Type 0
BeginsTooLate view plan = (plan ≡ set_read_only) × (is_under_way view ≡ true)

-- the statement is ROLLBACK TO, where the session has no savepoint of its name
abbrev pub GoesBackToNone : View → Plan ℕ → Type 0
GoesBackToNone view (rollback_to name) = AllByRecursion (λ (savepoint : Savepoint). ¬ (savepoint.name ≡ name)) view.savepoints
GoesBackToNone view other = ⊥

-- the session forbids the statement for this fault
abbrev pub Forbids : View → Plan ℕ → Fault → Type 0
Forbids view plan NotConnected = view.rights ≡ None
Forbids view plan ReadOnly = WritesUnallowed view plan
Forbids view plan UnderWay = BeginsTooLate view plan
Forbids view plan NoSavepoint = GoesBackToNone view plan
Forbids view plan other = ⊥

-- the session refuses a connection by a service with these rights for this fault
abbrev pub Refuses : View → Option Rights → Fault → Type 0
Refuses view service AlreadyConnected = IsSome view.rights
Refuses view service UnknownService = service ≡ None
Refuses view service other = ⊥

-- some part has this fault
abbrev pub Has : Faults → Fault → Type 0
Has faults ZeroDivisor = faults.divides ≡ true
Has faults Overflow = faults.overflows ≡ true
Has faults other = ⊥

abbrev pub CausesByRank : Type 0
CausesByRank = (causes : Causes) → TellsLowest (Brings causes) (ranked causes)

abbrev pub StatementsByRank : Type 0
StatementsByRank = (view : View) (plan : Plan ℕ) → TellsLowest (Forbids view plan) (statement_fault view plan)

abbrev pub ConnectionsByRank : Type 0
ConnectionsByRank = (view : View) (service : Option Rights) → TellsLowest (Refuses view service) (connect_fault view service)

abbrev pub PartsByRank : Type 0
PartsByRank = (faults : Faults) → TellsLowest (Has faults) (told faults)
