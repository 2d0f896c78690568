-- The number of each fault, and its rank.
use Rattle.std.specs.Prelude.{ℕ, ◌==◌, List, [], ◌∷◌, Option}
use Rattle.std.specs.List.{find}
use Rattle.desk_values.specs.declared.fault.Fault.{Fault}
use Rattle.desk_values.specs.declared.fault.Fault.TheVariants.{Syntax, UnknownTable, UnknownColumn, UnknownSequence, UnknownService, Kinds, BindMissing, Locked, DuplicateKey, NullValue, OutOfRange, TextTooLong, ZeroDivisor, Overflow, ReadOnly, NotConnected, AlreadyConnected, UnderWay, TooManyRows, NoSavepoint}

abbrev pub fault_number : Fault → ℕ
fault_number Syntax = 10
fault_number UnknownTable = 11
fault_number UnknownColumn = 12
fault_number UnknownSequence = 13
fault_number UnknownService = 14
fault_number Kinds = 15
fault_number BindMissing = 16
fault_number Locked = 20
fault_number DuplicateKey = 21
fault_number NullValue = 22
fault_number OutOfRange = 23
fault_number TextTooLong = 24
fault_number ZeroDivisor = 25
fault_number Overflow = 26
fault_number ReadOnly = 27
fault_number NotConnected = 28
fault_number AlreadyConnected = 29
fault_number UnderWay = 32
fault_number TooManyRows = 33
fault_number NoSavepoint = 34

-- The order in which faults are told: of two that apply, the one of lower rank. Each has the next rank, from 0.
abbrev pub fault_rank : Fault → ℕ
fault_rank Syntax = 0
fault_rank NotConnected = 1
fault_rank AlreadyConnected = 2
fault_rank UnknownService = 3
fault_rank UnknownTable = 4
fault_rank UnknownColumn = 5
fault_rank UnknownSequence = 6
fault_rank BindMissing = 7
fault_rank Kinds = 8
fault_rank ReadOnly = 9
fault_rank UnderWay = 10
fault_rank NoSavepoint = 11
fault_rank ZeroDivisor = 12
fault_rank Overflow = 13
fault_rank TooManyRows = 14
fault_rank Locked = 15
fault_rank NullValue = 16
fault_rank TextTooLong = 17
fault_rank OutOfRange = 18
fault_rank DuplicateKey = 19

abbrev pub all_faults : List Fault
all_faults = Syntax ∷ UnknownTable ∷ UnknownColumn ∷ UnknownSequence ∷ UnknownService ∷ Kinds
    ∷ BindMissing ∷ Locked ∷ DuplicateKey ∷ NullValue ∷ OutOfRange ∷ TextTooLong ∷ ZeroDivisor
    ∷ Overflow ∷ ReadOnly ∷ NotConnected ∷ AlreadyConnected ∷ UnderWay ∷ TooManyRows ∷ NoSavepoint ∷ []

-- the fault with this number, where there is one
unfoldable pub fault_numbered : ℕ → Option Fault
fault_numbered n = find (λ fault. fault_number fault == n) all_faults
