-- The fault of an expression, told by its parts.
use Rattle.std.specs.Prelude.{ℕ, Bool, true, false, ◌||◌, if◌then◌else◌, List, [], ◌∷◌, ◌++◌, Option, None, Some, Result, Ok, Err}
use Rattle.std.specs.List.{list_any}
use Rattle.std.specs.Result.{result_err}
use Rattle.desk_values.specs.declared.value.Value.{Value}
use Rattle.desk_values.specs.declared.fault.Fault.{Fault}
use Rattle.desk_values.specs.declared.fault.Fault.TheVariants.{ZeroDivisor, Overflow}
use Rattle.sql_tree.specs.Plain.{Term}
use Rattle.sql_tree.specs.Plain as term
use Rattle.sql_eval.specs.declared.faults.Faults.{Faults}
use Rattle.sql_eval.specs.Value.{arithmetic, both, is_connective, minus, value_of}

-- the parts whose values are taken for the value of an expression: all of them, its own among them
abbrev pub parts : Term ℕ → List (Term ℕ)
parts (term.neg e) = term.neg e ∷ parts e
parts (term.bin op a b) = term.bin op a b ∷ (parts a ++ parts b)
parts other = other ∷ []

-- the parts whose values are taken for the truth of a condition: both sides of AND and OR
abbrev pub condition_parts : Term ℕ → List (Term ℕ)
condition_parts (term.not e) = condition_parts e
condition_parts (term.bin op a b) = if is_connective op then condition_parts a ++ condition_parts b else parts a ++ parts b
condition_parts (term.is_null e) = parts e
condition_parts (term.not_null e) = parts e
condition_parts other = []

-- the fault of an operation whose operands have none
abbrev pub fault_after : {A B : Type 0} → (A → Result B Fault) → Result A Fault → Option Fault
fault_after f (Ok a) = result_err (f a)
fault_after f (Err fault) = None

-- the fault that a part gives of its own
abbrev pub own_fault : ℕ → ℕ → List Value → List Value → Term ℕ → Option Fault
own_fault level row values binds (term.neg e) = fault_after minus (value_of level row values binds e)
own_fault level row values binds (term.bin op a b) = fault_after (λ (p : Value × Value). arithmetic level op p.0 p.1) (both (value_of level row values binds a) (value_of level row values binds b))
own_fault level row values binds other = None

-- the fault is a zero divisor
abbrev pub is_zero_divisor : Option Fault → Bool
is_zero_divisor (Some ZeroDivisor) = true
is_zero_divisor other = false

-- the fault is an overflow
abbrev pub is_overflow : Option Fault → Bool
is_overflow (Some Overflow) = true
is_overflow other = false

-- ---- over parts or rows

abbrev pub divides : {A : Type 0} → Result A Fault → Bool
divides outcome = is_zero_divisor (result_err outcome)

abbrev pub overflows : {A : Type 0} → Result A Fault → Bool
overflows outcome = is_overflow (result_err outcome)

-- whether some row's part divides by zero, and whether some row's part leaves 64 bits
unfoldable pub any_fault : {R A : Type 0} → (R → Result A Fault) → List R → Faults
any_fault part rows = record { divides = list_any (λ row. divides (part row)) rows; overflows = list_any (λ row. overflows (part row)) rows }

-- the faults of some parts and of others
unfoldable pub joined : Faults → Faults → Faults
joined some others = record { divides = some.divides || others.divides; overflows = some.overflows || others.overflows }

-- the faults of some parts and of one more
unfoldable pub noted : {A : Type 0} → Faults → Result A Fault → Faults
noted faults outcome = record { divides = faults.divides || divides outcome; overflows = faults.overflows || overflows outcome }

-- the zero divisor where some part has it, else overflow where some part has that, else none
abbrev pub told : Faults → Option Fault
told faults = if faults.divides then Some ZeroDivisor else if faults.overflows then Some Overflow else None

-- the fault, or else the outcome
abbrev pub unless_told : {A : Type 0} → Option Fault → Result A Fault → Result A Fault
unless_told (Some fault) outcome = Err fault
unless_told None outcome = outcome

-- the fault that these parts make
abbrev pub fault_among : ℕ → ℕ → List Value → List Value → List (Term ℕ) → Option Fault
fault_among level row values binds ps = told (record {
  divides = list_any (λ p. is_zero_divisor (own_fault level row values binds p)) ps;
  overflows = list_any (λ p. is_overflow (own_fault level row values binds p)) ps;
})
