-- A value that is looked at without a copy, and the value itself.
use Rattle.std.specs.Prelude.{ℤ, Option, None, Some, Result, Ok, Err}
use Rattle.desk_values.specs.declared.value.Value.{Value}
use Rattle.desk_values.specs.declared.value.Value.TheVariants as value
use Rattle.desk_values.specs.declared.fault.Fault.{Fault}
use Rattle.desk_values.specs.declared.fault.Fault.TheVariants.{Overflow}
use Rattle.sql_eval.specs.declared.value_ref.ValueRef.{ValueRef}
use Rattle.sql_eval.specs.declared.value_ref.ValueRef.TheVariants.{Null, Int, Text, Row, Draw}

-- the value itself
abbrev pub ref_value : ValueRef → Value
ref_value Null = value.Null
ref_value (Int n) = value.Int n
ref_value (Text t) = value.Text t.now
ref_value (Row n) = value.Row n
ref_value (Draw sequence n) = value.Draw sequence n

-- the value itself, or the fault
abbrev pub ref_outcome : Result ValueRef Fault → Result Value Fault
ref_outcome (Ok value) = Ok (ref_value value)
ref_outcome (Err fault) = Err fault

-- both values themselves, or the fault
abbrev pub ref_pair : Result (ValueRef × ValueRef) Fault → Result (Value × Value) Fault
ref_pair (Ok p) = Ok (ref_value p.0, ref_value p.1)
ref_pair (Err fault) = Err fault

-- a computed number, where there is one within 64 bits
abbrev pub computed_of : Option ℤ → Result Value Fault
computed_of None = Err Overflow
computed_of (Some n) = Ok (value.Int n)
