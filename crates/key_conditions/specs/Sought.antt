-- Which key a condition asks for, where it asks for one and gives no row a fault.
use Rattle.std.specs.Prelude.{ℕ, Bool, true, false, ◌&&◌, nat_eq, if◌then◌else◌, List, [], Option, None, Some}
use Rattle.std.specs.Result.{is_ok, result_ok}
use Rattle.desk_values.specs.declared.value.Value.{Value}
use Rattle.sql_tree.specs.declared.tree.Op.{Op}
use Rattle.sql_tree.specs.declared.tree.Op.TheVariants.{Add, Sub, Mul, Div, Eq, And}
use Rattle.sql_tree.specs.Plain.{Term}
use Rattle.sql_tree.specs.Plain as term
use Rattle.sql_eval.specs.Value.{value_of}

-- the operator can give a fault
abbrev pub can_fail : Op → Bool
can_fail Add = true
can_fail Sub = true
can_fail Mul = true
can_fail Div = true
can_fail other = false

-- its value is one for all rows: no column and no ROWID stands in it, but within a condition, whose value is Null
abbrev pub is_constant : Term ℕ → Bool
is_constant (term.column n) = false
is_constant term.rowid = false
is_constant (term.neg e) = is_constant e
is_constant (term.bin op a b) = is_constant a && is_constant b
is_constant other = true

-- the value of a part that is one for all rows, where it has no fault
abbrev pub constant_value : ℕ → List Value → Term ℕ → Option Value
constant_value level binds e = if is_constant e then result_ok (value_of level 0 [] binds e) else None

-- a computed part is one for all rows, and has a value
abbrev pub is_computed : ℕ → List Value → Term ℕ → Bool
is_computed level binds e = is_constant e && is_ok (value_of level 0 [] binds e)

-- no row can give the part a fault: where something is computed, it is so for all rows, and without a fault
abbrev pub is_sound : ℕ → List Value → Term ℕ → Bool
is_sound level binds (term.neg e) = is_computed level binds (term.neg e)
is_sound level binds (term.not e) = is_sound level binds e
is_sound level binds (term.bin op a b) = if can_fail op then is_computed level binds (term.bin op a b) else is_sound level binds a && is_sound level binds b
is_sound level binds (term.is_null e) = is_sound level binds e
is_sound level binds (term.not_null e) = is_sound level binds e
is_sound level binds other = true

-- the column that tells rows of a table apart
abbrev pub is_key : Term ℕ → Bool
is_key (term.column n) = nat_eq n 0
is_key other = false

-- the first that is there
abbrev pub first_of : Option Value → Option Value → Option Value
first_of (Some key) other = Some key
first_of None other = other

-- the key that `=` asks for: that of the one side, where the other is the key
abbrev pub of_sides : ℕ → List Value → Term ℕ → Term ℕ → Option Value
of_sides level binds a b = if is_key a then constant_value level binds b else if is_key b then constant_value level binds a else None

-- the key that an operator asks for: `=` of its sides, AND of either
abbrev pub of_operator : Op → Option Value → Option Value → Option Value → Option Value
of_operator Eq equal left right = equal
of_operator And equal left right = first_of left right
of_operator other equal left right = None

abbrev pub asked_key : ℕ → List Value → Term ℕ → Option Value
asked_key level binds (term.bin op a b) = of_operator op (of_sides level binds a b) (asked_key level binds a) (asked_key level binds b)
asked_key level binds other = None

-- the key that a condition asks for that gives no row a fault
abbrev pub key_sought : ℕ → List Value → Option (Term ℕ) → Option Value
key_sought level binds None = None
key_sought level binds (Some condition) = if is_sound level binds condition then asked_key level binds condition else None
