-- The value of an expression for one row, and the truth of a condition.
use Rattle.std.specs.Prelude.{ℕ, suc, ◌-◌, ◌^◌, ℤ, pos, negsuc, ◌+ℤ◌, ◌-ℤ◌, ◌*ℤ◌, neg_ℤ, int_div, int_rem, Bool, true, false, ◌&&◌, not, ◌==◌, nat_eq, nat_lt, if◌then◌else◌, List, Option, None, Some, Result, Ok, Err, slice_get}
use Rattle.std.specs.Option.{option_map, unwrap_or}
use Rattle.std.specs.Ordering.{is_lt, is_le, is_gt, is_ge}
use Rattle.desk_values.specs.declared.value.Value.{Value}
use Rattle.desk_values.specs.declared.value.Value.TheVariants.{Null, Int, Text, Row}
use Rattle.desk_values.specs.declared.fault.Fault.{Fault}
use Rattle.desk_values.specs.Comparison.{value_equal, value_order}
use Rattle.desk_values.specs.declared.fault.Fault.TheVariants.{ZeroDivisor, Overflow}
use Rattle.sql_tree.specs.declared.tree.Op.{Op}
use Rattle.sql_tree.specs.declared.tree.Op.TheVariants.{Add, Sub, Mul, Div, Eq, Ne, Lt, Le, Gt, Ge, And, Or}
use Rattle.sql_eval.specs.declared.logic.Truth.{Truth}
use Rattle.sql_eval.specs.declared.logic.Truth.TheVariants.{Unknown}
use Rattle.sql_eval.specs.Logic.{negation, conjunction, disjunction, truth_of_test}
use Rattle.sql_tree.specs.Plain.{Term}
use Rattle.sql_tree.specs.Plain as term

-- ---- faults: every part is evaluated, and of two faults the zero divisor is told

-- the fault that is told of two
abbrev pub worse : Fault → Fault → Fault
worse ZeroDivisor other = ZeroDivisor
worse fault other = other

-- what two parts have, or the worse of their faults
abbrev pub both : {A B : Type 0} → Result A Fault → Result B Fault → Result (A × B) Fault
both (Ok a) (Ok b) = Ok (a, b)
both (Ok a) (Err fault) = Err fault
both (Err fault) (Ok b) = Err fault
both (Err fault) (Err other) = Err (worse fault other)

-- an operation on what a part has; after a fault there is none
abbrev pub then_apply : {A B : Type 0} → (A → Result B Fault) → Result A Fault → Result B Fault
then_apply f (Ok a) = f a
then_apply f (Err fault) = Err fault

-- ---- numbers

-- the number is within 64 bits
abbrev pub is_in_range : ℤ → Bool
is_in_range (pos n) = nat_lt n (2 ^ 63)
is_in_range (negsuc n) = nat_lt n (2 ^ 63)

-- a result within 64 bits, or else overflow
abbrev pub number : ℤ → Result Value Fault
number n = if is_in_range n then Ok (Int n) else Err Overflow

-- the number is 0
abbrev pub is_zero : ℤ → Bool
is_zero (pos n) = nat_eq n 0
is_zero (negsuc n) = false

-- what is left over is on the other side of 0 than the divisor
abbrev pub is_across : ℤ → ℤ → Bool
is_across (pos b) (negsuc r) = true
is_across (negsuc b) (pos (suc r)) = true
is_across b r = false

-- level 1 rounds toward 0, level 2 toward minus infinity
abbrev pub quotient : ℕ → ℤ → ℤ → ℤ
quotient level a b = if level == 2 && is_across b (int_rem a b) then int_div a b -ℤ pos 1 else int_div a b

-- arithmetic with two numbers; a divisor 0 is told before the range
abbrev pub of_numbers : ℕ → Op → ℤ → ℤ → Result Value Fault
of_numbers level Add a b = number (a +ℤ b)
of_numbers level Sub a b = number (a -ℤ b)
of_numbers level Mul a b = number (a *ℤ b)
of_numbers level Div a b = if is_zero b then Err ZeroDivisor else number (quotient level a b)
of_numbers level other a b = Ok Null

-- a Null operand makes the result Null
abbrev pub arithmetic : ℕ → Op → Value → Value → Result Value Fault
arithmetic level op (Int a) (Int b) = of_numbers level op a b
arithmetic level op other value = Ok Null

-- minus a number; of Null it is Null
abbrev pub minus : Value → Result Value Fault
minus (Int a) = number (neg_ℤ a)
minus other = Ok Null

-- ---- comparisons

-- the outcome of a comparison; none where nobody knows
abbrev pub comparison : ℕ → Op → Value → Value → Option Bool
comparison level Eq a b = value_equal level a b
comparison level Ne a b = option_map not (value_equal level a b)
comparison level Lt a b = option_map is_lt (value_order level a b)
comparison level Le a b = option_map is_le (value_order level a b)
comparison level Gt a b = option_map is_gt (value_order level a b)
comparison level Ge a b = option_map is_ge (value_order level a b)
comparison level other a b = None

-- the value is Null
abbrev pub is_null_value : Value → Bool
is_null_value Null = true
is_null_value other = false

-- ---- expressions

-- the bind of a number from 1
abbrev pub bind_at : List Value → ℕ → Option Value
bind_at binds number = if nat_eq number 0 then None else slice_get binds (number - 1)

-- the value of an expression; a condition has none
abbrev pub value_of : ℕ → ℕ → List Value → List Value → Term ℕ → Result Value Fault
value_of level row values binds term.null = Ok Null
value_of level row values binds (term.int n) = Ok (Int n)
value_of level row values binds (term.text t) = Ok (Text t)
value_of level row values binds (term.bind n) = Ok (unwrap_or (bind_at binds n) Null)
value_of level row values binds (term.column n) = Ok (unwrap_or (slice_get values n) Null)
value_of level row values binds term.rowid = Ok (Row row)
value_of level row values binds (term.neg e) = then_apply minus (value_of level row values binds e)
value_of level row values binds (term.bin op a b) = then_apply (λ (p : Value × Value). arithmetic level op p.0 p.1) (both (value_of level row values binds a) (value_of level row values binds b))
value_of level row values binds (term.not e) = Ok Null
value_of level row values binds (term.is_null e) = Ok Null
value_of level row values binds (term.not_null e) = Ok Null

-- what is asked of an operator between two conditions
abbrev pub is_connective : Op → Bool
is_connective And = true
is_connective Or = true
is_connective other = false

-- AND or OR of two truths
abbrev pub connected : Op → Truth → Truth → Truth
connected And s t = conjunction s t
connected other s t = disjunction s t

-- the truth of a condition
abbrev pub truth_value : ℕ → ℕ → List Value → List Value → Term ℕ → Result Truth Fault
truth_value level row values binds (term.not e) = then_apply (λ (t : Truth). Ok (negation t)) (truth_value level row values binds e)
truth_value level row values binds (term.bin op a b) = if is_connective op
    then then_apply (λ (p : Truth × Truth). Ok (connected op p.0 p.1)) (both (truth_value level row values binds a) (truth_value level row values binds b))
    else then_apply (λ (p : Value × Value). Ok (truth_of_test (comparison level op p.0 p.1))) (both (value_of level row values binds a) (value_of level row values binds b))
truth_value level row values binds (term.is_null e) = then_apply (λ (v : Value). Ok (truth_of_test (Some (is_null_value v)))) (value_of level row values binds e)
truth_value level row values binds (term.not_null e) = then_apply (λ (v : Value). Ok (truth_of_test (Some (not (is_null_value v))))) (value_of level row values binds e)
truth_value level row values binds other = Ok Unknown

-- the value is a text
abbrev pub IsTextOf : Result Value Fault → Type 0
IsTextOf (Ok (Text t)) = Unit {0}
IsTextOf other = ⊥
