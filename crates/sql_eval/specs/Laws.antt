-- Laws of the values and truths of expressions.
use Rattle.std.specs.Prelude.{ℕ, ◌≡◌, ◌<◌, ℤ, pos, negsuc, ◌-ℤ◌, ◌*ℤ◌, ◌≤ℤ◌, ◌<ℤ◌, unsigned_abs, true, false, ◌||◌, List, Some, Ok, slice_get}
use Rattle.std.specs.Option.{unwrap_or}
use Rattle.std.specs.Result.{result_err}
use Rattle.desk_values.specs.declared.value.Value.{Value}
use Rattle.desk_values.specs.declared.value.Value.TheVariants.{Null}
use Rattle.sql_tree.specs.declared.tree.Op.{Op}
use Rattle.sql_tree.specs.declared.tree.Op.TheVariants.{Add, Sub, Mul, Div, Eq, Ne, Lt, Le, Gt, Ge}
use Rattle.sql_eval.specs.declared.logic.Truth.{Truth}
use Rattle.sql_eval.specs.declared.logic.Truth.TheVariants.{True, False, Unknown}
use Rattle.desk_schema.specs.declared.schema.Column.{Column}
use Rattle.sql_eval.specs.declared.part_kind.PartKind.{PartKind}
use Rattle.sql_eval.specs.declared.part_kind.PartKind.TheVariants.{Truth as Condition}
use Rattle.sql_eval.specs.Kinds.{is_taken, kind_at, kind_of, kind_of_value}
use Rattle.sql_eval.specs.Logic.{negation, conjunction, disjunction}
use Rattle.sql_tree.specs.Plain.{Term}
use Rattle.sql_tree.specs.Plain as term
use Rattle.sql_eval.specs.Value.{is_null_value, is_zero, quotient, truth_value, value_of}
use Rattle.sql_eval.specs.Faults.{condition_parts, fault_among, parts}

-- a row of a truth table: what a connective makes of a truth and of True, False and Unknown
pub record IsTableRow (connective : Truth → Truth → Truth) (left t f u : Truth) : Type 0 where
  pub with_true : connective left True ≡ t
  pub with_false : connective left False ≡ f
  pub with_unknown : connective left Unknown ≡ u

-- the truth tables of the standard (ISO/IEC 9075-2, boolean value expression)
pub record AreStandardTables : Type 0 where
  pub not_true : negation True ≡ False
  pub not_false : negation False ≡ True
  pub not_unknown : negation Unknown ≡ Unknown
  pub and_true : IsTableRow conjunction True True False Unknown
  pub and_false : IsTableRow conjunction False False False False
  pub and_unknown : IsTableRow conjunction Unknown Unknown False Unknown
  pub or_true : IsTableRow disjunction True True True True
  pub or_false : IsTableRow disjunction False True False Unknown
  pub or_unknown : IsTableRow disjunction Unknown True Unknown Unknown

-- NOT of a condition with a truth goes by its table, for any row
abbrev pub NotGoesByTable : Type 0
NotGoesByTable = (level row : ℕ) (values binds : List Value) (a : Term ℕ) (s : Truth)
    → truth_value level row values binds a ≡ Ok s
    → truth_value level row values binds (term.not a) ≡ Ok (negation s)

-- an operator between two conditions with a truth goes by this table, for any row
abbrev pub GoesByTable : Op → (Truth → Truth → Truth) → Type 0
GoesByTable op table = (level row : ℕ) (values binds : List Value) (a b : Term ℕ) (s t : Truth)
    → truth_value level row values binds a ≡ Ok s → truth_value level row values binds b ≡ Ok t
    → truth_value level row values binds (term.bin op a b) ≡ Ok (table s t)

-- an operator that compares
abbrev pub IsComparison : Op → Type 0
IsComparison Eq = Unit {0}
IsComparison Ne = Unit {0}
IsComparison Lt = Unit {0}
IsComparison Le = Unit {0}
IsComparison Gt = Unit {0}
IsComparison Ge = Unit {0}
IsComparison other = ⊥

-- an operator that calculates
abbrev pub IsArithmetic : Op → Type 0
IsArithmetic Add = Unit {0}
IsArithmetic Sub = Unit {0}
IsArithmetic Mul = Unit {0}
IsArithmetic Div = Unit {0}
IsArithmetic other = ⊥

-- a comparison with Null is unknown, on the left and on the right (ISO/IEC 9075-2, comparison predicate)
abbrev pub NullIsUnknown : Type 0
NullIsUnknown = (level row : ℕ) (values binds : List Value) (op : Op) (a b : Term ℕ) (v : Value) → IsComparison op
    → value_of level row values binds a ≡ Ok Null → value_of level row values binds b ≡ Ok v
    → (truth_value level row values binds (term.bin op a b) ≡ Ok Unknown)
    × (truth_value level row values binds (term.bin op b a) ≡ Ok Unknown)

-- arithmetic with Null is Null, also by zero (ISO/IEC 9075-2, numeric value expression)
abbrev pub NullIsNull : Type 0
NullIsNull = (level row : ℕ) (values binds : List Value) (op : Op) (a b : Term ℕ) (v : Value) → IsArithmetic op
    → value_of level row values binds a ≡ Ok Null → value_of level row values binds b ≡ Ok v
    → (value_of level row values binds (term.bin op a b) ≡ Ok Null) × (value_of level row values binds (term.bin op b a) ≡ Ok Null)

-- the fault of a value is that among its parts: the zero divisor of any part before the overflow of any
abbrev pub ValueFaultIsAmongParts : Type 0
ValueFaultIsAmongParts = (level row : ℕ) (values binds : List Value) (e : Term ℕ)
    → result_err (value_of level row values binds e) ≡ fault_among level row values binds (parts e)

-- the fault of a truth is that among its parts
abbrev pub TruthFaultIsAmongParts : Type 0
TruthFaultIsAmongParts = (level row : ℕ) (values binds : List Value) (e : Term ℕ)
    → result_err (truth_value level row values binds e) ≡ fault_among level row values binds (condition_parts e)

-- ---- expressions that keep the rules of kinds

-- each value of a row is Null or of its column's kind
abbrev pub FitColumns : List Column → List Value → Type 0
FitColumns columns values = (n : ℕ) (target : PartKind) → kind_at columns n ≡ Some target
    → is_taken target (kind_of_value (unwrap_or (slice_get values n) Null)) ≡ true

-- an expression that keeps the rules has a value of its kind, or Null
abbrev pub ValueHasItsKind : Type 0
ValueHasItsKind = (level row : ℕ) (columns : List Column) (values binds : List Value) (e : Term ℕ) (kind : PartKind) (v : Value)
    → FitColumns columns values
    → kind_of columns binds e ≡ Some kind → value_of level row values binds e ≡ Ok v → is_taken kind (kind_of_value v) ≡ true

-- a comparison that keeps the rules is unknown only where one side is Null
abbrev pub UnknownMeansNull : Type 0
UnknownMeansNull = (level row : ℕ) (columns : List Column) (values binds : List Value) (op : Op) (a b : Term ℕ) (v w : Value)
    → IsComparison op → FitColumns columns values
    → kind_of columns binds (term.bin op a b) ≡ Some Condition → value_of level row values binds a ≡ Ok v
    → value_of level row values binds b ≡ Ok w
    → truth_value level row values binds (term.bin op a b) ≡ Ok Unknown → (is_null_value v || is_null_value w) ≡ true

-- ---- division

-- what is left over of a dividend is less than the divisor, and on the dividend's side of 0
abbrev pub IsRestOf : ℤ → ℤ → ℤ → Type 0
IsRestOf (pos a) b rest = (pos 0 ≤ℤ rest) × (unsigned_abs rest < unsigned_abs b)
IsRestOf (negsuc a) b rest = (rest ≤ℤ pos 0) × (unsigned_abs rest < unsigned_abs b)

-- level 1 divides toward 0
abbrev pub RoundsTowardZero : Type 0
RoundsTowardZero = (a b : ℤ) → is_zero b ≡ false → IsRestOf a b (a -ℤ quotient 1 a b *ℤ b)

-- what is left over is less than the divisor, and on the divisor's side of 0
abbrev pub IsRestBelow : ℤ → ℤ → Type 0
IsRestBelow (pos b) rest = (pos 0 ≤ℤ rest) × (rest <ℤ pos b)
IsRestBelow (negsuc b) rest = (negsuc b <ℤ rest) × (rest ≤ℤ pos 0)

-- level 2 divides toward minus infinity
abbrev pub RoundsDown : Type 0
RoundsDown = (a b : ℤ) → is_zero b ≡ false → IsRestBelow b (a -ℤ quotient 2 a b *ℤ b)
