-- The laws of the connectives and of Null.
use Rattle.std.proofs.Common.{◌≡◌, ℕ, refl, ap}
use Rattle.std.specs.Prelude.{Result, Ok, None, Option, Bool, not}
use Rattle.std.specs.Option.{option_map}
use Rattle.std.specs.Ordering.{is_lt, is_le, is_gt, is_ge}
use Rattle.desk_values.specs.declared.value.Value.{Value}
use Rattle.desk_values.specs.declared.value.Value.TheVariants.{Null, Int, Text, Row, Draw}
use Rattle.desk_values.specs.declared.fault.Fault.{Fault}
use Rattle.sql_tree.specs.declared.tree.Op.{Op}
use Rattle.sql_tree.specs.declared.tree.Op.TheVariants.{Add, Sub, Mul, Div, Eq, Ne, Lt, Le, Gt, Ge, And, Or}
use Rattle.sql_eval.specs.declared.logic.Truth.{Truth}
use Rattle.sql_eval.specs.declared.logic.Truth.TheVariants.{Unknown}
use Rattle.sql_eval.specs.Logic.{conjunction, disjunction, negation, truth_of_test}
use Rattle.desk_values.specs.Comparison.{value_equal, value_order}
use Rattle.sql_eval.specs.Value.{arithmetic, both, comparison, connected, then_apply, truth_value, value_of}
use Rattle.sql_eval.specs.Laws.{AreStandardTables, GoesByTable, NotGoesByTable, NullIsNull, NullIsUnknown}

pub standard_tables : AreStandardTables
standard_tables = record {
  not_true = refl;
  not_false = refl;
  not_unknown = refl;
  and_true = record { with_true = refl; with_false = refl; with_unknown = refl };
  and_false = record { with_true = refl; with_false = refl; with_unknown = refl };
  and_unknown = record { with_true = refl; with_false = refl; with_unknown = refl };
  or_true = record { with_true = refl; with_false = refl; with_unknown = refl };
  or_false = record { with_true = refl; with_false = refl; with_unknown = refl };
  or_unknown = record { with_true = refl; with_false = refl; with_unknown = refl };
}

pub not_by_table : NotGoesByTable
not_by_table level row values binds a s e = ap (λ (x : Result Truth Fault). then_apply (λ (t : Truth). Ok (negation t)) x) e

joined : (op : Op) (x y : Result Truth Fault) (s t : Truth) → x ≡ Ok s → y ≡ Ok t → then_apply (λ (p : Truth × Truth). Ok (connected op p.0 p.1)) (both x y) ≡ Ok (connected op s t)
joined op x y s t e f = rw (e, f) refl

pub and_by_table : GoesByTable And conjunction
and_by_table level row values binds a b s t e f = joined And (truth_value level row values binds a) (truth_value level row values binds b) s t e f

pub or_by_table : GoesByTable Or disjunction
or_by_table level row values binds a b s t e f = joined Or (truth_value level row values binds a) (truth_value level row values binds b) s t e f

-- nothing is known of two values of which one is Null
order_right : (level : ℕ) (v : Value) → value_order level v Null ≡ None
order_right level Null = refl
order_right level (Int n) = refl
order_right level (Text t) = refl
order_right level (Row n) = refl
order_right level (Draw p n) = refl

equal_right : (level : ℕ) (v : Value) → value_equal level v Null ≡ None
equal_right level Null = refl
equal_right level (Int n) = refl
equal_right level (Text t) = refl
equal_right level (Row n) = refl
equal_right level (Draw p n) = refl

compared_left : (level : ℕ) (op : Op) (v : Value) → comparison level op Null v ≡ None
compared_left level Add v = refl
compared_left level Sub v = refl
compared_left level Mul v = refl
compared_left level Div v = refl
compared_left level Eq v = refl
compared_left level Ne v = refl
compared_left level Lt v = refl
compared_left level Le v = refl
compared_left level Gt v = refl
compared_left level Ge v = refl
compared_left level And v = refl
compared_left level Or v = refl

compared_right : (level : ℕ) (op : Op) (v : Value) → comparison level op v Null ≡ None
compared_right level Add v = refl
compared_right level Sub v = refl
compared_right level Mul v = refl
compared_right level Div v = refl
compared_right level Eq v = equal_right level v
compared_right level Ne v = ap (option_map not) (equal_right level v)
compared_right level Lt v = ap (option_map is_lt) (order_right level v)
compared_right level Le v = ap (option_map is_le) (order_right level v)
compared_right level Gt v = ap (option_map is_gt) (order_right level v)
compared_right level Ge v = ap (option_map is_ge) (order_right level v)
compared_right level And v = refl
compared_right level Or v = refl

-- a comparison of two parts with values, of which nothing is known
unknown : (level : ℕ) (op : Op) (x y : Result Value Fault) (v w : Value) → x ≡ Ok v → y ≡ Ok w → comparison level op v w ≡ None → then_apply (λ (p : Value × Value). Ok (truth_of_test (comparison level op p.0 p.1))) (both x y) ≡ Ok Unknown
unknown level op x y v w e f h = rw (e, f) (ap (λ (t : Option Bool). Ok (truth_of_test t)) h)

-- on both sides
unknowns : (level : ℕ) (op : Op) (x y : Result Value Fault) (v : Value) → x ≡ Ok Null → y ≡ Ok v
    → (then_apply (λ (p : Value × Value). Ok (truth_of_test (comparison level op p.0 p.1))) (both x y) ≡ Ok Unknown) × (then_apply (λ (p : Value × Value). Ok (truth_of_test (comparison level op p.0 p.1))) (both y x) ≡ Ok Unknown)
unknowns level op x y v e f = (unknown level op x y Null v e f (compared_left level op v), unknown level op y x v Null f e (compared_right level op v))

pub null_is_unknown : NullIsUnknown
null_is_unknown level row values binds Add a b v h e f = absurd h
null_is_unknown level row values binds Sub a b v h e f = absurd h
null_is_unknown level row values binds Mul a b v h e f = absurd h
null_is_unknown level row values binds Div a b v h e f = absurd h
null_is_unknown level row values binds Eq a b v h e f = unknowns level Eq (value_of level row values binds a) (value_of level row values binds b) v e f
null_is_unknown level row values binds Ne a b v h e f = unknowns level Ne (value_of level row values binds a) (value_of level row values binds b) v e f
null_is_unknown level row values binds Lt a b v h e f = unknowns level Lt (value_of level row values binds a) (value_of level row values binds b) v e f
null_is_unknown level row values binds Le a b v h e f = unknowns level Le (value_of level row values binds a) (value_of level row values binds b) v e f
null_is_unknown level row values binds Gt a b v h e f = unknowns level Gt (value_of level row values binds a) (value_of level row values binds b) v e f
null_is_unknown level row values binds Ge a b v h e f = unknowns level Ge (value_of level row values binds a) (value_of level row values binds b) v e f
null_is_unknown level row values binds And a b v h e f = absurd h
null_is_unknown level row values binds Or a b v h e f = absurd h

arithmetic_right : (level : ℕ) (op : Op) (v : Value) → arithmetic level op v Null ≡ Ok Null
arithmetic_right level op Null = refl
arithmetic_right level op (Int n) = refl
arithmetic_right level op (Text t) = refl
arithmetic_right level op (Row n) = refl
arithmetic_right level op (Draw p n) = refl

calculated : (level : ℕ) (op : Op) (x y : Result Value Fault) (v w : Value) → x ≡ Ok v → y ≡ Ok w → arithmetic level op v w ≡ Ok Null → then_apply (λ (p : Value × Value). arithmetic level op p.0 p.1) (both x y) ≡ Ok Null
calculated level op x y v w e f h = rw (e, f) h

pub null_is_null : NullIsNull
null_is_null level row values binds op a b v h e f = (
  calculated level op (value_of level row values binds a) (value_of level row values binds b) Null v e f refl,
  calculated level op (value_of level row values binds b) (value_of level row values binds a) v Null f e (arithmetic_right level op v),
)
