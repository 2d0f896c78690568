-- An expression that keeps the rules of kinds has a value of its kind.
use Rattle.std.proofs.Common.{◌≡◌, ℕ, List, refl, ap, sym, ◌∙◌}
use Rattle.std.specs.Prelude.{ℤ, neg_ℤ, ◌+ℤ◌, ◌-ℤ◌, ◌*ℤ◌, Bool, true, false, ◌&&◌, ◌||◌, not, if◌then◌else◌, Option, None, Some, Result, Ok, Err, slice_get}
use Rattle.std.specs.Option.{option_map, unwrap_or}
use Rattle.std.specs.Ordering.{is_lt, is_le, is_gt, is_ge}
use Rattle.std.proofs.lemmas.Bool.{eqb-true, eq-eqb, and_parts}
use Rattle.desk_values.specs.declared.value.Value.{Value}
use Rattle.desk_values.specs.declared.value.Value.TheVariants as value
use Rattle.desk_values.specs.declared.fault.Fault.{Fault}
use Rattle.desk_values.specs.declared.fault.Fault.TheVariants.{ZeroDivisor, Overflow}
use Rattle.sql_tree.specs.declared.tree.Op.{Op}
use Rattle.sql_tree.specs.declared.tree.Op.TheVariants.{Add, Sub, Mul, Div, Eq, Ne, Lt, Le, Gt, Ge, And, Or}
use Rattle.sql_eval.specs.declared.part_kind.PartKind.{PartKind}
use Rattle.sql_eval.specs.declared.part_kind.PartKind.TheVariants.{Null, Int, Text, Row, Seq, Truth as Condition}
use Rattle.sql_eval.specs.declared.logic.Truth.{Truth}
use Rattle.sql_tree.specs.Plain.{Term}
use Rattle.sql_tree.specs.Plain as term
use Rattle.sql_eval.specs.declared.logic.Truth.TheVariants.{Unknown}
use Rattle.sql_eval.specs.Logic.{truth_of_test}
use Rattle.desk_values.specs.Comparison.{value_equal, value_order}
use Rattle.sql_eval.specs.Value.{arithmetic, bind_at, both, comparison, connected, is_connective, is_in_range, is_null_value, is_zero, minus, number, of_numbers, quotient, then_apply, truth_value, value_of}
use Rattle.sql_eval.specs.Kinds.{has_order, is_comparable, is_number, is_same_kind, is_taken, kept, kind_of, kind_of_value, of_one, of_two, operator_kind}
use Rattle.sql_eval.specs.Laws.{IsComparison, UnknownMeansNull, ValueHasItsKind}
use Rattle.desk_values.proofs.Cuts.{unmapped}

-- a value that is there
abbrev sound : {A : Type 0} → A → Result A Fault
sound a = Ok a

-- ---- what a kind came from

record Kept (rule : Bool) (k l : PartKind) : Type 0 where
  holds : rule ≡ true
  same : k ≡ l

kept_is : (rule : Bool) (k l : PartKind) → kept rule k ≡ Some l → Kept rule k l
kept_is true k l e = record { holds = refl; same = cc }
kept_is false k l e = absurd (cc)

record FromOne (f : PartKind → Option PartKind) (x : Option PartKind) (k : PartKind) : Type 0 where
  operand : PartKind
  was : x ≡ Some operand
  gave : f operand ≡ Some k

from_one : (f : PartKind → Option PartKind) (x : Option PartKind) (k : PartKind) → of_one f x ≡ Some k → FromOne f x k
from_one f None k e = absurd (cc)
from_one f (Some j) k e = record { operand = j; was = refl; gave = e }

record FromTwo (f : PartKind → PartKind → Option PartKind) (x y : Option PartKind) (k : PartKind) : Type 0 where
  left : PartKind
  right : PartKind
  left_was : x ≡ Some left
  right_was : y ≡ Some right
  gave : f left right ≡ Some k

from_two : (f : PartKind → PartKind → Option PartKind) (x y : Option PartKind) (k : PartKind) → of_two f x y ≡ Some k → FromTwo f x y k
from_two f None y k e = absurd (cc)
from_two f (Some i) None k e = absurd (cc)
from_two f (Some i) (Some j) k e = record { left = i; right = j; left_was = refl; right_was = refl; gave = e }

record FromOperand {A B : Type 0} (f : A → Result B Fault) (x : Result A Fault) (b : B) : Type 0 where
  operand : A
  was : x ≡ Ok operand
  gave : f operand ≡ Ok b

from_operand : {A B : Type 0} (f : A → Result B Fault) (x : Result A Fault) (b : B) → then_apply f x ≡ Ok b → FromOperand f x b
from_operand f (Ok a) b e = record { operand = a; was = refl; gave = e }
from_operand f (Err g) b e = absurd (cc)

-- ---- what a column of a kind takes

taken_self : (k : PartKind) → is_taken k k ≡ true
taken_self Null = refl
taken_self Int = refl
taken_self Text = refl
taken_self Row = refl
taken_self (Seq p) = eq-eqb p p refl
taken_self Condition = refl

-- the same of an equal kind and an equal value
taken_when : (k l : PartKind) (v w : Value) → k ≡ l → v ≡ w → is_taken l (kind_of_value w) ≡ true → is_taken k (kind_of_value v) ≡ true
taken_when k l v w e f h = rw (e, f) h

null_taken : (k : PartKind) (v : Value) → sound value.Null ≡ Ok v → is_taken k (kind_of_value v) ≡ true
null_taken k v q = taken_when k k v value.Null refl (cc) refl

-- ---- numbers

number_gives : (inside : Bool) (n : ℤ) (v : Value) → (if inside then Ok (value.Int n) else Err Overflow) ≡ Ok v → is_taken Int (kind_of_value v) ≡ true
number_gives true n v e = taken_when Int Int v (value.Int n) refl (cc) refl
number_gives false n v e = absurd (cc)

number_kind : (n : ℤ) (v : Value) → number n ≡ Ok v → is_taken Int (kind_of_value v) ≡ true
number_kind n v e = number_gives (is_in_range n) n v e

quotient_kind : (zero : Bool) (n : ℤ) (v : Value) → (if zero then Err ZeroDivisor else number n) ≡ Ok v → is_taken Int (kind_of_value v) ≡ true
quotient_kind true n v e = absurd (cc)
quotient_kind false n v e = number_kind n v e

numbers_kind : (level : ℕ) (op : Op) (a b : ℤ) (v : Value) → of_numbers level op a b ≡ Ok v → is_taken Int (kind_of_value v) ≡ true
numbers_kind level Add a b v e = number_kind (a +ℤ b) v e
numbers_kind level Sub a b v e = number_kind (a -ℤ b) v e
numbers_kind level Mul a b v e = number_kind (a *ℤ b) v e
numbers_kind level Div a b v e = quotient_kind (is_zero b) (quotient level a b) v e
numbers_kind level other a b v e = null_taken Int v e

arithmetic_kind : (level : ℕ) (op : Op) (w u v : Value) → arithmetic level op w u ≡ Ok v → is_taken Int (kind_of_value v) ≡ true
arithmetic_kind level op (value.Int a) (value.Int b) v e = numbers_kind level op a b v e
arithmetic_kind level op w u v e = null_taken Int v e

minus_kind : (w v : Value) → minus w ≡ Ok v → is_taken Int (kind_of_value v) ≡ true
minus_kind (value.Int a) v e = number_kind (neg_ℤ a) v e
minus_kind w v e = null_taken Int v e

-- an operator that does not calculate gives Null
record Idle (level : ℕ) (op : Op) : Type 0 where
  numbers : (a b : ℤ) → of_numbers level op a b ≡ Ok value.Null

idle_null : (level : ℕ) (op : Op) → Idle level op → (w u : Value) → arithmetic level op w u ≡ Ok value.Null
idle_null level op idle (value.Int a) (value.Int b) = idle.numbers a b
idle_null level op idle w u = refl

idle_kind : (level : ℕ) (op : Op) (k : PartKind) (w u v : Value) → Idle level op → arithmetic level op w u ≡ Ok v → is_taken k (kind_of_value v) ≡ true
idle_kind level op k w u v idle e = null_taken k v (sym (idle_null level op idle w u) ∙ e)

-- an operator that calculates gives a number
counted : (rule : Bool) (k : PartKind) (v : Value) → kept rule Int ≡ Some k → is_taken Int (kind_of_value v) ≡ true → is_taken k (kind_of_value v) ≡ true
counted rule k v e h = taken_when k Int v v (sym ((kept_is rule Int k e).same)) refl h

operator_gives : (level : ℕ) (op : Op) (i j k : PartKind) (w u v : Value) → operator_kind op i j ≡ Some k → arithmetic level op w u ≡ Ok v → is_taken k (kind_of_value v) ≡ true
operator_gives level Add i j k w u v p q = counted (is_number i && is_number j) k v p (arithmetic_kind level Add w u v q)
operator_gives level Sub i j k w u v p q = counted (is_number i && is_number j) k v p (arithmetic_kind level Sub w u v q)
operator_gives level Mul i j k w u v p q = counted (is_number i && is_number j) k v p (arithmetic_kind level Mul w u v q)
operator_gives level Div i j k w u v p q = counted (is_number i && is_number j) k v p (arithmetic_kind level Div w u v q)
operator_gives level Eq i j k w u v p q = idle_kind level Eq k w u v (record { numbers = λ a b. refl }) q
operator_gives level Ne i j k w u v p q = idle_kind level Ne k w u v (record { numbers = λ a b. refl }) q
operator_gives level Lt i j k w u v p q = idle_kind level Lt k w u v (record { numbers = λ a b. refl }) q
operator_gives level Le i j k w u v p q = idle_kind level Le k w u v (record { numbers = λ a b. refl }) q
operator_gives level Gt i j k w u v p q = idle_kind level Gt k w u v (record { numbers = λ a b. refl }) q
operator_gives level Ge i j k w u v p q = idle_kind level Ge k w u v (record { numbers = λ a b. refl }) q
operator_gives level And i j k w u v p q = idle_kind level And k w u v (record { numbers = λ a b. refl }) q
operator_gives level Or i j k w u v p q = idle_kind level Or k w u v (record { numbers = λ a b. refl }) q

-- ---- expressions

bind_gives : (o : Option Value) (k : PartKind) (v : Value) → option_map kind_of_value o ≡ Some k → sound (unwrap_or o value.Null) ≡ Ok v → is_taken k (kind_of_value v) ≡ true
bind_gives None k v p q = absurd (cc)
bind_gives (Some w) k v p q = taken_when k (kind_of_value w) v w (cc) (cc) (taken_self (kind_of_value w))

pub value_has_its_kind : ValueHasItsKind
value_has_its_kind level row columns values binds term.null k v fit p q = null_taken k v q
value_has_its_kind level row columns values binds (term.int n) k v fit p q = taken_when k Int v (value.Int n) (cc) (cc) refl
value_has_its_kind level row columns values binds (term.text t) k v fit p q = taken_when k Text v (value.Text t) (cc) (cc) refl
value_has_its_kind level row columns values binds (term.bind n) k v fit p q = bind_gives (bind_at binds n) k v p q
value_has_its_kind level row columns values binds (term.column n) k v fit p q = taken_when k k v (unwrap_or (slice_get values n) value.Null) refl (cc) (fit n k p)
value_has_its_kind level row columns values binds term.rowid k v fit p q = taken_when k Row v (value.Row row) (cc) (cc) refl
value_has_its_kind level row columns values binds (term.neg e) k v fit p q =
    let one = from_one (λ j. kept (is_number j) Int) (kind_of columns binds e) k p in
    let of = from_operand minus (value_of level row values binds e) v q in
    counted (is_number one.operand) k v one.gave (minus_kind of.operand v of.gave)
value_has_its_kind level row columns values binds (term.not e) k v fit p q = null_taken k v q
value_has_its_kind level row columns values binds (term.bin op a b) k v fit p q =
    let two = from_two (operator_kind op) (kind_of columns binds a) (kind_of columns binds b) k p in
    let of = from_operand (λ (r : Value × Value). arithmetic level op r.0 r.1) (both (value_of level row values binds a) (value_of level row values binds b)) v q in
    operator_gives level op two.left two.right k of.operand.0 of.operand.1 v two.gave of.gave
value_has_its_kind level row columns values binds (term.is_null e) k v fit p q = null_taken k v q
value_has_its_kind level row columns values binds (term.not_null e) k v fit p q = null_taken k v q

-- ---- comparisons

same_is : (k l : PartKind) → is_same_kind k l ≡ true → l ≡ k
same_is Null Null h = refl
same_is Int Int h = refl
same_is Text Text h = refl
same_is Row Row h = refl
same_is (Seq p) (Seq q) h = ap Seq (sym (eqb-true p q h))
same_is Condition Condition h = refl
same_is k l h = absurd (cc)

-- what was taken for a kind and is not Null is of that kind
taken_is : (k : PartKind) (v : Value) → is_null_value v ≡ false → is_taken k (kind_of_value v) ≡ true → k ≡ kind_of_value v
taken_is k value.Null n h = absurd (cc)
taken_is k (value.Int a) n h = same_is Int k h
taken_is k (value.Text t) n h = same_is Text k h
taken_is k (value.Row a) n h = same_is Row k h
taken_is k (value.Draw p a) n h = same_is (Seq p) k h

-- two values that are not Null and go together can be compared
equal_known : (level : ℕ) (v w : Value) → is_null_value v ≡ false → is_null_value w ≡ false → is_comparable (kind_of_value v) (kind_of_value w) ≡ true → value_equal level v w ≡ None → ⊥
equal_known level (value.Int a) (value.Int b) m n h e = cc
equal_known level (value.Text a) (value.Text b) m n h e = cc
equal_known level (value.Row a) (value.Row b) m n h e = cc
equal_known level (value.Draw p a) (value.Draw q b) m n h e = cc
equal_known level v w m n h e = cc

ordered : (level : ℕ) (v w : Value) → is_null_value v ≡ false → is_null_value w ≡ false → is_comparable (kind_of_value v) (kind_of_value w) ≡ true → has_order (kind_of_value v) ≡ true → value_order level v w ≡ None → ⊥
ordered level (value.Int a) (value.Int b) m n h o e = cc
ordered level (value.Text a) (value.Text b) m n h o e = cc
ordered level v w m n h o e = cc

order_known : (level : ℕ) (v w : Value) → is_null_value v ≡ false → is_null_value w ≡ false → (is_comparable (kind_of_value v) (kind_of_value w) && has_order (kind_of_value v) && has_order (kind_of_value w)) ≡ true → value_order level v w ≡ None → ⊥
order_known level v w m n h e =
    let both_hold = and_parts (is_comparable (kind_of_value v) (kind_of_value w) && has_order (kind_of_value v)) (has_order (kind_of_value w)) h in
    let first = and_parts (is_comparable (kind_of_value v) (kind_of_value w)) (has_order (kind_of_value v)) both_hold.0 in
    ordered level v w m n first.0 first.1 e

compared_known : (level : ℕ) (op : Op) (v w : Value) → IsComparison op → is_null_value v ≡ false → is_null_value w ≡ false → operator_kind op (kind_of_value v) (kind_of_value w) ≡ Some Condition → comparison level op v w ≡ None → ⊥
compared_known level Add v w c m n h e = absurd c
compared_known level Sub v w c m n h e = absurd c
compared_known level Mul v w c m n h e = absurd c
compared_known level Div v w c m n h e = absurd c
compared_known level Eq v w c m n h e = equal_known level v w m n ((kept_is (is_comparable (kind_of_value v) (kind_of_value w)) Condition Condition h).holds) e
compared_known level Ne v w c m n h e = equal_known level v w m n ((kept_is (is_comparable (kind_of_value v) (kind_of_value w)) Condition Condition h).holds) (unmapped not (value_equal level v w) e)
compared_known level Lt v w c m n h e = order_known level v w m n ((kept_is (is_comparable (kind_of_value v) (kind_of_value w) && has_order (kind_of_value v) && has_order (kind_of_value w)) Condition Condition h).holds) (unmapped is_lt (value_order level v w) e)
compared_known level Le v w c m n h e = order_known level v w m n ((kept_is (is_comparable (kind_of_value v) (kind_of_value w) && has_order (kind_of_value v) && has_order (kind_of_value w)) Condition Condition h).holds) (unmapped is_le (value_order level v w) e)
compared_known level Gt v w c m n h e = order_known level v w m n ((kept_is (is_comparable (kind_of_value v) (kind_of_value w) && has_order (kind_of_value v) && has_order (kind_of_value w)) Condition Condition h).holds) (unmapped is_gt (value_order level v w) e)
compared_known level Ge v w c m n h e = order_known level v w m n ((kept_is (is_comparable (kind_of_value v) (kind_of_value w) && has_order (kind_of_value v) && has_order (kind_of_value w)) Condition Condition h).holds) (unmapped is_ge (value_order level v w) e)
compared_known level And v w c m n h e = absurd c
compared_known level Or v w c m n h e = absurd c

unknown_test : (t : Option Bool) → truth_of_test t ≡ Unknown → t ≡ None
unknown_test None e = refl
unknown_test (Some true) e = absurd (cc)
unknown_test (Some false) e = absurd (cc)

ok_same : (s t : Truth) → sound s ≡ Ok t → s ≡ t
ok_same s t e = cc

not_connective : (op : Op) → IsComparison op → is_connective op ≡ false
not_connective And c = absurd c
not_connective Or c = absurd c
not_connective other c = refl

-- the test that made a comparison unknown
tested : (level : ℕ) (op : Op) (x y : Result Value Fault) (v w : Value) → x ≡ Ok v → y ≡ Ok w → then_apply (λ (p : Value × Value). Ok (truth_of_test (comparison level op p.0 p.1))) (both x y) ≡ Ok Unknown → comparison level op v w ≡ None
tested level op x y v w e f u = unknown_test (comparison level op v w) (ok_same (truth_of_test (comparison level op v w)) Unknown (rw (e, f) at u))

chosen : (b : Bool) (x y : Result Truth Fault) → b ≡ false → (if b then x else y) ≡ Ok Unknown → y ≡ Ok Unknown
chosen true x y h u = absurd (cc)
chosen false x y h u = u

unknown_comparison : (level row : ℕ) (values binds : List Value) (op : Op) (a b : Term ℕ) (v w : Value) → IsComparison op → value_of level row values binds a ≡ Ok v → value_of level row values binds b ≡ Ok w → truth_value level row values binds (term.bin op a b) ≡ Ok Unknown → comparison level op v w ≡ None
unknown_comparison level row values binds op a b v w c e f u =
    tested level op (value_of level row values binds a) (value_of level row values binds b) v w e f
    (chosen (is_connective op)
    (then_apply (λ (p : Truth × Truth). Ok (connected op p.0 p.1)) (both (truth_value level row values binds a) (truth_value level row values binds b)))
    (then_apply (λ (p : Value × Value). Ok (truth_of_test (comparison level op p.0 p.1))) (both (value_of level row values binds a) (value_of level row values binds b)))
    (not_connective op c) u)

either_null : (left right : Bool) → (left ≡ false → right ≡ false → ⊥) → (left || right) ≡ true
either_null true right h = refl
either_null false true h = refl
either_null false false h = absurd (h refl refl)

pub unknown_means_null : UnknownMeansNull
unknown_means_null level row columns values binds op a b v w c fit p e f u =
    let two = from_two (operator_kind op) (kind_of columns binds a) (kind_of columns binds b) Condition p in
    let left = value_has_its_kind level row columns values binds a two.left v fit two.left_was e in
    let right = value_has_its_kind level row columns values binds b two.right w fit two.right_was f in
    either_null (is_null_value v) (is_null_value w)
    (λ m n. compared_known level op v w c m n
    (sym (ap (λ k. operator_kind op k (kind_of_value w)) (taken_is two.left v m left)) ∙ sym (ap (λ k. operator_kind op two.left k) (taken_is two.right w n right)) ∙ two.gave)
    (unknown_comparison level row values binds op a b v w c e f u))
