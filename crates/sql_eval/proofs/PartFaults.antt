-- The fault of an expression is that of its parts.
use Rattle.std.proofs.Common.{◌≡◌, ℕ, List, ◌++◌, refl, ap, sym, ◌∙◌}
use Rattle.std.specs.Prelude.{ℤ, ◌+ℤ◌, ◌-ℤ◌, ◌*ℤ◌, neg_ℤ, Bool, true, false, not, ◌||◌, if◌then◌else◌, Option, None, Some, Result, Ok, Err}
use Rattle.std.specs.List.{list_any}
use Rattle.std.specs.Result.{result_err}
use Rattle.std.proofs.lemmas.List.Folds.{list_any-append}
use Rattle.desk_values.specs.declared.value.Value.{Value}
use Rattle.desk_values.specs.declared.value.Value.TheVariants.{Int}
use Rattle.desk_values.specs.declared.fault.Fault.{Fault}
use Rattle.desk_values.specs.declared.fault.Fault.TheVariants.{ZeroDivisor}
use Rattle.sql_eval.specs.Logic.{negation, truth_of_test}
use Rattle.sql_tree.specs.declared.tree.Op.{Op}
use Rattle.sql_tree.specs.declared.tree.Op.TheVariants.{Add, Sub, Mul, Div}
use Rattle.sql_eval.specs.declared.logic.Truth.{Truth}
use Rattle.sql_tree.specs.Plain.{Term}
use Rattle.sql_tree.specs.Plain as term
use Rattle.sql_eval.specs.Value.{arithmetic, both, is_in_range, is_zero, is_null_value, is_connective, connected, comparison, minus, number, of_numbers, then_apply, truth_value, value_of, worse, quotient}
use Rattle.sql_eval.specs.Faults.{fault_after, fault_among, is_overflow, is_zero_divisor, own_fault, parts, condition_parts, told as told_of}

abbrev told : Bool → Bool → Option Fault
told zero over = told_of (record { divides = zero; overflows = over })

-- the worse of two faults that may be there
abbrev worst : Option Fault → Option Fault → Option Fault
worst None other = other
worst (Some fault) None = Some fault
worst (Some fault) (Some other) = Some (worse fault other)

worst-none : (f : Option Fault) → worst f None ≡ f
worst-none None = refl
worst-none (Some f) = refl

worst-both : {A B : Type 0} (x : Result A Fault) (y : Result B Fault) → result_err (both x y) ≡ worst (result_err x) (result_err y)
worst-both (Ok a) (Ok b) = refl
worst-both (Ok a) (Err g) = refl
worst-both (Err f) (Ok b) = refl
worst-both (Err f) (Err g) = refl

worst-then : {A B : Type 0} (f : A → Result B Fault) (x : Result A Fault) → result_err (then_apply f x) ≡ worst (fault_after f x) (result_err x)
worst-then f (Ok a) = sym (worst-none (result_err (f a)))
worst-then f (Err g) = refl

worst-told : (z o y p : Bool) → worst (told z o) (told y p) ≡ told (z || y) (o || p)
worst-told true o true p = refl
worst-told true true false true = refl
worst-told true true false false = refl
worst-told true false false true = refl
worst-told true false false false = refl
worst-told false true true p = refl
worst-told false true false true = refl
worst-told false true false false = refl
worst-told false false y p = refl

-- a fault that is a zero divisor, an overflow or none
record IsTold (f : Option Fault) : Type 0 where
  same : f ≡ told (is_zero_divisor f) (is_overflow f)

number_told : (n : ℤ) → IsTold (result_err (number n))
number_told n = by (is_in_range n) refl
  where
    by : (b : Bool) → b ≡ is_in_range n → IsTold (result_err (number n))
    by true e = record { same = rw (← e) refl }
    by false e = record { same = rw (← e) refl }

quotient_told : (n : ℤ) (zero : Bool) → IsTold (result_err (if zero then Err ZeroDivisor else number n))
quotient_told n true = record { same = refl }
quotient_told n false = number_told n

of_numbers_told : (level : ℕ) (op : Op) (a b : ℤ) → IsTold (result_err (of_numbers level op a b))
of_numbers_told level Add a b = number_told (a +ℤ b)
of_numbers_told level Sub a b = number_told (a -ℤ b)
of_numbers_told level Mul a b = number_told (a *ℤ b)
of_numbers_told level Div a b = quotient_told (quotient level a b) (is_zero b)
of_numbers_told level other a b = record { same = refl }

arithmetic_told : (level : ℕ) (op : Op) (v w : Value) → IsTold (result_err (arithmetic level op v w))
arithmetic_told level op (Int a) (Int b) = of_numbers_told level op a b
arithmetic_told level op v w = record { same = refl }

minus_told : (v : Value) → IsTold (result_err (minus v))
minus_told (Int a) = number_told (neg_ℤ a)
minus_told v = record { same = refl }

after_told : {A B : Type 0} (f : A → Result B Fault) → ((a : A) → IsTold (result_err (f a))) → (x : Result A Fault) → IsTold (fault_after f x)
after_told f h (Ok a) = h a
after_told f h (Err g) = record { same = refl }

-- the fault of an operation on something with a fault that is told
told_then : {A B : Type 0} (f : A → Result B Fault) → ((a : A) → IsTold (result_err (f a))) → (x : Result A Fault) (z o : Bool) → result_err x ≡ told z o → result_err (then_apply f x) ≡ told (is_zero_divisor (fault_after f x) || z) (is_overflow (fault_after f x) || o)
told_then f h x z o e =
    let own = fault_after f x in
    worst-then f x ∙ ap (λ g. worst own g) e ∙ ap (λ g. worst g (told z o)) ((after_told f h x).same) ∙ worst-told (is_zero_divisor own) (is_overflow own) z o

told_both : {A B : Type 0} (x : Result A Fault) (y : Result B Fault) (z o u p : Bool) → result_err x ≡ told z o → result_err y ≡ told u p → result_err (both x y) ≡ told (z || u) (o || p)
told_both x y z o u p e f = worst-both x y ∙ ap (λ g. worst g (result_err y)) e ∙ ap (λ g. worst (told z o) g) f ∙ worst-told z o u p

-- told by the parts of two
among_append : (level row : ℕ) (values binds : List Value) (ps qs : List (Term ℕ)) → told
    (list_any (λ p. is_zero_divisor (own_fault level row values binds p)) ps || list_any (λ p. is_zero_divisor (own_fault level row values binds p)) qs)
    (list_any (λ p. is_overflow (own_fault level row values binds p)) ps || list_any (λ p. is_overflow (own_fault level row values binds p)) qs)
    ≡ fault_among level row values binds (ps ++ qs)
among_append level row values binds ps qs = rw (list_any-append (λ p. is_zero_divisor (own_fault level row values binds p)) ps qs, list_any-append (λ p. is_overflow (own_fault level row values binds p)) ps qs) refl

pub value_fault : (level row : ℕ) (values binds : List Value) (e : Term ℕ) → result_err (value_of level row values binds e) ≡ fault_among level row values binds (parts e)
value_fault level row values binds term.null = refl
value_fault level row values binds (term.int n) = refl
value_fault level row values binds (term.text t) = refl
value_fault level row values binds (term.bind n) = refl
value_fault level row values binds (term.column n) = refl
value_fault level row values binds term.rowid = refl
value_fault level row values binds (term.neg e) = told_then minus minus_told (value_of level row values binds e) _ _ (value_fault level row values binds e)
value_fault level row values binds (term.not e) = refl
value_fault level row values binds (term.bin op a b) =
    let zero : Term ℕ → Bool = λ p. is_zero_divisor (own_fault level row values binds p) in
    let over : Term ℕ → Bool = λ p. is_overflow (own_fault level row values binds p) in
    let f : Value × Value → Result Value Fault = λ p. arithmetic level op p.0 p.1 in
    let x = both (value_of level row values binds a) (value_of level row values binds b) in
    rw (list_any-append zero (parts a) (parts b), list_any-append over (parts a) (parts b))
    (told_then f (λ p. arithmetic_told level op p.0 p.1) x (list_any zero (parts a) || list_any zero (parts b)) (list_any over (parts a) || list_any over (parts b))
    (told_both (value_of level row values binds a) (value_of level row values binds b) (list_any zero (parts a)) (list_any over (parts a)) (list_any zero (parts b)) (list_any over (parts b)) (value_fault level row values binds a) (value_fault level row values binds b)))
value_fault level row values binds (term.is_null e) = refl
value_fault level row values binds (term.not_null e) = refl

-- an operation that never fails keeps the fault
err_then : {A B : Type 0} (f : A → B) (x : Result A Fault) → result_err (then_apply (λ a. Ok (f a)) x) ≡ result_err x
err_then f (Ok a) = refl
err_then f (Err g) = refl

joined_fault : (level row : ℕ) (values binds : List Value) {A B C : Type 0} (f : A × B → C) (x : Result A Fault) (y : Result B Fault) (ps qs : List (Term ℕ)) → result_err x ≡ fault_among level row values binds ps → result_err y ≡ fault_among level row values binds qs → result_err (then_apply (λ (p : A × B). Ok (f p)) (both x y)) ≡ fault_among level row values binds (ps ++ qs)
joined_fault level row values binds f x y ps qs e g =
    let zero : Term ℕ → Bool = λ p. is_zero_divisor (own_fault level row values binds p) in
    let over : Term ℕ → Bool = λ p. is_overflow (own_fault level row values binds p) in
    err_then f (both x y) ∙ told_both x y (list_any zero ps) (list_any over ps) (list_any zero qs) (list_any over qs) e g ∙ among_append level row values binds ps qs

chosen_fault : (level row : ℕ) (values binds : List Value) (b : Bool) (x y : Result Truth Fault) (ps qs : List (Term ℕ)) → result_err x ≡ fault_among level row values binds ps → result_err y ≡ fault_among level row values binds qs → result_err (if b then x else y) ≡ fault_among level row values binds (if b then ps else qs)
chosen_fault level row values binds true x y ps qs e g = e
chosen_fault level row values binds false x y ps qs e g = g

pub truth_fault : (level row : ℕ) (values binds : List Value) (e : Term ℕ) → result_err (truth_value level row values binds e) ≡ fault_among level row values binds (condition_parts e)
truth_fault level row values binds term.null = refl
truth_fault level row values binds (term.int n) = refl
truth_fault level row values binds (term.text t) = refl
truth_fault level row values binds (term.bind n) = refl
truth_fault level row values binds (term.column n) = refl
truth_fault level row values binds term.rowid = refl
truth_fault level row values binds (term.neg e) = refl
truth_fault level row values binds (term.not e) = err_then negation (truth_value level row values binds e) ∙ truth_fault level row values binds e
truth_fault level row values binds (term.bin op a b) =
    chosen_fault level row values binds (is_connective op)
    (then_apply (λ (p : Truth × Truth). Ok (connected op p.0 p.1)) (both (truth_value level row values binds a) (truth_value level row values binds b)))
    (then_apply (λ (p : Value × Value). Ok (truth_of_test (comparison level op p.0 p.1))) (both (value_of level row values binds a) (value_of level row values binds b)))
    (condition_parts a ++ condition_parts b) (parts a ++ parts b)
    (joined_fault level row values binds (λ (p : Truth × Truth). connected op p.0 p.1) (truth_value level row values binds a) (truth_value level row values binds b) (condition_parts a) (condition_parts b) (truth_fault level row values binds a) (truth_fault level row values binds b))
    (joined_fault level row values binds (λ (p : Value × Value). truth_of_test (comparison level op p.0 p.1)) (value_of level row values binds a) (value_of level row values binds b) (parts a) (parts b) (value_fault level row values binds a) (value_fault level row values binds b))
truth_fault level row values binds (term.is_null e) = err_then (λ v. truth_of_test (Some (is_null_value v))) (value_of level row values binds e) ∙ value_fault level row values binds e
truth_fault level row values binds (term.not_null e) = err_then (λ v. truth_of_test (Some (not (is_null_value v)))) (value_of level row values binds e) ∙ value_fault level row values binds e
