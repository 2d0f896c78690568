-- Sound conditions give no fault, and those that ask for a key are true of rows of that key alone.
use Rattle.std.proofs.Common.{◌≡◌, ◌⊎◌, inl, inr, ℕ, ℤ, zero, suc, not, Bool, true, false, ◌&&◌, nat_eq, if◌then◌else◌, List, [], ◌∷◌, Option, None, Some, Result, Ok, Err, refl, sym, ap, ◌∙◌, arith}
use Rattle.std.specs.Option.{unwrap_or}
use Rattle.std.specs.Result.{is_ok, result_ok}
use Rattle.desk_values.specs.declared.value.Value.TheVariants.{Null, Int}
use Rattle.desk_values.specs.declared.value.Value.{Value}
use Rattle.desk_values.specs.declared.fault.Fault.{Fault}
use Rattle.desk_values.specs.Comparison.{same_key, value_equal}
use Rattle.desk_schema.specs.Rules.{key_of}
use Rattle.sql_tree.specs.declared.tree.Op.{Op}
use Rattle.sql_tree.specs.declared.tree.Op.TheVariants.{Add, Sub, Mul, Div, Eq, And, Or}
use Rattle.sql_tree.specs.Plain.{Term}
use Rattle.sql_tree.specs.Plain as term
use Rattle.sql_eval.specs.declared.logic.Truth.{Truth}
use Rattle.sql_eval.specs.declared.logic.Truth.TheVariants.{True, False, Unknown}
use Rattle.sql_eval.specs.Logic.{conjunction, negation, truth_of_test}
use Rattle.sql_eval.specs.Value.{arithmetic, both, comparison, connected, is_connective, is_null_value, minus, of_numbers, then_apply, truth_value, value_of}
use Rattle.same_keys.proofs.Prints.{either}
use Rattle.key_conditions.specs.Sought.{asked_key, can_fail, constant_value, first_of, is_computed, is_constant, is_key, is_sound, key_sought, of_sides}
use Rattle.key_conditions.specs.Laws.{AsksFor}

-- ---- no fault

abbrev Has : {A : Type 0} → Result A Fault → Type 0
Has {A} r = (a : A) × (r ≡ Ok a)

and_left : (a b : Bool) → (a && b) ≡ true → a ≡ true
and_left true b h = refl
and_left false b h = absurd (grind (arith, h))

and_right : (a b : Bool) → (a && b) ≡ true → b ≡ true
and_right true b h = h
and_right false b h = absurd (grind (arith, h))

both_has : {A B : Type 0} (r : Result A Fault) (s : Result B Fault) (a : A) (b : B) → r ≡ Ok a → s ≡ Ok b → both r s ≡ Ok (a, b)
both_has r s a b e f = ap (λ (x : Result _ Fault). both x s) e ∙ ap (both (Ok a)) f

ok_has : {A : Type 0} (r : Result A Fault) → is_ok r ≡ true → Has r
ok_has (Ok a) h = (a, refl)
ok_has (Err f) h = absurd (grind (arith, h))

told_is : {A : Type 0} (r : Result A Fault) (a : A) → result_ok r ≡ Some a → r ≡ Ok a
told_is (Ok b) a h = grind (arith, h)
told_is (Err f) a h = absurd (grind (arith, h))

-- ---- what is one for all rows

module _ (level row : ℕ) (values binds : List Value) where
  constant_same : (e : Term ℕ) → is_constant e ≡ true → value_of level row values binds e ≡ value_of level 0 [] binds e
  constant_same term.null h = refl
  constant_same (term.int n) h = refl
  constant_same (term.text t) h = refl
  constant_same (term.bind n) h = refl
  constant_same (term.column n) h = absurd (grind (arith, h))
  constant_same term.rowid h = absurd (grind (arith, h))
  constant_same (term.neg e) h = ap (then_apply minus) (constant_same e h)
  constant_same (term.not e) h = refl
  constant_same (term.is_null e) h = refl
  constant_same (term.not_null e) h = refl
  constant_same (term.bin op a b) h =
      ap (λ (r : Result Value Fault). then_apply (λ (p : Value × Value). arithmetic level op p.0 p.1) (both r (value_of level row values binds b))) (constant_same a (and_left (is_constant a) (is_constant b) h))
      ∙ ap (λ (r : Result Value Fault). then_apply (λ (p : Value × Value). arithmetic level op p.0 p.1) (both (value_of level 0 [] binds a) r)) (constant_same b (and_right (is_constant a) (is_constant b) h))

  computed_has : (e : Term ℕ) → is_computed level binds e ≡ true → Has (value_of level row values binds e)
  computed_has e h =
      let v = ok_has (value_of level 0 [] binds e) (and_right (is_constant e) (is_ok (value_of level 0 [] binds e)) h) in
      (v.0, constant_same e (and_left (is_constant e) (is_ok (value_of level 0 [] binds e)) h) ∙ v.1)

  constant_is : (e : Term ℕ) (key : Value) → constant_value level binds e ≡ Some key → value_of level row values binds e ≡ Ok key
  constant_is e key h = by (is_constant e) refl
    where
      by : (c : Bool) → is_constant e ≡ c → value_of level row values binds e ≡ Ok key
      by true c = constant_same e c ∙ told_is (value_of level 0 [] binds e) key (sym (ap (λ (b : Bool). if b then result_ok (value_of level 0 [] binds e) else None) c) ∙ h)
      by false c = absurd (grind (arith, h, c))

-- ---- parts without a fault

numbers_have : (level : ℕ) (op : Op) (a b : ℤ) → can_fail op ≡ false → of_numbers level op a b ≡ Ok Null
numbers_have level Add a b h = absurd (grind (arith, h))
numbers_have level Sub a b h = absurd (grind (arith, h))
numbers_have level Mul a b h = absurd (grind (arith, h))
numbers_have level Div a b h = absurd (grind (arith, h))
numbers_have level other a b h = refl

arithmetic_has : (level : ℕ) (op : Op) (a b : Value) → can_fail op ≡ false → Has (arithmetic level op a b)
arithmetic_has level op (Int a) (Int b) h = (Null, numbers_have level op a b h)
arithmetic_has level op other value h = (Null, refl)

either_computed : (f : Bool) (computed left right : Bool) → (if f then computed else left && right) ≡ true → ((f ≡ true) × (computed ≡ true)) ⊎ ((f ≡ false) × (left ≡ true) × (right ≡ true))
either_computed true computed left right h = inl (refl, h)
either_computed false computed left right h = inr (refl, and_left left right h, and_right left right h)

-- of two parts with a value each has one
parts_have : {A B C : Type 0} (f : A × B → Result C Fault) (r : Result A Fault) (s : Result B Fault) → Has (then_apply f (both r s)) → Has r × Has s
parts_have f (Ok a) (Ok b) h = ((a, refl), (b, refl))
parts_have f (Ok a) (Err g) h = absurd (cc h.1)
parts_have f (Err g) (Ok b) h = absurd (cc h.1)
parts_have f (Err g) (Err k) h = absurd (cc h.1)

-- whichever of two an operator takes, it has no fault
either_has : {A : Type 0} (c : Bool) (r s : Result A Fault) → Has r → Has s → Has (if c then r else s)
either_has true r s a b = a
either_has false r s a b = b

module _ (level row : ℕ) (values binds : List Value) where
  abbrev value : Term ℕ → Result Value Fault
  value e = value_of level row values binds e

  abbrev truth : Term ℕ → Result Truth Fault
  truth e = truth_value level row values binds e

  value_has : (e : Term ℕ) → is_sound level binds e ≡ true → Has (value e)
  value_has term.null h = (_, refl)
  value_has (term.int n) h = (_, refl)
  value_has (term.text t) h = (_, refl)
  value_has (term.bind n) h = (_, refl)
  value_has (term.column n) h = (_, refl)
  value_has term.rowid h = (_, refl)
  value_has (term.neg e) h = computed_has level row values binds (term.neg e) h
  value_has (term.not e) h = (_, refl)
  value_has (term.is_null e) h = (_, refl)
  value_has (term.not_null e) h = (_, refl)
  value_has (term.bin op a b) h = elim (either_computed (can_fail op) (is_computed level binds (term.bin op a b)) (is_sound level binds a) (is_sound level binds b) h) [
    | inl computed ↦ computed_has level row values binds (term.bin op a b) computed.1
    | inr parts ↦ (
        let x = value_has a parts.1 in
        let y = value_has b parts.2 in
        let z = arithmetic_has level op x.0 y.0 parts.0 in
        (z.0, ap (then_apply (λ (p : Value × Value). arithmetic level op p.0 p.1)) (both_has (value a) (value b) x.0 y.0 x.1 y.1) ∙ z.1))
  ]

  -- both sides have a value
  sides_have : (op : Op) (a b : Term ℕ) → is_sound level binds (term.bin op a b) ≡ true → Has (value a) × Has (value b)
  sides_have op a b h = parts_have (λ (p : Value × Value). arithmetic level op p.0 p.1) (value a) (value b) (value_has (term.bin op a b) h)

  -- AND and OR do not fail
  connective_sound : (op : Op) (a b : Term ℕ) → is_connective op ≡ true → is_sound level binds (term.bin op a b) ≡ true → (is_sound level binds a ≡ true) × (is_sound level binds b ≡ true)
  connective_sound And a b is h = (and_left (is_sound level binds a) (is_sound level binds b) h, and_right (is_sound level binds a) (is_sound level binds b) h)
  connective_sound Or a b is h = (and_left (is_sound level binds a) (is_sound level binds b) h, and_right (is_sound level binds a) (is_sound level binds b) h)
  connective_sound other a b is h = absurd (grind (arith, is))

  truth_has : (e : Term ℕ) → is_sound level binds e ≡ true → Has (truth e)
  truth_has term.null h = (_, refl)
  truth_has (term.int n) h = (_, refl)
  truth_has (term.text t) h = (_, refl)
  truth_has (term.bind n) h = (_, refl)
  truth_has (term.column n) h = (_, refl)
  truth_has term.rowid h = (_, refl)
  truth_has (term.neg e) h = (_, refl)
  truth_has (term.not e) h = let t = truth_has e h in (_, ap (then_apply (λ (t : Truth). Ok (negation t))) t.1)
  truth_has (term.is_null e) h = let v = value_has e h in (_, ap (then_apply (λ (v : Value). Ok (truth_of_test (Some (is_null_value v))))) v.1)
  truth_has (term.not_null e) h = let v = value_has e h in (_, ap (then_apply (λ (v : Value). Ok (truth_of_test (Some (not (is_null_value v)))))) v.1)
  truth_has (term.bin op a b) h = by (is_connective op) refl (λ p. truth_has a p) (λ p. truth_has b p)
    where
      by : (c : Bool) → is_connective op ≡ c → (is_sound level binds a ≡ true → Has (truth a)) → (is_sound level binds b ≡ true → Has (truth b)) → Has (if c then then_apply (λ (p : Truth × Truth). Ok (connected op p.0 p.1)) (both (truth a) (truth b)) else then_apply (λ (p : Value × Value). Ok (truth_of_test (comparison level op p.0 p.1))) (both (value a) (value b)))
      by true c left right =
          let parts = connective_sound op a b c h in
          let s = left parts.0 in
          let t = right parts.1 in
          (_, ap (then_apply (λ (p : Truth × Truth). Ok (connected op p.0 p.1))) (both_has (truth a) (truth b) s.0 t.0 s.1 t.1))
      by false c left right =
          let sides = sides_have op a b h in
          (_, ap (then_apply (λ (p : Value × Value). Ok (truth_of_test (comparison level op p.0 p.1)))) (both_has (value a) (value b) sides.0.0 sides.1.0 sides.0.1 sides.1.1))

-- ---- the key

tested : (o : Option Bool) → truth_of_test o ≡ True → unwrap_or o false ≡ true
tested None h = absurd (grind (arith, h))
tested (Some true) h = refl
tested (Some false) h = absurd (grind (arith, h))

conjoined : (r s : Result Truth Fault) → then_apply (λ (p : Truth × Truth). Ok (conjunction p.0 p.1)) (both r s) ≡ Ok True → (r ≡ Ok True) × (s ≡ Ok True)
conjoined (Ok True) (Ok True) h = (refl, refl)
conjoined (Ok True) (Ok False) h = absurd (grind (arith, h))
conjoined (Ok True) (Ok Unknown) h = absurd (grind (arith, h))
conjoined (Ok False) (Ok t) h = absurd (grind (arith, h))
conjoined (Ok Unknown) (Ok True) h = absurd (grind (arith, h))
conjoined (Ok Unknown) (Ok False) h = absurd (grind (arith, h))
conjoined (Ok Unknown) (Ok Unknown) h = absurd (grind (arith, h))
conjoined (Ok t) (Err f) h = absurd (grind (arith, h))
conjoined (Err f) (Ok t) h = absurd (grind (arith, h))
conjoined (Err f) (Err g) h = absurd (grind (arith, h))

first_there : (a b : Option Value) (key : Value) → first_of a b ≡ Some key → (a ≡ Some key) ⊎ (b ≡ Some key)
first_there (Some k) b key h = inl h
first_there None b key h = inr h

-- the key is that of the right side, or of the left
side_there : (k l : Bool) (a b : Option Value) (key : Value) → (if k then b else if l then a else None) ≡ Some key → ((k ≡ true) × (b ≡ Some key)) ⊎ ((l ≡ true) × (a ≡ Some key))
side_there true l a b key h = inl (refl, h)
side_there false true a b key h = inr (refl, h)
side_there false false a b key h = absurd (grind (arith, h))

one_truth : (r : Result Truth Fault) (s t : Truth) → r ≡ Ok s → r ≡ Ok t → s ≡ t
one_truth r s t e f = cc

module _ (level row : ℕ) (values binds : List Value) where
  key_value : (e : Term ℕ) → is_key e ≡ true → value_of level row values binds e ≡ Ok (key_of values)
  key_value (term.column n) h = first_value values n h
    where
      first_value : (vs : List Value) (n : ℕ) → nat_eq n 0 ≡ true → value_of level row vs binds (term.column n) ≡ Ok (key_of vs)
      first_value [] n h = refl
      first_value (v ∷ vs) zero h = refl
      first_value (v ∷ vs) (suc n) h = absurd (grind (arith, h))
  key_value other h = absurd (grind (arith, h))

  equal_is : (a b : Term ℕ) (x y : Value) → value_of level row values binds a ≡ Ok x → value_of level row values binds b ≡ Ok y → truth_value level row values binds (term.bin Eq a b) ≡ Ok (truth_of_test (value_equal level x y))
  equal_is a b x y e f = ap (then_apply (λ (p : Value × Value). Ok (truth_of_test (comparison level Eq p.0 p.1)))) (both_has (value_of level row values binds a) (value_of level row values binds b) x y e f)

  equal_matched : (a b : Term ℕ) (key : Value) → of_sides level binds a b ≡ Some key → truth_value level row values binds (term.bin Eq a b) ≡ Ok True → same_key level (key_of values) key ≡ true
  equal_matched a b key h m = elim (side_there (is_key a) (is_key b) (constant_value level binds a) (constant_value level binds b) key h) [
    | inl right ↦ (
        let is = equal_is a b (key_of values) key (key_value a right.0) (constant_is level row values binds b key right.1) in
        tested (value_equal level (key_of values) key) (one_truth (truth_value level row values binds (term.bin Eq a b)) _ True is m))
    | inr left ↦ (
        let is = equal_is a b key (key_of values) (constant_is level row values binds a key left.1) (key_value b left.0) in
        either level (key_of values) key ∙ tested (value_equal level key (key_of values)) (one_truth (truth_value level row values binds (term.bin Eq a b)) _ True is m))
  ]

  key_matched : (e : Term ℕ) (key : Value) → asked_key level binds e ≡ Some key → truth_value level row values binds e ≡ Ok True → same_key level (key_of values) key ≡ true
  key_matched (term.bin Eq a b) key h m = equal_matched a b key h m
  key_matched (term.bin And a b) key h m =
      let sides = conjoined (truth_value level row values binds a) (truth_value level row values binds b) m in
      elim (first_there (asked_key level binds a) (asked_key level binds b) key h) [
        | inl left ↦ key_matched a key left sides.0
        | inr right ↦ key_matched b key right sides.1
      ]
  key_matched other key h m = absurd (grind (arith, h))

pub asks_for : (level row : ℕ) (values binds : List Value) (condition : Term ℕ) (key : Value) → key_sought level binds (Some condition) ≡ Some key → AsksFor level row values binds condition key
asks_for level row values binds condition key h = by (is_sound level binds condition) refl
  where
    by : (s : Bool) → is_sound level binds condition ≡ s → AsksFor level row values binds condition key
    by false e = absurd (grind (arith, h, e))
    by true e =
        let asked : asked_key level binds condition ≡ Some key = sym (ap (λ (s : Bool). if s then asked_key level binds condition else None) e) ∙ h in
        let t = truth_has level row values binds condition e in
        record {
          truth = t.0;
          is = t.1;
          only = λ holds. key_matched level row values binds condition key asked (t.1 ∙ ap Ok holds);
        }
