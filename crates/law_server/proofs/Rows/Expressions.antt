-- Renaming ids renames the value of an expression, and leaves the truth of a condition.
use Rattle.std.proofs.Common.{◌≡◌, ℕ, not, zero, suc, ◌-◌, Bool, true, false, ◌||◌, List, [], ◌∷◌, Option, None, Some, Result, Ok, Err, slice_get, refl, ap, subst, ◌∙◌}
use Rattle.std.specs.Prelude.{ℤ, neg_ℤ, ◌+ℤ◌, ◌-ℤ◌, ◌*ℤ◌, if◌then◌else◌, nat_eq}
use Rattle.std.specs.List.{Contains}
use Rattle.std.proofs.lemmas.List.Folds.{list_any-append}
use Rattle.std.proofs.Math.Bool.{or-true}
use Rattle.std.specs.Option.{option_map, unwrap_or}
use Rattle.std.specs.Ordering.{is_lt, is_le, is_gt, is_ge}
use Rattle.desk_values.specs.declared.value.Value.{Value}
use Rattle.desk_values.specs.declared.value.Value.TheVariants.{Null, Int, Text, Row, Draw}
use Rattle.desk_values.specs.declared.value.Image.{Image}
use Rattle.desk_values.specs.declared.fault.Fault.{Fault}
use Rattle.desk_values.specs.declared.fault.Fault.TheVariants.{ZeroDivisor, Overflow}
use Rattle.desk_values.specs.Comparison.{value_equal, value_order}
use Rattle.sql_tree.specs.declared.tree.Op.{Op}
use Rattle.sql_tree.specs.declared.tree.Op.TheVariants.{Add, Sub, Mul, Div, Eq, Ne, Lt, Le, Gt, Ge}
use Rattle.sql_tree.specs.Leaves.{leaves}
use Rattle.sql_tree.specs.Plain.{Term}
use Rattle.sql_tree.specs.Plain as term
use Rattle.sql_eval.specs.declared.logic.Truth.{Truth}
use Rattle.sql_eval.specs.Logic.{truth_of_test, negation}
use Rattle.sql_eval.specs.Totals.{values_in}
use Rattle.sql_eval.specs.Value.{arithmetic, bind_at, of_numbers, quotient, both, worse, comparison, connected, is_connective, is_in_range, is_null_value, is_zero, minus, number, then_apply, truth_value, value_of}
use Rattle.id_pairs.specs.declared.Id.TheVariants as id
use Rattle.id_pairs.specs.Pairs.{HasNoIdTwice, IdPair}
use Rattle.id_pairs.specs.Renaming.{AreRenamed, IsRenamed}
use Rattle.law_server.specs.Rows.Images.{IsRenamedImage, IsRenamedLeft, IsRenamedResult}
use Rattle.law_server.specs.Rows.Laws.{RowsFit, is_rowid, names_row}
use Rattle.law_server.proofs.Rows.Members.{same_ids}

-- ---- renaming by cases

pub data Twin (pairs : List IdPair) : Value → Value → Type 0 where
  null : Twin pairs Null Null
  int : (n : ℤ) → Twin pairs (Int n) (Int n)
  text : (t : List ℕ) → Twin pairs (Text t) (Text t)
  row : (m n : ℕ) → Contains pairs (id.Row m, id.Row n) → Twin pairs (Row m) (Row n)
  draw : (p m q n : ℕ) → Contains pairs (id.Draw p m, id.Draw q n) → Twin pairs (Draw p m) (Draw q n)

-- a value, or a fault
pub data TwinPart (pairs : List IdPair) : Result Value Fault → Result Value Fault → Type 0 where
  part : (v w : Value) → Twin pairs v w → TwinPart pairs (Ok v) (Ok w)
  part_fault : (f : Fault) → TwinPart pairs (Err f) (Err f)

-- two values, or a fault
pub data TwinParts (pairs : List IdPair) : Result (Value × Value) Fault → Result (Value × Value) Fault → Type 0 where
  parts : (p q : Value × Value) → Twin pairs p.0 q.0 → Twin pairs p.1 q.1 → TwinParts pairs (Ok p) (Ok q)
  parts_fault : (f : Fault) → TwinParts pairs (Err f) (Err f)

pub twin_of : (pairs : List IdPair) (v w : Value) → IsRenamed pairs v w → Twin pairs v w
twin_of pairs Null Null t = null
twin_of pairs (Int a) (Int b) t = let P : ℤ → Type 0 = λ n. Twin pairs (Int a) (Int n) in subst P t (int a)
twin_of pairs (Text a) (Text b) t = let P : List ℕ → Type 0 = λ n. Twin pairs (Text a) (Text n) in subst P t (text a)
twin_of pairs (Row a) (Row b) t = row a b t
twin_of pairs (Draw p a) (Draw q b) t = draw p a q b t
twin_of pairs v w t = absurd t

pub renamed_of : {pairs : List IdPair} {v w : Value} → Twin pairs v w → IsRenamed pairs v w
renamed_of null = tt
renamed_of (int n) = refl
renamed_of (text t) = refl
renamed_of (row m n c) = c
renamed_of (draw p m q n c) = c

pub result_of : {pairs : List IdPair} {r s : Result Value Fault} → TwinPart pairs r s → IsRenamedResult pairs r s
result_of (part v w t) = renamed_of t
result_of (part_fault f) = refl

-- ---- arithmetic

module _ (pairs : List IdPair) where
  pub number_twins : (n : ℤ) → TwinPart pairs (number n) (number n)
  number_twins n = elim (is_in_range n) as (λ b. TwinPart pairs (if b then Ok (Int n) else Err Overflow) (if b then Ok (Int n) else Err Overflow)) [
    | true ↦ part (Int n) (Int n) (int n)
    | false ↦ part_fault Overflow
  ]

  no_number : TwinPart pairs (Ok Null) (Ok Null)
  no_number = part Null Null null

  minus_twins : {v w : Value} → Twin pairs v w → TwinPart pairs (minus v) (minus w)
  minus_twins (int n) = number_twins (neg_ℤ n)
  minus_twins t = no_number

  divided : (b : Bool) (n : ℤ) → TwinPart pairs (if b then Err ZeroDivisor else number n) (if b then Err ZeroDivisor else number n)
  divided true n = part_fault ZeroDivisor
  divided false n = number_twins n

  of_numbers_twins : (level : ℕ) (op : Op) (a b : ℤ) → TwinPart pairs (of_numbers level op a b) (of_numbers level op a b)
  of_numbers_twins level Add a b = number_twins (a +ℤ b)
  of_numbers_twins level Sub a b = number_twins (a -ℤ b)
  of_numbers_twins level Mul a b = number_twins (a *ℤ b)
  of_numbers_twins level Div a b = divided (is_zero b) (quotient level a b)
  of_numbers_twins level op a b = no_number

  arithmetic_twins : (level : ℕ) (op : Op) {v x w y : Value} → Twin pairs v x → Twin pairs w y → TwinPart pairs (arithmetic level op v w) (arithmetic level op x y)
  arithmetic_twins level op (int a) (int b) = of_numbers_twins level op a b
  arithmetic_twins level op s t = no_number

  pub minus_parts : {r s : Result Value Fault} → TwinPart pairs r s → TwinPart pairs (then_apply minus r) (then_apply minus s)
  minus_parts (part v w t) = minus_twins t
  minus_parts (part_fault f) = part_fault f

  pub both_twins : {r s t u : Result Value Fault} → TwinPart pairs r t → TwinPart pairs s u → TwinParts pairs (both r s) (both t u)
  both_twins (part a b s) (part c d t) = parts (a, c) (b, d) s t
  both_twins (part a b s) (part_fault f) = parts_fault f
  both_twins (part_fault f) (part a b s) = parts_fault f
  both_twins (part_fault f) (part_fault g) = parts_fault (worse f g)

  pub arithmetic_parts : (level : ℕ) (op : Op) {r s : Result (Value × Value) Fault} → TwinParts pairs r s → TwinPart pairs (then_apply (λ (p : Value × Value). arithmetic level op p.0 p.1) r) (then_apply (λ (p : Value × Value). arithmetic level op p.0 p.1) s)
  arithmetic_parts level op (parts p q s t) = arithmetic_twins level op s t
  arithmetic_parts level op (parts_fault f) = part_fault f

-- ---- comparisons

pub null_twins : {pairs : List IdPair} {v w : Value} → Twin pairs v w → is_null_value v ≡ is_null_value w
null_twins null = refl
null_twins t = refl

pub order_twins : {pairs : List IdPair} (level : ℕ) {v x w y : Value} → Twin pairs v x → Twin pairs w y → value_order level v w ≡ value_order level x y
order_twins level (int a) (int b) = refl
order_twins level (text a) (text b) = refl
order_twins level s t = refl

module _ (pairs : List IdPair) (once : HasNoIdTwice pairs) (level : ℕ) where
  pub equal_twins : {v x w y : Value} → Twin pairs v x → Twin pairs w y → value_equal level v w ≡ value_equal level x y
  equal_twins (row a m c) (row b n d) = ap Some (same_ids pairs once (id.Row a) (id.Row b) (id.Row m) (id.Row n) c d)
  equal_twins (draw p a q m c) (draw r b s n d) = ap Some (same_ids pairs once (id.Draw p a) (id.Draw r b) (id.Draw q m) (id.Draw s n) c d)
  equal_twins (int a) (int b) = refl
  equal_twins (text a) (text b) = refl
  equal_twins s t = refl

  comparison_twins : (op : Op) {v x w y : Value} → Twin pairs v x → Twin pairs w y → comparison level op v w ≡ comparison level op x y
  comparison_twins Eq s t = equal_twins s t
  comparison_twins Ne s t = ap (option_map not) (equal_twins s t)
  comparison_twins Lt s t = ap (option_map is_lt) (order_twins level s t)
  comparison_twins Le s t = ap (option_map is_le) (order_twins level s t)
  comparison_twins Gt s t = ap (option_map is_gt) (order_twins level s t)
  comparison_twins Ge s t = ap (option_map is_ge) (order_twins level s t)
  comparison_twins op s t = refl

  compared : (op : Op) {r s : Result (Value × Value) Fault} → TwinParts pairs r s → then_apply (λ (p : Value × Value). Ok (truth_of_test (comparison level op p.0 p.1))) r ≡ then_apply (λ (p : Value × Value). Ok (truth_of_test (comparison level op p.0 p.1))) s
  compared op (parts p q s t) = ap (λ o. Ok (truth_of_test o)) (comparison_twins op s t)
  compared op (parts_fault f) = refl

null_parts : {pairs : List IdPair} (f : Bool → Bool) {r s : Result Value Fault} → TwinPart pairs r s → then_apply (λ (v : Value). Ok (truth_of_test (Some (f (is_null_value v))))) r ≡ then_apply (λ (v : Value). Ok (truth_of_test (Some (f (is_null_value v))))) s
null_parts f (part v w t) = ap (λ b. Ok (truth_of_test (Some (f b)))) (null_twins t)
null_parts f (part_fault g) = refl

-- ---- values by place

pub nth_twins : (pairs : List IdPair) (values others : List Value) (n : ℕ) → AreRenamed pairs values others → Twin pairs (unwrap_or (slice_get values n) Null) (unwrap_or (slice_get others n) Null)
nth_twins pairs [] [] n t = null
nth_twins pairs (v ∷ vs) (w ∷ ws) zero t = twin_of pairs v w t.0
nth_twins pairs (v ∷ vs) (w ∷ ws) (suc n) t = nth_twins pairs vs ws n t.1
nth_twins pairs [] (w ∷ ws) n t = absurd t
nth_twins pairs (v ∷ vs) [] n t = absurd t

pub bind_twins : (pairs : List IdPair) (binds sent : List Value) (n : ℕ) → AreRenamed pairs binds sent → Twin pairs (unwrap_or (bind_at binds n) Null) (unwrap_or (bind_at sent n) Null)
bind_twins pairs binds sent n t = elim (nat_eq n 0) as (λ b. Twin pairs (unwrap_or (if b then None else slice_get binds (n - 1)) Null) (unwrap_or (if b then None else slice_get sent (n - 1)) Null)) [
  | true ↦ null
  | false ↦ nth_twins pairs binds sent (n - 1) t
]

-- ---- expressions

chosen : {A : Type 0} (b : Bool) (x y v w : A) → x ≡ y → v ≡ w → (if b then x else v) ≡ (if b then y else w)
chosen true x y v w e f = e
chosen false x y v w e f = f

module _ (pairs : List IdPair) (level here other : ℕ) (values others : List Value) (left : AreRenamed pairs values others) (binds sent : List Value) (given : AreRenamed pairs binds sent) where
  first_fits : (op : Op) (a b : Term ℕ) → RowsFit pairs here other (term.bin op a b) → RowsFit pairs here other a
  first_fits op a b fits e = fits (list_any-append is_rowid (leaves a) (leaves b) ∙ ap (λ t. t || names_row b) e)

  second_fits : (op : Op) (a b : Term ℕ) → RowsFit pairs here other (term.bin op a b) → RowsFit pairs here other b
  second_fits op a b fits e = fits (list_any-append is_rowid (leaves a) (leaves b) ∙ ap (λ t. names_row a || t) e ∙ or-true (names_row a))

  pub value_twins : (e : Term ℕ) → RowsFit pairs here other e → TwinPart pairs (value_of level here values binds e) (value_of level other others sent e)
  value_twins term.null fits = part Null Null null
  value_twins (term.int n) fits = part (Int n) (Int n) (int n)
  value_twins (term.text t) fits = part (Text t) (Text t) (text t)
  value_twins (term.bind n) fits = part _ _ (bind_twins pairs binds sent n given)
  value_twins (term.column n) fits = part _ _ (nth_twins pairs values others n left)
  value_twins term.rowid fits = part (Row here) (Row other) (row here other (fits refl))
  value_twins (term.neg e) fits = minus_parts pairs (value_twins e fits)
  value_twins (term.bin op a b) fits = arithmetic_parts pairs level op (both_twins pairs (value_twins a (first_fits op a b fits)) (value_twins b (second_fits op a b fits)))
  value_twins (term.not e) fits = part Null Null null
  value_twins (term.is_null e) fits = part Null Null null
  value_twins (term.not_null e) fits = part Null Null null

  pub truth_twins : HasNoIdTwice pairs → (e : Term ℕ) → RowsFit pairs here other e → truth_value level here values binds e ≡ truth_value level other others sent e
  truth_twins once (term.not e) fits = ap (then_apply (λ (t : Truth). Ok (negation t))) (truth_twins once e fits)
  truth_twins once (term.bin op a b) fits =
      let f = first_fits op a b fits in
      let s = second_fits op a b fits in
      chosen (is_connective op) _ _ _ _ (λ i. then_apply (λ (p : Truth × Truth). Ok (connected op p.0 p.1)) (both (truth_twins once a f i) (truth_twins once b s i))) (compared pairs once level op (both_twins pairs (value_twins a f) (value_twins b s)))
  truth_twins once (term.is_null e) fits = null_parts (λ b. b) (value_twins e fits)
  truth_twins once (term.not_null e) fits = null_parts not (value_twins e fits)
  truth_twins once e fits = refl

-- ---- images

left_values : (pairs : List IdPair) (left other : Option (List Value)) → IsRenamedLeft pairs left other → AreRenamed pairs (unwrap_or left []) (unwrap_or other [])
left_values pairs None None t = tt
left_values pairs (Some values) (Some others) t = t
left_values pairs None (Some others) t = absurd t
left_values pairs (Some values) None t = absurd t

pub image_values : (pairs : List IdPair) (image other : Image) → IsRenamedImage pairs image other → AreRenamed pairs (values_in image) (values_in other)
image_values pairs image other twins = left_values pairs image.left other.left twins.left
