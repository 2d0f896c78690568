-- Values that fit their columns, and what statements put into them.
use Rattle.std.proofs.Common.{◌≡◌, ◌∙◌, ◌<◌, ℕ, zero, suc, ◌+◌, Bool, true, false, List, [], ◌∷◌, length, map, set, get_or, refl, sym, ap, subst, arith}
use Rattle.std.proofs.lemmas.Bool.{and_parts, eqb-true, eq-eqb, ltb-false, ltb-true, or_parts}
use Rattle.std.proofs.lemmas.Int.{by_lt_z}
use Rattle.std.specs.Cmp.{int_cmp_is}
use Rattle.std.proofs.lemmas.List.Sums.{passes_at_first}
use Rattle.std.specs.Prelude.{ℤ, pos, neg_ℤ, ◌+ℤ◌, ◌-ℤ◌, ◌*ℤ◌, ◌≤ℤ◌, ◌&&◌, ◌==◌, cond, if◌then◌else◌, nat_eq, nat_lt, slice_get, Option, None, Some, Result, Ok, Err}
use Rattle.std.specs.Option.{option_and_then, option_map, unwrap_or}
use Rattle.std.specs.Ordering.{int_cmp, is_lt}
use Rattle.std.specs.declared.cmp.Ordering.TheVariants.{Less}
use Rattle.std.specs.List.{AllZip, list_all, position, position_or_len}
use Rattle.desk_values.specs.declared.fault.Fault.{Fault}
use Rattle.desk_values.specs.declared.fault.Fault.TheVariants.{Overflow, ZeroDivisor}
use Rattle.desk_values.specs.declared.value.Image.{Image}
use Rattle.desk_values.specs.declared.value.Value.{Value}
use Rattle.desk_values.specs.declared.value.Value.TheVariants.{Null, Int, Text, Row, Draw}
use Rattle.desk_schema.specs.declared.schema.Column.{Column}
use Rattle.desk_schema.specs.declared.schema.Kind.{Kind}
use Rattle.desk_schema.specs.declared.schema.Kind.TheVariants as kind
use Rattle.desk_schema.specs.Rules as start
use Rattle.sql_tree.specs.declared.tree.Op.{Op}
use Rattle.sql_tree.specs.declared.tree.Op.TheVariants.{Add, Sub, Mul, Div}
use Rattle.sql_tree.specs.Plain.{Term, Entry, value, drawn, Change}
use Rattle.sql_tree.specs.Plain as term
use Rattle.sql_eval.specs.Kinds.{are_inputs, entry_kind, fits_column, is_change, is_number, is_taken, kept, kind_at, kind_of, kind_of_column, kind_of_value, of_one, of_two, target_kinds}
use Rattle.sql_eval.specs.Laws.{FitColumns, IsArithmetic}
use Rattle.sql_eval.specs.Totals.{values_in}
use Rattle.sql_eval.specs.Value.{arithmetic, bind_at, both, is_in_range, is_zero, minus, number, of_numbers, quotient, then_apply, value_of}
use Rattle.server_words.specs.Draws.{drawn_value, is_draw_of}
use Rattle.server_words.specs.Found.{Environment, sound, value_in}
use Rattle.server_words.specs.Writes.{any_column, assigned, column_value, exceeds, exceeds_length, input_value, inputs_for, is_empty_text, leaves, leaves_range, row_values, set_values, stored, targets, violates_not_null}
use Rattle.law_steps.specs.Fits.{FillColumns, KeepsKind, MayStandIn}

-- the column takes the value's kind
abbrev pub IsTaken : Column → Value → Type 0
IsTaken column v = is_taken (kind_of_column column.kind) (kind_of_value v) ≡ true

-- what has kinds
abbrev TypeOf : {A : Type 0} → A → Type 0
TypeOf {A} a = A

abbrev PartKind : Type 0
PartKind = TypeOf (kind_of_value Null)

-- ---- values that may stand in a column are taken, and the others by the tests

int_taken : (k : Kind) (n : ℤ) → KeepsKind k (Int n) → is_taken (kind_of_column k) (kind_of_value (Int n)) ≡ true
int_taken (kind.Int low high) n is = refl
int_taken other n is = absurd is

text_taken : (k : Kind) (text : List ℕ) → KeepsKind k (Text text) → is_taken (kind_of_column k) (kind_of_value (Text text)) ≡ true
text_taken (kind.Text most) text is = refl
text_taken other text is = absurd is

row_taken : (k : Kind) (n : ℕ) → KeepsKind k (Row n) → is_taken (kind_of_column k) (kind_of_value (Row n)) ≡ true
row_taken (kind.Int low high) n is = absurd is
row_taken (kind.Text most) n is = absurd is
row_taken (kind.Seq sequence) n is = absurd is

draw_taken : (k : Kind) (sequence n : ℕ) → KeepsKind k (Draw sequence n) → is_taken (kind_of_column k) (kind_of_value (Draw sequence n)) ≡ true
draw_taken (kind.Seq sequence) q n is = eq-eqb q sequence is
draw_taken other q n is = absurd is

pub stands_taken : (c : Column) (v : Value) → MayStandIn c v → IsTaken c v
stands_taken c Null is = refl
stands_taken c (Int n) is = int_taken c.kind n is
stands_taken c (Text text) is = text_taken c.kind text is
stands_taken c (Row n) is = row_taken c.kind n is
stands_taken c (Draw sequence n) is = draw_taken c.kind sequence n is

-- a number that is not below another
not_below : (a b : ℤ) → is_lt (int_cmp a b) ≡ false → b ≤ℤ a
not_below a b never = by_lt_z a b (λ lt. absurd (let clash : true ≡ false = ap is_lt (int_cmp_is a b Less lt) ∙ never in cc)) (λ le. le)

int_stands : (k : Kind) (n : ℤ) → is_taken (kind_of_column k) (kind_of_value (Int n)) ≡ true → leaves_range k (Int n) ≡ false → KeepsKind k (Int n)
int_stands (kind.Int low high) n taken within = let both = or_parts (is_lt (int_cmp n low)) (is_lt (int_cmp high n)) within in (not_below n low both.0, not_below high n both.1)
int_stands other n taken within = absurd (let never : false ≡ true = taken in cc)

text_stands : (k : Kind) (text : List ℕ) → is_taken (kind_of_column k) (kind_of_value (Text text)) ≡ true → exceeds_length k (Text text) ≡ false → KeepsKind k (Text text)
text_stands (kind.Text most) text taken short = ltb-false most (length text) short
text_stands other text taken short = absurd (let never : false ≡ true = taken in cc)

row_stands : (k : Kind) (n : ℕ) → is_taken (kind_of_column k) (kind_of_value (Row n)) ≡ true → KeepsKind k (Row n)
row_stands (kind.Int low high) n taken = absurd (let never : false ≡ true = taken in cc)
row_stands (kind.Text most) n taken = absurd (let never : false ≡ true = taken in cc)
row_stands (kind.Seq sequence) n taken = absurd (let never : false ≡ true = taken in cc)

draw_stands : (k : Kind) (sequence n : ℕ) → is_taken (kind_of_column k) (kind_of_value (Draw sequence n)) ≡ true → KeepsKind k (Draw sequence n)
draw_stands (kind.Seq sequence) q n taken = eqb-true q sequence taken
draw_stands other q n taken = absurd (let never : false ≡ true = taken in cc)

null_stands : (not_null : Bool) → (not_null && true) ≡ false → not_null ≡ false
null_stands true never = never
null_stands false never = refl

tested : (c : Column) (v : Value) → IsTaken c v → violates_not_null c v ≡ false → exceeds c v ≡ false → leaves c v ≡ false → MayStandIn c v
tested c Null taken there short within = null_stands c.not_null there
tested c (Int n) taken there short within = int_stands c.kind n taken within
tested c (Text text) taken there short within = text_stands c.kind text taken short
tested c (Row n) taken there short within = row_stands c.kind n taken
tested c (Draw sequence n) taken there short within = draw_stands c.kind sequence n taken

-- ---- rows of values

pub zip_weaker : {A B : Type 0} (P Q : A → B → Type 0) → ((a : A) (b : B) → P a b → Q a b) → (as_ : List A) (bs : List B) → AllZip P as_ bs → AllZip Q as_ bs
zip_weaker P Q weaker [] [] is = tt
zip_weaker P Q weaker [] (b ∷ bs) is = absurd is
zip_weaker P Q weaker (a ∷ as_) [] is = absurd is
zip_weaker P Q weaker (a ∷ as_) (b ∷ bs) is = (weaker a b is.0, zip_weaker P Q weaker as_ bs is.1)

pub all_tested : (cs : List Column) (vs : List Value) → AllZip IsTaken cs vs → any_column violates_not_null cs vs ≡ false → any_column exceeds cs vs ≡ false → any_column leaves cs vs ≡ false → FillColumns cs vs
all_tested [] [] taken there short within = tt
all_tested [] (v ∷ vs) taken there short within = absurd taken
all_tested (c ∷ cs) [] taken there short within = absurd taken
all_tested (c ∷ cs) (v ∷ vs) taken there short within =
    let a = or_parts (violates_not_null c v) (any_column violates_not_null cs vs) there in
    let b = or_parts (exceeds c v) (any_column exceeds cs vs) short in
    let d = or_parts (leaves c v) (any_column leaves cs vs) within in
    (tested c v taken.0 a.0 b.0 d.0, all_tested cs vs taken.1 a.1 b.1 d.1)

-- what the laws on kinds ask for
pub taken_fit : (cs : List Column) (vs : List Value) → AllZip IsTaken cs vs → FitColumns cs vs
taken_fit [] vs taken n target is = absurd (cc)
taken_fit (c ∷ cs) [] taken n target is = absurd taken
taken_fit (c ∷ cs) (v ∷ vs) taken zero target is = let same : kind_of_column c.kind ≡ target = cc in subst (λ (k : PartKind). is_taken k (kind_of_value v) ≡ true) same taken.0
taken_fit (c ∷ cs) (v ∷ vs) taken (suc n) target is = taken_fit cs vs taken.1 n target is

-- ---- values of expressions

-- a kind of column that takes another takes what that one takes
taken_through : (k l : Kind) (v : Value) → is_taken (kind_of_column k) (kind_of_column l) ≡ true → is_taken (kind_of_column l) (kind_of_value v) ≡ true → is_taken (kind_of_column k) (kind_of_value v) ≡ true
taken_through (kind.Int low high) (kind.Int least most) v first second = second
taken_through (kind.Text most) (kind.Text other) v first second = second
taken_through (kind.Seq p) (kind.Seq q) v first second = subst (λ (s : ℕ). is_taken (kind_of_column (kind.Seq s)) (kind_of_value v) ≡ true) (eqb-true q p first) second
taken_through k l v first second = absurd (let never : false ≡ true = first in cc)

module _ (k : Kind) where
  abbrev Taken : Value → Type 0
  Taken v = is_taken (kind_of_column k) (kind_of_value v) ≡ true

  abbrev Fits : Option PartKind → Type 0
  Fits part = fits_column (Some (kind_of_column k)) part ≡ true

  of_bind : (o : Option Value) → Fits (option_map kind_of_value o) → Taken (unwrap_or o Null)
  of_bind None fits = absurd (let never : false ≡ true = fits in cc)
  of_bind (Some v) fits = fits

  of_column : (cs : List Column) (vs : List Value) (n : ℕ) → AllZip IsTaken cs vs → Fits (kind_at cs n) → Taken (unwrap_or (slice_get vs n) Null)
  of_column [] vs n all fits = absurd (let never : false ≡ true = fits in cc)
  of_column (c ∷ cs) [] n all fits = absurd all
  of_column (c ∷ cs) (v ∷ vs) zero all fits = taken_through k c.kind v fits all.0
  of_column (c ∷ cs) (v ∷ vs) (suc n) all fits = of_column cs vs n all.1 fits

  -- a number is taken where a rule gives its kind
  of_rule : (rule : Bool) → Fits (kept rule (kind_of_value (Int (pos 0)))) → Taken (Int (pos 0))
  of_rule true fits = fits
  of_rule false fits = absurd (let never : false ≡ true = fits in cc)

  of_minus : (o : Option PartKind) → Fits (of_one (λ (j : PartKind). kept (is_number j) (kind_of_value (Int (pos 0)))) o) → Taken (Int (pos 0))
  of_minus None fits = absurd (let never : false ≡ true = fits in cc)
  of_minus (Some j) fits = of_rule (is_number j) fits

  of_sum : (o p : Option PartKind) → Fits (of_two (λ (i j : PartKind). kept (is_number i && is_number j) (kind_of_value (Int (pos 0)))) o p) → Taken (Int (pos 0))
  of_sum None p fits = absurd (let never : false ≡ true = fits in cc)
  of_sum (Some i) None fits = absurd (let never : false ≡ true = fits in cc)
  of_sum (Some i) (Some j) fits = of_rule (is_number i && is_number j) fits

  -- what an operation on numbers gives: a number, Null, or a fault
  number_taken : (n : ℤ) → Taken (Int (pos 0)) → Taken (sound (number n))
  number_taken n taken = elim (is_in_range n) as (λ b. Taken (sound (if b then Ok (Int n) else Err Overflow))) [ true ↦ taken | false ↦ refl ]

  quotient_taken : (a b : ℤ) (level : ℕ) → Taken (Int (pos 0)) → Taken (sound (of_numbers level Div a b))
  quotient_taken a b level taken = elim (is_zero b) as (λ z. Taken (sound (if z then Err ZeroDivisor else number (quotient level a b)))) [ true ↦ refl | false ↦ number_taken (quotient level a b) taken ]

  numbers_taken : (level : ℕ) (op : Op) (a b : ℤ) → (IsArithmetic op → Taken (Int (pos 0))) → Taken (sound (of_numbers level op a b))
  numbers_taken level Add a b taken = number_taken (a +ℤ b) (taken tt)
  numbers_taken level Sub a b taken = number_taken (a -ℤ b) (taken tt)
  numbers_taken level Mul a b taken = number_taken (a *ℤ b) (taken tt)
  numbers_taken level Div a b taken = quotient_taken a b level (taken tt)
  numbers_taken level other a b taken = refl

  operated_taken : (level : ℕ) (op : Op) (v w : Value) → (IsArithmetic op → Taken (Int (pos 0))) → Taken (sound (arithmetic level op v w))
  operated_taken level op (Int a) (Int b) taken = numbers_taken level op a b taken
  operated_taken level op v w taken = refl

  both_taken : (level : ℕ) (op : Op) (r s : Result Value Fault) → (IsArithmetic op → Taken (Int (pos 0))) → Taken (sound (then_apply (λ (p : Value × Value). arithmetic level op p.0 p.1) (both r s)))
  both_taken level op (Ok v) (Ok w) taken = operated_taken level op v w taken
  both_taken level op (Ok v) (Err fault) taken = refl
  both_taken level op (Err fault) (Ok w) taken = refl
  both_taken level op (Err fault) (Err other) taken = refl

  minus_taken : (r : Result Value Fault) → Taken (Int (pos 0)) → Taken (sound (then_apply minus r))
  minus_taken (Ok (Int n)) taken = number_taken (neg_ℤ n) taken
  minus_taken other taken = refl

  module _ (cs : List Column) (binds vs : List Value) (has : (n : ℕ) → Fits (kind_at cs n) → Taken (unwrap_or (slice_get vs n) Null)) (level row : ℕ) where
    abbrev of : Term ℕ → Result Value Fault
    of e = value_of level row vs binds e

    number_kind : (op : Op) (a b : Term ℕ) → Fits (kind_of cs binds (term.bin op a b)) → IsArithmetic op → Taken (Int (pos 0))
    number_kind Add a b fits is = of_sum (kind_of cs binds a) (kind_of cs binds b) fits
    number_kind Sub a b fits is = of_sum (kind_of cs binds a) (kind_of cs binds b) fits
    number_kind Mul a b fits is = of_sum (kind_of cs binds a) (kind_of cs binds b) fits
    number_kind Div a b fits is = of_sum (kind_of cs binds a) (kind_of cs binds b) fits
    number_kind other a b fits is = absurd is

    expression_taken : (e : Term ℕ) → Fits (kind_of cs binds e) → Taken (sound (of e))
    expression_taken term.null fits = refl
    expression_taken (term.int n) fits = fits
    expression_taken (term.text t) fits = fits
    expression_taken (term.bind n) fits = of_bind (bind_at binds n) fits
    expression_taken (term.column n) fits = has n fits
    expression_taken term.rowid fits = fits
    expression_taken (term.neg e) fits = minus_taken (of e) (of_minus (kind_of cs binds e) fits)
    expression_taken (term.not e) fits = refl
    expression_taken (term.bin op a b) fits = both_taken level op (of a) (of b) (number_kind op a b fits)
    expression_taken (term.is_null e) fits = refl
    expression_taken (term.not_null e) fits = refl

  -- an input of an INSERT is evaluated without a row
  constant_taken : (cs : List Column) (binds : List Value) (level row : ℕ) (e : Term ℕ) → Fits (kind_of cs binds e) → Taken (sound (value_of level row [] binds e))
  constant_taken cs binds level row e fits = expression_taken cs binds [] (λ n kind. refl) level row e fits

-- what a row keeps of a value that a column takes
stored_taken : (k : Kind) (level : ℕ) (v : Value) → Taken k v → Taken k (stored level v)
stored_taken k level v taken = elim (is_empty_text v && level == 2) as (λ b. Taken k (if b then Null else v)) [ true ↦ refl | false ↦ taken ]

-- ---- an UPDATE

set_taken : (cs : List Column) (vs : List Value) (n : ℕ) (c : Column) (v : Value) → AllZip IsTaken cs vs → slice_get cs n ≡ Some c → IsTaken c v → AllZip IsTaken cs (set vs n v)
set_taken [] [] n c v all is taken = tt
set_taken [] (w ∷ vs) n c v all is taken = absurd all
set_taken (d ∷ cs) [] n c v all is taken = absurd all
set_taken (d ∷ cs) (w ∷ vs) zero c v all is taken = let same : c ≡ d = cc in (subst (λ (c : Column). IsTaken c v) same taken, all.1)
set_taken (d ∷ cs) (w ∷ vs) (suc n) c v all is taken = (all.0, set_taken cs vs n c v all.1 is taken)

module _ (cs : List Column) (env : Environment) (image : Image) (old : AllZip IsTaken cs (values_in image)) where
  set_one : (vs : List Value) (change : Change ℕ) (found : Option Column) → AllZip IsTaken cs vs → slice_get cs change.column ≡ found → fits_column (option_map (λ (c : Column). kind_of_column c.kind) found) (kind_of cs env.binds change.to) ≡ true
      → AllZip IsTaken cs (set vs change.column (stored env.level (sound (value_in env image change.to))))
  set_one vs change None all is fits = absurd (let never : false ≡ true = fits in cc)
  set_one vs change (Some c) all is fits = set_taken cs vs change.column c (stored env.level (sound (value_in env image change.to))) all is (stored_taken c.kind env.level (sound (value_in env image change.to)) (expression_taken c.kind cs env.binds (values_in image) (λ n kind. of_column c.kind cs (values_in image) n old kind) env.level image.row change.to fits))

  pub assigned_taken : (changes : List (Change ℕ)) (vs : List Value) → AllZip IsTaken cs vs → list_all (is_change cs env.binds) changes ≡ true → AllZip IsTaken cs (assigned vs (targets changes) (set_values env changes image))
  assigned_taken [] vs all agree = all
  assigned_taken (change ∷ changes) vs all agree =
      let parts = and_parts (is_change cs env.binds change) (list_all (is_change cs env.binds) changes) agree in
      assigned_taken changes (set vs change.column (stored env.level (sound (value_in env image change.to)))) (set_one vs change (slice_get cs change.column) all refl parts.0) parts.1

-- ---- an INSERT

module _ (k : Kind) (q : ℕ) (takes : Taken k (Draw q 0)) where
  drawn_step : (draw rest : Value) → Taken k rest → Taken k (if is_draw_of q draw then draw else rest)
  drawn_step (Draw other n) rest later =
      elim (nat_eq other q) as (λ b. nat_eq other q ≡ b → Taken k (if b then Draw other n else rest)) [
        | true ↦ λ same. subst (λ (s : ℕ). is_taken (kind_of_column k) (kind_of_value (Draw s n)) ≡ true) (sym (eqb-true other q same)) takes
        | false ↦ λ apart. later
      ] refl
  drawn_step other rest later = later

  drawn_taken : (draws : List Value) → Taken k (drawn_value draws q)
  drawn_taken [] = refl
  drawn_taken (draw ∷ draws) = drawn_step draw (drawn_value draws q) (drawn_taken draws)

module _ (cs : List Column) (env : Environment) (draws : List Value) (k : Kind) where
  entry_taken : (entry : Entry ℕ) → Fits k (entry_kind cs env.binds entry) → Taken k (sound (input_value env draws entry))
  entry_taken (value e) fits = constant_taken k cs env.binds env.level 0 e fits
  entry_taken (drawn q) fits = drawn_taken k q fits draws

  input_taken : (targets : List (Option PartKind)) (entries : List (Entry ℕ)) (p : ℕ) → are_inputs cs env.binds targets entries ≡ true → slice_get targets p ≡ Some (Some (kind_of_column k))
      → Taken k (unwrap_or (slice_get (inputs_for env draws entries) p) Null)
  input_taken [] entries p agree is = absurd (cc)
  input_taken (first ∷ targets) [] p agree is = absurd (let never : false ≡ true = agree in cc)
  input_taken (first ∷ targets) (entry ∷ entries) zero agree is =
      let parts = and_parts (fits_column first (entry_kind cs env.binds entry)) (are_inputs cs env.binds targets entries) agree in
      let same : first ≡ Some (kind_of_column k) = cc in
      stored_taken k env.level (sound (input_value env draws entry)) (entry_taken entry (subst (λ (target : Option PartKind). fits_column target (entry_kind cs env.binds entry) ≡ true) same parts.0))
  input_taken (first ∷ targets) (entry ∷ entries) (suc p) agree is =
      let parts = and_parts (fits_column first (entry_kind cs env.binds entry)) (are_inputs cs env.binds targets entries) agree in
      input_taken targets entries p parts.1 is

got_mapped : {X Y : Type 0} (f : X → Y) (xs : List X) (n : ℕ) (x : X) → slice_get xs n ≡ Some x → slice_get (map f xs) n ≡ Some (f x)
got_mapped f [] n x is = absurd (cc)
got_mapped f (y ∷ xs) zero x is = let same : y ≡ x = cc in ap (λ z. Some (f z)) same
got_mapped f (y ∷ xs) (suc n) x is = got_mapped f xs n x is

got_within : {X : Type 0} (xs : List X) (n : ℕ) (d : X) → n < length xs → slice_get xs n ≡ Some (get_or xs n d)
got_within [] n d within = absurd (omega arith)
got_within (x ∷ xs) zero d within = refl
got_within (x ∷ xs) (suc n) d within = got_within xs n d (omega arith)

module _ (cs : List Column) (env : Environment) (draws : List Value) (entries : List (Entry ℕ)) where
  abbrev inputs : List Value
  inputs = inputs_for env draws entries

  -- where the column is named
  named_taken : (named : List ℕ) (n : ℕ) (c : Column) → are_inputs cs env.binds (map (kind_at cs) named) entries ≡ true → slice_get cs n ≡ Some c
      → IsTaken c (unwrap_or (option_and_then (slice_get inputs) (position (nat_eq n) named)) Null)
  named_taken named n c agree is =
      let p = position_or_len (nat_eq n) named in
      elim (nat_lt p (length named)) as (λ b. nat_lt p (length named) ≡ b → IsTaken c (unwrap_or (option_and_then (slice_get inputs) (cond b (Some p) None)) Null)) [
        | true ↦ λ within.
            let lt : p < length named = ltb-true p (length named) within in
            let at : n ≡ get_or named p 0 = eqb-true n (get_or named p 0) (passes_at_first (nat_eq n) named 0 lt) in
            let kind : kind_at cs n ≡ Some (kind_of_column c.kind) = ap (option_map (λ (c : Column). kind_of_column c.kind)) is in
            let target : slice_get (map (kind_at cs) named) p ≡ Some (Some (kind_of_column c.kind)) = got_mapped (kind_at cs) named p (get_or named p 0) (got_within named p 0 lt) ∙ ap (λ (k : ℕ). Some (kind_at cs k)) (sym at) ∙ ap Some kind in
            input_taken cs env draws c.kind (map (kind_at cs) named) entries p agree target
        | false ↦ λ beyond. refl
      ] refl

  column_taken : (named : Option (List ℕ)) (n : ℕ) (c : Column) → are_inputs cs env.binds (target_kinds cs named) entries ≡ true → slice_get cs n ≡ Some c → IsTaken c (column_value named inputs n)
  column_taken None n c agree is = input_taken cs env draws c.kind (target_kinds cs None) entries n agree (got_mapped (λ (c : Column). Some (kind_of_column c.kind)) cs n c is)
  column_taken (Some named) n c agree is = named_taken named n c agree is

  columns_taken : (named : Option (List ℕ)) (from : ℕ) (rest : List Column) → ((i : ℕ) (c : Column) → slice_get rest i ≡ Some c → IsTaken c (column_value named inputs (from + i))) → AllZip IsTaken rest (row_values named inputs from rest)
  columns_taken named from [] each = tt
  columns_taken named from (c ∷ rest) each = (
    subst (λ (n : ℕ). IsTaken c (column_value named inputs n)) (omega arith) (each 0 c refl),
    columns_taken named (from + 1) rest (λ i d is. subst (λ (n : ℕ). IsTaken d (column_value named inputs n)) (omega arith) (each (suc i) d is)),
  )

  pub new_taken : (named : Option (List ℕ)) → are_inputs cs env.binds (target_kinds cs named) entries ≡ true → AllZip IsTaken cs (row_values named inputs 0 cs)
  new_taken named agree = columns_taken named 0 cs (λ i c is. subst (λ (n : ℕ). IsTaken c (column_value named inputs n)) (omega arith) (column_taken named i c agree is))

-- ---- rows of a start

int_allowed : (nexts : List ℕ) (k : Kind) (n : ℤ) → start.IsOfKind nexts k (Int n) → KeepsKind k (Int n)
int_allowed nexts (kind.Int low high) n is = is
int_allowed nexts other n is = absurd is

text_allowed : (nexts : List ℕ) (k : Kind) (text : List ℕ) → start.IsOfKind nexts k (Text text) → KeepsKind k (Text text)
text_allowed nexts (kind.Text most) text is = is.1
text_allowed nexts other text is = absurd is

row_allowed : (nexts : List ℕ) (k : Kind) (n : ℕ) → start.IsOfKind nexts k (Row n) → KeepsKind k (Row n)
row_allowed nexts (kind.Int low high) n is = is
row_allowed nexts (kind.Text most) n is = is
row_allowed nexts (kind.Seq sequence) n is = is

draw_allowed : (nexts : List ℕ) (k : Kind) (sequence n : ℕ) → start.IsOfKind nexts k (Draw sequence n) → KeepsKind k (Draw sequence n)
draw_allowed nexts (kind.Seq sequence) q n is = is.0
draw_allowed nexts other q n is = absurd is

pub allowed_stands : (nexts : List ℕ) (c : Column) (v : Value) → start.IsAllowed nexts c v → MayStandIn c v
allowed_stands nexts c Null is = is
allowed_stands nexts c (Int n) is = int_allowed nexts c.kind n is
allowed_stands nexts c (Text text) is = text_allowed nexts c.kind text is
allowed_stands nexts c (Row n) is = row_allowed nexts c.kind n is
allowed_stands nexts c (Draw sequence n) is = draw_allowed nexts c.kind sequence n is
