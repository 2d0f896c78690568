-- What statements find in the rows of a table: which rows match, what is taken of them, and in which order.
use Rattle.std.specs.Prelude.{ℕ, Bool, true, false, if◌then◌else◌, List, [], ◌∷◌, map, slice_get, Option, None, Some, Result, Ok, Err}
use Rattle.std.specs.Option.{unwrap_or}
use Rattle.std.specs.Ordering.{is_lt, nat_cmp, ordering_reverse, ordering_then}
use Rattle.std.specs.List.{filter, list_any}
use Rattle.std.specs.declared.cmp.Ordering.{Ordering}
use Rattle.desk_values.specs.declared.value.Value.{Value}
use Rattle.desk_values.specs.declared.value.Value.TheVariants.{Null, Int, Text, Row, Draw}
use Rattle.desk_values.specs.declared.value.Image.{Image}
use Rattle.desk_values.specs.declared.fault.Fault.{Fault}
use Rattle.desk_values.specs.Comparison.{value_order}
use Rattle.sql_tree.specs.declared.tree.Key.{Key}
use Rattle.sql_tree.specs.Plain.{Term}
use Rattle.sql_eval.specs.declared.logic.Truth.{Truth}
use Rattle.sql_eval.specs.declared.logic.Truth.TheVariants.{True}
use Rattle.sql_eval.specs.declared.faults.Faults.{Faults}
use Rattle.sql_eval.specs.Faults.{any_fault}
use Rattle.sql_eval.specs.Totals.{part_in, values_in}
use Rattle.sql_eval.specs.Value.{truth_value}

-- what the expressions of a statement are evaluated with
pub record Environment : Type 0 where
  pub level : ℕ
  pub binds : List Value

-- ---- faults over rows

abbrev pub no_faults : Faults
no_faults = record { divides = false; overflows = false }

-- the faults of any of them
unfoldable pub faults_over : {X : Type 0} → (X → Faults) → List X → Faults
faults_over faults xs = record { divides = list_any (λ x. (faults x).divides) xs; overflows = list_any (λ x. (faults x).overflows) xs }

-- ---- which rows match

abbrev pub truth_in : Environment → Term ℕ → Image → Result Truth Fault
truth_in env condition image = truth_value env.level image.row (values_in image) env.binds condition

abbrev pub is_true : Result Truth Fault → Bool
is_true (Ok True) = true
is_true other = false

-- the row's condition is true; without a condition each row matches
abbrev pub matches : Environment → Option (Term ℕ) → Image → Bool
matches env None image = true
matches env (Some condition) image = is_true (truth_in env condition image)

abbrev pub matching : Environment → Option (Term ℕ) → List Image → List Image
matching env condition rows = filter (matches env condition) rows

-- the faults of a condition at any of the rows
abbrev pub where_faults : Environment → Option (Term ℕ) → List Image → Faults
where_faults env None rows = no_faults
where_faults env (Some condition) rows = any_fault (truth_in env condition) rows

-- ---- expressions over rows

abbrev pub value_in : Environment → Image → Term ℕ → Result Value Fault
value_in env image e = part_in env.level env.binds e image

-- the value of a part that has no fault; where one has a fault its statement is refused, and Null holds the place
abbrev pub sound : Result Value Fault → Value
sound (Ok value) = value
sound (Err fault) = Null

abbrev pub values_for : Environment → List (Term ℕ) → Image → List Value
values_for env es image = map (λ (e : Term ℕ). sound (value_in env image e)) es

-- the faults of these expressions at any of the rows
abbrev pub row_faults : Environment → List (Term ℕ) → List Image → Faults
row_faults env es rows = faults_over (λ (image : Image). any_fault (value_in env image) es) rows

-- ---- the order of rows

-- the place of a kind of value where two values have no order: Null is the last
abbrev pub kind_place : Value → ℕ
kind_place (Int n) = 0
kind_place (Text text) = 1
kind_place (Row n) = 2
kind_place (Draw sequence n) = 3
kind_place Null = 4

-- the order of two values of a column
abbrev pub column_order : ℕ → Value → Value → Ordering
column_order level a b = unwrap_or (value_order level a b) (nat_cmp (kind_place a) (kind_place b))

abbrev pub value_at : Image → ℕ → Value
value_at image column = unwrap_or (slice_get (values_in image) column) Null

-- two rows by one column; where the greatest comes first, so does Null
abbrev pub key_order : ℕ → Key ℕ → Image → Image → Ordering
key_order level key a b = let order = column_order level (value_at a key.column) (value_at b key.column) in if key.desc then ordering_reverse order else order

-- two rows by the columns in turn, and where these are equal by their numbers
abbrev pub row_order : ℕ → List (Key ℕ) → Image → Image → Ordering
row_order level [] a b = nat_cmp a.row b.row
row_order level (key ∷ keys) a b = ordering_then (key_order level key a b) (row_order level keys a b)

-- a row in front of the first that does not come before it
abbrev pub insert_ordered : ℕ → List (Key ℕ) → Image → List Image → List Image
insert_ordered level keys image [] = image ∷ []
insert_ordered level keys image (first ∷ rest) = if is_lt (row_order level keys first image) then first ∷ insert_ordered level keys image rest else image ∷ first ∷ rest

-- the rows in this order
unfoldable pub ordered : ℕ → List (Key ℕ) → List Image → List Image
ordered level keys [] = []
ordered level keys (image ∷ rest) = insert_ordered level keys image (ordered level keys rest)
