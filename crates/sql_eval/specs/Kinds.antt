-- The kind of a part, and which parts go together.
use Rattle.std.specs.Prelude.{ℕ, Bool, true, false, ◌&&◌, ◌||◌, not, nat_eq, List, [], ◌∷◌, map, Option, None, Some, slice_get}
use Rattle.std.specs.Option.{option_map}
use Rattle.std.specs.List.{list_all}
use Rattle.desk_values.specs.declared.value.Value.{Value}
use Rattle.desk_values.specs.declared.value.Value.TheVariants as value
use Rattle.desk_schema.specs.declared.schema.Column.{Column}
use Rattle.desk_schema.specs.declared.schema.Kind.{Kind}
use Rattle.desk_schema.specs.declared.schema.Kind.TheVariants as column
use Rattle.sql_tree.specs.declared.tree.Op.{Op}
use Rattle.sql_tree.specs.declared.tree.Op.TheVariants.{Add, Sub, Mul, Div, Eq, Ne, Lt, Le, Gt, Ge, And, Or}
use Rattle.sql_eval.specs.declared.part_kind.PartKind.{PartKind}
use Rattle.sql_eval.specs.declared.part_kind.PartKind.TheVariants.{Null, Int, Text, Row, Seq, Truth}
use Rattle.sql_tree.specs.declared.tree.Key.{Key}
use Rattle.sql_tree.specs.Plain.{Term, Total, Entry, Change, Asked, Plan}
use Rattle.sql_tree.specs.Plain as plain
use Rattle.sql_eval.specs.Value.{bind_at}

-- the kind of a value, which a bind has
abbrev pub kind_of_value : Value → PartKind
kind_of_value value.Null = Null
kind_of_value (value.Int n) = Int
kind_of_value (value.Text t) = Text
kind_of_value (value.Row n) = Row
kind_of_value (value.Draw sequence n) = Seq sequence

-- the kind of what a column holds
abbrev pub kind_of_column : Kind → PartKind
kind_of_column (column.Int low high) = Int
kind_of_column (column.Text most) = Text
kind_of_column (column.Seq sequence) = Seq sequence

-- the kind of the column of a number
abbrev pub kind_at : List Column → ℕ → Option PartKind
kind_at columns n = option_map (λ (c : Column). kind_of_column c.kind) (slice_get columns n)

-- two kinds are one; draws from two sequences are of two kinds
abbrev pub is_same_kind : PartKind → PartKind → Bool
is_same_kind Null Null = true
is_same_kind Int Int = true
is_same_kind Text Text = true
is_same_kind Row Row = true
is_same_kind (Seq p) (Seq q) = nat_eq p q
is_same_kind Truth Truth = true
is_same_kind kind other = false

-- the kind of a condition
abbrev pub is_truth : PartKind → Bool
is_truth Truth = true
is_truth other = false

-- the kind of Null, which goes with every kind but that of a condition
abbrev pub is_null_kind : PartKind → Bool
is_null_kind Null = true
is_null_kind other = false

-- what minus, arithmetic and SUM take
abbrev pub is_number : PartKind → Bool
is_number Null = true
is_number Int = true
is_number other = false

-- what has an order: ids have none
abbrev pub has_order : PartKind → Bool
has_order Null = true
has_order Int = true
has_order Text = true
has_order other = false

-- what may be compared: two of one kind, or something with a null, and no condition
abbrev pub is_comparable : PartKind → PartKind → Bool
is_comparable k l = not (is_truth k) && not (is_truth l) && (is_null_kind k || is_null_kind l || is_same_kind k l)

-- what an input or a setting takes for a column of the first kind
abbrev pub is_taken : PartKind → PartKind → Bool
is_taken target k = is_null_kind k || is_same_kind k target

-- the kind, where the rule is kept
abbrev pub kept : Bool → PartKind → Option PartKind
kept true k = Some k
kept false k = None

-- the kind of an operation on two parts of these kinds
abbrev pub operator_kind : Op → PartKind → PartKind → Option PartKind
operator_kind Add k l = kept (is_number k && is_number l) Int
operator_kind Sub k l = kept (is_number k && is_number l) Int
operator_kind Mul k l = kept (is_number k && is_number l) Int
operator_kind Div k l = kept (is_number k && is_number l) Int
operator_kind Eq k l = kept (is_comparable k l) Truth
operator_kind Ne k l = kept (is_comparable k l) Truth
operator_kind Lt k l = kept (is_comparable k l && has_order k && has_order l) Truth
operator_kind Le k l = kept (is_comparable k l && has_order k && has_order l) Truth
operator_kind Gt k l = kept (is_comparable k l && has_order k && has_order l) Truth
operator_kind Ge k l = kept (is_comparable k l && has_order k && has_order l) Truth
operator_kind And k l = kept (is_truth k && is_truth l) Truth
operator_kind Or k l = kept (is_truth k && is_truth l) Truth

-- a rule on one kind or on two, where no rule is broken beneath
abbrev pub of_one : (PartKind → Option PartKind) → Option PartKind → Option PartKind
of_one f None = None
of_one f (Some k) = f k

-- the same of two parts
abbrev pub of_two : (PartKind → PartKind → Option PartKind) → Option PartKind → Option PartKind → Option PartKind
of_two f None other = None
of_two f (Some k) None = None
of_two f (Some k) (Some l) = f k l

-- the kind of a part; none where it breaks a rule, or names a column or a bind that is not there
abbrev pub kind_of : List Column → List Value → Term ℕ → Option PartKind
kind_of columns binds plain.null = Some Null
kind_of columns binds (plain.int n) = Some Int
kind_of columns binds (plain.text t) = Some Text
kind_of columns binds (plain.bind n) = option_map kind_of_value (bind_at binds n)
kind_of columns binds (plain.column n) = kind_at columns n
kind_of columns binds plain.rowid = Some Row
kind_of columns binds (plain.neg e) = of_one (λ k. kept (is_number k) Int) (kind_of columns binds e)
kind_of columns binds (plain.not e) = of_one (λ k. kept (is_truth k) Truth) (kind_of columns binds e)
kind_of columns binds (plain.bin op a b) = of_two (operator_kind op) (kind_of columns binds a) (kind_of columns binds b)
kind_of columns binds (plain.is_null e) = of_one (λ k. kept (not (is_truth k)) Truth) (kind_of columns binds e)
kind_of columns binds (plain.not_null e) = of_one (λ k. kept (not (is_truth k)) Truth) (kind_of columns binds e)

-- ---- statements

-- there is a kind, and it passes
abbrev pub passes : (PartKind → Bool) → Option PartKind → Bool
passes test None = false
passes test (Some k) = test k

-- behind WHERE stands a condition
abbrev pub is_condition : List Column → List Value → Term ℕ → Bool
is_condition columns binds e = passes is_truth (kind_of columns binds e)

-- there is no WHERE, or it has a condition
abbrev pub is_where : List Column → List Value → Option (Term ℕ) → Bool
is_where columns binds None = true
is_where columns binds (Some e) = is_condition columns binds e

-- an item is anything else
abbrev pub is_item : List Column → List Value → Term ℕ → Bool
is_item columns binds e = passes (λ k. not (is_truth k)) (kind_of columns binds e)

-- SUM takes numbers, MIN and MAX what has an order; COUNT takes nothing
abbrev pub is_total : List Column → List Value → Total ℕ → Bool
is_total columns binds plain.count = true
is_total columns binds (plain.total e) = passes is_number (kind_of columns binds e)
is_total columns binds (plain.least e) = passes has_order (kind_of columns binds e)
is_total columns binds (plain.greatest e) = passes has_order (kind_of columns binds e)

-- each thing that a SELECT asks for may be asked for
abbrev pub is_asked : List Column → List Value → Asked ℕ → Bool
is_asked columns binds plain.columns = true
is_asked columns binds (plain.values es) = list_all (is_item columns binds) es
is_asked columns binds (plain.totals ts) = list_all (is_total columns binds) ts

-- rows are ordered by numbers and texts
abbrev pub is_key : List Column → Key ℕ → Bool
is_key columns key = passes has_order (kind_at columns key.column)

-- the kind of an input
abbrev pub entry_kind : List Column → List Value → Entry ℕ → Option PartKind
entry_kind columns binds (plain.value e) = kind_of columns binds e
entry_kind columns binds (plain.drawn sequence) = Some (Seq sequence)

-- the column takes the kind
abbrev pub fits_column : Option PartKind → Option PartKind → Bool
fits_column None other = false
fits_column (Some target) None = false
fits_column (Some target) (Some k) = is_taken target k

-- the kinds of the columns that an INSERT names, or of all columns where it names none
abbrev pub target_kinds : List Column → Option (List ℕ) → List (Option PartKind)
target_kinds columns None = map (λ (c : Column). Some (kind_of_column c.kind)) columns
target_kinds columns (Some places) = map (kind_at columns) places

-- one input for each column, of a kind that it takes
abbrev pub are_inputs : List Column → List Value → List (Option PartKind) → List (Entry ℕ) → Bool
are_inputs columns binds [] [] = true
are_inputs columns binds [] (entry ∷ entries) = false
are_inputs columns binds (target ∷ targets) [] = false
are_inputs columns binds (target ∷ targets) (entry ∷ entries) = fits_column target (entry_kind columns binds entry) && are_inputs columns binds targets entries

-- the column takes the kind of its new value
abbrev pub is_change : List Column → List Value → Change ℕ → Bool
is_change columns binds change = fits_column (kind_at columns change.column) (kind_of columns binds change.to)

-- no rule of kinds is broken in the statement, whose table has these columns
abbrev pub kinds_agree : List Column → List Value → Plan ℕ → Bool
kinds_agree columns binds (plain.select table asked condition keys held) = is_asked columns binds asked && is_where columns binds condition && list_all (is_key columns) keys
kinds_agree columns binds (plain.next sequence) = true
kinds_agree columns binds (plain.insert table named entries) = are_inputs columns binds (target_kinds columns named) entries
kinds_agree columns binds (plain.update table changes condition) = list_all (is_change columns binds) changes && is_where columns binds condition
kinds_agree columns binds (plain.delete table condition) = is_where columns binds condition
kinds_agree columns binds plain.commit = true
kinds_agree columns binds plain.rollback = true
kinds_agree columns binds plain.set_read_only = true
kinds_agree columns binds (plain.savepoint name) = true
kinds_agree columns binds (plain.rollback_to name) = true
