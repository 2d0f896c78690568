-- The checks look at the kinds of binds alone.
use Rattle.std.proofs.Common.{◌≡◌, ℕ, zero, suc, ◌-◌, Bool, true, false, ◌&&◌, List, [], ◌∷◌, length, map, Option, None, Some, refl, sym, ap, ◌∙◌}
use Rattle.std.specs.Prelude.{pos, nat_eq, if◌then◌else◌, not, slice_get, Ok}
use Rattle.std.specs.Option.{option_map}
use Rattle.std.specs.List.{find, list_all, list_any}
use Rattle.std.proofs.lemmas.List.{length-map}
use Rattle.desk_values.specs.declared.value.Value.{Value}
use Rattle.desk_values.specs.declared.value.Value.TheVariants as value
use Rattle.desk_values.specs.declared.fault.Fault.{Fault}
use Rattle.desk_values.specs.declared.fault.Fault.TheVariants.{UnknownTable, UnknownColumn, UnknownSequence, BindMissing, Kinds}
use Rattle.desk_schema.specs.Schema.{SchemaView}
use Rattle.desk_schema.specs.declared.schema.Column.{Column}
use Rattle.sql_tree.specs.Plain.{Asked, Change, Entry, Name, Plan, Term, Total}
use Rattle.sql_tree.specs.Plain as plain
use Rattle.sql_tree.specs.Leaves.{plan_leaves}
use Rattle.sql_reader.specs.Reading.{statement_of}
use Rattle.sql_eval.specs.Check.{applies, check_of, first_fault, is_missing_bind}
use Rattle.sql_eval.specs.Faults.{unless_told}
use Rattle.sql_eval.specs.Kinds.{are_inputs, entry_kind, fits_column, has_order, is_asked, is_change, is_item, is_key, is_number, is_total, is_truth, is_where, kind_at, kind_of, kind_of_column, kind_of_value, kinds_agree, of_two, operator_kind, passes}
use Rattle.sql_eval.specs.SchemaNames.{columns_at, numbered}
use Rattle.sql_eval.specs.Value.{bind_at}
use Rattle.statement_cache.specs.declared.kinds.BindKind.{BindKind}
use Rattle.statement_cache.specs.declared.kinds.BindKind.TheVariants as bind
use Rattle.statement_cache.specs.Kept.{outcome_of_text}
use Rattle.statement_cache.specs.Kinds.{kind_of_bind, kinds_of}

-- a bind of this kind
abbrev some_of : BindKind → Value
some_of bind.Null = value.Null
some_of bind.Int = value.Int (pos 0)
some_of bind.Text = value.Text []
some_of bind.Row = value.Row 0
some_of (bind.Draw sequence) = value.Draw sequence 0

part_is : (v : Value) → kind_of_value v ≡ kind_of_value (some_of (kind_of_bind v))
part_is value.Null = refl
part_is (value.Int n) = refl
part_is (value.Text t) = refl
part_is (value.Row n) = refl
part_is (value.Draw sequence n) = refl

got : (binds : List Value) (n : ℕ) → option_map kind_of_value (slice_get binds n) ≡ option_map (λ (k : BindKind). kind_of_value (some_of k)) (slice_get (kinds_of binds) n)
got [] n = refl
got (v ∷ binds) zero = ap Some (part_is v)
got (v ∷ binds) (suc n) = got binds n

module _ (binds others : List Value) (alike : kinds_of binds ≡ kinds_of others) where
  same_length : length binds ≡ length others
  same_length = sym (length-map binds kind_of_bind) ∙ ap length alike ∙ length-map others kind_of_bind

  same_bind : (n : ℕ) → option_map kind_of_value (bind_at binds n) ≡ option_map kind_of_value (bind_at others n)
  same_bind n = elim (nat_eq n 0) as (λ b. option_map kind_of_value (if b then None else slice_get binds (n - 1)) ≡ option_map kind_of_value (if b then None else slice_get others (n - 1))) [
    | true ↦ refl
    | false ↦ got binds (n - 1) ∙ ap (λ (kinds : List BindKind). option_map (λ (k : BindKind). kind_of_value (some_of k)) (slice_get kinds (n - 1))) alike ∙ sym (got others (n - 1))
  ]

  module _ (columns : List Column) where
    same_kind : (e : Term ℕ) → kind_of columns binds e ≡ kind_of columns others e
    same_kind plain.null = refl
    same_kind (plain.int n) = refl
    same_kind (plain.text t) = refl
    same_kind (plain.bind n) = same_bind n
    same_kind (plain.column n) = refl
    same_kind plain.rowid = refl
    same_kind (plain.neg e) = rw (same_kind e) refl
    same_kind (plain.not e) = rw (same_kind e) refl
    same_kind (plain.bin op a b) = λ i. of_two (operator_kind op) (same_kind a i) (same_kind b i)
    same_kind (plain.is_null e) = rw (same_kind e) refl
    same_kind (plain.not_null e) = rw (same_kind e) refl

    same_where : (condition : Option (Term ℕ)) → is_where columns binds condition ≡ is_where columns others condition
    same_where None = refl
    same_where (Some e) = ap (passes is_truth) (same_kind e)

    same_total : (t : Total ℕ) → is_total columns binds t ≡ is_total columns others t
    same_total plain.count = refl
    same_total (plain.total e) = ap (passes is_number) (same_kind e)
    same_total (plain.least e) = ap (passes has_order) (same_kind e)
    same_total (plain.greatest e) = ap (passes has_order) (same_kind e)

    all_alike : {X : Type 0} (p q : X → Bool) (xs : List X) → ((x : X) → p x ≡ q x) → list_all p xs ≡ list_all q xs
    all_alike p q [] same = refl
    all_alike p q (x ∷ xs) same = ap (λ (b : Bool). b && list_all p xs) (same x) ∙ ap (λ (b : Bool). q x && b) (all_alike p q xs same)

    same_asked : (asked : Asked ℕ) → is_asked columns binds asked ≡ is_asked columns others asked
    same_asked plain.columns = refl
    same_asked (plain.values es) = all_alike (is_item columns binds) (is_item columns others) es (λ e. ap (passes (λ k. not (is_truth k))) (same_kind e))
    same_asked (plain.totals ts) = all_alike (is_total columns binds) (is_total columns others) ts same_total

    same_entry : (entry : Entry ℕ) → entry_kind columns binds entry ≡ entry_kind columns others entry
    same_entry (plain.value e) = same_kind e
    same_entry (plain.drawn sequence) = refl

    -- the columns that an INSERT names, and all columns
    inputs_named : (places : List ℕ) (entries : List (Entry ℕ)) → are_inputs columns binds (map (kind_at columns) places) entries ≡ are_inputs columns others (map (kind_at columns) places) entries
    inputs_named [] [] = refl
    inputs_named [] (entry ∷ entries) = refl
    inputs_named (place ∷ places) [] = refl
    inputs_named (place ∷ places) (entry ∷ entries) = λ i. fits_column (kind_at columns place) (same_entry entry i) && inputs_named places entries i

    inputs_of_all : (cs : List Column) (entries : List (Entry ℕ)) → are_inputs columns binds (map (λ (c : Column). Some (kind_of_column c.kind)) cs) entries ≡ are_inputs columns others (map (λ (c : Column). Some (kind_of_column c.kind)) cs) entries
    inputs_of_all [] [] = refl
    inputs_of_all [] (entry ∷ entries) = refl
    inputs_of_all (c ∷ cs) [] = refl
    inputs_of_all (c ∷ cs) (entry ∷ entries) = λ i. fits_column (Some (kind_of_column c.kind)) (same_entry entry i) && inputs_of_all cs entries i

    same_change : (c : Change ℕ) → is_change columns binds c ≡ is_change columns others c
    same_change c = ap (fits_column (kind_at columns c.column)) (same_kind c.to)

    kinds_alike : (plan : Plan ℕ) → kinds_agree columns binds plan ≡ kinds_agree columns others plan
    kinds_alike (plain.select table asked condition keys held) = ap (λ (b : Bool). b && is_where columns binds condition && list_all (is_key columns) keys) (same_asked asked) ∙ ap (λ (b : Bool). is_asked columns others asked && b && list_all (is_key columns) keys) (same_where condition)
    kinds_alike (plain.next sequence) = refl
    kinds_alike (plain.insert table None entries) = inputs_of_all columns entries
    kinds_alike (plain.insert table (Some places) entries) = inputs_named places entries
    kinds_alike (plain.update table changes condition) = ap (λ (b : Bool). b && is_where columns binds condition) (all_alike (is_change columns binds) (is_change columns others) changes same_change) ∙ ap (λ (b : Bool). list_all (is_change columns others) changes && b) (same_where condition)
    kinds_alike (plain.delete table condition) = same_where condition
    kinds_alike plain.commit = refl
    kinds_alike plain.rollback = refl
    kinds_alike plain.set_read_only = refl
    kinds_alike (plain.savepoint name) = refl
    kinds_alike (plain.rollback_to name) = refl

  module _ (schema : SchemaView) (statement : Plan Name) where
    same_applies : (fault : Fault) → applies schema binds statement fault ≡ applies schema others statement fault
    same_applies BindMissing = ap (λ (count : ℕ). list_any (is_missing_bind count) (plan_leaves statement)) same_length
    same_applies Kinds = ap not (kinds_alike (columns_at schema statement) (numbered schema statement))
    same_applies other = refl

    found_alike : (p q : Fault → Bool) (faults : List Fault) → ((fault : Fault) → p fault ≡ q fault) → find p faults ≡ find q faults
    found_alike p q [] same = refl
    found_alike p q (f ∷ faults) same = by (p f) (q f) (same f) (found_alike p q faults same)
      where
        by : (a b : Bool) → a ≡ b → find p faults ≡ find q faults → (if a then Some f else find p faults) ≡ (if b then Some f else find q faults)
        by a b e rest = ap (λ (c : Bool). if c then Some f else find p faults) e ∙ ap (λ (o : Option Fault). if b then Some f else o) rest

    checks_alike : check_of schema binds statement ≡ check_of schema others statement
    unfolding first_fault
    checks_alike = ap (λ (fault : Option Fault). unless_told fault (Ok (numbered schema statement))) (found_alike (applies schema binds statement) (applies schema others statement) (UnknownTable ∷ UnknownColumn ∷ UnknownSequence ∷ BindMissing ∷ Kinds ∷ []) same_applies)

pub kinds_decide : (schema : SchemaView) (text : List ℕ) (binds others : List Value) → kinds_of binds ≡ kinds_of others → outcome_of_text schema text binds ≡ outcome_of_text schema text others
kinds_decide schema text binds others alike = by (statement_of text)
  where
    by : (statement : Option (Plan Name)) → option_map (check_of schema binds) statement ≡ option_map (check_of schema others) statement
    by None = refl
    by (Some statement) = ap Some (checks_alike binds others alike schema statement)
