-- Twin calls ask for the same: the checks see no more of binds than their kinds.
use Rattle.std.proofs.Common.{◌≡◌, ℕ, ◌-◌, Bool, true, false, ◌||◌, ◌&&◌, not, List, [], ◌∷◌, length, map, if◌then◌else◌, cond, slice_get, Option, None, Some, Ok, refl, sym, ap, subst, ◌∙◌, zero, suc, ⊎_elim}
use Rattle.std.specs.Prelude.{nat_eq, is_some}
use Rattle.std.specs.List.{AllByRecursion, Contains, find, flat_map, list_all, list_any}
use Rattle.std.specs.Option.{option_map}
use Rattle.std.proofs.lemmas.List.Folds.{list_any-append}
use Rattle.std.proofs.lemmas.Bool.{or_parts}
use Rattle.desk_values.specs.declared.value.Value.{Value}
use Rattle.desk_values.specs.declared.value.Value.TheVariants.{Draw}
use Rattle.desk_values.specs.declared.call.Call.{Call}
use Rattle.desk_values.specs.declared.fault.Fault.{Fault}
use Rattle.desk_values.specs.declared.fault.Fault.TheVariants.{UnknownTable, UnknownColumn, UnknownSequence, BindMissing, Kinds}
use Rattle.desk_schema.specs.declared.schema.Rights.{Rights}
use Rattle.desk_schema.specs.declared.schema.Column.{Column}
use Rattle.desk_schema.specs.Schema.{SchemaView, column_names, rights_of}
use Rattle.sql_tree.specs.Plain.{Name, Term, Entry, Plan, Asked, Total}
use Rattle.sql_tree.specs.Plain as tree
use Rattle.sql_tree.specs.Leaves.{entry_leaves, leaves, plan_leaves}
use Rattle.sql_tree.specs.Naming.{Naming, map_entry, map_term}
use Rattle.sql_eval.specs.Value.{bind_at}
use Rattle.sql_eval.specs.Kinds.{are_inputs, entry_kind, fits_column, has_order, is_asked, is_key, is_number, is_total, is_truth, is_where, kind_at, kind_of, kind_of_value, kinds_agree, of_two, operator_kind, passes, target_kinds}
use Rattle.sql_eval.specs.Check.{applies, first_fault, is_missing_bind, is_of_row}
use Rattle.sql_eval.specs.Faults.{unless_told}
use Rattle.sql_eval.specs.SchemaNames.{columns_at, numbered, numbers, table_number}
use Rattle.server_words.specs.Request.{Request, connect, disconnect, unreadable, unsound, statement, checked, read, request_of, statement_in, table_named}
use Rattle.id_pairs.specs.declared.Id.TheVariants as id
use Rattle.id_pairs.specs.Pairs.{AreLike, IdPair}
use Rattle.id_pairs.specs.Renaming.{AreRenamed}
use Rattle.law_server.specs.Rows.Laws.{is_rowid, names_row}
use Rattle.law_server.proofs.Rows.Expressions.{Twin, null, int, text, row, draw, twin_of}
use Rattle.law_server.specs.Renaming.Twins.{AreTwinCalls, ends, asks, connects}
use Rattle.law_server.specs.Renaming.Inputs.{HasInputs, InputsNameNoRow, IsInput}
use Rattle.desk_schema.proofs.Members.{Contains-cases, Contains-none}

abbrev pub AllLike : List IdPair → Type 0
AllLike pairs = AllByRecursion (λ (pair : IdPair). AreLike pair.0 pair.1) pairs

like_of : (pairs : List IdPair) → AllLike pairs → (p : IdPair) → Contains pairs p → AreLike p.0 p.1
like_of [] all p c = absurd (Contains-none p c)
like_of (first ∷ pairs) all p c = ⊎_elim
    (λ is. let P : IdPair → Type 0 = λ q. AreLike q.0 q.1 in subst P is all.0)
    (λ later. like_of pairs all.1 p later)
    (Contains-cases first pairs p c)

module _ (pairs : List IdPair) (like : AllLike pairs) where
  same_kind : {v w : Value} → Twin pairs v w → kind_of_value v ≡ kind_of_value w
  same_kind null = refl
  same_kind (int n) = refl
  same_kind (text t) = refl
  same_kind (row m n c) = refl
  same_kind (draw p m q n c) = ap (λ k. kind_of_value (Draw k m)) (like_of pairs like (id.Draw p m, id.Draw q n) c)

  nth_kind : (values others : List Value) (n : ℕ) → AreRenamed pairs values others → option_map kind_of_value (slice_get values n) ≡ option_map kind_of_value (slice_get others n)
  nth_kind [] [] n t = refl
  nth_kind (v ∷ vs) (w ∷ ws) zero t = ap Some (same_kind (twin_of pairs v w t.0))
  nth_kind (v ∷ vs) (w ∷ ws) (suc n) t = nth_kind vs ws n t.1
  nth_kind [] (w ∷ ws) n t = absurd t
  nth_kind (v ∷ vs) [] n t = absurd t

  pub same_length : (values others : List Value) → AreRenamed pairs values others → length values ≡ length others
  same_length [] [] t = refl
  same_length (v ∷ vs) (w ∷ ws) t = ap suc (same_length vs ws t.1)
  same_length [] (w ∷ ws) t = absurd t
  same_length (v ∷ vs) [] t = absurd t

  module _ (binds sent : List Value) (given : AreRenamed pairs binds sent) where
    bind_kind : (n : ℕ) → option_map kind_of_value (bind_at binds n) ≡ option_map kind_of_value (bind_at sent n)
    bind_kind n = elim (nat_eq n 0) as (λ b. option_map kind_of_value (if b then None else slice_get binds (n - 1)) ≡ option_map kind_of_value (if b then None else slice_get sent (n - 1))) [
      | true ↦ refl
      | false ↦ nth_kind binds sent (n - 1) given
    ]

    module _ (columns : List Column) where
      kind_same : (e : Term ℕ) → kind_of columns binds e ≡ kind_of columns sent e
      kind_same tree.null = refl
      kind_same (tree.int n) = refl
      kind_same (tree.text t) = refl
      kind_same (tree.bind n) = bind_kind n
      kind_same (tree.column n) = refl
      kind_same tree.rowid = refl
      kind_same (tree.neg e) = rw (kind_same e) refl
      kind_same (tree.not e) = rw (kind_same e) refl
      kind_same (tree.bin op a b) = λ i. of_two (operator_kind op) (kind_same a i) (kind_same b i)
      kind_same (tree.is_null e) = rw (kind_same e) refl
      kind_same (tree.not_null e) = rw (kind_same e) refl

      where_same : (condition : Option (Term ℕ)) → is_where columns binds condition ≡ is_where columns sent condition
      where_same None = refl
      where_same (Some e) = ap (passes is_truth) (kind_same e)

      total_same : (t : Total ℕ) → is_total columns binds t ≡ is_total columns sent t
      total_same tree.count = refl
      total_same (tree.total e) = ap (passes is_number) (kind_same e)
      total_same (tree.least e) = ap (passes has_order) (kind_same e)
      total_same (tree.greatest e) = ap (passes has_order) (kind_same e)

      asked_same : (asked : Asked ℕ) → is_asked columns binds asked ≡ is_asked columns sent asked
      asked_same tree.columns = refl
      asked_same (tree.values es) = λ i. list_all (λ e. passes (λ k. not (is_truth k)) (kind_same e i)) es
      asked_same (tree.totals ts) = λ i. list_all (λ t. total_same t i) ts

      entry_same : (entry : Entry ℕ) → entry_kind columns binds entry ≡ entry_kind columns sent entry
      entry_same (tree.value e) = kind_same e
      entry_same (tree.drawn sequence) = refl

      inputs_same : (targets : List (Option _)) (entries : List (Entry ℕ)) → are_inputs columns binds targets entries ≡ are_inputs columns sent targets entries
      inputs_same [] [] = refl
      inputs_same [] (entry ∷ entries) = refl
      inputs_same (target ∷ targets) [] = refl
      inputs_same (target ∷ targets) (entry ∷ entries) = λ i. fits_column target (entry_same entry i) && inputs_same targets entries i

      agree_same : (plan : Plan ℕ) → kinds_agree columns binds plan ≡ kinds_agree columns sent plan
      agree_same (tree.select table asked condition keys held) = λ i. asked_same asked i && where_same condition i && list_all (is_key columns) keys
      agree_same (tree.next sequence) = refl
      agree_same (tree.insert table named entries) = inputs_same (target_kinds columns named) entries
      agree_same (tree.update table changes condition) = λ i. list_all (λ change. fits_column (kind_at columns change.column) (kind_same change.to i)) changes && where_same condition i
      agree_same (tree.delete table condition) = where_same condition
      agree_same tree.commit = refl
      agree_same tree.rollback = refl
      agree_same tree.set_read_only = refl
      agree_same (tree.savepoint name) = refl
      agree_same (tree.rollback_to name) = refl

    applies_same : (schema : SchemaView) (parsed : Plan Name) (fault : Fault) → applies schema binds parsed fault ≡ applies schema sent parsed fault
    applies_same schema parsed BindMissing = ap (λ n. list_any (is_missing_bind n) (plan_leaves parsed)) (same_length binds sent given)
    applies_same schema parsed Kinds = ap not (agree_same (columns_at schema parsed) (numbered schema parsed))
    applies_same schema parsed fault = refl

    pub same_check : (schema : SchemaView) (parsed : Plan Name) → first_fault schema binds parsed ≡ first_fault schema sent parsed
    unfolding first_fault
    same_check schema parsed = λ i. find (λ fault. applies_same schema parsed fault i) (UnknownTable ∷ UnknownColumn ∷ UnknownSequence ∷ BindMissing ∷ Kinds ∷ [])

-- ---- a checked INSERT names no row of its own

plain_input : (by : Naming Name ℕ) (t : Term Name) → list_any is_of_row (leaves t) ≡ false → names_row (map_term by.column t) ≡ false
plain_input by tree.null e = refl
plain_input by (tree.int n) e = refl
plain_input by (tree.text x) e = refl
plain_input by (tree.bind n) e = refl
plain_input by (tree.column name) e = refl
plain_input by tree.rowid e = absurd (cc)
plain_input by (tree.neg t) e = plain_input by t e
plain_input by (tree.not t) e = plain_input by t e
plain_input by (tree.bin op a b) e =
    let both = or_parts _ _ (sym (list_any-append is_of_row (leaves a) (leaves b)) ∙ e) in
    let f = plain_input by a both.0 in
    let s = plain_input by b both.1 in
    list_any-append is_rowid (leaves (map_term by.column a)) (leaves (map_term by.column b)) ∙ (λ i. f i || s i)
plain_input by (tree.is_null t) e = plain_input by t e
plain_input by (tree.not_null t) e = plain_input by t e

plain_inputs : (by : Naming Name ℕ) (entries : List (Entry Name)) → list_any is_of_row (flat_map entry_leaves entries) ≡ false → AllByRecursion IsInput (map (map_entry by) entries)
plain_inputs by [] e = tt
plain_inputs by (tree.drawn sequence ∷ entries) e = (tt, plain_inputs by entries e)
plain_inputs by (tree.value t ∷ entries) e = let both = or_parts _ _ (sym (list_any-append is_of_row (leaves t) (flat_map entry_leaves entries)) ∙ e) in (plain_input by t both.0, plain_inputs by entries both.1)

-- where no fault is found, the second does not apply
second_fits : (test : Fault → Bool) (a b : Fault) (rest : List Fault) → find test (a ∷ b ∷ rest) ≡ None → test b ≡ false
second_fits test a b rest = elim (test a) as (λ p. cond p (Some a) (cond (test b) (Some b) (find test rest)) ≡ None → test b ≡ false) [
  | true ↦ λ e. absurd (cc)
  | false ↦ elim (test b) as (λ q. cond q (Some b) (find test rest) ≡ None → q ≡ false) [
    | true ↦ λ e. absurd (cc)
    | false ↦ λ e. refl
  ]
]

pub checked_inputs : (schema : SchemaView) (binds : List Value) (parsed : Plan Name) → first_fault schema binds parsed ≡ None → HasInputs (numbered schema parsed)
unfolding first_fault
checked_inputs schema binds (tree.insert table named entries) e = plain_inputs (numbers (table_number schema.tables (Some table)) (column_names (columns_at schema (tree.insert table named entries))) schema.sequences) entries (or_parts _ _ (or_parts _ _ (second_fits (applies schema binds (tree.insert table named entries)) UnknownTable UnknownColumn (UnknownSequence ∷ BindMissing ∷ Kinds ∷ []) e)).0).0
checked_inputs schema binds (tree.select table asked condition keys held) e = tt
checked_inputs schema binds (tree.next sequence) e = tt
checked_inputs schema binds (tree.update table changes condition) e = tt
checked_inputs schema binds (tree.delete table condition) e = tt
checked_inputs schema binds tree.commit e = tt
checked_inputs schema binds tree.rollback e = tt
checked_inputs schema binds tree.set_read_only e = tt
checked_inputs schema binds (tree.savepoint name) e = tt
checked_inputs schema binds (tree.rollback_to name) e = tt

inputs_of : (schema : SchemaView) (parsed : Plan Name) (f : Option Fault) (plan : Plan ℕ) → (f ≡ None → HasInputs (numbered schema parsed)) → unless_told f (Ok (numbered schema parsed)) ≡ Ok plan → HasInputs plan
inputs_of schema parsed None plan inputs e = let P : Plan ℕ → Type 0 = HasInputs in subst P (cc) (inputs refl)
inputs_of schema parsed (Some f) plan inputs e = absurd (cc)

pub inputs_name_no_row : InputsNameNoRow
inputs_name_no_row schema binds parsed plan e = inputs_of schema parsed (first_fault schema binds parsed) plan (checked_inputs schema binds parsed) e

-- ---- requests

pub data AreTwinRequests (pairs : List IdPair) : Request → Request → Type 0 where
  connecting : (service other : Option Rights) → is_some service ≡ is_some other → AreTwinRequests pairs (connect service) (connect other)
  disconnecting : AreTwinRequests pairs disconnect disconnect
  no_statement : AreTwinRequests pairs unreadable unreadable
  no_sound : (table : Option ℕ) (fault : Fault) → AreTwinRequests pairs (unsound table fault) (unsound table fault)
  asking : (plan : Plan ℕ) (binds sent : List Value) → AreRenamed pairs binds sent → HasInputs plan → AreTwinRequests pairs (statement plan binds) (statement plan sent)

module _ (pairs : List IdPair) (like : AllLike pairs) (schema : SchemaView) where
  checked_twins : (binds sent : List Value) → AreRenamed pairs binds sent → (table : Option ℕ) (plan : Plan ℕ) (f g : Option Fault) → f ≡ g → (f ≡ None → HasInputs plan) → AreTwinRequests pairs (checked table binds (unless_told f (Ok plan))) (checked table sent (unless_told g (Ok plan)))
  checked_twins binds sent given table plan None None e inputs = asking plan binds sent given (inputs refl)
  checked_twins binds sent given table plan (Some f) (Some g) e inputs = let P : Fault → Type 0 = λ h. AreTwinRequests pairs (unsound table f) (unsound table h) in subst P (cc) (no_sound table f)
  checked_twins binds sent given table plan None (Some g) e inputs = absurd (cc)
  checked_twins binds sent given table plan (Some f) None e inputs = absurd (cc)

  read_twins : (binds sent : List Value) → AreRenamed pairs binds sent → (parsed : Option (Plan Name)) → AreTwinRequests pairs (read schema binds parsed) (read schema sent parsed)
  read_twins binds sent given None = no_statement
  read_twins binds sent given (Some parsed) = checked_twins binds sent given (table_named schema parsed) (numbered schema parsed) (first_fault schema binds parsed) (first_fault schema sent parsed) (same_check pairs like binds sent given schema parsed) (checked_inputs schema binds parsed)

  pub twin_requests : {call sent : Call} → AreTwinCalls schema pairs call sent → AreTwinRequests pairs (request_of schema call) (request_of schema sent)
  twin_requests ends = disconnecting
  twin_requests (asks t binds sent given) = read_twins binds sent given (statement_in schema.version t)
  twin_requests (connects service other e) = connecting (rights_of schema.services service) (rights_of schema.services other) e
