-- What a session sees of a table, and what stands in its view.
use Rattle.std.proofs.Common.{◌≡◌, ◌∙◌, ◌<◌, ◌≤◌, ℕ, suc, ◌+◌, Bool, true, false, List, [], ◌∷◌, ◌++◌, length, map, take, drop, refl, sym, ap, subst, inl, inr, arith, if◌then◌else◌}
use Rattle.std.specs.Prelude.{nat_eq, None, Some}
use Rattle.std.specs.List.{cons_option, filter_map}
use Rattle.std.proofs.lemmas.Bool.{cases_lt, eq-eqb, eqb-true}
use Rattle.std.proofs.lemmas.List.{get_or_past}
use Rattle.desk_values.specs.declared.value.Value.{Value}
use Rattle.desk_values.specs.declared.value.Image.{Image}
use Rattle.desk_values.specs.Comparison.{same_key}
use Rattle.server_words.specs.declared.session.HeldKey.{HeldKey}
use Rattle.server_words.specs.declared.session.Session.{Session}
use Rattle.server_words.specs.declared.session.Transaction.{Transaction}
use Rattle.server_words.specs.Rows.{lay, lay_all, of_table}
use Rattle.server_words.specs.State.{State, disconnected, nothing, session_at}
use Rattle.server_words.specs.View.{commits_seen, holds_row, is_held, key_of_table, keys_held, others, rows_seen, view_of}
use Rattle.server_words.proofs.Laying.{rising_lay_all}
use Rattle.law_keys.proofs.Members.{In, filtered_in, flat_in, in_any, in_filtered, in_rest}
use Rattle.law_keys.proofs.Rows.{in_laid_all}
use Rattle.law_keys.proofs.Keeping.{IsKeptBySteps, Stands}
use Rattle.law_keys.proofs.Tables.{all_laid_of, laid_of}
use Rattle.law_keys.proofs.Writing.{Sees}

-- the transaction of each session
abbrev pub own_in : State → ℕ → Transaction
own_in state session = (session_at state session).own

-- what is kept in a state
abbrev pub IsKeptIn : State → Type 0
IsKeptIn state = IsKeptBySteps state.start.schema.level state.start.rows state.commits state.next_row (own_in state)

key_among : (table : ℕ) (held : HeldKey) (keys : List HeldKey) → In held keys → held.table ≡ table → In held.key (filter_map (key_of_table table) keys)
key_among table held [] there is = absurd there
key_among table held (k ∷ keys) (inl same) is =
    let here : nat_eq k.table table ≡ true = eq-eqb k.table table (ap (λ (h : HeldKey). h.table) (sym same) ∙ is) in
    subst (λ (b : Bool). In held.key (cons_option (if b then Some k.key else None) (filter_map (key_of_table table) keys))) (sym here) (inl (ap (λ (h : HeldKey). h.key) same))
key_among table held (k ∷ keys) (inr there) is =
    elim (nat_eq k.table table) as (λ b. In held.key (cons_option (if b then Some k.key else None) (filter_map (key_of_table table) keys))) [
      | true ↦ inr (key_among table held keys there is)
      | false ↦ key_among table held keys there is
    ]

pub among_key : (table : ℕ) (v : Value) (keys : List HeldKey) → In v (filter_map (key_of_table table) keys) → (held : HeldKey) × In held keys × (held.table ≡ table) × (v ≡ held.key)
among_key table v [] there = absurd there
among_key table v (k ∷ keys) there =
    elim (nat_eq k.table table) as (λ b. nat_eq k.table table ≡ b → In v (cons_option (if b then Some k.key else None) (filter_map (key_of_table table) keys)) → (held : HeldKey) × In held (k ∷ keys) × (held.table ≡ table) × (v ≡ held.key)) [
      | true ↦ λ of found. elim found [
        | inl same ↦ (k, inl refl, eqb-true k.table table of, same)
        | inr later ↦ (let rest = among_key table v keys later in (rest.0, inr rest.1, rest.2, rest.3))
      ]
      | false ↦ λ other found. let rest = among_key table v keys found in (rest.0, inr rest.1, rest.2, rest.3)
    ] refl there

module _ (state : State) (is : IsKeptIn state) where
  rows_stand : (x : Image) → In x (lay_all state.start.rows state.commits) → Stands state.start.rows state.commits (own_in state) x
  rows_stand x there = elim (in_laid_all x state.start.rows state.commits is.first there) [ inl first ↦ inl first | inr later ↦ inr (inl later) ]

  -- the committed rows of a table
  pub committed_of : (table : ℕ) → of_table table (lay_all state.start.rows state.commits) ≡ lay_all (of_table table state.start.rows) (map (of_table table) state.commits)
  committed_of table = all_laid_of table (Stands state.start.rows state.commits (own_in state)) is.one_table state.start.rows state.commits is.first (λ x there. inl there) (λ c among x there. inr (inl (c, among, there)))

  -- a session that reads the last commit sees the committed rows with its changes over them
  pub seen_of : (session table : ℕ) → (session_at state session).snapshot ≡ None → rows_seen state.start.rows state.commits (session_at state session) table ≡ of_table table (lay (lay_all state.start.rows state.commits) (own_in state session).changes)
  seen_of session table reads =
      ap (λ snapshot. lay (lay_all (of_table table state.start.rows) (map (of_table table) (commits_seen snapshot state.commits))) (of_table table (own_in state session).changes)) reads
      ∙ ap (λ rows. lay rows (of_table table (own_in state session).changes)) (sym (committed_of table))
      ∙ sym (laid_of table (Stands state.start.rows state.commits (own_in state)) is.one_table (lay_all state.start.rows state.commits) (own_in state session).changes (rising_lay_all state.start.rows state.commits is.first) rows_stand (λ x there. inr (inr (session, there))))

  among_others : (session t : ℕ) → (t ≡ session → ⊥) → t < length state.sessions → In (session_at state t) (others state.sessions session)
  among_others session t other within = let on : suc session ≡ session + 1 = omega arith in subst (λ (n : ℕ). In (session_at state t) (take session state.sessions ++ drop n state.sessions)) on (in_rest state.sessions session t disconnected other within)

  -- a session beyond all has nothing
  beyond : {X : Type 0} (of : Transaction → List X) → of nothing ≡ [] → (t : ℕ) → length state.sessions ≤ t → (x : X) → In x (of (own_in state t)) → ⊥
  beyond of empty t past x there = subst (In x) (ap (λ (s : Session). of s.own) (get_or_past state.sessions t disconnected past) ∙ empty) there

  pub sees : (session table : ℕ) → (session_at state session).snapshot ≡ None → Sees state.start.schema.level state.start.rows state.commits (own_in state) session table (view_of state session (Some table))
  sees session table reads =
      let rows = lay (lay_all state.start.rows state.commits) (own_in state session).changes in
      let same = seen_of session table reads in
      record {
        rows_in = λ x there. let row = in_filtered (λ (image : Image). nat_eq image.table table) x rows (subst (In x) same there) in (row.0, eqb-true x.table table row.1);
        in_rows = λ x there of. subst (In x) (sym same) (filtered_in (λ (image : Image). nat_eq image.table table) x rows there (eq-eqb x.table table of));
        locked = λ x t other there held. elim (cases_lt t (length state.sessions)) [
          | inl within ↦ filtered_in (is_held (others state.sessions session)) x (rows_seen state.start.rows state.commits (session_at state session) table) there (in_any (holds_row x.row) (session_at state t) (others state.sessions session) (among_others session t other within) (in_any (nat_eq x.row) x.row (own_in state t).rows held (eq-eqb x.row x.row refl)))
          | inr past ↦ absurd (beyond (λ (A : Transaction). A.rows) refl t past x.row held)
        ];
        locked_key = λ t l v other held key. elim (cases_lt t (length state.sessions)) [
          | inl within ↦ in_any (same_key state.start.schema.level v) l.key (keys_held (others state.sessions session) table) (flat_in (λ (s : Session). filter_map (key_of_table table) s.own.keys) l.key (session_at state t) (others state.sessions session) (among_others session t other within) (key_among table l (own_in state t).keys held (sym key.0))) key.1
          | inr past ↦ absurd (beyond (λ (A : Transaction). A.keys) refl t past l held)
        ];
        transaction = refl;
      }
