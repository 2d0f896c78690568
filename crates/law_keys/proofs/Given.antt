-- A session holds the keys that its changes give rows, but those that the committed rows have.
use Rattle.std.proofs.Common.{◌≡◌, ◌∙◌, ◌⊎◌, ℕ, true, List, length, refl, sym, ap, subst, inl, inr, arith}
use Rattle.std.specs.Prelude.{nat_eq, Option, None, Some, IfSome, IsSomeAnd}
use Rattle.std.specs.List.{AllByRecursion, Any}
use Rattle.std.proofs.lemmas.Bool.{and_from, eq-eqb}
use Rattle.std.proofs.lemmas.Cmp.{eq_by_cmp_equiv}
use Rattle.std.proofs.lemmas.List.{take_all}
use Rattle.desk_values.specs.declared.value.Value.{Value}
use Rattle.desk_values.specs.declared.value.Value.TheVariants.{Null, Int, Text, Row, Draw}
use Rattle.desk_values.specs.declared.value.Image.{Image}
use Rattle.desk_values.specs.Comparison.{same_key}
use Rattle.desk_schema.specs.Rules.{key_of, key_in as key_of_row}
use Rattle.server_words.specs.Rows.{is_there, lay_all, row_key}
use Rattle.server_words.specs.State.{State, session_at, tables}
use Rattle.server_words.proofs.Ordering.{column_total}
use Rattle.law_steps.specs.Held.{HoldsKey, IsKey}
use Rattle.law_keys.specs.Keys.{HasCommitted, HasNonNullKey, IsItWithKey, KeysAreThere}
use Rattle.law_keys.proofs.Members.{In, each_in, in_each, place_of}
use Rattle.law_keys.proofs.Same.{back, key_in, key_is}
use Rattle.law_keys.proofs.Seeing.{own_in}
use Rattle.law_keys.proofs.Steps.{IsTidy, own_kept}

-- a key that is not Null is one with itself
same_self : (level : ℕ) (key : Value) → (key ≡ Null → ⊥) → same_key level key key ≡ true
same_self level Null some = absurd (some refl)
same_self level (Int a) some = (eq_by_cmp_equiv (column_total level)).refl (Int a)
same_self level (Text a) some = (eq_by_cmp_equiv (column_total level)).refl (Text a)
same_self level (Row a) some = eq-eqb a a refl
same_self level (Draw p a) some = and_from (nat_eq p p) (nat_eq a a) (eq-eqb p p refl) (eq-eqb a a refl)

any_at : {X : Type 0} (P : X → Type 0) (x : X) (xs : List X) → In x xs → P x → Any P xs
any_at P x xs there holds = let place = place_of x xs there in (place.0, x, place.1, place.2, holds)

some_key : (table : ℕ) (row : Image) (P : Value → Type 0) (found : Option Value) → key_of_row table row ≡ found → IsSomeAnd found (λ key. ¬ (key ≡ Null)) → P (row_key row) → IsSomeAnd found P
some_key table row P None is some holds = absurd some
some_key table row P (Some key) is some holds = subst P (key_is table row key is).1 holds

module _ (state : State) (is : IsTidy state) (there : KeysAreThere state) (session : ℕ) where
  abbrev level : ℕ
  level = state.start.schema.level

  latest_are : lay_all state.start.rows state.commits ≡ tables state (length state.commits)
  latest_are = sym (ap (lay_all state.start.rows) (take_all (length state.commits) state.commits (omega arith)))

  gives : (x : Image) (key : Value) → In x (own_in state session).changes → is_there x ≡ true → row_key x ≡ key → (key ≡ Null → ⊥) → HoldsKey state session x.table key ⊎ HasCommitted state x key
  gives x key among stands is_key some = elim ((own_kept state is).known session x among stands (refl, same_self level (row_key x) (λ none. some (sym is_key ∙ none)))) [
    | inl held ↦ (
        let same = back level held.0 (key_in x) held.2 in
        inl (any_at (IsKey level x.table key) held.0 (own_in state session).keys held.1 (held.2.0, ap (λ k. same_key level k held.0.key) (sym is_key) ∙ same.1)))
    | inr old ↦ (
        let row = subst (In old.0) latest_are old.1 in
        let known : HasNonNullKey x.table old.0 = subst (λ (t : ℕ). HasNonNullKey t old.0) old.3.0 (each_in (λ (r : Image). HasNonNullKey r.table r) old.0 (tables state (length state.commits)) (there.committed (length state.commits)) row) in
        inr (any_at (IsItWithKey level x key) old.0 (tables state (length state.commits)) row
        (old.2, some_key x.table old.0 (λ k. same_key level k key ≡ true) (key_of_row x.table old.0) refl known (ap (same_key level (row_key old.0)) (sym is_key) ∙ old.3.1))))
  ]

  gives_left : (x : Image) (left : Option (List Value)) → x.left ≡ left → In x (own_in state session).changes → IfSome left (λ values. key_of values ≡ Null → ⊥) → IfSome left (λ values. HoldsKey state session x.table (key_of values) ⊎ HasCommitted state x (key_of values))
  gives_left x None is among some = tt
  gives_left x (Some values) is among some = gives x (key_of values) among (rw is refl) (rw is refl) some

  pub holds_keys : ((x : Image) → In x (own_in state session).changes → IfSome x.left (λ values. key_of values ≡ Null → ⊥)) → AllByRecursion (λ (x : Image). IfSome x.left (λ values. HoldsKey state session x.table (key_of values) ⊎ HasCommitted state x (key_of values))) (session_at state session).own.changes
  holds_keys some = in_each (λ (x : Image). IfSome x.left (λ values. HoldsKey state session x.table (key_of values) ⊎ HasCommitted state x (key_of values))) (own_in state session).changes (λ x among. gives_left x x.left refl among (some x among))
