-- What a transaction holds once a statement has written.
use Rattle.std.proofs.Common.{◌≡◌, ◌⊎◌, ℕ, true, false, List, [], ◌∷◌, ◌++◌, refl, sym, subst, inl, inr, if◌then◌else◌}
use Rattle.std.specs.Prelude.{nat_eq}
use Rattle.std.specs.List.{list_any}
use Rattle.std.proofs.lemmas.Bool.{and_parts, eqb-true}
use Rattle.desk_values.specs.declared.value.Value.{Value}
use Rattle.desk_values.specs.Comparison.{same_key}
use Rattle.server_words.proofs.Exact.{same_is}
use Rattle.server_words.specs.declared.session.HeldKey.{HeldKey}
use Rattle.server_words.specs.Writes.{is_held_key, with_key, with_keys, with_row, with_rows}
use Rattle.law_keys.proofs.Members.{In, any_in, in_joined, in_left, in_right}

-- ---- rows

row_in : (held : List ℕ) (row r : ℕ) → In r (with_row held row) → In r held ⊎ (r ≡ row)
row_in held row r there = elim (list_any (nat_eq row) held) as (λ b. In r (if b then held else held ++ row ∷ []) → In r held ⊎ (r ≡ row)) [
  | true ↦ λ old. inl old
  | false ↦ λ more. elim (in_joined r held (row ∷ []) more) [ inl old ↦ inl old | inr new ↦ (elim new [ inl same ↦ inr same | inr never ↦ absurd never ]) ]
] there

row_stays : (held : List ℕ) (row r : ℕ) → In r held → In r (with_row held row)
row_stays held row r there = elim (list_any (nat_eq row) held) as (λ b. In r (if b then held else held ++ row ∷ [])) [ true ↦ there | false ↦ in_left r held (row ∷ []) there ]

row_there : (held : List ℕ) (row : ℕ) → In row (with_row held row)
row_there held row = elim (list_any (nat_eq row) held) as (λ b. list_any (nat_eq row) held ≡ b → In row (if b then held else held ++ row ∷ [])) [
  | true ↦ λ is. let found = any_in (nat_eq row) held is in subst (λ (r : ℕ). In r held) (sym (eqb-true row found.0 found.2)) found.1
  | false ↦ λ none. in_right row held (row ∷ []) (inl refl)
] refl

pub rows_in : (held rows : List ℕ) (r : ℕ) → In r (with_rows held rows) → In r held ⊎ In r rows
rows_in held [] r there = inl there
rows_in held (row ∷ rows) r there = elim (rows_in (with_row held row) rows r there) [
  | inl old ↦ (elim (row_in held row r old) [ inl before ↦ inl before | inr same ↦ inr (inl same) ])
  | inr new ↦ inr (inr new)
]

pub rows_stay : (held rows : List ℕ) (r : ℕ) → In r held → In r (with_rows held rows)
rows_stay held [] r there = there
rows_stay held (row ∷ rows) r there = rows_stay (with_row held row) rows r (row_stays held row r there)

pub rows_there : (held rows : List ℕ) (r : ℕ) → In r rows → In r (with_rows held rows)
rows_there held [] r there = absurd there
rows_there held (row ∷ rows) r (inl same) = rows_stay (with_row held row) rows r (subst (λ (n : ℕ). In n (with_row held row)) (sym same) (row_there held row))
rows_there held (row ∷ rows) r (inr there) = rows_there (with_row held row) rows r there

-- ---- keys

module _ (table : ℕ) where
  abbrev pub key_here : Value → HeldKey
  key_here key = record { table = table; key = key }

  key_in : (held : List HeldKey) (key : Value) (k : HeldKey) → In k (with_key table held key) → In k held ⊎ (k ≡ key_here key)
  key_in held key k there = elim (list_any (is_held_key table key) held) as (λ b. In k (if b then held else held ++ key_here key ∷ []) → In k held ⊎ (k ≡ key_here key)) [
    | true ↦ λ old. inl old
    | false ↦ λ more. elim (in_joined k held (key_here key ∷ []) more) [ inl old ↦ inl old | inr new ↦ (elim new [ inl same ↦ inr same | inr never ↦ absurd never ]) ]
  ] there

  key_stays : (held : List HeldKey) (key : Value) (k : HeldKey) → In k held → In k (with_key table held key)
  key_stays held key k there = elim (list_any (is_held_key table key) held) as (λ b. In k (if b then held else held ++ key_here key ∷ [])) [ true ↦ there | false ↦ in_left k held (key_here key ∷ []) there ]

  held_is : (held : HeldKey) (key : Value) → is_held_key table key held ≡ true → key_here key ≡ held
  held_is held key is =
      let parts = and_parts (nat_eq held.table table) (same_key 1 held.key key) is in
      let table_is : held.table ≡ table = eqb-true held.table table parts.0 in
      let key_is : held.key ≡ key = same_is held.key key parts.1 in
      sym (λ i. record { table = table_is i; key = key_is i })

  key_there : (held : List HeldKey) (key : Value) → In (key_here key) (with_key table held key)
  key_there held key = elim (list_any (is_held_key table key) held) as (λ b. list_any (is_held_key table key) held ≡ b → In (key_here key) (if b then held else held ++ key_here key ∷ [])) [
    | true ↦ λ is. let found = any_in (is_held_key table key) held is in subst (λ (k : HeldKey). In k held) (sym (held_is found.0 key found.2)) found.1
    | false ↦ λ none. in_right (key_here key) held (key_here key ∷ []) (inl refl)
  ] refl

  pub keys_in : (held : List HeldKey) (keys : List Value) (k : HeldKey) → In k (with_keys table held keys) → In k held ⊎ ((v : Value) × In v keys × (k ≡ key_here v))
  keys_in held [] k there = inl there
  keys_in held (key ∷ keys) k there = elim (keys_in (with_key table held key) keys k there) [
    | inl old ↦ (elim (key_in held key k old) [ inl before ↦ inl before | inr same ↦ inr (key, inl refl, same) ])
    | inr new ↦ inr (new.0, inr new.1, new.2)
  ]

  pub keys_stay : (held : List HeldKey) (keys : List Value) (k : HeldKey) → In k held → In k (with_keys table held keys)
  keys_stay held [] k there = there
  keys_stay held (key ∷ keys) k there = keys_stay (with_key table held key) keys k (key_stays held key k there)

  pub keys_there : (held : List HeldKey) (keys : List Value) (v : Value) → In v keys → In (key_here v) (with_keys table held keys)
  keys_there held [] v there = absurd there
  keys_there held (key ∷ keys) v (inl same) = keys_stay (with_key table held key) keys (key_here v) (subst (λ (w : Value). In (key_here w) (with_key table held key)) (sym same) (key_there held key))
  keys_there held (key ∷ keys) v (inr there) = keys_there (with_key table held key) keys v there
