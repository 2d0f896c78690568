-- Keys that are one key, and rows of which no two have one.
use Rattle.std.proofs.Common.{◌≡◌, ◌∙◌, ℕ, ◌+◌, true, false, ◌&&◌, List, [], ◌∷◌, map, refl, sym, ap, inl, inr, arith, if◌then◌else◌}
use Rattle.std.specs.Prelude.{nat_eq, Option, None, Some}
use Rattle.std.specs.Option.{option_map, unwrap_or}
use Rattle.std.specs.List.{cons_option, list_any}
use Rattle.std.proofs.lemmas.Bool.{and_parts, or_parts, eqb-true, eq-eqb, false_from_ne_true}
use Rattle.std.proofs.lemmas.Cmp.{eq_by_cmp_equiv}
use Rattle.desk_values.specs.declared.value.Value.{Value}
use Rattle.desk_values.specs.declared.value.Value.TheVariants.{Int, Text, Row, Draw}
use Rattle.desk_values.specs.declared.value.Image.{Image}
use Rattle.desk_values.specs.Comparison.{same_key}
use Rattle.desk_schema.specs.Rules.{key_of, key_in as key_of_row, keys_of}
use Rattle.desk_schema.specs.Sound.{AreApart}
use Rattle.server_words.specs.declared.session.HeldKey.{HeldKey}
use Rattle.server_words.specs.Rows.{RisesFrom, row_key}
use Rattle.server_words.specs.Writes.{repeats_key}
use Rattle.server_words.proofs.Ordering.{column_total}
use Rattle.server_words.proofs.Repeating.{same_back}
use Rattle.law_keys.specs.Keys.{HaveOwnKeys}
use Rattle.law_keys.proofs.Members.{In, in_each, mapped_in, none_in}
use Rattle.law_keys.proofs.Rows.{in_from}

-- ---- one key

both_rows : (a b c : ℕ) → nat_eq a b ≡ true → nat_eq b c ≡ true → nat_eq a c ≡ true
both_rows a b c first second = eq-eqb a c (eqb-true a b first ∙ eqb-true b c second)

both_draws : (p q r a b c : ℕ) → (nat_eq p q && nat_eq a b) ≡ true → (nat_eq q r && nat_eq b c) ≡ true → (nat_eq p r && nat_eq a c) ≡ true
both_draws p q r a b c first second =
    let one = and_parts (nat_eq p q) (nat_eq a b) first in
    let two = and_parts (nat_eq q r) (nat_eq b c) second in
    ap (λ t. t && nat_eq a c) (both_rows p q r one.0 two.0) ∙ both_rows a b c one.1 two.1

module _ (level : ℕ) where
  pub same_on : (a b c : Value) → same_key level a b ≡ true → same_key level b c ≡ true → same_key level a c ≡ true
  same_on (Int a) (Int b) (Int c) first second = (eq_by_cmp_equiv (column_total level)).congr (Int a) (Int b) (Int c) first ∙ second
  same_on (Text a) (Text b) (Text c) first second = (eq_by_cmp_equiv (column_total level)).congr (Text a) (Text b) (Text c) first ∙ second
  same_on (Row a) (Row b) (Row c) first second = both_rows a b c first second
  same_on (Draw p a) (Draw q b) (Draw r c) first second = both_draws p q r a b c first second
  same_on a b c first second = absurd cc

-- ---- keys of tables

abbrev pub key_in : Image → HeldKey
key_in image = record { table = image.table; key = row_key image }

-- one key of one table
abbrev pub Same : ℕ → HeldKey → HeldKey → Type 0
Same level a b = (a.table ≡ b.table) × (same_key level a.key b.key ≡ true)

pub back : (level : ℕ) (a b : HeldKey) → Same level a b → Same level b a
back level a b same = (sym same.0, same_back level b.key a.key ∙ same.1)

pub on : (level : ℕ) (a b c : HeldKey) → Same level a b → Same level b c → Same level a c
on level a b c first second = (first.0 ∙ second.0, same_on level a.key b.key c.key first.1 second.1)

-- one of the keys is one with this
abbrev pub HasKey : ℕ → List HeldKey → HeldKey → Type 0
HasKey level keys key = (k : HeldKey) × In k keys × Same level k key

-- ---- rows of which no two have one key

abbrev pub Apart : ℕ → List Image → Type 0
Apart level rows = (x y : Image) → In x rows → In y rows → Same level (key_in x) (key_in y) → x.row ≡ y.row

module _ (level : ℕ) where
  -- where no key repeats, what has one key is one row
  pub not_twice : (rows : List Image) → repeats_key level (map row_key rows) ≡ false → (x y : Image) → In x rows → In y rows → same_key level (row_key x) (row_key y) ≡ true → x.row ≡ y.row
  unfolding repeats_key
  not_twice [] none x y there other same = absurd there
  not_twice (z ∷ rows) none x y (inl is) (inl also) same = ap (λ (i : Image). i.row) (is ∙ sym also)
  not_twice (z ∷ rows) none x y (inl is) (inr later) same =
      let first = (or_parts (list_any (same_key level (row_key z)) (map row_key rows)) (repeats_key level (map row_key rows)) none).0 in
      let fails = none_in (same_key level (row_key z)) (row_key y) (map row_key rows) first (mapped_in row_key y rows later) in
      let never : true ≡ false = sym same ∙ ap (λ (i : Image). same_key level (row_key i) (row_key y)) is ∙ fails in
      absurd cc
  not_twice (z ∷ rows) none x y (inr later) (inl is) same =
      let first = (or_parts (list_any (same_key level (row_key z)) (map row_key rows)) (repeats_key level (map row_key rows)) none).0 in
      let fails = none_in (same_key level (row_key z)) (row_key x) (map row_key rows) first (mapped_in row_key x rows later) in
      let never : true ≡ false = sym same ∙ same_back level (row_key x) (row_key y) ∙ ap (λ (i : Image). same_key level (row_key i) (row_key x)) is ∙ fails in
      absurd cc
  not_twice (z ∷ rows) none x y (inr later) (inr other) same = not_twice rows (or_parts (list_any (same_key level (row_key z)) (map row_key rows)) (repeats_key level (map row_key rows)) none).1 x y later other same

-- ---- the keys of a table's rows

module _ (table : ℕ) where
  key_left : (left : Option (List Value)) (row : Image) (key : Value) → row.left ≡ left → option_map key_of left ≡ Some key → row_key row ≡ key
  key_left None row key is found = absurd cc
  key_left (Some values) row key is found = rw is (ap (λ (o : Option Value). unwrap_or o key) found)

  -- what is found as a key of the table's is that of a row of the table
  pub key_is : (row : Image) (key : Value) → key_of_row table row ≡ Some key → (row.table ≡ table) × (row_key row ≡ key)
  key_is row key = elim (nat_eq row.table table) as (λ b. nat_eq row.table table ≡ b → (if b then option_map key_of row.left else None) ≡ Some key → (row.table ≡ table) × (row_key row ≡ key)) [
    | true ↦ λ same found. (eqb-true row.table table same, key_left row.left row key refl found)
    | false ↦ λ other found. absurd cc
  ] refl

  pub key_among : (key : Value) (rows : List Image) → In key (keys_of table rows) → (y : Image) × In y rows × (y.table ≡ table) × (row_key y ≡ key)
  key_among key [] there = absurd there
  key_among key (z ∷ rows) there = elim (key_of_row table z) as (λ o. key_of_row table z ≡ o → In key (cons_option o (keys_of table rows)) → (y : Image) × In y (z ∷ rows) × (y.table ≡ table) × (row_key y ≡ key)) [
    | None ↦ λ none found. let rest = key_among key rows found in (rest.0, inr rest.1, rest.2, rest.3)
    | Some first ↦ λ is found. elim found [
      | inl same ↦ (let row = key_is z first is in (z, inl refl, row.0, row.1 ∙ sym same))
      | inr later ↦ (let rest = key_among key rows later in (rest.0, inr rest.1, rest.2, rest.3))
    ]
  ] refl there

  -- rising rows of which no two have one key
  pub own_keys : (level n : ℕ) (rows : List Image) → RisesFrom n rows → Apart level rows → HaveOwnKeys level table rows
  own_keys level n [] up apart = tt
  own_keys level n (z ∷ rows) up apart =
      let rest = own_keys level (z.row + 1) rows up.1 (λ x y there other. apart x y (inr there) (inr other)) in
      elim (key_of_row table z) as (λ o. key_of_row table z ≡ o → AreApart level (cons_option o (keys_of table rows))) [
        | None ↦ λ none. rest
        | Some key ↦ λ is.
            let first = key_is z key is in (
              in_each (λ (other : Value). same_key level key other ≡ false) (keys_of table rows) (λ other there. false_from_ne_true (same_key level key other) (λ same.
                  let found = key_among other rows there in
                  let keys : same_key level (row_key z) (row_key found.0) ≡ true = ap (λ k. same_key level k (row_key found.0)) first.1 ∙ ap (same_key level key) found.3 ∙ same in
                  let one : z.row ≡ found.0.row = apart z found.0 (inl refl) (inr found.1) (first.0 ∙ sym found.2, keys) in
                  omega (arith, one, in_from (z.row + 1) found.0 rows up.1 found.1))),
              rest,
            )
      ] refl
