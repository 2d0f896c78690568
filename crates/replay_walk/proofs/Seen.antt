-- A table's rows as two sessions see them are one but for ids just where those are that none of the two has changed.
use Rattle.std.proofs.Common.{◌≡◌, ◌∙◌, ◌↔◌, ℕ, Bool, true, false, ◌&&◌, ◌||◌, eqb, if◌then◌else◌, List, [], ◌∷◌, Option, None, Some, refl, sym, ap, subst, ⊎_elim}
use Rattle.std.specs.Prelude.{is_some}
use Rattle.std.specs.List.{Contains, find}
use Rattle.std.proofs.lemmas.Bool.{eq-eqb, eqb-true}
use Rattle.std.proofs.lemmas.Option.{cond_some, same_Some}
use Rattle.desk_schema.proofs.Members.{Contains-cases, Contains-here, Contains-none, Contains-there}
use Rattle.desk_values.specs.declared.value.Value.{Value}
use Rattle.desk_values.specs.declared.value.Image.{Image}
use Rattle.server_words.specs.Rows.{IsRising, is_there, lay, of_table}
use Rattle.server_words.specs.Rows.{row_at}
use Rattle.machine_stores.proofs.Indexing.{own_rows, row_at_is}
use Rattle.server_words.proofs.Laying.{rising_lay}
use Rattle.server_words.proofs.Looks.{rising_of_table}
use Rattle.machine_stores.proofs.Numbers.{over, row_lay}
use Rattle.id_pairs.specs.Pairs.{IdPair, IsIdMap}
use Rattle.law_ids.proofs.Replays.Starts.{each_in}
use Rattle.law_server.specs.Rows.Images.{IsRenamedImage, IsRenamedLeft}
use Rattle.law_server.specs.Renaming.Twins.{AreSets}
use Rattle.twin_tables.specs.Differences.{AgreeBeside, Both, captured_told, is_changed, replayed_told}
use Rattle.twin_tables.proofs.Agreeing.{changed_both}
use Rattle.replay_walk.specs.Inside.Standing.{is_change, is_seen_so}

-- ---- rows by their numbers

pub at_row : (xs : List Image) → IsRising xs → (x : Image) → Contains xs x → row_at x.row xs ≡ Some x
at_row xs up x c = each_in (λ (y : Image). row_at y.row xs ≡ Some y) xs (own_rows xs up) x c

pub in_rows : (row : ℕ) (xs : List Image) (x : Image) → row_at row xs ≡ Some x → Contains xs x
in_rows row [] x e = absurd cc
in_rows row (y ∷ ys) x e = elim (eqb y.row row) as (λ b. (if b then Some y else row_at row ys) ≡ Some x → Contains (y ∷ ys) x) [
  | true ↦ λ here. subst (Contains (y ∷ ys)) (same_Some y x here) (Contains-here y ys)
  | false ↦ λ later. Contains-there y ys x (in_rows row ys x later)
] e

-- ---- changes to a table

pub in_table : (table : ℕ) (xs : List Image) (x : Image) → Contains (of_table table xs) x → Contains xs x × (x.table ≡ table)
in_table table [] x c = absurd (Contains-none x c)
in_table table (y ∷ ys) x c = elim (eqb y.table table) as (λ b. eqb y.table table ≡ b → Contains (if b then y ∷ of_table table ys else of_table table ys) x → Contains (y ∷ ys) x × (x.table ≡ table)) [
  | true ↦ λ is here. ⊎_elim
      (λ same. (subst (Contains (y ∷ ys)) same (Contains-here y ys), subst (λ (z : Image). z.table ≡ table) same (eqb-true y.table table is)))
      (λ later. let t = in_table table ys x later in (Contains-there y ys x t.0, t.1))
      (Contains-cases y (of_table table ys) x here)
  | false ↦ λ isnt there. let t = in_table table ys x there in (Contains-there y ys x t.0, t.1)
] refl c

table_has : (table : ℕ) (xs : List Image) (x : Image) → Contains xs x → x.table ≡ table → Contains (of_table table xs) x
table_has table [] x c is = absurd (Contains-none x c)
table_has table (y ∷ ys) x c is = elim (eqb y.table table) as (λ b. eqb y.table table ≡ b → Contains (if b then y ∷ of_table table ys else of_table table ys) x) [
  | true ↦ λ here. ⊎_elim
      (λ same. subst (Contains (y ∷ of_table table ys)) same (Contains-here y (of_table table ys)))
      (λ later. Contains-there y (of_table table ys) x (table_has table ys x later is))
      (Contains-cases y ys x c)
  | false ↦ λ apart. ⊎_elim
      (λ same. absurd (let one : eqb y.table table ≡ true = eq-eqb y.table table (ap (λ (z : Image). z.table) same ∙ is) in let two : true ≡ false = sym one ∙ apart in cc))
      (λ later. table_has table ys x later is)
      (Contains-cases y ys x c)
] refl

changed_at : (table row : ℕ) (xs : List Image) → is_changed xs table row ≡ is_some (row_at row (of_table table xs))
changed_at table row [] = refl
changed_at table row (y ∷ ys) =
    let rest = changed_at table row ys in
    elim (eqb y.table table) as (λ b. ((eqb y.row row && b) || is_changed ys table row) ≡ is_some (row_at row (if b then y ∷ of_table table ys else of_table table ys))) [
      | true ↦ elim (eqb y.row row) as (λ d. ((d && true) || is_changed ys table row) ≡ is_some (if d then Some y else row_at row (of_table table ys))) [ true ↦ refl | false ↦ rest ]
      | false ↦ elim (eqb y.row row) as (λ d. ((d && false) || is_changed ys table row) ≡ is_some (row_at row (of_table table ys))) [ true ↦ rest | false ↦ rest ]
    ]

find_at : (table row : ℕ) (xs : List Image) → find (is_change table row) xs ≡ row_at row (of_table table xs)
find_at table row [] = refl
find_at table row (y ∷ ys) =
    let rest = find_at table row ys in
    elim (eqb y.table table) as (λ b. (if eqb y.row row && b then Some y else find (is_change table row) ys) ≡ row_at row (if b then y ∷ of_table table ys else of_table table ys)) [
      | true ↦ elim (eqb y.row row) as (λ d. (if d && true then Some y else find (is_change table row) ys) ≡ (if d then Some y else row_at row (of_table table ys))) [ true ↦ refl | false ↦ rest ]
      | false ↦ elim (eqb y.row row) as (λ d. (if d && false then Some y else find (is_change table row) ys) ≡ row_at row (of_table table ys)) [ true ↦ rest | false ↦ rest ]
    ]

seen_over : (o stood : Option Image) → is_seen_so o stood ≡ is_some (over o stood)
seen_over None stood = refl
seen_over (Some c) stood = elim (is_some c.left) as (λ b. b ≡ is_some (if b then Some c else None)) [ true ↦ refl | false ↦ refl ]

none_is : (o : Option Image) → is_some o ≡ false → o ≡ None
none_is None e = refl
none_is (Some x) e = absurd cc

-- a row is seen where it stands among the rows with the changes laid over them
pub seen_at : (table row : ℕ) (own xs : List Image) (stood : Option Image) → IsRising xs → IsRising own → stood ≡ row_at row xs
    → is_seen_so (find (is_change table row) own) stood ≡ is_some (row_at row (lay xs (of_table table own)))
seen_at table row own xs stood up rise is =
    seen_over (find (is_change table row) own) stood
    ∙ (λ i. is_some (over (find_at table row own i) (is i)))
    ∙ ap (λ (o : Option Image). is_some o) (sym (row_lay row 0 xs (of_table table own) up (rising_of_table table own rise)))

-- ---- one way, of rows that are related

module _ (R : Image → Image → Type 0) (table : ℕ) (own others xs ys : List Image) (xs_up : IsRising xs) (ys_up : IsRising ys) (own_up : IsRising own) (others_up : IsRising others)
    (same_table : (x y : Image) → R x y → x.table ≡ y.table) (same_there : (x y : Image) → R x y → is_there x ≡ is_there y)
    (changed : (x y : Image) → R x y → is_changed own table x.row ≡ is_changed others table y.row) where
  abbrev seen : List Image
  seen = lay xs (of_table table own)

  abbrev met : List Image
  met = lay ys (of_table table others)

  laid : (row : ℕ) → row_at row seen ≡ over (row_at row (of_table table own)) (row_at row xs)
  laid row = row_lay row 0 xs (of_table table own) xs_up (rising_of_table table own own_up)

  laid_there : (row : ℕ) → row_at row met ≡ over (row_at row (of_table table others)) (row_at row ys)
  laid_there row = row_lay row 0 ys (of_table table others) ys_up (rising_of_table table others others_up)

  -- beside the changes the rows are what they were
  beside_seen : (row : ℕ) → is_changed own table row ≡ false → row_at row seen ≡ row_at row xs
  beside_seen row free = laid row ∙ ap (λ (o : Option Image). over o (row_at row xs)) (none_is (row_at row (of_table table own)) (sym (changed_at table row own) ∙ free))

  beside_met : (row : ℕ) → is_changed others table row ≡ false → row_at row met ≡ row_at row ys
  beside_met row free = laid_there row ∙ ap (λ (o : Option Image). over o (row_at row ys)) (none_is (row_at row (of_table table others)) (sym (changed_at table row others) ∙ free))

  module _ (paired : (x : Image) → Contains own x → (y : Image) × Contains others y × R x y)
      (beside : (row : ℕ) → is_changed own table row ≡ false → (image : Image) → row_at row xs ≡ Some image → (other : Image) × (row_at other.row ys ≡ Some other) × R image other) where
    -- a change that is seen
    change_met : (x c : Image) → row_at x.row (of_table table own) ≡ Some c → row_at x.row seen ≡ Some x → (y : Image) × Contains met y × R x y
    change_met x c change at =
        let shown = cond_some (is_there c) c x (sym (laid x.row ∙ ap (λ (o : Option Image). over o (row_at x.row xs)) change) ∙ at) in
        let mine = in_table table own c (in_rows x.row (of_table table own) c change) in
        let t = paired c mine.0 in
        let there : is_there t.0 ≡ true = sym (same_there c t.0 t.2) ∙ shown.0 in
        let listed = table_has table others t.0 t.1 (sym (same_table c t.0 t.2) ∙ mine.1) in
        let found = at_row (of_table table others) (rising_of_table table others others_up) t.0 listed in
        let stands : row_at t.0.row met ≡ Some t.0 = laid_there t.0.row ∙ ap (λ (o : Option Image). over o (row_at t.0.row ys)) found ∙ ap (λ (b : Bool). if b then Some t.0 else None) there in
        (t.0, in_rows t.0.row met t.0 stands, subst (λ (z : Image). R z t.0) shown.1 t.2)

    -- a row beside the changes
    row_met : (x : Image) → row_at x.row (of_table table own) ≡ None → row_at x.row seen ≡ Some x → (y : Image) × Contains met y × R x y
    row_met x none at =
        let free : is_changed own table x.row ≡ false = changed_at table x.row own ∙ ap (λ (o : Option Image). is_some o) none in
        let t = beside x.row free x (sym (beside_seen x.row free) ∙ at) in
        let stands : row_at t.0.row met ≡ Some t.0 = beside_met t.0.row (sym (changed x t.0 t.2) ∙ free) ∙ t.1 in
        (t.0, in_rows t.0.row met t.0 stands, t.2)

    pub each_met : (x : Image) → Contains seen x → (y : Image) × Contains met y × R x y
    each_met x c = by (row_at x.row (of_table table own)) refl
      where
        at : row_at x.row seen ≡ Some x
        at = at_row seen (rising_lay xs (of_table table own) xs_up) x c

        by : (o : Option Image) → row_at x.row (of_table table own) ≡ o → (y : Image) × Contains met y × R x y
        by None none = row_met x none at
        by (Some c) change = change_met x c change at

  -- and back: rows that are met stand beside the changes
  pub each_beside : ((x : Image) → Contains seen x → (y : Image) × Contains met y × R x y)
      → (row : ℕ) → is_changed own table row ≡ false → (image : Image) → row_at row xs ≡ Some image → (other : Image) × (row_at other.row ys ≡ Some other) × R image other
  each_beside sets row free image at =
      let stands : row_at row seen ≡ Some image = beside_seen row free ∙ at in
      let here : image.row ≡ row = row_at_is row seen image stands in
      let t = sets image (in_rows row seen image stands) in
      let also : is_changed others table t.0.row ≡ false = sym (changed image t.0 t.2) ∙ ap (is_changed own table) here ∙ free in
      let there = at_row met (rising_lay ys (of_table table others) ys_up) t.0 t.1 in
      (t.0, sym (beside_met t.0.row also) ∙ there, t.2)

-- ---- both ways

left_both : (pairs : List IdPair) (left other : Option (List Value)) → IsRenamedLeft pairs left other → is_some left ≡ is_some other
left_both pairs None None t = refl
left_both pairs (Some values) (Some others) t = refl
left_both pairs None (Some others) t = absurd t
left_both pairs (Some values) None t = absurd t

module _ (both : Both) (is_map : IsIdMap both.pairs) (table : ℕ) (own others xs ys : List Image) (twins : AreSets (IsRenamedImage both.pairs) own others)
    (xs_up : IsRising xs) (ys_up : IsRising ys) (own_up : IsRising own) (others_up : IsRising others)
    (one : (row : ℕ) → captured_told both row ≡ row_at row xs) (two : (row : ℕ) → replayed_told both row ≡ row_at row ys) where
  abbrev Is : Image → Image → Type 0
  Is x y = IsRenamedImage both.pairs x y

  abbrev Was : Image → Image → Type 0
  Was y x = IsRenamedImage both.pairs x y

  moved : (x y : Image) → Is x y → is_changed own table x.row ≡ is_changed others table y.row
  moved x y t = changed_both both is_map table own others twins x.row y.row t.row

  pub rows_agree : AreSets (IsRenamedImage both.pairs) (lay xs (of_table table own)) (lay ys (of_table table others)) → AgreeBeside both table own others
  rows_agree sets = record {
    forth = λ row free image at.
        let t = each_beside Is table own others xs ys xs_up ys_up own_up others_up (λ x y r. r.table) (λ x y r. left_both both.pairs x.left y.left r.left) moved sets.forth row free image (sym (one row) ∙ at) in
        (t.0, two t.0.row ∙ t.1, t.2);
    back = λ row free image at.
        let t = each_beside Was table others own ys xs ys_up xs_up others_up own_up (λ y x r. sym r.table) (λ y x r. sym (left_both both.pairs x.left y.left r.left)) (λ y x r. sym (moved x y r)) sets.back row free image (sym (two row) ∙ at) in
        (t.0, one t.0.row ∙ t.1, t.2);
  }

  pub agree_rows : AgreeBeside both table own others → AreSets (IsRenamedImage both.pairs) (lay xs (of_table table own)) (lay ys (of_table table others))
  agree_rows agree = record {
    forth = each_met Is table own others xs ys xs_up ys_up own_up others_up (λ x y r. r.table) (λ x y r. left_both both.pairs x.left y.left r.left) moved twins.forth
        (λ row free image at. let t = agree.forth row free image (one row ∙ at) in (t.0, sym (two t.0.row) ∙ t.1, t.2));
    back = each_met Was table others own ys xs ys_up xs_up others_up own_up (λ y x r. sym r.table) (λ y x r. sym (left_both both.pairs x.left y.left r.left)) (λ y x r. sym (moved x y r)) twins.back
        (λ row free image at. let t = agree.back row free image (two row ∙ at) in (t.0, sym (one t.0.row) ∙ t.1, t.2));
  }
