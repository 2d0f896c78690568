-- Whether a key stands twice among rows with changes over them: the rows that stay and those that the changes show, told apart.
use Rattle.std.proofs.Common.{◌≡◌, ℕ, ◌+◌, ◌<◌, Bool, true, false, ◌&&◌, ◌||◌, not, ltb, eqb, if◌then◌else◌, List, [], ◌∷◌, ◌++◌, map, Option, None, Some, refl, sym, ap, subst, ◌∙◌, arith}
use mathlib.Core.Bool.{true≢false}
use Rattle.std.specs.List.{AllByRecursion, filter, list_any}
use Rattle.std.proofs.Math.Bool.{and-false, or-true, or_assoc}
use Rattle.std.proofs.lemmas.Bool.{ltb-true, eqb-true, eq-eqb, ne_eqb}
use Rattle.std.proofs.lemmas.Bool.Decides.{nat_tests}
use Rattle.std.proofs.lemmas.Option.{same_Some}
use Rattle.desk_values.specs.declared.value.Value.{Value}
use Rattle.desk_values.specs.declared.value.Image.{Image}
use Rattle.desk_values.specs.Comparison.{same_key}
use Rattle.server_words.specs.Rows.{IsRising, RisesFrom, is_there, lay, row_key, shown, all_shown, row_at}
use Rattle.server_words.specs.Writes.{is_among, repeats_key}
use Rattle.std.specs.Option.{option_and_then}
use Rattle.visited_rows.specs.ByKey.{is_of_key, of_key}
use Rattle.machine_stores.specs.Index.{FindsRows}
use Rattle.visited_rows.specs.Inside.Indexed.{listed, staying}
use Rattle.same_keys.specs.Print.{print_of}
use Rattle.same_keys.proofs.Prints.{share}
use Rattle.machine_stores.proofs.Indexing.{own_rows, row_at_is}
use Rattle.server_words.proofs.Laying.{lay_between, lay_below, lay_last, lay_over}
use Rattle.server_words.proofs.Looks.{filtered_from}
use Rattle.server_words.proofs.Members.{each_filtered, each_weaker}
use Rattle.machine_stores.proofs.Numbers.{kept, rising_same, row_filtered}
use Rattle.server_words.proofs.Repeating.{or_swap, same_back}

-- ---- two lists told apart in one

pub data Mixed : List Image → List Image → List Image → Type 0 where
  nothing : Mixed [] [] []
  stays : {x : Image} {all left right : List Image} → Mixed all left right → Mixed (x ∷ all) (x ∷ left) right
  shows : {x : Image} {all left right : List Image} → Mixed all left right → Mixed (x ∷ all) left (x ∷ right)

only_left : (xs : List Image) → Mixed xs xs []
only_left [] = nothing
only_left (x ∷ xs) = stays (only_left xs)

mixed_shown : (c : Image) {all left right : List Image} → Mixed all left right → Mixed (shown c ++ all) left (shown c ++ right)
mixed_shown c {all = all} {left = left} {right = right} mixed = elim (is_there c) as (λ b. Mixed ((if b then c ∷ [] else []) ++ all) left ((if b then c ∷ [] else []) ++ right)) [ true ↦ shows mixed | false ↦ mixed ]

-- ---- which rows stay

none_among : (n : ℕ) (x : Image) (cs : List Image) → RisesFrom n cs → x.row < n → is_among cs x ≡ false
none_among n x [] up lt = refl
none_among n x (c ∷ cs) up lt = rw (ne_eqb c.row x.row (λ e. omega (arith, up.0))) (none_among (c.row + 1) x cs up.1 (omega (arith, up.0)))

staying_nothing : (xs : List Image) → staying xs [] ≡ xs
staying_nothing [] = refl
staying_nothing (x ∷ xs) = ap (λ l. x ∷ l) (staying_nothing xs)

-- a change below all rows leaves all
staying_beyond : (n : ℕ) (c : Image) (xs cs : List Image) → RisesFrom n xs → c.row < n → staying xs (c ∷ cs) ≡ staying xs cs
staying_beyond n c [] cs up lt = refl
staying_beyond n c (x ∷ xs) cs up lt = rw (ne_eqb c.row x.row (λ e. omega (arith, up.0)), staying_beyond (x.row + 1) c xs cs up.1 (omega (arith, up.0))) refl

staying_below : (x c : Image) (xs cs : List Image) → x.row < c.row → RisesFrom (c.row + 1) cs → staying (x ∷ xs) (c ∷ cs) ≡ x ∷ staying xs (c ∷ cs)
staying_below x c xs cs lt up = let apart : is_among (c ∷ cs) x ≡ false = none_among c.row x (c ∷ cs) (omega arith, up) lt in rw apart refl

staying_over : (x c : Image) (xs cs : List Image) → x.row ≡ c.row → RisesFrom (x.row + 1) xs → staying (x ∷ xs) (c ∷ cs) ≡ staying xs cs
staying_over x c xs cs same up = rw (eq-eqb c.row x.row (sym same), staying_beyond (x.row + 1) c xs cs up (omega arith)) refl

-- rows with changes over them are those that stay and those that are shown
pub laid_mixed : (n m : ℕ) (xs cs : List Image) → RisesFrom n xs → RisesFrom m cs → Mixed (lay xs cs) (staying xs cs) (all_shown cs)
laid_mixed n m [] [] up over = nothing
laid_mixed n m (x ∷ xs) [] up over = rw (staying_nothing (x ∷ xs)) (only_left (x ∷ xs))
laid_mixed n m [] (c ∷ cs) up over = rw (lay_last c cs m over) (mixed_shown c (laid_mixed n (c.row + 1) [] cs up over.1))
laid_mixed n m (x ∷ xs) (c ∷ cs) up over =
    elim (ltb x.row c.row) as (λ b. ltb x.row c.row ≡ b → Mixed (lay (x ∷ xs) (c ∷ cs)) (staying (x ∷ xs) (c ∷ cs)) (all_shown (c ∷ cs))) [
      | true ↦ λ below. rw (lay_below c cs m over x xs (ltb-true _ _ below), staying_below x c xs cs (ltb-true _ _ below) over.1) (stays (laid_mixed (x.row + 1) m xs (c ∷ cs) up.1 over))
      | false ↦ λ above. elim (eqb x.row c.row) as (λ b. eqb x.row c.row ≡ b → Mixed (lay (x ∷ xs) (c ∷ cs)) (staying (x ∷ xs) (c ∷ cs)) (all_shown (c ∷ cs))) [
        | true ↦ λ same. rw (lay_over c cs m over x xs (eqb-true _ _ same), staying_over x c xs cs (eqb-true _ _ same) up.1) (mixed_shown c (laid_mixed (x.row + 1) (c.row + 1) xs cs up.1 over.1))
        | false ↦ λ apart.
            let beyond : c.row < x.row = grind (arith, nat_tests) in
            rw (lay_between c cs m over x xs beyond, staying_beyond x.row c (x ∷ xs) cs (omega arith, up.1) beyond) (mixed_shown c (laid_mixed n (c.row + 1) (x ∷ xs) cs up over.1))
      ] refl
    ] refl

-- ---- keys of both

none_some : {X : Type 0} {a : X} (o : Option X) → None ≡ o → o ≡ Some a → ⊥
none_some o none some = absurd (cc)

or_between : (a b c : Bool) → (a || (b || c)) ≡ (b || (a || c))
or_between a b c = grind arith

last_group : (a b c d : Bool) → ((a || b) || (c || d)) ≡ ((b || c) || (a || d))
last_group a b c d = grind arith

regroup_left : (a b c d e : Bool) → ((a || b) || ((c || d) || e)) ≡ (((a || c) || d) || (b || e))
regroup_left a b c d e = grind arith

regroup_right : (a b c d e : Bool) → ((a || b) || ((c || d) || e)) ≡ ((c || (b || d)) || (a || e))
regroup_right a b c d e = grind arith

module _ (level : ℕ) where
  -- the row has the key of one of these
  abbrev pub meets : List Image → Image → Bool
  meets rows image = list_any (same_key level (row_key image)) (map row_key rows)

  any_mixed : (p : Value → Bool) {all left right : List Image} → Mixed all left right → list_any p (map row_key all) ≡ (list_any p (map row_key left) || list_any p (map row_key right))
  any_mixed p nothing = refl
  any_mixed p (stays {x = x} {left = left} {right = right} mixed) = rw (any_mixed p mixed) (sym (or_assoc (p (row_key x)) (list_any p (map row_key left)) (list_any p (map row_key right))))
  any_mixed p (shows {x = x} {left = left} {right = right} mixed) = rw (any_mixed p mixed) (or_between (p (row_key x)) (list_any p (map row_key left)) (list_any p (map row_key right)))

  -- one row more that stays
  meets_more : (x : Image) (left right : List Image) → list_any (meets (x ∷ left)) right ≡ (list_any (same_key level (row_key x)) (map row_key right) || list_any (meets left) right)
  meets_more x left [] = refl
  meets_more x left (y ∷ ys) = rw (meets_more x left ys, same_back level (row_key y) (row_key x)) (or_swap (same_key level (row_key x) (row_key y)) (meets left y) (list_any (same_key level (row_key x)) (map row_key ys)) (list_any (meets left) ys))

  repeats_mixed : {all left right : List Image} → Mixed all left right → repeats_key level (map row_key all) ≡ ((repeats_key level (map row_key left) || repeats_key level (map row_key right)) || list_any (meets left) right)
  unfolding repeats_key
  repeats_mixed nothing = refl
  repeats_mixed (stays {x = x} {left = left} {right = right} mixed) = rw (any_mixed (same_key level (row_key x)) mixed, repeats_mixed mixed, meets_more x left right) (regroup_left (list_any (same_key level (row_key x)) (map row_key left)) (list_any (same_key level (row_key x)) (map row_key right)) (repeats_key level (map row_key left)) (repeats_key level (map row_key right)) (list_any (meets left) right))
  repeats_mixed (shows {x = x} {left = left} {right = right} mixed) = rw (any_mixed (same_key level (row_key x)) mixed, repeats_mixed mixed) (regroup_right (list_any (same_key level (row_key x)) (map row_key left)) (list_any (same_key level (row_key x)) (map row_key right)) (repeats_key level (map row_key left)) (repeats_key level (map row_key right)) (list_any (meets left) right))

  -- where those that stay are apart, a key stands twice that two of the others have, or one of them and one that stays
  pub repeats_alone : (xs cs : List Image) → IsRising xs → IsRising cs → repeats_key level (map row_key (staying xs cs)) ≡ false
      → repeats_key level (map row_key (lay xs cs)) ≡ (repeats_key level (map row_key (all_shown cs)) || list_any (meets (staying xs cs)) (all_shown cs))
  repeats_alone xs cs up over apart = rw (repeats_mixed (laid_mixed 0 0 xs cs up over), apart) refl

  pub repeats_laid : (new : Image) (xs cs : List Image) → IsRising xs → IsRising cs → repeats_key level (map row_key (staying xs cs)) ≡ false
      → repeats_key level (map row_key (new ∷ lay xs cs)) ≡ (repeats_key level (map row_key (new ∷ all_shown cs)) || (meets (staying xs cs) new || list_any (meets (staying xs cs)) (all_shown cs)))
  unfolding repeats_key
  repeats_laid new xs cs up over apart =
      let mixed = laid_mixed 0 0 xs cs up over in
      rw (any_mixed (same_key level (row_key new)) mixed, repeats_mixed mixed, apart) (last_group (meets (staying xs cs) new) (list_any (same_key level (row_key new)) (map row_key (all_shown cs))) (repeats_key level (map row_key (all_shown cs))) (list_any (meets (staying xs cs)) (all_shown cs)))

-- ---- rows that are found by their keys

-- none that passes the one test passes the other
none_any : (p : Value → Bool) (q : Image → Bool) (ys : List Image) → AllByRecursion (λ y. (q y && p (row_key y)) ≡ false) ys → list_any p (map row_key (filter q ys)) ≡ false
none_any p q [] none = refl
none_any p q (y ∷ ys) none = elim (q y) as (λ b. (b && p (row_key y)) ≡ false → list_any p (map row_key (if b then y ∷ filter q ys else filter q ys)) ≡ false) [
  | true ↦ λ here. rw here (none_any p q ys none.1)
  | false ↦ λ here. none_any p q ys none.1
] none.0

some_any : (p : Value → Bool) (q : Image → Bool) (row : ℕ) (z : Image) (ys : List Image) → row_at row ys ≡ Some z → q z ≡ true → p (row_key z) ≡ true → list_any p (map row_key (filter q ys)) ≡ true
some_any p q row z [] at passes has = absurd (cc)
some_any p q row z (y ∷ ys) at passes has = elim (eqb y.row row) as (λ b. (if b then Some y else row_at row ys) ≡ Some z → list_any p (map row_key (filter q (y ∷ ys))) ≡ true) [
  | true ↦ λ here. let is : y ≡ z = cc in rw (is, passes, has) refl
  | false ↦ λ later. elim (q y) as (λ b. list_any p (map row_key (if b then y ∷ filter q ys else filter q ys)) ≡ true) [
    | true ↦ rw (some_any p q row z ys later passes has) (or-true (p (row_key y)))
    | false ↦ some_any p q row z ys later passes has
  ]
] at

-- what an optional number leads to
led_to : {X : Type 0} (f : ℕ → Option X) (o : Option ℕ) (z : X) → option_and_then f o ≡ Some z → (row : ℕ) × (f row ≡ Some z)
led_to f None z is = absurd cc
led_to f (Some row) z is = (row, is)

pub listed_rises : (o : Option Image) → IsRising (listed o)
listed_rises None = tt
listed_rises (Some z) = (omega arith, tt)

-- whether a row has a key is found out by the print of the key
module _ (row_under : ℕ → Option ℕ) (rows : List Image) (up : IsRising rows) (finds : FindsRows row_under (λ row. row_at row rows) []) where
  all_found : AllByRecursion (λ y. row_under (print_of (row_key y)) ≡ Some y.row) rows
  all_found = each_weaker (λ (y : Image). row_at y.row rows ≡ Some y) (λ y. row_under (print_of (row_key y)) ≡ Some y.row) (λ y at. finds y at refl) rows (own_rows rows up)

  module _ (level : ℕ) where
    -- rows that are found have keys of their own
    found_apart : (n : ℕ) (x : Image) (ys : List Image) → row_under (print_of (row_key x)) ≡ Some x.row → RisesFrom n ys → x.row < n → AllByRecursion (λ y. row_under (print_of (row_key y)) ≡ Some y.row) ys → list_any (same_key level (row_key x)) (map row_key ys) ≡ false
    found_apart n x [] at above lt all = refl
    found_apart n x (y ∷ ys) at above lt all = elim (same_key level (row_key x) (row_key y)) as (λ b. same_key level (row_key x) (row_key y) ≡ b → (b || list_any (same_key level (row_key x)) (map row_key ys)) ≡ false) [
      | true ↦ λ same.
          let both : Some x.row ≡ Some y.row = sym at ∙ ap row_under (share level (row_key x) (row_key y) same).print ∙ all.0 in
          let number : x.row ≡ y.row = cc in
          absurd (omega (arith, above.0))
      | false ↦ λ other. found_apart (y.row + 1) x ys at above.1 (omega (arith, above.0)) all.1
    ] refl

    none_twice : (n : ℕ) (ys : List Image) → RisesFrom n ys → AllByRecursion (λ y. row_under (print_of (row_key y)) ≡ Some y.row) ys → repeats_key level (map row_key ys) ≡ false
    unfolding repeats_key
    none_twice n [] above all = refl
    none_twice n (y ∷ ys) above all = rw (found_apart (y.row + 1) y ys all.0 above.1 (omega arith) all.1) (none_twice (y.row + 1) ys above.1 all.1)

    pub staying_apart : (cs : List Image) → repeats_key level (map row_key (staying rows cs)) ≡ false
    staying_apart cs = none_twice 0 (staying rows cs) (filtered_from _ 0 rows up) (each_filtered (λ y. row_under (print_of (row_key y)) ≡ Some y.row) _ rows all_found)

    -- what stands under the print of a key: each row with the key is that
    module _ (key : Value) (there : Option Image) (is : there ≡ option_and_then (λ row. row_at row rows) (row_under (print_of key))) where
      found_there : (y : Image) → row_at y.row rows ≡ Some y → same_key level key (row_key y) ≡ true → there ≡ Some y
      found_there y at same = is ∙ ap (option_and_then (λ row. row_at row rows)) (ap row_under (share level key (row_key y) same).print ∙ finds y at refl) ∙ at

      -- what is there stands among the rows
      stands_there : (z : Image) → there ≡ Some z → row_at z.row rows ≡ Some z
      stands_there z here = let led = led_to (λ row. row_at row rows) (row_under (print_of key)) z (sym is ∙ here) in subst (λ row. row_at row rows ≡ Some z) (sym (row_at_is led.0 rows z led.1)) led.1

      has_not : (cs : List Image) (y : Image) → row_at y.row rows ≡ Some y → (there ≡ Some y → same_key level key (row_key y) ≡ true → not (is_among cs y) ≡ false) → (not (is_among cs y) && same_key level key (row_key y)) ≡ false
      has_not cs y at but = elim (same_key level key (row_key y)) as (λ b. same_key level key (row_key y) ≡ b → (not (is_among cs y) && b) ≡ false) [
        | true ↦ λ same. rw (but (found_there y at same) same) refl
        | false ↦ λ other. and-false (not (is_among cs y))
      ] refl

      nobody_has : (cs : List Image) → ((y : Image) → row_at y.row rows ≡ Some y → there ≡ Some y → same_key level key (row_key y) ≡ true → not (is_among cs y) ≡ false) → list_any (same_key level key) (map row_key (staying rows cs)) ≡ false
      nobody_has cs but = none_any (same_key level key) (λ (image : Image). not (is_among cs image)) rows (each_weaker (λ (y : Image). row_at y.row rows ≡ Some y) (λ (y : Image). (not (is_among cs y) && same_key level key (row_key y)) ≡ false) (λ y at. has_not cs y at (but y at)) rows (own_rows rows up))

      pub meets_nobody : (cs : List Image) → there ≡ None → false ≡ list_any (same_key level key) (map row_key (staying rows cs))
      meets_nobody cs none = sym (nobody_has cs (λ y own found same. absurd (none_some there (sym none) found)))

      -- the one that is there has the key, or none does
      meets_one : (cs : List Image) (z : Image) → there ≡ Some z → (not (is_among cs z) && same_key level key (row_key z)) ≡ list_any (same_key level key) (map row_key (staying rows cs))
      meets_one cs z here =
          let one_row : (y : Image) → there ≡ Some y → z ≡ y = λ y found. same_Some z y (sym here ∙ found) in
          elim (not (is_among cs z)) as (λ b. not (is_among cs z) ≡ b → (b && same_key level key (row_key z)) ≡ list_any (same_key level key) (map row_key (staying rows cs))) [
            | true ↦ λ stands. elim (same_key level key (row_key z)) as (λ b. same_key level key (row_key z) ≡ b → b ≡ list_any (same_key level key) (map row_key (staying rows cs))) [
              | true ↦ λ has. sym (some_any (same_key level key) (λ (image : Image). not (is_among cs image)) z.row z rows (stands_there z here) stands has)
              | false ↦ λ other. sym (nobody_has cs (λ y own found same. absurd (true≢false (sym same ∙ ap (λ (i : Image). same_key level key (row_key i)) (sym (one_row y found)) ∙ other))))
            ] refl
            | false ↦ λ gone. sym (nobody_has cs (λ y own found same. ap (λ (i : Image). not (is_among cs i)) (sym (one_row y found)) ∙ gone))
          ] refl

      pub meets_same : (cs : List Image) (z : Image) → there ≡ Some z → (changed same : Bool) → changed ≡ false → changed ≡ is_among cs z → same ≡ same_key level key (row_key z) → same ≡ list_any (same_key level key) (map row_key (staying rows cs))
      meets_same cs z here changed same stands is_changed is_same = let stays : is_among cs z ≡ false = sym is_changed ∙ stands in is_same ∙ rw stays at (meets_one cs z here)

      pub meets_gone : (cs : List Image) (z : Image) → there ≡ Some z → (changed : Bool) → changed ≡ true → changed ≡ is_among cs z → not changed ≡ list_any (same_key level key) (map row_key (staying rows cs))
      meets_gone cs z here changed gone is_changed = let goes : is_among cs z ≡ true = sym is_changed ∙ gone in ap not gone ∙ rw goes at (meets_one cs z here)

      -- the rows of the key are those of what is there
      abbrev has_key : Image → Bool
      has_key image = is_of_key level key image

      listed_else : (row : ℕ) (o : Option Image) → there ≡ o → ((z : Image) → row_at row rows ≡ Some z → kept has_key (Some z) ≡ None) → None ≡ kept has_key (row_at row (listed o))
      listed_else row None here but = refl
      listed_else row (Some z) here but = elim (eqb z.row row) as (λ b. eqb z.row row ≡ b → None ≡ kept has_key (if b then Some z else None)) [
        | true ↦ λ same. sym (but z (subst (λ (r : ℕ). row_at r rows ≡ Some z) (eqb-true z.row row same) (stands_there z here)))
        | false ↦ λ apart. refl
      ] refl

      listed_at : (row : ℕ) (o at : Option Image) → there ≡ o → row_at row rows ≡ at → kept has_key at ≡ kept has_key (row_at row (listed o))
      listed_at row o None here at = listed_else row o here (λ z stands. absurd (none_some (row_at row rows) (sym at) stands))
      listed_at row o (Some y) here at = elim (same_key level key (row_key y)) as (λ b. same_key level key (row_key y) ≡ b → kept has_key (Some y) ≡ kept has_key (row_at row (listed o))) [
        | true ↦ λ same.
            let number : y.row ≡ row = row_at_is row rows y at in
            let own : row_at y.row rows ≡ Some y = ap (λ (r : ℕ). row_at r rows) number ∙ at in
            let first : row_at row (y ∷ []) ≡ Some y = rw (eq-eqb y.row row number) refl in
            sym (ap (λ (p : Option Image). kept has_key (row_at row (listed p))) (sym here ∙ found_there y own same) ∙ ap (kept has_key) first)
        | false ↦ λ other.
            let fails : (z : Image) → row_at row rows ≡ Some z → kept has_key (Some z) ≡ None = λ z stands.
            let is_y : y ≡ z = same_Some y z (sym at ∙ stands) in
            ap (λ (i : Image). kept has_key (Some i)) (sym is_y) ∙ ap (λ (b : Bool). if b then Some y else None) (same_back level (row_key y) key ∙ other) in
            fails y at ∙ listed_else row o here fails
      ] refl

      pub of_key_there : (o : Option Image) → there ≡ o → of_key level key (listed o) ≡ of_key level key rows
      of_key_there o here = rising_same 0 (of_key level key (listed o)) (of_key level key rows) (filtered_from has_key 0 (listed o) (listed_rises o)) (filtered_from has_key 0 rows up) (λ row.
          row_filtered has_key row 0 (listed o) (listed_rises o) ∙ sym (listed_at row o (row_at row rows) here refl) ∙ sym (row_filtered has_key row 0 rows up))

    -- what was looked at says whether a key stands twice
    module _ (cs : List Image) (over : IsRising cs) (seen : List Image) (shows_all : seen ≡ all_shown cs) where
      laid_apart : repeats_key level (map row_key (lay rows cs)) ≡ (repeats_key level (map row_key seen) || list_any (meets level (staying rows cs)) seen)
      laid_apart = rw shows_all (repeats_alone level rows cs up over (staying_apart cs))

      pub laid_changed : true ≡ repeats_key level (map row_key seen) → true ≡ repeats_key level (map row_key (lay rows cs))
      laid_changed changed = rw (← changed) at (sym laid_apart)

      pub laid_staying : (some : Bool) → false ≡ repeats_key level (map row_key seen) → some ≡ list_any (meets level (staying rows cs)) seen → some ≡ repeats_key level (map row_key (lay rows cs))
      laid_staying some changed some_is = rw (← changed, ← some_is) at (sym laid_apart)

      module _ (new : Image) where
        told_apart : repeats_key level (map row_key (new ∷ lay rows cs)) ≡ (repeats_key level (map row_key (new ∷ seen)) || (meets level (staying rows cs) new || list_any (meets level (staying rows cs)) seen))
        told_apart = rw shows_all (repeats_laid level new rows cs up over (staying_apart cs))

        pub twice_changed : true ≡ repeats_key level (map row_key (new ∷ seen)) → true ≡ repeats_key level (map row_key (new ∷ lay rows cs))
        twice_changed changed = rw (← changed) at (sym told_apart)

        pub twice_staying : (met some : Bool) → false ≡ repeats_key level (map row_key (new ∷ seen)) → met ≡ meets level (staying rows cs) new → some ≡ list_any (meets level (staying rows cs)) seen → (met || some) ≡ repeats_key level (map row_key (new ∷ lay rows cs))
        twice_staying met some changed meets_is some_is = rw (← changed, ← meets_is, ← some_is) at (sym told_apart)
