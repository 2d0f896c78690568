-- What is read of shelves, as triples.
use Rattle.std.proofs.Common.{◌≡◌, ℕ, ◌+◌, ◌≤◌, Bool, true, false, ◌&&◌, nat_eq, nat_lt, if◌then◌else◌, List, [], ◌∷◌, ◌++◌, map, refl, sym, ap, subst, ◌∙◌, append-nil, arith, cond, Some}
use Rattle.std.specs.Option.{unwrap_or}
use Rattle.std.specs.BTreeMap.{is_at}
use Rattle.std.specs.List.{AllByRecursion}
use Rattle.std.specs.Map.{keys_of, lookup}
use Rattle.std.specs.Ordering.{is_eq, nat_cmp}
use Rattle.std.specs.Cmp.{IsEquivalence, nat_eq_equiv, unsigned_ties}
use mathlib.Core.Bool.{true≢false}
use Rattle.std.specs.declared.cmp.Ordering.TheVariants.{Less}
use Rattle.std.proofs.lemmas.Map.Keys.{sorted_head, sorted_tail}
use Rattle.desk_values.specs.declared.value.Value.{Value}
use Rattle.desk_values.specs.Comparison.{same_key}
use Rattle.same_keys.specs.Print.{print_of}
use Rattle.same_keys.proofs.Prints.{either, moves, share}
use Rattle.key_index.specs.declared.shelf.Group.{Group}
use Rattle.key_index.specs.Triples.{RisesFrom, Triple, is_one, rows_of, triples_of, triples_of_group, triples_of_shelf, with_number, without_number}
use Rattle.key_index.specs.Inside.Shelves.{AreShelves, IsApart, IsInOrder, IsShelf, changed, dropped, is_of_key, noted, rows_in, shelf_at}

-- ---- rows that ascend

falls_to : (low more : ℕ) (xs : List ℕ) → low ≤ more → RisesFrom more xs → RisesFrom low xs
falls_to low more [] l h = tt
falls_to low more (x ∷ xs) l h = (omega (arith, l, h.0), h.1)

pub rises_with : (row low : ℕ) (xs : List ℕ) → low ≤ row → RisesFrom low xs → RisesFrom low (with_number row xs)
rises_with row low [] l h = (l, tt)
rises_with row low (x ∷ xs) l h = by (nat_lt x row) refl (nat_eq x row) refl (rises_with row (x + 1) xs)
  where
    by : (b : Bool) → nat_lt x row ≡ b → (e : Bool) → nat_eq x row ≡ e → (x + 1 ≤ row → RisesFrom (x + 1) xs → RisesFrom (x + 1) (with_number row xs))
        → RisesFrom low (if b then x ∷ with_number row xs else if e then x ∷ xs else row ∷ x ∷ xs)
    by true b e f rest = (h.0, rest (grind (arith, b)) h.1)
    by false b true f rest = h
    by false b false f rest = (l, (grind (arith, b, f), h.1))

pub rises_without : (row low : ℕ) (xs : List ℕ) → RisesFrom low xs → RisesFrom low (without_number row xs)
rises_without row low [] h = tt
rises_without row low (x ∷ xs) h = by (nat_lt x row) (nat_eq x row) (rises_without row (x + 1) xs h.1)
  where
    by : (b e : Bool) → RisesFrom (x + 1) (without_number row xs) → RisesFrom low (if b then x ∷ without_number row xs else if e then xs else x ∷ xs)
    by true e rest = (h.0, rest)
    by false true rest = falls_to low (x + 1) xs (omega (arith, h.0)) h.1
    by false false rest = h

-- ---- one key

either_way : (b : Bool) (rows : List ℕ) → rows ≡ (if b then rows else rows)
either_way true rows = refl
either_way false rows = refl

both : (b c : Bool) → (b && c) ≡ true → (b ≡ true) × (c ≡ true)
both true c h = (refl, h)
both false c h = absurd (grind (arith, h))

module _ (level : ℕ) where
  pub one_moves : (t u v : ℕ) (a b c : Value) → is_one level t a u b ≡ true → is_one level t a v c ≡ is_one level u b v c
  one_moves t u v a b c h =
      let parts = both (nat_eq t u) (same_key level a b) h in
      let table : t ≡ u = grind (arith, parts.0) in
      ap (λ (s : ℕ). nat_eq s v && same_key level a c) table ∙ ap (λ (s : Bool). nat_eq u v && s) (moves level a b c parts.1)

  pub one_back : (t u : ℕ) (a b : Value) → is_one level t a u b ≡ is_one level u b t a
  one_back t u a b = let numbers : IsEquivalence nat_eq = nat_eq_equiv in ap (λ (s : Bool). s && same_key level a b) (numbers.symm t u) ∙ ap (λ (s : Bool). nat_eq u t && s) (either level a b)

  -- what is one with the first is one with the second
  pub one_joins : (t u v : ℕ) (a b c : Value) → is_one level u b v c ≡ true → is_one level t a u b ≡ is_one level t a v c
  one_joins t u v a b c h = one_back t u a b ∙ one_moves u v t b c a h ∙ one_back v t c a

  -- ---- triples

  pub rows_append : (xs ys : List Triple) (t : ℕ) (k : Value) → rows_of level (xs ++ ys) t k ≡ rows_of level xs t k ++ rows_of level ys t k
  rows_append [] ys t k = refl
  rows_append (x ∷ xs) ys t k = by (is_one level x.table x.key t k) (rows_append xs ys t k)
    where
      by : (b : Bool) → rows_of level (xs ++ ys) t k ≡ rows_of level xs t k ++ rows_of level ys t k
          → (if b then x.row ∷ rows_of level (xs ++ ys) t k else rows_of level (xs ++ ys) t k) ≡ (if b then x.row ∷ rows_of level xs t k else rows_of level xs t k) ++ rows_of level ys t k
      by true rest = ap (λ (r : List ℕ). x.row ∷ r) rest
      by false rest = rest

  pub group_rows : (table : ℕ) (key : Value) (rows : List ℕ) (t : ℕ) (k : Value) → rows_of level (map (λ (row : ℕ). record { table = table; key = key; row = row }) rows) t k ≡ (if is_one level table key t k then rows else [])
  group_rows table key [] t k = either_way (is_one level table key t k) []
  group_rows table key (r ∷ rs) t k = by (is_one level table key t k) (group_rows table key rs t k)
    where
      by : (b : Bool) → rows_of level (map (λ (row : ℕ). record { table = table; key = key; row = row }) rs) t k ≡ (if b then rs else [])
          → (if b then r ∷ rows_of level (map (λ (row : ℕ). record { table = table; key = key; row = row }) rs) t k else rows_of level (map (λ (row : ℕ). record { table = table; key = key; row = row }) rs) t k) ≡ (if b then r ∷ rs else [])
      by true rest = ap (λ (xs : List ℕ). r ∷ xs) rest
      by false rest = rest

  -- ---- a shelf

  pub none_apart : (t : ℕ) (k : Value) (g : Group) (gs : List Group) → is_of_key level t k g ≡ true → IsApart level g gs → rows_in level t k gs ≡ []
  none_apart t k g [] one h = refl
  none_apart t k g (x ∷ gs) one h =
      let unlike : is_of_key level t k x ≡ false = one_back x.table t x.key k ∙ sym (one_moves g.table t x.table g.key k x.key one) ∙ h.0 in
      ap (λ (b : Bool). if b then x.rows else rows_in level t k gs) unlike ∙ none_apart t k g gs one h.1

  pub shelf_rows : (print t : ℕ) (k : Value) (gs : List Group) → IsShelf level print gs → rows_of level (triples_of_shelf gs) t k ≡ rows_in level t k gs
  shelf_rows print t k [] h = refl
  shelf_rows print t k (g ∷ gs) h =
      rows_append (triples_of_group g) (triples_of_shelf gs) t k
      ∙ ap (λ (xs : List ℕ). xs ++ rows_of level (triples_of_shelf gs) t k) (group_rows g.table g.key g.rows t k)
      ∙ ap (λ (ys : List ℕ). (if is_of_key level t k g then g.rows else []) ++ ys) (shelf_rows print t k gs h.3)
      ∙ by (is_of_key level t k g) refl
    where
      by : (b : Bool) → is_of_key level t k g ≡ b → (if b then g.rows else []) ++ rows_in level t k gs ≡ (if b then g.rows else rows_in level t k gs)
      by true e = ap (λ (ys : List ℕ). g.rows ++ ys) (none_apart t k g gs e h.2) ∙ append-nil g.rows
      by false e = refl

  -- a key of another print has none there
  pub other_print : (print t : ℕ) (k : Value) (gs : List Group) → IsShelf level print gs → nat_eq (print_of k) print ≡ false → rows_in level t k gs ≡ []
  other_print print t k [] h apart = refl
  other_print print t k (g ∷ gs) h apart = by (is_of_key level t k g) refl (other_print print t k gs h.3 apart)
    where
      by : (b : Bool) → is_of_key level t k g ≡ b → rows_in level t k gs ≡ [] → (if b then g.rows else rows_in level t k gs) ≡ []
      by true e rest =
          let parts = both (nat_eq g.table t) (same_key level g.key k) e in
          let same : print_of k ≡ print = sym (share level g.key k parts.1).print ∙ h.0 in
          absurd (grind (arith, same, apart))
      by false e rest = rest

  pub shelf_rises : (print t : ℕ) (k : Value) (gs : List Group) → IsShelf level print gs → RisesFrom 0 (rows_in level t k gs)
  shelf_rises print t k [] h = tt
  shelf_rises print t k (g ∷ gs) h = by (is_of_key level t k g) (shelf_rises print t k gs h.3)
    where
      by : (b : Bool) → RisesFrom 0 (rows_in level t k gs) → RisesFrom 0 (if b then g.rows else rows_in level t k gs)
      by true rest = h.1
      by false rest = rest

  -- ---- a shelf with the rows of a key changed

  module _ (table : ℕ) (key : Value) (change : List ℕ → List ℕ) (more : List Group) where
    abbrev pub turned : List Group → List Group
    turned groups = changed level table key change more groups

    -- each key has the rows that it had, and this one changed ones
    pub turned_rows : (t : ℕ) (k : Value) (gs : List Group) → rows_in level t k more ≡ (if is_one level table key t k then change [] else []) → rows_in level t k (turned gs) ≡ (if is_one level table key t k then change (rows_in level t k gs) else rows_in level t k gs)
    turned_rows t k [] first = first
    turned_rows t k (g ∷ gs) first = by (is_of_key level table key g) refl (is_of_key level t k g) refl (is_one level table key t k) refl (turned_rows t k gs first)
      where
        by : (b : Bool) → is_of_key level table key g ≡ b → (c : Bool) → is_of_key level t k g ≡ c → (d : Bool) → is_one level table key t k ≡ d
            → rows_in level t k (turned gs) ≡ (if is_one level table key t k then change (rows_in level t k gs) else rows_in level t k gs)
            → rows_in level t k (if b then record g { rows = change g.rows } ∷ gs else g ∷ turned gs) ≡ (if d then change (if c then g.rows else rows_in level t k gs) else (if c then g.rows else rows_in level t k gs))
        by true b true c true d rest = ap (λ (s : Bool). if s then change g.rows else rows_in level t k gs) c
        by true b false c false d rest = ap (λ (s : Bool). if s then change g.rows else rows_in level t k gs) c
        by true b true c false d rest = absurd (true≢false (sym c ∙ one_moves g.table table t g.key key k b ∙ d))
        by true b false c true d rest = absurd (true≢false (sym d ∙ sym (one_moves g.table table t g.key key k b) ∙ c))
        by false b true c false d rest = ap (λ (s : Bool). if s then g.rows else rows_in level t k (turned gs)) c
        by false b true c true d rest = absurd (true≢false (sym c ∙ sym (one_joins g.table table t g.key key k d) ∙ b))
        by false b false c d e rest = ap (λ (s : Bool). if s then g.rows else rows_in level t k (turned gs)) c ∙ rest ∙ ap (λ (s : Bool). if s then change (rows_in level t k gs) else rows_in level t k gs) e

    pub turned_apart : (g : Group) (gs : List Group) → is_of_key level table key g ≡ false → IsApart level g more → IsApart level g gs → IsApart level g (turned gs)
    turned_apart g [] unlike first h = first
    turned_apart g (x ∷ gs) unlike first h = by (is_of_key level table key x) (turned_apart g gs unlike first h.1)
      where
        by : (b : Bool) → IsApart level g (turned gs) → IsApart level g (if b then record x { rows = change x.rows } ∷ gs else x ∷ turned gs)
        by true rest = h
        by false rest = (h.0, rest)

    pub alike : (g : Group) (rows : List ℕ) (xs : List Group) → IsApart level g xs → IsApart level (record g { rows = rows }) xs
    alike g rows [] a = tt
    alike g rows (x ∷ xs) a = (a.0, alike g rows xs a.1)

    pub turned_shelf : (print : ℕ) (gs : List Group) → IsShelf level print more → ((g : Group) → is_of_key level table key g ≡ false → IsApart level g more) → ((xs : List ℕ) → RisesFrom 0 xs → RisesFrom 0 (change xs)) → IsShelf level print gs → IsShelf level print (turned gs)
    turned_shelf print [] first apart rises h = first
    turned_shelf print (g ∷ gs) first apart rises h = by (is_of_key level table key g) refl (turned_shelf print gs first apart rises h.3)
      where
        by : (b : Bool) → is_of_key level table key g ≡ b → IsShelf level print (turned gs) → IsShelf level print (if b then record g { rows = change g.rows } ∷ gs else g ∷ turned gs)
        by true e rest = (h.0, rises g.rows h.1, alike g (change g.rows) gs h.2, h.3)
        by false e rest = (h.0, h.1, turned_apart g gs e (apart g e) h.2, rest)

-- ---- all shelves

same_number : (n : ℕ) → nat_eq n n ≡ true
same_number n = let numbers : IsEquivalence nat_eq = nat_eq_equiv in numbers.refl n

at_head : (print : ℕ) (e : ℕ × List Group) (es : List (ℕ × List Group)) → nat_eq print e.0 ≡ true → shelf_at (e ∷ es) print ≡ e.1
at_head print e es is = ap (λ (b : Bool). unwrap_or (cond b (Some e.1) (lookup (is_at (nat_cmp print)) es)) []) (sym (unsigned_ties print e.0) ∙ is)

past_head : (print : ℕ) (e : ℕ × List Group) (es : List (ℕ × List Group)) → nat_eq print e.0 ≡ false → shelf_at (e ∷ es) print ≡ shelf_at es print
past_head print e es apart = ap (λ (b : Bool). unwrap_or (cond b (Some e.1) (lookup (is_at (nat_cmp print)) es)) []) (sym (unsigned_ties print e.0) ∙ apart)

-- a print below all others is none of them
absent : (low : ℕ) (es : List (ℕ × List Group)) → AllByRecursion (λ (y : ℕ). nat_cmp low y ≡ Less) (keys_of es) → shelf_at es low ≡ []
absent low [] h = refl
absent low (e ∷ es) h = past_head low e es (unsigned_ties low e.0 ∙ ap is_eq h.0) ∙ absent low es h.1

no_more : (e : ℕ × List Group) (es : List (ℕ × List Group)) → IsInOrder (e ∷ es) → (print : ℕ) → nat_eq print e.0 ≡ true → shelf_at es print ≡ []
no_more e es order print is =
    let same : print ≡ e.0 = grind (arith, is) in
    ap (shelf_at es) same ∙ absent e.0 es (sorted_head nat_cmp e.0 (keys_of es) order)

module _ (level : ℕ) where
  pub first_shelf : (e : ℕ × List Group) (es : List (ℕ × List Group)) → AreShelves level (e ∷ es) → IsShelf level e.0 e.1
  first_shelf e es s = subst (IsShelf level e.0) (at_head e.0 e es (same_number e.0)) (s.each e.0)

  pub other_shelves : (e : ℕ × List Group) (es : List (ℕ × List Group)) → AreShelves level (e ∷ es) → AreShelves level es
  other_shelves e es s = record { order = sorted_tail nat_cmp e.0 (keys_of es) s.order; each = λ print. by print (nat_eq print e.0) refl }
    where
      by : (print : ℕ) (b : Bool) → nat_eq print e.0 ≡ b → IsShelf level print (shelf_at es print)
      by print true is = subst (IsShelf level print) (sym (no_more e es s.order print is)) tt
      by print false apart = subst (IsShelf level print) (past_head print e es apart) (s.each print)

  pub shelves_rows : (entries : List (ℕ × List Group)) → AreShelves level entries → (t : ℕ) (k : Value) → rows_of level (triples_of entries) t k ≡ rows_in level t k (shelf_at entries (print_of k))
  shelves_rows [] s t k = refl
  shelves_rows (e ∷ es) s t k =
      rows_append level (triples_of_shelf e.1) (triples_of es) t k
      ∙ ap (λ (ys : List ℕ). rows_of level (triples_of_shelf e.1) t k ++ ys) (shelves_rows es (other_shelves e es s) t k)
      ∙ ap (λ (xs : List ℕ). xs ++ rows_in level t k (shelf_at es (print_of k))) (shelf_rows level e.0 t k e.1 (first_shelf e es s))
      ∙ by (nat_eq (print_of k) e.0) refl
    where
      by : (b : Bool) → nat_eq (print_of k) e.0 ≡ b → rows_in level t k e.1 ++ rows_in level t k (shelf_at es (print_of k)) ≡ rows_in level t k (shelf_at (e ∷ es) (print_of k))
      by true is = ap (λ (gs : List Group). rows_in level t k e.1 ++ rows_in level t k gs) (no_more e es s.order (print_of k) is) ∙ append-nil (rows_in level t k e.1) ∙ sym (ap (rows_in level t k) (at_head (print_of k) e es is))
      by false apart = ap (λ (xs : List ℕ). xs ++ rows_in level t k (shelf_at es (print_of k))) (other_print level e.0 t k e.1 (first_shelf e es s) apart) ∙ sym (ap (rows_in level t k) (past_head (print_of k) e es apart))

-- ---- the rows of a key changed

abbrev pub Alters : ℕ → ℕ → Value → (List ℕ → List ℕ) → List Group → List (ℕ × List Group) → List (ℕ × List Group) → Type 0
Alters level table key change more old new = (print : ℕ) → shelf_at new print ≡ (if nat_eq (print_of key) print then changed level table key change more (shelf_at old print) else shelf_at old print)

module _ (level table : ℕ) (key : Value) (change : List ℕ → List ℕ) (more : List Group) (old new : List (ℕ × List Group)) (alters : Alters level table key change more old new) (were : AreShelves level old) where
  pub altered_shelves : IsShelf level (print_of key) more → ((g : Group) → is_of_key level table key g ≡ false → IsApart level g more) → ((xs : List ℕ) → RisesFrom 0 xs → RisesFrom 0 (change xs)) → IsInOrder new → AreShelves level new
  altered_shelves first apart rises order = record { order = order; each = λ print. subst (IsShelf level print) (sym (alters print)) (by print (nat_eq (print_of key) print) refl) }
    where
      by : (print : ℕ) (b : Bool) → nat_eq (print_of key) print ≡ b → IsShelf level print (if b then changed level table key change more (shelf_at old print) else shelf_at old print)
      by print true is =
          let same : print_of key ≡ print = grind (arith, is) in
          turned_shelf level table key change more print (shelf_at old print) (subst (λ (p : ℕ). IsShelf level p more) same first) apart rises (were.each print)
      by print false is = were.each print

  pub altered_rows : AreShelves level new → ((t : ℕ) (k : Value) → rows_in level t k more ≡ (if is_one level table key t k then change [] else [])) → (t : ℕ) (k : Value)
      → rows_of level (triples_of new) t k ≡ (if is_one level table key t k then change (rows_of level (triples_of old) t k) else rows_of level (triples_of old) t k)
  altered_rows are first t k =
      shelves_rows level new are t k ∙ ap (rows_in level t k) (alters (print_of k)) ∙ by (nat_eq (print_of key) (print_of k)) refl
      ∙ ap (λ (rows : List ℕ). if is_one level table key t k then change rows else rows) (sym (shelves_rows level old were t k))
    where
      elsewhere : (one : Bool) → is_one level table key t k ≡ one → nat_eq (print_of key) (print_of k) ≡ false → (rows : List ℕ) → rows ≡ (if one then change rows else rows)
      elsewhere false e apart rows = refl
      elsewhere true e apart rows =
          let parts = both (nat_eq table t) (same_key level key k) e in
          let same = (share level key k parts.1).print in
          absurd (grind (arith, same, apart))

      by : (b : Bool) → nat_eq (print_of key) (print_of k) ≡ b → rows_in level t k (if b then changed level table key change more (shelf_at old (print_of k)) else shelf_at old (print_of k)) ≡ (if is_one level table key t k then change (rows_in level t k (shelf_at old (print_of k))) else rows_in level t k (shelf_at old (print_of k)))
      by true is = turned_rows level table key change more t k (shelf_at old (print_of k)) (first t k)
      by false apart = elsewhere (is_one level table key t k) refl apart (rows_in level t k (shelf_at old (print_of k)))

module _ (level table : ℕ) (key : Value) (row : ℕ) (old new : List (ℕ × List Group)) (were : AreShelves level old) where
  module _ (alters : (print : ℕ) → shelf_at new print ≡ (if nat_eq (print_of key) print then noted level table key row (shelf_at old print) else shelf_at old print)) where
    pub noted_shelves : IsInOrder new → AreShelves level new
    noted_shelves = altered_shelves level table key (with_number row) (record { table = table; key = key; rows = row ∷ [] } ∷ []) old new alters were
        (refl, (omega arith, tt), tt, tt) (λ g unlike. (unlike, tt)) (λ xs. rises_with row 0 xs (omega arith))

    pub noted_rows : IsInOrder new → (t : ℕ) (k : Value) → rows_of level (triples_of new) t k ≡ (if is_one level table key t k then with_number row (rows_of level (triples_of old) t k) else rows_of level (triples_of old) t k)
    noted_rows order = altered_rows level table key (with_number row) (record { table = table; key = key; rows = row ∷ [] } ∷ []) old new alters were (noted_shelves order) (λ t k. refl)

  module _ (alters : (print : ℕ) → shelf_at new print ≡ (if nat_eq (print_of key) print then dropped level table key row (shelf_at old print) else shelf_at old print)) where
    pub dropped_shelves : IsInOrder new → AreShelves level new
    dropped_shelves = altered_shelves level table key (without_number row) [] old new alters were tt (λ g unlike. tt) (rises_without row 0)

    pub dropped_rows : IsInOrder new → (t : ℕ) (k : Value) → rows_of level (triples_of new) t k ≡ (if is_one level table key t k then without_number row (rows_of level (triples_of old) t k) else rows_of level (triples_of old) t k)
    dropped_rows order = altered_rows level table key (without_number row) [] old new alters were (dropped_shelves order) (λ t k. either_way (is_one level table key t k) [])
