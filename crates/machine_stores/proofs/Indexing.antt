-- Rows that are found by their numbers.
use Rattle.std.proofs.Common.{◌≡◌, ◌≢◌, ℕ, suc, ◌+◌, ◌<◌, ◌≤◌, true, false, ◌||◌, ltb, eqb, if◌then◌else◌, List, [], ◌∷◌, length, get_or, None, Some, refl, sym, ap, ◌∙◌, arith}
use Rattle.std.specs.Prelude.{nat_eq}
use Rattle.std.specs.List.{AllByRecursion, list_any}
use Rattle.std.proofs.lemmas.Bool.{ltb-true, eqb-true, eq-eqb, ne_eqb}
use Rattle.std.proofs.lemmas.Bool.Decides.{nat_tests}
use Rattle.desk_values.specs.declared.value.Image.{Image}
use Rattle.server_words.specs.Rows.{IsRising, RisesFrom, lay, placed, shown, is_there, row_at}
use Rattle.server_words.specs.Writes.{is_among}
use Rattle.server_words.specs.Inside.Rows.{place}
use Rattle.server_words.proofs.Members.{each_at}

-- ---- the row of a number

pub row_at_is : (row : ℕ) (xs : List Image) (x : Image) → row_at row xs ≡ Some x → x.row ≡ row
row_at_is row [] x at = absurd (cc)
row_at_is row (y ∷ ys) x at = elim (eqb y.row row) as (λ b. eqb y.row row ≡ b → (if b then Some y else row_at row ys) ≡ Some x → x.row ≡ row) [
  | true ↦ λ same here. let is : y ≡ x = cc in ap (λ (z : Image). z.row) (sym is) ∙ eqb-true y.row row same
  | false ↦ λ apart later. row_at_is row ys x later
] refl at

pub none_above : (row n : ℕ) (xs : List Image) → RisesFrom n xs → row < n → row_at row xs ≡ None
none_above row n [] up lt = refl
none_above row n (x ∷ xs) up lt = rw (ne_eqb x.row row (λ e. omega (arith, up.0))) (none_above row (x.row + 1) xs up.1 (omega (arith, up.0)))

-- what stands at its place is the row, or there is none
pub found_row : (row : ℕ) (xs : List Image) (at : ℕ) (x : Image) → at ≡ place row xs → at < length xs → x ≡ get_or xs at x → x.row ≡ row → Some x ≡ row_at row xs
found_row row [] at x is within read same = absurd (omega arith)
found_row row (y ∷ ys) at x is within read same = elim (ltb y.row row) as (λ b. ltb y.row row ≡ b → at ≡ (if b then 1 + place row ys else 0) → Some x ≡ row_at row (y ∷ ys)) [
  | true ↦ λ below later. rw (ne_eqb y.row row (λ e. omega (arith, ltb-true _ _ below))) (let next : at ≡ suc (place row ys) = omega (arith, later) in found_row row ys (place row ys) x refl (omega arith) (rw next at read) same)
  | false ↦ λ above here. let is_x : x ≡ y = rw here at read in rw (← is_x) (rw (eq-eqb x.row row same) refl)
] refl is

pub no_row_here : (row n : ℕ) (xs : List Image) (at : ℕ) (x : Image) → RisesFrom n xs → at ≡ place row xs → at < length xs → x ≡ get_or xs at x → x.row ≢ row → None ≡ row_at row xs
no_row_here row n [] at x up is within read apart = absurd (omega arith)
no_row_here row n (y ∷ ys) at x up is within read apart = elim (ltb y.row row) as (λ b. ltb y.row row ≡ b → at ≡ (if b then 1 + place row ys else 0) → None ≡ row_at row (y ∷ ys)) [
  | true ↦ λ below later. rw (ne_eqb y.row row (λ e. omega (arith, ltb-true _ _ below))) (let next : at ≡ suc (place row ys) = omega (arith, later) in no_row_here row (y.row + 1) ys (place row ys) x up.1 refl (omega arith) (rw next at read) apart)
  | false ↦ λ above here.
      let is_x : x ≡ y = rw here at read in
      let other : y.row ≢ row = rw is_x at apart in
      rw (ne_eqb y.row row other) (sym (none_above row (y.row + 1) ys up.1 (grind (arith, nat_tests))))
] refl is

pub no_row_beyond : (row : ℕ) (xs : List Image) → length xs ≤ place row xs → None ≡ row_at row xs
no_row_beyond row [] beyond = refl
no_row_beyond row (y ∷ ys) beyond = elim (ltb y.row row) as (λ b. ltb y.row row ≡ b → suc (length ys) ≤ (if b then 1 + place row ys else 0) → None ≡ row_at row (y ∷ ys)) [
  | true ↦ λ below later. rw (ne_eqb y.row row (λ e. omega (arith, ltb-true _ _ below))) (no_row_beyond row ys (omega arith))
  | false ↦ λ above here. absurd (omega arith)
] refl beyond

-- rising rows are found by their numbers
own_rows_in : (whole : List Image) (n : ℕ) (xs : List Image) → RisesFrom n xs → ((row : ℕ) → n ≤ row → row_at row whole ≡ row_at row xs) → AllByRecursion (λ x. row_at x.row whole ≡ Some x) xs
own_rows_in whole n [] up same = tt
own_rows_in whole n (x ∷ xs) up same =
    let here : row_at x.row (x ∷ xs) ≡ Some x = rw (eq-eqb x.row x.row refl) refl in
    (same x.row up.0 ∙ here, own_rows_in whole (x.row + 1) xs up.1 (λ row le. let past : row_at row (x ∷ xs) ≡ row_at row xs = rw (ne_eqb x.row row (λ e. omega arith)) refl in same row (omega (arith, up.0)) ∙ past))

pub own_rows : (xs : List Image) → IsRising xs → AllByRecursion (λ x. row_at x.row xs ≡ Some x) xs
own_rows xs up = own_rows_in xs 0 xs up (λ row le. refl)

pub own_row : (xs : List Image) (i : ℕ) (x : Image) → IsRising xs → i < length xs → x ≡ get_or xs i x → row_at x.row xs ≡ Some x
own_row xs i x up within read = rw (← read) at (each_at (λ (y : Image). row_at y.row xs ≡ Some y) xs i x within (own_rows xs up))

-- a row that is found is among them
pub found_among : (xs : List Image) (x : Image) → row_at x.row xs ≡ Some x → is_among xs x ≡ true
found_among [] x at = absurd (cc)
found_among (y ∷ ys) x at = elim (eqb y.row x.row) as (λ b. (if b then Some y else row_at x.row ys) ≡ Some x → (b || is_among ys x) ≡ true) [
  | true ↦ λ here. refl
  | false ↦ λ later. found_among ys x later
] at

-- ---- rows with changes over them

pub row_beside : (row : ℕ) (c : Image) (xs : List Image) → c.row ≢ row → row_at row (placed shown c xs) ≡ row_at row xs
row_beside row c [] apart = elim (is_there c) as (λ b. row_at row (if b then c ∷ [] else []) ≡ None) [ true ↦ rw (ne_eqb c.row row apart) refl | false ↦ refl ]
row_beside row c (x ∷ xs) apart = grind (arith, nat_tests, apart, row_beside row c xs apart)

pub row_laid : (row : ℕ) (xs cs : List Image) → list_any (λ (c : Image). nat_eq c.row row) cs ≡ false → row_at row (lay xs cs) ≡ row_at row xs
row_laid row xs [] none = refl
row_laid row xs (c ∷ cs) none = elim (eqb c.row row) as (λ b. eqb c.row row ≡ b → (b || list_any (λ (d : Image). nat_eq d.row row) cs) ≡ false → row_at row (lay (placed shown c xs) cs) ≡ row_at row xs) [
  | true ↦ λ same any. absurd (cc)
  | false ↦ λ apart any. row_laid row (placed shown c xs) cs any ∙ row_beside row c xs (λ e. let both : eqb c.row row ≡ true = eq-eqb c.row row e in cc)
] refl none
