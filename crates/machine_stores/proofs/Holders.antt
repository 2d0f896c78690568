-- Whether one of several sessions is told.
use Rattle.std.proofs.Common.{◌≡◌, ◌≢◌, ℕ, zero, suc, ◌+◌, ◌-◌, ◌<◌, ◌≤◌, Bool, true, false, ◌||◌, ◌&&◌, eqb, leb, ltb, List, [], ◌∷◌, length, get_or, Option, None, Some, refl, sym, ap, ◌∙◌, true≢false, arith, le-leb, leb-true, leb-false, le-ltb, lt-ltb, ltb-true}
use Rattle.std.specs.Cmp.{both_ways}
use Rattle.std.specs.List.{list_any}
use Rattle.std.proofs.lemmas.Bool.{eqb-true, eq-eqb}
use Rattle.hold_index.specs.Told.{is_told}
use Rattle.machine_stores.specs.Inside.Holds.{is_within}

left_of_and : (a b : Bool) → (a && b) ≡ true → a ≡ true
left_of_and true b both = refl
left_of_and false b both = both

right_of_and : (a b : Bool) → (a && b) ≡ true → b ≡ true
right_of_and true b both = both
right_of_and false b both = absurd (true≢false (sym both))

both_true : (first count t : ℕ) → first ≤ t → t - first < count → (leb first t && ltb (t - first) count) ≡ true
both_true first count t up low = ap (λ (b : Bool). b && ltb (t - first) count) (le-leb first t up) ∙ lt-ltb (t - first) count low

from_next : (first count : ℕ) (told : Option ℕ) → (is_told first told || is_within (suc first) count told) ≡ is_within first (suc count) told
from_next first count None = refl
from_next first count (Some t) = elim (eqb first t) as (λ b. eqb first t ≡ b → (b || (leb (suc first) t && ltb (t - suc first) count)) ≡ (leb first t && ltb (t - first) (suc count))) [
  | true ↦ λ same.
      let is : first ≡ t = eqb-true first t same in
      sym (both_true first (suc count) t (omega (arith, is)) (omega (arith, is)))
  | false ↦ λ apart.
      let ne : first ≢ t = λ e. (let both : eqb first t ≡ true = eq-eqb first t e in cc) in
      both_ways (leb (suc first) t && ltb (t - suc first) count) (leb first t && ltb (t - first) (suc count))
      (λ e.
      let up : suc first ≤ t = leb-true (suc first) t (left_of_and (leb (suc first) t) (ltb (t - suc first) count) e) in
      let low : t - suc first < count = ltb-true (t - suc first) count (right_of_and (leb (suc first) t) (ltb (t - suc first) count) e) in
      both_true first (suc count) t (omega (arith, up)) (omega (arith, up, low)))
      (λ e.
      let up : first ≤ t = leb-true first t (left_of_and (leb first t) (ltb (t - first) (suc count)) e) in
      let low : t - first < suc count = ltb-true (t - first) (suc count) (right_of_and (leb first t) (ltb (t - first) (suc count)) e) in
      let over : suc first ≤ t =
      elim (leb (suc first) t) as (λ b. leb (suc first) t ≡ b → suc first ≤ t) [
        | true ↦ λ is. leb-true (suc first) t is
        | false ↦ λ none. absurd (ne (let less : t < suc first = leb-false (suc first) t none in omega (arith, up, less)))
      ] refl in
      both_true (suc first) count t over (omega (arith, over, low)))
] refl

from_none : (first : ℕ) (told : Option ℕ) → is_within first 0 told ≡ false
from_none first None = refl
from_none first (Some t) =
    elim (leb first t) as (λ b. (b && ltb (t - first) 0) ≡ false) [
      | true ↦ le-ltb (t - first) 0 (omega arith)
      | false ↦ refl
    ]

-- of several that stand in a row from this number on, one passes the test if one is told
pub any_told : {X : Type 0} (p : X → Bool) (default : X) (told : Option ℕ) (xs : List X) (first : ℕ) → ((t : ℕ) → t < length xs → p (get_or xs t default) ≡ is_told (first + t) told) → list_any p xs ≡ is_within first (length xs) told
any_told p default told [] first each = sym (from_none first told)
any_told p default told (x ∷ xs) first each =
    let start : first + zero ≡ first = omega arith in
    let here : p x ≡ is_told first told = each zero (omega arith) ∙ ap (λ (n : ℕ). is_told n told) start in
    let there : list_any p xs ≡ is_within (suc first) (length xs) told =
    any_told p default told xs (suc first) (λ t below.
    let moved : first + suc t ≡ suc first + t = omega arith in
    each (suc t) (omega (arith, below)) ∙ ap (λ (n : ℕ). is_told n told) moved) in
    ap (λ (b : Bool). b || list_any p xs) here ∙ ap (λ (b : Bool). is_told first told || b) there ∙ from_next first (length xs) told
