-- Tables that stand in two sets.
use Rattle.std.proofs.Common.{◌≡◌, ℕ, zero, suc, ◌<◌, ◌^◌, true, false, ◌&&◌, refl, sym, ap, ◌∙◌, arith, inl, inr}
use Rattle.std.specs.Int.{bit_at}
use Rattle.std.specs.Int.Bits.{bit_and}
use Rattle.std.specs.Prelude.{nat_eq, not, min}
use Rattle.std.proofs.lemmas.Bool.{cases_Bool, cases_eq, or_cases, or_left, or_right, and_parts, and_from, eq-eqb, eqb-true, ne_eqb, false≢true}
use Rattle.std.proofs.lemmas.Nat.Bits.{bit_at_and, bit_at-lt, bit_at-zero, same_from_bits_below}
use Rattle.std.proofs.lemmas.Nat.{and_le_l}
use Rattle.object_depends.specs.Facts.{has_table}
use Rattle.object_depends.specs.Required.{shares_to}

pub shares_from : (left right n t : ℕ) → t < n → (has_table left t && has_table right t) ≡ true → shares_to left right n ≡ true
unfolding shares_to
shares_from left right zero t lt is = absurd (omega arith)
shares_from left right (suc n) t lt is =
    elim (cases_eq t n) [
      | inl e ↦ or_right _ _ (ap (λ m. has_table left m && has_table right m) (sym e) ∙ is)
      | inr other ↦ or_left _ _ (shares_from left right n t (omega arith) is)
    ]

pub shares_some : (left right n : ℕ) → shares_to left right n ≡ true → (t : ℕ) × (t < n) × (has_table left t ≡ true) × (has_table right t ≡ true)
unfolding shares_to
shares_some left right zero e = absurd cc
shares_some left right (suc n) e =
    elim (or_cases _ _ e) [
      | inl before ↦ let some = shares_some left right n before in (some.0, omega (arith, some.1), some.2, some.3)
      | inr here ↦ let parts = and_parts _ _ here in (n, omega arith, parts.0, parts.1)
    ]

not_both : (left right i : ℕ) → i < 32 → shares_to left right 32 ≡ false → min (bit_at left i) (bit_at right i) ≡ 0
not_both left right i lt none =
    elim (cases_eq (bit_at left i) 1) [
      | inl one ↦
          elim (cases_eq (bit_at right i) 1) [
            | inl two ↦ absurd (false≢true (sym none ∙ shares_from left right 32 i lt (and_from _ _ (eq-eqb _ _ one) (eq-eqb _ _ two))))
            | inr other ↦ omega (arith, bit_at-lt right i)
          ]
      | inr other ↦ omega (arith, bit_at-lt left i)
    ]

and_none : (left right : ℕ) → left < 2 ^ 32 → shares_to left right 32 ≡ false → bit_and left right ≡ 0
and_none left right fits none =
    same_from_bits_below 32 (bit_and left right) 0 (omega (arith, and_le_l left right)) (omega arith)
    (λ i lt.
    bit_at_and left right i
    ∙ not_both left right i lt none ∙ sym (bit_at-zero i))

and_some : (left right : ℕ) → shares_to left right 32 ≡ true → bit_and left right ≡ 0 → ⊥
and_some left right is none =
    let some = shares_some left right 32 is in
    let one : bit_at left some.0 ≡ 1 = eqb-true _ _ some.2 in
    let two : bit_at right some.0 ≡ 1 = eqb-true _ _ some.3 in
    let and = bit_at_and left right some.0 in
    let zero = ap (λ n. bit_at n some.0) none in
    omega (arith, one, two, and, zero, bit_at-zero some.0)

-- two sets share a table exactly where they share a bit
pub shares_is : (left right : ℕ) → left < 2 ^ 32 → not (nat_eq (bit_and left right) 0) ≡ shares_to left right 32
shares_is left right fits =
    elim (cases_Bool (shares_to left right 32)) [
      | inl is ↦ let e : nat_eq (bit_and left right) 0 ≡ false = ne_eqb _ _ (and_some left right is) in rw (e, is) refl
      | inr none ↦ let e : nat_eq (bit_and left right) 0 ≡ true = eq-eqb _ _ (and_none left right fits none) in rw (e, none) refl
    ]
