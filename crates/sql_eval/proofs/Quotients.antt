-- What division leaves over, and when 64 bits hold a quotient.
use Rattle.std.proofs.Common.{◌≡◌, ℕ, zero, suc, ◌+◌, ◌*◌, ◌/◌, ◌%◌, ◌<◌, ◌^◌, arith, refl, sym, ap, subst, ◌∙◌, div-add-mod', div-le_self, mod-lt}
use Rattle.std.specs.Prelude.{ℤ, pos, negsuc, ◌+ℤ◌, ◌-ℤ◌, ◌*ℤ◌, neg_ℤ, ◌≤ℤ◌, ◌<ℤ◌, unsigned_abs, int_lt, int_div, int_rem, FitsSigned, Bool, true, false, ◌&&◌, if◌then◌else◌, nat_lt, ◌==◌, Option, None, Some}
use Rattle.std.specs.Option.{SomeIff}
use Rattle.std.specs.Int.{w64, CanDivide}
use Rattle.std.proofs.lemmas.Bool.{false≢true, false_from_ne_true, lt-ltb, ltb-true}
use Rattle.std.proofs.lemmas.Int.{ints, quot-rem, rem_below}
use Rattle.sql_eval.specs.Value.{is_across, is_zero, number, quotient}
use Rattle.sql_eval.specs.Inside.ValueRef.{computed_of}
use Rattle.sql_eval.specs.Laws.{IsRestOf, IsRestBelow}
use Rattle.sql_eval.proofs.Range.{computed_is_number, not_zero, number_past}

-- ---- toward zero

taken_away : (part rest whole : ℤ) → part +ℤ rest ≡ whole → whole -ℤ part ≡ rest
taken_away part rest whole is = omega (arith, ints)

below_zero : (n : ℕ) → neg_ℤ (pos n) ≤ℤ pos 0
below_zero n = omega (arith, ints)

some_amount : (b : ℤ) → is_zero b ≡ false → 0 < unsigned_abs b
some_amount (pos zero) some = absurd (false≢true (sym some))
some_amount (pos (suc b)) some = omega arith
some_amount (negsuc b) some = omega arith

rest_of : (a b : ℤ) → is_zero b ≡ false → IsRestOf a b (int_rem a b)
rest_of (pos a) b some = (omega (arith, ints), rem_below (pos a) b (some_amount b some))
rest_of (negsuc a) b some = (below_zero _, rem_below (negsuc a) b (some_amount b some))

pub rounds_toward_zero : (a b : ℤ) → is_zero b ≡ false → IsRestOf a b (a -ℤ quotient 1 a b *ℤ b)
rounds_toward_zero a b some = subst (IsRestOf a b) (sym (taken_away (int_div a b *ℤ b) (int_rem a b) a (quot-rem a b))) (rest_of a b some)

-- ---- toward minus infinity

-- one less, where the rest is across
abbrev lowered : Bool → ℤ → ℤ
lowered across q = if across then q -ℤ pos 1 else q

both_over : (q b r a : ℕ) → q * suc b + r ≡ a → r < suc b → IsRestBelow (pos (suc b)) (pos a -ℤ pos q *ℤ pos (suc b))
both_over q b r a is less = (omega (arith, ints), omega (arith, ints))

divisor_under : (q b r a : ℕ) → q * suc b + r ≡ a → r < suc b → IsRestBelow (negsuc b) (pos a -ℤ lowered (is_across (negsuc b) (pos r)) (neg_ℤ (pos q)) *ℤ negsuc b)
divisor_under zero b zero a is less = (omega (arith, ints), omega (arith, ints))
divisor_under (suc q) b zero a is less = (omega (arith, ints), omega (arith, ints))
divisor_under zero b (suc r) a is less = (omega (arith, ints), omega (arith, ints))
divisor_under (suc q) b (suc r) a is less = (omega (arith, ints), omega (arith, ints))

dividend_under : (q b r a : ℕ) → q * suc b + r ≡ suc a → r < suc b → IsRestBelow (pos (suc b)) (negsuc a -ℤ lowered (is_across (pos (suc b)) (neg_ℤ (pos r))) (neg_ℤ (pos q)) *ℤ pos (suc b))
dividend_under zero b zero a is less = absurd (omega arith)
dividend_under (suc q) b zero a is less = (omega (arith, ints), omega (arith, ints))
dividend_under zero b (suc r) a is less = (omega (arith, ints), omega (arith, ints))
dividend_under (suc q) b (suc r) a is less = (omega (arith, ints), omega (arith, ints))

both_under : (q b r a : ℕ) → q * suc b + r ≡ suc a → r < suc b → IsRestBelow (negsuc b) (negsuc a -ℤ lowered (is_across (negsuc b) (neg_ℤ (pos r))) (pos q) *ℤ negsuc b)
both_under q b zero a is less = (omega (arith, ints), omega (arith, ints))
both_under q b (suc r) a is less = (omega (arith, ints), omega (arith, ints))

pub rounds_down : (a b : ℤ) → is_zero b ≡ false → IsRestBelow b (a -ℤ quotient 2 a b *ℤ b)
rounds_down a (pos zero) some = absurd (false≢true (sym some))
rounds_down (pos a) (pos (suc b)) some = both_over (a / suc b) b (a % suc b) a (div-add-mod' a (suc b)) (mod-lt a (omega arith))
rounds_down (pos a) (negsuc b) some = divisor_under (a / suc b) b (a % suc b) a (div-add-mod' a (suc b)) (mod-lt a (omega arith))
rounds_down (negsuc a) (pos (suc b)) some = dividend_under (suc a / suc b) b (suc a % suc b) a (div-add-mod' (suc a) (suc b)) (mod-lt (suc a) (omega arith))
rounds_down (negsuc a) (negsuc b) some = both_under (suc a / suc b) b (suc a % suc b) a (div-add-mod' (suc a) (suc b)) (mod-lt (suc a) (omega arith))

-- ---- the other side of 0

none_below : (n : ℕ) → nat_lt n 0 ≡ false
none_below n = false_from_ne_true (nat_lt n 0) (λ e. let below = ltb-true n 0 e in omega (arith, below))

pub across_below : (d r : ℤ) → int_lt d (pos 0) ≡ true → int_lt (pos 0) r ≡ is_across d r
across_below (pos d) r below = absurd (false≢true (sym (none_below d) ∙ below))
across_below (negsuc d) (pos zero) below = refl
across_below (negsuc d) (pos (suc r)) below = lt-ltb 0 (suc r) (omega arith)
across_below (negsuc d) (negsuc r) below = refl

pub across_above : (d r : ℤ) → int_lt d (pos 0) ≡ false → int_lt r (pos 0) ≡ is_across d r
across_above (pos d) (pos r) above = none_below r
across_above (pos d) (negsuc r) above = refl
across_above (negsuc d) r above = absurd (false≢true (sym above))

-- ---- the range

-- beneath a dividend that is not negative nothing is on the other side of a positive divisor, and so on
across_under : (b : ℕ) (r : ℕ) → is_across (negsuc b) (neg_ℤ (pos r)) ≡ false
across_under b zero = refl
across_under b (suc r) = refl

under_fits : (n : ℕ) → n < 2 ^ 63 + 1 → FitsSigned w64 (neg_ℤ (pos n))
under_fits zero less = record { sfits = omega arith }
under_fits (suc n) less = record { sfits = omega arith }

-- a quotient with a rest on the other side of the divisor is within the range
across_fits : (a b : ℤ) → FitsSigned w64 a → is_across b (int_rem a b) ≡ true → FitsSigned w64 (int_div a b)
across_fits (pos a) (pos b) fits across = absurd (false≢true across)
across_fits (pos a) (negsuc b) fits across = let most = fits.sfits in under_fits (a / suc b) (omega (arith, div-le_self a (suc b), most))
across_fits (negsuc a) (pos b) fits across = let most = fits.sfits in under_fits (suc a / b) (omega (arith, div-le_self (suc a) b, most))
across_fits (negsuc a) (negsuc b) fits across = absurd (false≢true (sym (across_under b _) ∙ across))

-- ---- what the code computes

module _ (level : ℕ) (a b : ℤ) where
  -- without a quotient in the range there is none at any level
  pub quotient_none : FitsSigned w64 a → FitsSigned w64 b → (CanDivide w64 a b → ⊥) → is_zero b ≡ false → computed_of None ≡ number (quotient level a b)
  quotient_none fits_a fits_b not some =
      let past : FitsSigned w64 (int_div a b) → ⊥ = λ fits. not (not_zero b fits_b some, fits) in
      elim (is_across b (int_rem a b)) as (λ across. is_across b (int_rem a b) ≡ across → computed_of None ≡ number (lowered (level == 2 && across) (int_div a b))) [
        | true ↦ λ across. absurd (past (across_fits a b fits_a across))
        | false ↦ λ _. elim (level == 2) as (λ two. computed_of None ≡ number (lowered (two && false) (int_div a b))) [ true ↦ number_past (int_div a b) past | false ↦ number_past (int_div a b) past ]
      ] refl

  pub quotient_lowered : (q rest : ℤ) (r : Option ℤ) → q ≡ int_div a b → rest ≡ int_rem a b → (level == 2 && is_across b rest) ≡ true → SomeIff r (FitsSigned w64 (q -ℤ pos 1)) (q -ℤ pos 1) → computed_of r ≡ number (quotient level a b)
  quotient_lowered q rest r first second across fits =
      let down : quotient level a b ≡ int_div a b -ℤ pos 1 = ap (λ l. lowered l (int_div a b)) (ap (λ (z : ℤ). level == 2 && is_across b z) (sym second) ∙ across) in
      computed_is_number r (q -ℤ pos 1) fits ∙ ap number (ap (λ (z : ℤ). z -ℤ pos 1) first ∙ sym down)

  pub quotient_kept : (q rest : ℤ) → CanDivide w64 a b → q ≡ int_div a b → rest ≡ int_rem a b → (level == 2 && is_across b rest) ≡ false → computed_of (Some q) ≡ number (quotient level a b)
  quotient_kept q rest can first second across =
      let kept : quotient level a b ≡ int_div a b = ap (λ l. lowered l (int_div a b)) (ap (λ (z : ℤ). level == 2 && is_across b z) (sym second) ∙ across) in
      computed_is_number (Some q) (int_div a b) (can.1, first) ∙ ap number (sym kept)
