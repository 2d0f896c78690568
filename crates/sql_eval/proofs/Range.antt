-- A checked operation gives a number exactly where it is within 64 bits.
use Rattle.std.proofs.Common.{◌≡◌, zero, suc, ◌<◌, ◌^◌, arith, ap}
use Rattle.std.specs.Prelude.{ℤ, pos, negsuc, true, false, nat_lt, Option, None, Some, int_div, FitsSigned, Ok}
use Rattle.std.specs.Option.{SomeIff}
use Rattle.std.specs.Int.{w64, CanDivide, IsNonZero}
use Rattle.std.proofs.lemmas.Bool.{lt-ltb, ltb-true, false_from_ne_true}
use Rattle.desk_values.specs.declared.value.Value.TheVariants.{Int}
use Rattle.sql_eval.specs.Value.{is_in_range, is_zero, number}
use Rattle.sql_eval.specs.Inside.ValueRef.{computed_of}

in_range : (z : ℤ) → FitsSigned w64 z → is_in_range z ≡ true
in_range (pos n) h = lt-ltb n (2 ^ 63) h.sfits
in_range (negsuc n) h = lt-ltb n (2 ^ 63) h.sfits

out_of_range : (z : ℤ) → (FitsSigned w64 z → ⊥) → is_in_range z ≡ false
out_of_range (pos n) h = false_from_ne_true (nat_lt n (2 ^ 63)) (λ e. h (record { sfits = ltb-true n (2 ^ 63) e }))
out_of_range (negsuc n) h = false_from_ne_true (nat_lt n (2 ^ 63)) (λ e. h (record { sfits = ltb-true n (2 ^ 63) e }))

pub computed_is_number : (r : Option ℤ) (z : ℤ) → SomeIff r (FitsSigned w64 z) z → computed_of r ≡ number z
computed_is_number None z h = rw (out_of_range z h)
computed_is_number (Some n) z h = rw (in_range z h.0) (ap (λ m. Ok (Int m)) h.1)

pub not_zero : (b : ℤ) → FitsSigned w64 b → is_zero b ≡ false → IsNonZero w64 b
not_zero (pos zero) f h = absurd (cc h)
not_zero (pos (suc n)) f h = omega arith
not_zero (negsuc n) f h = let bound : n < 2 ^ 63 = f.sfits in omega (arith, bound)

pub number_past : (z : ℤ) → (FitsSigned w64 z → ⊥) → computed_of None ≡ number z
number_past z h = rw (out_of_range z h)
