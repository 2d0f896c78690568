-- Reading numbers undoes writing them.
use Rattle.std.proofs.Common.{◌≡◌, ℕ, zero, suc, ◌+◌, ◌-◌, ◌*◌, ◌^◌, ◌<◌, ◌≤◌, true, false, eqb, ltb, leb, not, ◌&&◌, ℤ, pos, negsuc, List, [], ◌∷◌, length, get_or, drop, Option, Some, None, Result, Ok, Err, refl, sym, ap, subst, ◌∙◌, arith, inl, inr, lit<}
use Rattle.std.specs.Prelude.{FitsSigned}
use Rattle.std.specs.Char.{digit_value, is_ascii_digit}
use Rattle.std.specs.Int.{w64}
use Rattle.std.specs.Result.{result_ok, OkIff}
use Rattle.std.specs.Fmt.{decimal, signed_decimal}
use Rattle.std.specs.Str.{bytes_eq}
use Rattle.std.specs.Str.Parse.{digits_value, digits_value_after, IsNumeral, AllDigits}
use Rattle.std.proofs.lemmas.Bool.{ne_eqb, eqb-true, eqb-false, ltb-true, lt-ltb, leb-true, le-leb, and_parts, and_from, and_cases, not-false, both_ways, cond-true}
use Rattle.std.proofs.lemmas.Option.{same_Some, cond_some}
use Rattle.std.proofs.lemmas.Slice.Eq.{bytes_eq-Decides}
use Rattle.std.proofs.lemmas.Str.{digit_value_digit}
use Rattle.std.proofs.lemmas.Str.Parse.{numerals_by_value, tells_digits, IsNumeralModel, digit_from_value}
use Rattle.std.proofs.lemmas.Fmt.{decimal_is_IsNumeral, decimal-digits_value, decimal_digit, first_decimal}
use Rattle.desk_values.specs.Reading.{number_of, number_below, integer_of, negative, not_negative, ◌>>=◌}
use Rattle.desk_values.specs.Inside.{is_loose, number_after}
use Rattle.desk_values.proofs.Options.{bind_some, chosen, none_from, when_some}
use Rattle.desk_values.proofs.Readers.{IsReader, first_of}

-- ---- numbers without a sign

number_taken : (bytes : List ℕ) (n : ℕ) → number_of bytes ≡ Some n → (n < 2 ^ 64) × (bytes ≡ decimal n)
unfolding number_of
number_taken bytes n e =
    let found = digits_value 10 bytes in
    let test = cond_some (bytes_eq (decimal found) bytes && ltb found (2 ^ 64)) found n e in
    let both = and_parts (bytes_eq (decimal found) bytes) (ltb found (2 ^ 64)) test.0 in
    subst (λ (m : ℕ). (m < 2 ^ 64) × (bytes ≡ decimal m)) test.1 (ltb-true found (2 ^ 64) both.1, sym ((bytes_eq-Decides (decimal found) bytes).0 both.0))

number_again : (n : ℕ) → n < 2 ^ 64 → number_of (decimal n) ≡ Some n
unfolding number_of
number_again n lt =
    let value : digits_value 10 (decimal n) ≡ n = (decimal_is_IsNumeral n lt).1 in
    let same : bytes_eq (decimal n) (decimal n) ≡ true = (bytes_eq-Decides (decimal n) (decimal n)).1 refl in
    rw (value, same, lt-ltb n (2 ^ 64) lt) refl

pub numbers : IsReader number_of (λ n. n < 2 ^ 64) decimal
numbers = record { takes = number_taken; again = number_again }

-- no number begins with a zero before more
not_loose_above : (bytes : List ℕ) → 48 < get_or bytes 0 0 → is_loose bytes ≡ false
not_loose_above [] above = absurd (omega arith)
not_loose_above (first ∷ rest) above = rw (ne_eqb first 48 (omega arith)) refl

not_loose : (n : ℕ) → n < 2 ^ 64 → is_loose (decimal n) ≡ false
not_loose zero lt = rw (decimal_digit 0 (lit< tt)) refl
not_loose (suc n) lt = not_loose_above (decimal (suc n)) (first_decimal (suc n) (omega arith) lt)

pub loose_is_none : (bytes : List ℕ) → is_loose bytes ≡ true → number_of bytes ≡ None
loose_is_none bytes loose = none_from (number_of bytes) (λ n e.
    let taken = number_taken bytes n e in
    both_ways (is_loose bytes) (ap is_loose taken.1 ∙ not_loose n taken.0) loose)

tight_some : (bytes : List ℕ) → is_loose bytes ≡ false → 0 < length bytes
tight_some [] h = absurd cc
tight_some (first ∷ rest) h = omega arith

not_zero_before : (bytes : List ℕ) → is_loose bytes ≡ false → get_or bytes 0 0 ≡ 48 → length bytes ≡ 1
not_zero_before [] h e = absurd (omega arith)
not_zero_before (first ∷ rest) h e =
    elim (and_cases (eqb first 48) (not (eqb (length rest) 0)) h) [
      | inl other ↦ absurd (eqb-false first 48 other e)
      | inr empty ↦ omega (arith, eqb-true (length rest) 0 (not-false _ empty))
    ]

abbrev own : IsNumeralModel (AllDigits 10) (digits_value 10)
own = numerals_by_value (AllDigits 10) tells_digits

abbrev IsParsed : {E : Type 0} → List ℕ → Result ℕ E → Type 0
IsParsed bytes r = OkIff r (IsNumeral 10 bytes × (digits_value 10 bytes < 2 ^ 64)) (digits_value 10 bytes)

parsed : {E : Type 0} (bytes : List ℕ) (r : Result ℕ E) → is_loose bytes ≡ false → IsParsed bytes r → result_ok r ≡ number_of bytes
parsed bytes (Ok n) canonical h =
    let text : decimal (digits_value 10 bytes) ≡ bytes = decimal-digits_value own bytes h.0.0.1 h.0.0.0 (not_zero_before bytes canonical) h.0.1 in
    ap Some h.1 ∙ sym (number_again (digits_value 10 bytes) h.0.1) ∙ ap number_of text
parsed bytes (Err e) canonical h = sym (none_from (number_of bytes) (λ n is.
    let taken = number_taken bytes n is in
    let numeral = decimal_is_IsNumeral n taken.0 in
    h (subst (λ (ds : List ℕ). IsNumeral 10 ds × (digits_value 10 ds < 2 ^ 64)) (sym taken.1) (numeral.0, subst (λ (m : ℕ). m < 2 ^ 64) (sym numeral.1) taken.0))))

-- ---- digit by digit

digit_range : (digit : ℕ) → is_ascii_digit digit ≡ true → (48 ≤ digit) × (digit ≤ 57)
digit_range digit e = let both = and_parts (leb 48 digit) (leb digit 57) e in (leb-true 48 digit both.0, leb-true digit 57 both.1)

value_after_ge : (n : ℕ) (ds : List ℕ) → n ≤ digits_value_after 10 n ds
value_after_ge n [] = omega arith
value_after_ge n (digit ∷ ds) = omega (arith, value_after_ge (n * 10 + digit_value digit) ds)

record AreDigits (n : ℕ) (ds : List ℕ) (m : ℕ) : Type 0 where
  all : AllDigits 10 ds
  value : digits_value_after 10 n ds ≡ m
  small : m < 2 ^ 64

after_some : (n : ℕ) (ds : List ℕ) (m : ℕ) → n < 2 ^ 64 → number_after n ds ≡ Some m → AreDigits n ds m
after_some n [] m lt e = let same = same_Some n m e in record { all = tt; value = same; small = subst (λ (k : ℕ). k < 2 ^ 64) same lt }
after_some n (digit ∷ ds) m lt e =
    let test = when_some (is_ascii_digit digit && ltb (n * 10 + (digit - 48)) (2 ^ 64)) (number_after (n * 10 + (digit - 48)) ds) m e in
    let both = and_parts (is_ascii_digit digit) (ltb (n * 10 + (digit - 48)) (2 ^ 64)) test.0 in
    let range = digit_range digit both.0 in
    let value : digit_value digit ≡ digit - 48 = omega (arith, digit_value_digit digit range) in
    let most : digit ≤ 57 = range.1 in
    let rest = after_some (n * 10 + (digit - 48)) ds m (ltb-true (n * 10 + (digit - 48)) (2 ^ 64) both.1) test.1 in
    record {
      all = (omega arith, rest.all);
      value = ap (λ (d : ℕ). digits_value_after 10 (n * 10 + d) ds) value ∙ rest.value;
      small = rest.small;
    }

after_all : (n : ℕ) (ds : List ℕ) → AllDigits 10 ds → digits_value_after 10 n ds < 2 ^ 64 → number_after n ds ≡ Some (digits_value_after 10 n ds)
after_all n [] all lt = refl
after_all n (digit ∷ ds) all lt =
    let range = digit_from_value digit all.0 in
    let value : digit_value digit ≡ digit - 48 = omega (arith, digit_value_digit digit range) in
    let small : n * 10 + (digit - 48) < 2 ^ 64 = omega (arith, value, value_after_ge (n * 10 + digit_value digit) ds, lt) in
    let is_digit : is_ascii_digit digit ≡ true = and_from (leb 48 digit) (leb digit 57) (le-leb 48 digit range.0) (le-leb digit 57 range.1) in
    cond-true (is_ascii_digit digit && ltb (n * 10 + (digit - 48)) (2 ^ 64)) (number_after (n * 10 + (digit - 48)) ds) None
    (and_from (is_ascii_digit digit) (ltb (n * 10 + (digit - 48)) (2 ^ 64)) is_digit (lt-ltb (n * 10 + (digit - 48)) (2 ^ 64) small))
    ∙ ap (λ (d : ℕ). number_after (n * 10 + d) ds) (sym value) ∙ after_all (n * 10 + digit_value digit) ds all.1 lt

pub digits_are : (bytes : List ℕ) → is_loose bytes ≡ false → number_after 0 bytes ≡ number_of bytes
digits_are bytes tight = by_found (number_after 0 bytes) refl
  where
    by_found : (read : Option ℕ) → number_after 0 bytes ≡ read → read ≡ number_of bytes
    by_found None none = parsed {E = ℕ} bytes (Err 0) tight (λ p.
        let never : ◌≡◌ {A = Option ℕ} None (Some (digits_value 10 bytes)) = sym none ∙ after_all 0 bytes p.0.1 p.1 in
        cc)
    by_found (Some m) found =
        let taken = after_some 0 bytes m (lit< tt) found in
        parsed {E = ℕ} bytes (Ok m) tight
        (((tight_some bytes tight, taken.all), subst (λ (k : ℕ). k < 2 ^ 64) (sym taken.value) taken.small), sym taken.value)

-- ---- below a smaller limit

below_taken : (limit : ℕ) (bytes : List ℕ) (n : ℕ) → number_below limit bytes ≡ Some n → (n < limit) × (bytes ≡ decimal n)
unfolding number_below
below_taken limit bytes n e =
    let first = bind_some (number_of bytes) _ n e in
    let test = cond_some (ltb first.0 limit) first.0 n first.2 in
    subst (λ (m : ℕ). (m < limit) × (bytes ≡ decimal m)) test.1 (ltb-true first.0 limit test.0, (number_taken bytes first.0 first.1).1)

pub numbers_below : (limit : ℕ) → limit ≤ 2 ^ 64 → IsReader (number_below limit) (λ n. n < limit) decimal
unfolding number_below
numbers_below limit le = record {
  takes = below_taken limit;
  again = λ n lt. let small : n < 2 ^ 64 = omega arith in rw (number_again n small, lt-ltb n limit lt) refl;
}

-- ---- numbers with a sign

not_negative_taken : (bytes : List ℕ) (n : ℕ) (z : ℤ) → bytes ≡ decimal n → not_negative n ≡ Some z → FitsSigned w64 z × (bytes ≡ signed_decimal z)
not_negative_taken bytes n z text e =
    let test = cond_some (ltb n (2 ^ 63)) (pos n) z e in
    let small : n < 2 ^ 63 = ltb-true n (2 ^ 63) test.0 in
    subst (λ (y : ℤ). FitsSigned w64 y × (bytes ≡ signed_decimal y)) test.1 (record { sfits = small }, text)

negative_taken : (bytes : List ℕ) (n : ℕ) (z : ℤ) → bytes ≡ 45 ∷ decimal n → negative n ≡ Some z → FitsSigned w64 z × (bytes ≡ signed_decimal z)
negative_taken bytes n z text e =
    let test = cond_some (ltb 0 n && leb n (2 ^ 63)) (negsuc (n - 1)) z e in
    let both = and_parts (ltb 0 n) (leb n (2 ^ 63)) test.0 in
    let some : 0 < n = ltb-true 0 n both.0 in
    let small : n ≤ 2 ^ 63 = leb-true n (2 ^ 63) both.1 in
    let amount : n ≡ suc (n - 1) = omega arith in
    subst (λ (y : ℤ). FitsSigned w64 y × (bytes ≡ signed_decimal y)) test.1 (record { sfits = (omega arith) }, text ∙ ap (λ (m : ℕ). 45 ∷ decimal m) amount)

integer_taken : (bytes : List ℕ) (z : ℤ) → integer_of bytes ≡ Some z → FitsSigned w64 z × (bytes ≡ signed_decimal z)
unfolding integer_of
integer_taken bytes z e =
    elim (chosen (eqb (get_or bytes 0 0) 45) (number_of (drop 1 bytes) >>= negative) (number_of bytes >>= not_negative) (Some z) e) [
      | inl minus ↦
          let n = bind_some (number_of (drop 1 bytes)) negative z minus.1 in
          let text : bytes ≡ 45 ∷ decimal n.0 = first_of bytes 45 (lit< tt) (eqb-true _ _ minus.0) ∙ ap (λ (bs : List ℕ). 45 ∷ bs) (number_taken (drop 1 bytes) n.0 n.1).1 in
          negative_taken bytes n.0 z text n.2
      | inr plain ↦
          let n = bind_some (number_of bytes) not_negative z plain.1 in
          not_negative_taken bytes n.0 z (number_taken bytes n.0 n.1).1 n.2
    ]

no_minus : (n : ℕ) → n < 2 ^ 64 → get_or (decimal n) 0 0 ≡ 45 → ⊥
no_minus zero lt = rw (decimal_digit 0 (lit< tt)) (λ e. absurd (omega arith))
no_minus (suc n) lt = λ e. absurd (omega (arith, first_decimal (suc n) (omega arith) lt))

integer_again : (z : ℤ) → FitsSigned w64 z → integer_of (signed_decimal z) ≡ Some z
unfolding integer_of
integer_again (pos n) fits =
    let small : n < 2 ^ 63 = fits.sfits in
    let large : n < 2 ^ 64 = omega arith in
    rw (ne_eqb (get_or (decimal n) 0 0) 45 (no_minus n large), number_again n large, lt-ltb n (2 ^ 63) small) refl
integer_again (negsuc n) fits =
    let small : n < 2 ^ 63 = fits.sfits in
    let large : suc n < 2 ^ 64 = omega arith in
    rw (number_again (suc n) large, lt-ltb 0 (suc n) (omega arith), le-leb (suc n) (2 ^ 63) (omega arith)) (ap (λ (m : ℕ). Some (negsuc m)) (omega arith))

pub integers : IsReader integer_of (FitsSigned w64) signed_decimal
integers = record { takes = integer_taken; again = integer_again }
