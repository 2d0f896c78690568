-- Which bytes stand in texts, so that a separator does not.
use Rattle.std.proofs.Common.{◌≡◌, ℕ, suc, ◌+◌, ◌/◌, ◌%◌, ◌^◌, ◌<◌, Bool, true, false, eqb, leb, ◌&&◌, ◌||◌, ℤ, pos, negsuc, List, [], ◌∷◌, ◌++◌, refl, ap, ◌∙◌, arith, inl, inr}
use Rattle.std.specs.Prelude.{FitsSigned}
use Rattle.std.specs.Int.{w64}
use Rattle.std.specs.List.{AllByRecursion, join_with_byte}
use Rattle.std.specs.Fmt.{decimal, signed_decimal}
use Rattle.std.proofs.lemmas.Bool.{cases_Bool, or_left, both_ways, agree_below_at}
use Rattle.std.proofs.lemmas.Fmt.{decimal_by_steps}
use Rattle.desk_values.specs.Fields.{Lacks}
use Rattle.desk_values.specs.Text.{is_plain, hex_digit, escape, escaped}

-- each byte passes the test
abbrev pub Consists : (ℕ → Bool) → List ℕ → Type 0
Consists test bytes = AllByRecursion (λ byte. test byte ≡ true) bytes

pub Consists-append : (test : ℕ → Bool) (xs ys : List ℕ) → Consists test xs → Consists test ys → Consists test (xs ++ ys)
Consists-append test [] ys p q = q
Consists-append test (x ∷ xs) ys p q = (p.0, Consists-append test xs ys p.1 q)

pub Consists-weaker : (test wider : ℕ → Bool) → ((byte : ℕ) → test byte ≡ true → wider byte ≡ true) → (bytes : List ℕ) → Consists test bytes → Consists wider bytes
Consists-weaker test wider h [] p = tt
Consists-weaker test wider h (x ∷ xs) p = (h x p.0, Consists-weaker test wider h xs p.1)

-- a byte that does not pass does not stand there
pub Lacks-from : (test : ℕ → Bool) (byte : ℕ) → test byte ≡ false → (bytes : List ℕ) → Consists test bytes → Lacks byte bytes
Lacks-from test byte e [] p = tt
Lacks-from test byte e (x ∷ xs) p = (λ is. both_ways (test x) (ap test is ∙ e) p.0, Lacks-from test byte e xs p.1)

-- a byte of a value: one that stands for itself, or a percent sign
abbrev pub is_word : ℕ → Bool
is_word byte = is_plain byte || eqb byte 37

-- a byte of values with a comma between
abbrev pub is_item : ℕ → Bool
is_item byte = is_word byte || eqb byte 44

-- a byte of a list of values
abbrev pub is_listed : ℕ → Bool
is_listed byte = is_item byte || (eqb byte 91 || eqb byte 93)

decimal_consists : (test : ℕ → Bool) → ((digit : ℕ) → digit < 10 → test (48 + digit) ≡ true) → (n : ℕ) → n < 2 ^ 64 → Consists test (decimal n)
decimal_consists test passes n lt = decimal_by_steps (λ n ds. Consists test ds) (λ n small. (passes n small, tt))
    (λ n ds large front. Consists-append test ds ((48 + n % 10) ∷ []) front (passes (n % 10) (omega arith), tt)) n lt

abbrev is_decimal : ℕ → Bool
is_decimal byte = leb 48 byte && leb byte 57

-- only digits stand in a number
pub decimal-Lacks : (byte n : ℕ) → is_decimal byte ≡ false → n < 2 ^ 64 → Lacks byte (decimal n)
decimal-Lacks byte n e lt = Lacks-from is_decimal byte e (decimal n) (decimal_consists is_decimal (λ digit small. agree_below_at (λ d. is_decimal (48 + d)) (λ d. true) 10 digit refl small) n lt)

pub decimal_words : (n : ℕ) → n < 2 ^ 64 → Consists is_word (decimal n)
decimal_words n lt = decimal_consists is_word (λ digit small. agree_below_at (λ d. is_word (48 + d)) (λ d. true) 10 digit refl small) n lt

pub signed_words : (z : ℤ) → FitsSigned w64 z → Consists is_word (signed_decimal z)
signed_words (pos n) fits = let small : n < 2 ^ 63 = fits.sfits in decimal_words n (omega arith)
signed_words (negsuc n) fits = let small : n < 2 ^ 63 = fits.sfits in (refl, decimal_words (suc n) (omega arith))

digit_of_hex : (digit : ℕ) → digit < 16 → is_word (hex_digit digit) ≡ true
digit_of_hex digit lt = agree_below_at (λ d. is_word (hex_digit d)) (λ d. true) 16 digit refl lt

escape_words : (byte : ℕ) → byte < 256 → Consists is_word (escape byte)
escape_words byte lt =
    elim (cases_Bool (is_plain byte)) [
      | inl plain ↦ rw plain (or_left (is_plain byte) (eqb byte 37) plain, tt)
      | inr other ↦ rw other (refl, (digit_of_hex (byte / 16) (omega arith), (digit_of_hex (byte % 16) (omega arith), tt)))
    ]

pub escaped_words : (bytes : List ℕ) → AllByRecursion (λ byte. byte < 256) bytes → Consists is_word (escaped bytes)
escaped_words [] small = tt
escaped_words (byte ∷ bytes) small = Consists-append is_word (escape byte) (escaped bytes) (escape_words byte small.0) (escaped_words bytes small.1)

-- ---- parts with a separator between

pub join_consists : (test : ℕ → Bool) (byte : ℕ) → test byte ≡ true → (parts : List (List ℕ)) → AllByRecursion (Consists test) parts → Consists test (join_with_byte byte parts)
join_consists test byte e [] p = tt
join_consists test byte e (part ∷ []) p = p.0
join_consists test byte e (part ∷ next ∷ others) p = Consists-append test part _ p.0 (e, join_consists test byte e (next ∷ others) p.1)
