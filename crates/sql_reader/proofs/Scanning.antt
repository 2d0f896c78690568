-- What is scanned are the tokens, and the tokens are scanned.
use Rattle.std.proofs.Common.{◌≡◌, ℕ, ◌<◌, ◌≤◌, Bool, true, false, List, length, Some, None, refl, arith, suc, [], ◌∷◌, ◌++◌, take, drop, ap, ◌∙◌, inl, inr, ◌≢◌, ◌+◌, ◌-◌, ◌*◌, ◌/◌, ◌%◌, ◌^◌, cond, ◌&&◌, Option, sym, lit<, zero, subst, append_assoc, length-append, lit≤}
use Rattle.std.specs.Prelude.{nat_le, ◌&&◌, nat_lt, ◌==◌, codes, ℤ, pos}
use Rattle.std.specs.Str.{IsUtf8, bytes_eq, IsAscii}
use Rattle.std.proofs.lemmas.Bool.{and_parts, leb-true, and_from, ltb-true, lt-ltb, le-leb, eqb-true, cases_lt, ltb-false, le-ltb, cases_Bool, or_parts}
use Rattle.sql_reader.proofs.Options.{some, nothing_is, bind_then}
use Rattle.std.proofs.lemmas.Bool.Decides.{nat_tests}
use Rattle.std.proofs.lemmas.Str.{IsUtf8-from_ascii}
use Rattle.desk_values.specs.declared.text.TxtErr.{TxtErr}
use Rattle.desk_values.specs.declared.text.TxtErr.TheVariants as text_error
use Rattle.sql_reader.specs.Spelling.{sql_err}
use Rattle.desk_values.specs.Reading.{txt_in, ◌>>=◌}
use Rattle.sql_reader.specs.Reading.{run_of, behind_run, keyword_at, value_after, bind_number, keep, content_at, begins, all_signs, sign_behind, sign_at, name_or, word_at, value_at, number_at, bind_at, string_at, with_rest, token_at, step_at, tokens_at, scanned}
use Rattle.desk_values.specs.Good.{IsTxt}
use Rattle.std.specs.List.{list_all, prefix_len, flat_map, find, cons_option}
use Rattle.sql_reader.specs.Lexical.{is_part, quoted, lengthens, EndsBefore, Lexeme, mark, other_not_equal, is_space, is_word, is_numeral, folded, goes_on, word, name, number, string, bind, Tokens, end, space, then}
use Rattle.std.specs.Char.{is_ascii_digit, digit_value, is_ascii_alphabetic, to_ascii_lowercase}
use Rattle.std.specs.Str.Parse.{digits_value_after, digits_value}
use Rattle.std.specs.Fmt.{decimal}
use Rattle.std.proofs.lemmas.Slice.Eq.{bytes_eq-Decides}
use Rattle.std.proofs.lemmas.Fmt.{decimal_digit, decimal_step}
use Rattle.desk_values.specs.declared.keyword.Keyword.{Keyword}
use Rattle.desk_values.specs.Word.{member_with_word}
use Rattle.desk_values.specs.Keyword.{keyword_word, all_keywords, keywords_have_own_words}
use Rattle.std.proofs.lemmas.List.{take-append-drop}
use Rattle.std.proofs.lemmas.Option.{cond_some, same_Some, some_pair_parts}
use Rattle.sql_reader.specs.declared.token.Sign.{Sign}
use Rattle.sql_reader.specs.declared.token.Sign.TheVariants as sign
use Rattle.sql_reader.specs.declared.token.Token.{Token}
use Rattle.sql_reader.specs.declared.token.Token.TheVariants as token
use Rattle.sql_reader.specs.Words.{sign_text}
use Rattle.desk_values.proofs.Escapes.{txt_in_again, txt_in_none, txt_in_taken}
use Rattle.desk_values.proofs.Options.{bind_some, when_some, chosen}
use Rattle.desk_values.proofs.Words.{find_passes}
use Rattle.sql_reader.proofs.Loops.{Fails, content_next}

-- ---- Which bytes are a text of the desk.

pub txt_err : (bytes : List ℕ) (e : TxtErr) → (e ≡ text_error.TooLong → 1000 < length bytes) → (e ≡ text_error.NotUtf8 → (length bytes ≤ 1000) × ¬ (IsUtf8 bytes)) → Fails (sql_err e) (txt_in bytes)
txt_err bytes text_error.TooLong long utf8 = txt_in_none bytes (λ is. let most : length bytes ≤ 1000 = is.limit in let least : 1000 < length bytes = long refl in omega arith)
txt_err bytes text_error.NotUtf8 long utf8 = txt_in_none bytes (λ is. (utf8 refl).1 is.utf8)
txt_err bytes text_error.Memory long utf8 = tt

-- ---- The letters, digits and `_` at the front.

-- no part of a word is first
abbrev pub Stops : List ℕ → Type 0
Stops [] = Unit {0}
Stops (byte ∷ bytes) = is_part byte ≡ false

pub record IsRun (bytes run rest : List ℕ) : Type 0 where
  pub parts : bytes ≡ run ++ rest
  pub all : list_all is_part run ≡ true
  pub stops : Stops rest

one_more : (byte : ℕ) (bytes : List ℕ) → is_part byte ≡ true → prefix_len is_part (byte ∷ bytes) ≡ suc (prefix_len is_part bytes)
one_more byte bytes h = rw h (omega arith)

none_more : (byte : ℕ) (bytes : List ℕ) → is_part byte ≡ false → prefix_len is_part (byte ∷ bytes) ≡ 0
none_more byte bytes h = rw h refl

pub run_more : (byte : ℕ) (bytes : List ℕ) → is_part byte ≡ true → run_of (byte ∷ bytes) ≡ byte ∷ run_of bytes
run_more byte bytes h = ap (λ (n : ℕ). take n (byte ∷ bytes)) (one_more byte bytes h)

behind_more : (byte : ℕ) (bytes : List ℕ) → is_part byte ≡ true → behind_run (byte ∷ bytes) ≡ behind_run bytes
behind_more byte bytes h = ap (λ (n : ℕ). drop n (byte ∷ bytes)) (one_more byte bytes h)

run_none : (byte : ℕ) (bytes : List ℕ) → is_part byte ≡ false → run_of (byte ∷ bytes) ≡ []
run_none byte bytes h = ap (λ (n : ℕ). take n (byte ∷ bytes)) (none_more byte bytes h)

behind_none : (byte : ℕ) (bytes : List ℕ) → is_part byte ≡ false → behind_run (byte ∷ bytes) ≡ byte ∷ bytes
behind_none byte bytes h = ap (λ (n : ℕ). drop n (byte ∷ bytes)) (none_more byte bytes h)

pub run_sound : (bytes : List ℕ) → IsRun bytes (run_of bytes) (behind_run bytes)
run_sound [] = record { parts = refl; all = refl; stops = tt }
run_sound (byte ∷ bytes) =
    elim (cases_Bool (is_part byte)) [
      | inl h ↦ rw (run_more byte bytes h, behind_more byte bytes h) (longer byte bytes h (run_sound bytes))
      | inr h ↦ rw (run_none byte bytes h, behind_none byte bytes h) (record { parts = refl; all = refl; stops = h })
    ]
  where
    longer : (byte : ℕ) (bytes : List ℕ) → is_part byte ≡ true → IsRun bytes (run_of bytes) (behind_run bytes) → IsRun (byte ∷ bytes) (byte ∷ run_of bytes) (behind_run bytes)
    longer byte bytes h r = record { parts = ap (λ (bs : List ℕ). byte ∷ bs) r.parts; all = and_from _ _ h r.all; stops = r.stops }

pub run_complete : (run rest : List ℕ) → list_all is_part run ≡ true → Stops rest → (run_of (run ++ rest) ≡ run) × (behind_run (run ++ rest) ≡ rest)
run_complete [] [] all stops = (refl, refl)
run_complete [] (byte ∷ rest) all stops = (run_none byte rest stops, behind_none byte rest stops)
run_complete (byte ∷ run) rest all stops =
    let h = and_parts (is_part byte) (list_all is_part run) all in
    let r = run_complete run rest h.1 stops in
    (run_more byte (run ++ rest) h.0 ∙ ap (λ (bs : List ℕ). byte ∷ bs) r.0, behind_more byte (run ++ rest) h.0 ∙ r.1)

-- ---- Words of the language, names, numbers and binds.

pub keyword_sound : (bytes : List ℕ) (k : Keyword) → keyword_at bytes ≡ Some k → bytes ≡ keyword_word k
unfolding member_with_word
keyword_sound bytes k e = sym ((bytes_eq-Decides (keyword_word k) bytes).0 (find_passes (λ keyword. bytes_eq (keyword_word keyword) bytes) all_keywords k e))

pub keyword_none : (bytes : List ℕ) → keyword_at bytes ≡ None → (k : Keyword) → bytes ≢ keyword_word k
keyword_none bytes e k same = let again = keywords_have_own_words k in absurd (nothing (keyword_at bytes) k e (ap keyword_at same ∙ again))
  where
    nothing : (o : Option Keyword) (k : Keyword) → o ≡ None → o ≡ Some k → ⊥
    nothing o k e f = cc

pub keyword_refused : (bytes : List ℕ) (o : Option Keyword) → keyword_at bytes ≡ o → ((k : Keyword) → bytes ≢ keyword_word k) → o ≡ None
keyword_refused bytes None e h = refl
keyword_refused bytes (Some k) e h = absurd (h k (keyword_sound bytes k e))

-- ---- numbers

digit_is : (c : ℕ) → is_ascii_digit c ≡ true → digit_value c ≡ c - 48
digit_is c h = grind (arith, nat_tests)

value_step : (n c : ℕ) (cs : List ℕ) → is_ascii_digit c ≡ true → digits_value_after 10 n (c ∷ cs) ≡ digits_value_after 10 (n * 10 + (c - 48)) cs
value_step n c cs h = ap (λ (d : ℕ). digits_value_after 10 (n * 10 + d) cs) (digit_is c h)

pub value_sound : (n : ℕ) (run : List ℕ) (m : ℕ) → n < 2 ^ 63 → value_after n run ≡ Some m → (list_all is_ascii_digit run ≡ true) × (digits_value_after 10 n run ≡ m) × (m < 2 ^ 63)
value_sound n [] m small e = let same : n ≡ m = same_Some n m e in (refl, same, rw (sym same) small)
value_sound n (c ∷ cs) m small e =
    let g = when_some (is_ascii_digit c && nat_lt (n * 10 + (c - 48)) (2 ^ 63)) (value_after (n * 10 + (c - 48)) cs) m e in
    let t = and_parts (is_ascii_digit c) (nat_lt (n * 10 + (c - 48)) (2 ^ 63)) g.0 in
    let r = value_sound (n * 10 + (c - 48)) cs m (ltb-true _ _ t.1) g.1 in
    (and_from _ _ t.0 r.0, value_step n c cs t.0 ∙ r.1, r.2)

value_grows : (n : ℕ) (run : List ℕ) → n ≤ digits_value_after 10 n run
value_grows n [] = omega arith
value_grows n (c ∷ cs) = omega (arith, value_grows (n * 10 + digit_value c) cs)

pub value_complete : (n : ℕ) (run : List ℕ) → list_all is_ascii_digit run ≡ true → digits_value_after 10 n run < 2 ^ 63 → value_after n run ≡ Some (digits_value_after 10 n run)
value_complete n [] all small = refl
value_complete n (c ∷ cs) all small =
    let t = and_parts (is_ascii_digit c) (list_all is_ascii_digit cs) all in
    let s = value_step n c cs t.0 in
    let low : n * 10 + (c - 48) < 2 ^ 63 = omega (arith, value_grows (n * 10 + (c - 48)) cs, s) in
    let test : (is_ascii_digit c && nat_lt (n * 10 + (c - 48)) (2 ^ 63)) ≡ true = and_from _ _ t.0 (lt-ltb _ _ low) in
    let r = value_complete (n * 10 + (c - 48)) cs t.1 (rw (sym s) small) in
    rw (test, s) r

-- ---- binds

between : (lo hi a : ℕ) → (nat_le lo a && nat_le a hi) ≡ true → (lo ≤ a) × (a ≤ hi)
between lo hi a e = let t = and_parts (nat_le lo a) (nat_le a hi) e in (leb-true _ _ t.0, leb-true _ _ t.1)

pub bind_sound : (run : List ℕ) (n : ℕ) → bind_number run ≡ Some n → (1 ≤ n) × (n ≤ 16) × (run ≡ decimal n)
unfolding bind_number
bind_sound [] n e = absurd cc
bind_sound (a ∷ []) n e =
    let g = cond_some (nat_le 49 a && nat_le a 57) (a - 48) n e in
    let range : (49 ≤ a) × (a ≤ 57) = between 49 57 a g.0 in
    let back : 48 + n ≡ a = omega (arith, g.1) in
    (omega (arith, g.1), omega (arith, g.1), rw (decimal_digit n (omega (arith, g.1)), back) refl)
bind_sound (a ∷ b ∷ []) n e =
    let g = cond_some (a == 49 && nat_le 48 b && nat_le b 54) (b - 38) n e in
    let t = and_parts (a == 49 && nat_le 48 b) (nat_le b 54) g.0 in
    let u = and_parts (a == 49) (nat_le 48 b) t.0 in
    let ten : a ≡ 49 = eqb-true _ _ u.0 in
    let low : 48 ≤ b = leb-true _ _ u.1 in
    let high : b ≤ 54 = leb-true _ _ t.1 in
    let tens : n / 10 ≡ 1 = omega (arith, g.1) in
    let ones : 48 + n % 10 ≡ b = omega (arith, g.1) in
    (omega (arith, g.1), omega (arith, g.1), rw (decimal_step n (omega (arith, g.1)) (omega (arith, g.1)), tens, decimal_digit 1 (lit< tt), ones, ten) refl)
bind_sound (a ∷ b ∷ c ∷ others) n e = absurd cc

pub tens : (n : ℕ) → 10 ≤ n → n ≤ 16 → n / 10 ≡ 1
tens n low high = omega arith

within : (lo hi a : ℕ) → lo ≤ a → a ≤ hi → (nat_le lo a && nat_le a hi) ≡ true
within lo hi a low high = and_from _ _ (le-leb _ _ low) (le-leb _ _ high)

one : (n : ℕ) → 1 ≤ n → n < 10 → bind_number ((48 + n) ∷ []) ≡ Some n
unfolding bind_number
one n low high = rw (within 49 57 (48 + n) (omega arith) (omega arith)) (ap (λ (k : ℕ). some k) (omega arith))

two : (n : ℕ) → 10 ≤ n → n ≤ 16 → bind_number (49 ∷ (48 + n % 10) ∷ []) ≡ Some n
unfolding bind_number
two n low high = rw (within 48 54 (48 + n % 10) (omega arith) (omega arith)) (ap (λ (k : ℕ). some k) (omega arith))

pub bind_complete : (n : ℕ) → 1 ≤ n → n ≤ 16 → bind_number (decimal n) ≡ Some n
unfolding bind_number
bind_complete n low high =
    elim (cases_lt n 10) [
      | inl small ↦ rw (decimal_digit n small) (one n low small)
      | inr large ↦ rw (decimal_step n large (omega arith), tens n large high, decimal_digit 1 (lit< tt)) (two n large high)
    ]

-- ---- Strings and signs.

-- ---- strings

-- no quote is first
abbrev pub NoQuote : List ℕ → Type 0
NoQuote [] = Unit {0}
NoQuote (byte ∷ bytes) = (byte == 39) ≡ false

pub record IsContent (bytes content rest : List ℕ) : Type 0 where
  pub parts : bytes ≡ flat_map quoted content ++ 39 ∷ rest
  pub stops : NoQuote rest

quoted_other : (a : ℕ) → (a == 39) ≡ false → quoted a ≡ a ∷ []
quoted_other a h = rw h refl

kept_quote : (bytes content rest : List ℕ) → IsContent bytes content rest → IsContent (39 ∷ 39 ∷ bytes) (39 ∷ content) rest
kept_quote bytes content rest c = record { parts = ap (λ (bs : List ℕ). 39 ∷ 39 ∷ bs) c.parts; stops = c.stops }

kept_other : (a : ℕ) (bytes content rest : List ℕ) → (a == 39) ≡ false → IsContent bytes content rest → IsContent (a ∷ bytes) (a ∷ content) rest
kept_other a bytes content rest h c = record { parts = ap (λ (bs : List ℕ). a ∷ bs) c.parts ∙ sym (ap (λ (bs : List ℕ). (bs ++ flat_map quoted content) ++ 39 ∷ rest) (quoted_other a h)); stops = c.stops }

ended : (rest : List ℕ) → NoQuote rest → IsContent (39 ∷ rest) [] rest
ended rest h = record { parts = refl; stops = h }

kept_is : (byte : ℕ) (read : Option (List ℕ × List ℕ)) (content rest : List ℕ) → keep byte read ≡ Some (content, rest) → (inner : List ℕ) × (read ≡ Some (inner, rest)) × (byte ∷ inner ≡ content)
kept_is byte read content rest e =
    let b = bind_some read (λ x. Some (byte ∷ x.0, x.1)) (content, rest) e in
    let p = some_pair_parts (byte ∷ b.0.0) content b.0.1 rest b.2 in
    (b.0.0, b.1 ∙ ap (λ (r : List ℕ). Some (b.0.0, r)) p.1, p.0)

sound : (n : ℕ) (bytes content rest : List ℕ) → length bytes ≤ n → content_at bytes ≡ Some (content, rest) → IsContent bytes content rest
unfolding content_at
sound n [] content rest le e = nothing_is (content, rest) e
sound n (a ∷ []) content rest le e =
    elim (chosen (a == 39) (Some ([], [])) None (Some (content, rest)) e) [
      | inl h ↦ (let q : a ≡ 39 = eqb-true _ _ h.0 in let p = some_pair_parts [] content [] rest h.1 in rw (q, ← p.0, ← p.1) (ended [] tt))
      | inr h ↦ nothing_is (content, rest) h.1
    ]
sound zero (a ∷ b ∷ bytes) content rest le e = absurd (omega arith)
sound (suc n) (a ∷ b ∷ bytes) content rest le e =
    elim (chosen (a == 39) (cond (b == 39) (keep 39 (content_at bytes)) (Some ([], b ∷ bytes))) (keep a (content_at (b ∷ bytes))) (Some (content, rest)) e) [
      | inl h ↦ elim (chosen (b == 39) (keep 39 (content_at bytes)) (Some ([], b ∷ bytes)) (Some (content, rest)) h.1) [
        | inl g ↦ (let q : a ≡ 39 = eqb-true _ _ h.0 in let r : b ≡ 39 = eqb-true _ _ g.0 in let k = kept_is 39 (content_at bytes) content rest g.1 in rw (q, r, ← k.2) (kept_quote bytes k.0 rest (sound n bytes k.0 rest (omega arith) k.1)))
        | inr g ↦ (let q : a ≡ 39 = eqb-true _ _ h.0 in let p = some_pair_parts [] content (b ∷ bytes) rest g.1 in rw (q, ← p.0, ← p.1) (ended (b ∷ bytes) g.0))
      ]
      | inr h ↦ (let k = kept_is a (content_at (b ∷ bytes)) content rest h.1 in rw (← k.2) (kept_other a (b ∷ bytes) k.0 rest h.0 (sound n (b ∷ bytes) k.0 rest (omega arith) k.1)))
    ]

pub content_sound : (bytes content rest : List ℕ) → content_at bytes ≡ Some (content, rest) → IsContent bytes content rest
content_sound bytes content rest e = sound (length bytes) bytes content rest (omega arith) e

content_closes : (rest : List ℕ) → NoQuote rest → content_at (39 ∷ rest) ≡ Some ([], rest)
unfolding content_at
content_closes [] h = refl
content_closes (b ∷ rest) h = rw h refl

content_twice_at : (bytes : List ℕ) → content_at (39 ∷ 39 ∷ bytes) ≡ keep 39 (content_at bytes)
unfolding content_at
content_twice_at bytes = refl

pub content_complete : (content rest : List ℕ) → NoQuote rest → content_at (flat_map quoted content ++ 39 ∷ rest) ≡ Some (content, rest)
content_complete [] rest h = content_closes rest h
content_complete (a ∷ content) rest h =
    elim (cases_Bool (a == 39)) [
      | inl e ↦ (let q : a ≡ 39 = eqb-true _ _ e in rw q (content_twice_at (flat_map quoted content ++ 39 ∷ rest) ∙ ap (λ (r : Option (List ℕ × List ℕ)). keep 39 r) (content_complete content rest h)))
      | inr e ↦ (ap (λ (q : List ℕ). content_at ((q ++ flat_map quoted content) ++ 39 ∷ rest)) (quoted_other a e) ∙ content_next a (flat_map quoted content ++ 39 ∷ rest) e ∙ ap (λ (r : Option (List ℕ × List ℕ)). keep a r) (content_complete content rest h))
    ]

-- ---- signs

begins_is : (text bytes : List ℕ) → begins text bytes ≡ true → bytes ≡ text ++ drop (length text) bytes
begins_is text bytes h = sym (take-append-drop (length text) bytes) ∙ ap (λ (t : List ℕ). t ++ drop (length text) bytes) ((bytes_eq-Decides (take (length text) bytes) text).0 h)

-- the byte is not first
abbrev NotFirst : ℕ → List ℕ → Type 0
NotFirst byte [] = Unit {0}
NotFirst byte (first ∷ rest) = (first == byte) ≡ false

-- a longer sign that was tried first doesn't begin the bytes
not_behind : (first second : ℕ) (rest : List ℕ) → begins (first ∷ second ∷ []) (first ∷ rest) ≡ false → NotFirst second rest
not_behind first second [] h = tt
not_behind first second (byte ∷ rest) h = grind (arith, nat_tests)

-- the byte can't lengthen a sign that nothing lengthens
ends_free : (s : Sign) (rest : List ℕ) → ((byte : ℕ) → lengthens s byte ≡ false) → EndsBefore (token.Sign s) rest
ends_free s [] h = tt
ends_free s (byte ∷ rest) h = h byte

skipped : {X : Type 0} (p : X → Bool) (x : X) (xs : List X) (y : X) → (x ≡ y → ⊥) → find p (x ∷ xs) ≡ Some y → (p x ≡ false) × (find p xs ≡ Some y)
skipped p x xs y other e =
    elim (chosen (p x) (Some x) (find p xs) (Some y) e) [
      | inl h ↦ absurd (other (same_Some x y h.1))
      | inr h ↦ h
    ]

less_ends : (rest : List ℕ) → NotFirst 62 rest → NotFirst 61 rest → EndsBefore (token.Sign sign.Less) rest
less_ends [] a b = tt
less_ends (byte ∷ rest) a b = rw (a, b) refl

greater_ends : (rest : List ℕ) → NotFirst 61 rest → EndsBefore (token.Sign sign.Greater) rest
greater_ends [] a = tt
greater_ends (byte ∷ rest) a = a

abbrev pub found_sign : List ℕ → Option Sign
found_sign bytes = find (λ s. begins (sign_text s) bytes) all_signs

abbrev signs_from_second : List Sign
signs_from_second = sign.LessOrEqual ∷ sign.GreaterOrEqual ∷ sign.Less ∷ sign.Greater ∷ sign.Equal ∷ sign.Open ∷ sign.Close ∷ sign.Comma ∷ sign.Dot ∷ sign.Star ∷ sign.Plus ∷ sign.Minus ∷ sign.Slash ∷ sign.Semicolon ∷ []

abbrev signs_from_third : List Sign
signs_from_third = sign.GreaterOrEqual ∷ sign.Less ∷ sign.Greater ∷ sign.Equal ∷ sign.Open ∷ sign.Close ∷ sign.Comma ∷ sign.Dot ∷ sign.Star ∷ sign.Plus ∷ sign.Minus ∷ sign.Slash ∷ sign.Semicolon ∷ []

abbrev signs_from_fourth : List Sign
signs_from_fourth = sign.Less ∷ sign.Greater ∷ sign.Equal ∷ sign.Open ∷ sign.Close ∷ sign.Comma ∷ sign.Dot ∷ sign.Star ∷ sign.Plus ∷ sign.Minus ∷ sign.Slash ∷ sign.Semicolon ∷ []

sign_ends : (s : Sign) (rest : List ℕ) → found_sign (sign_text s ++ rest) ≡ Some s → EndsBefore (token.Sign s) rest
sign_ends sign.Less rest e =
    let a = skipped (λ s. begins (sign_text s) (60 ∷ rest)) sign.NotEqual signs_from_second sign.Less (λ h. cc) e in
    let b = skipped (λ s. begins (sign_text s) (60 ∷ rest)) sign.LessOrEqual signs_from_third sign.Less (λ h. cc) a.1 in
    less_ends rest (not_behind 60 62 rest a.0) (not_behind 60 61 rest b.0)
sign_ends sign.Greater rest e =
    let a = skipped (λ s. begins (sign_text s) (62 ∷ rest)) sign.NotEqual signs_from_second sign.Greater (λ h. cc) e in
    let b = skipped (λ s. begins (sign_text s) (62 ∷ rest)) sign.LessOrEqual signs_from_third sign.Greater (λ h. cc) a.1 in
    let c = skipped (λ s. begins (sign_text s) (62 ∷ rest)) sign.GreaterOrEqual signs_from_fourth sign.Greater (λ h. cc) b.1 in
    greater_ends rest (not_behind 62 61 rest c.0)
sign_ends sign.Open rest e = ends_free sign.Open rest (λ b. refl)
sign_ends other rest e = ends_free other rest (λ b. refl)

-- a token that stands at the front
pub record IsFront (bytes : List ℕ) (t : Token) (rest : List ℕ) : Type 0 where
  pub text : List ℕ
  pub parts : bytes ≡ text ++ rest
  pub lexeme : Lexeme text t
  pub ends : EndsBefore t rest

front_sign : (bytes : List ℕ) (s : Sign) → found_sign bytes ≡ Some s → IsFront bytes (token.Sign s) (drop (length (sign_text s)) bytes)
front_sign bytes s e =
    let parts = begins_is (sign_text s) bytes (find_passes (λ s. begins (sign_text s) bytes) all_signs s e) in
    record { text = sign_text s; parts = parts; lexeme = mark; ends = sign_ends s (drop (length (sign_text s)) bytes) (ap found_sign (sym parts) ∙ e) }

pub sign_sound : (bytes : List ℕ) (t : Token) (rest : List ℕ) → sign_at bytes ≡ Some (t, rest) → IsFront bytes t rest
unfolding sign_at
sign_sound bytes t rest e =
    elim (chosen (begins (codes "!=") bytes) (Some (token.Sign sign.NotEqual, drop 2 bytes)) (sign_behind (found_sign bytes) bytes) (Some (t, rest)) e) [
      | inl h ↦ (let p = some_pair_parts (token.Sign sign.NotEqual) t (drop 2 bytes) rest h.1 in rw (← p.0, ← p.1) (record { text = codes "!="; parts = begins_is (codes "!=") bytes h.0; lexeme = other_not_equal; ends = ends_free sign.NotEqual (drop 2 bytes) (λ b. refl) }))
      | inr h ↦ behind (found_sign bytes) refl h.1
    ]
  where
    behind : (o : Option Sign) → found_sign bytes ≡ o → sign_behind o bytes ≡ Some (t, rest) → IsFront bytes t rest
    behind None f g = nothing_is (t, rest) g
    behind (Some s) f g = (let p = some_pair_parts (token.Sign s) t (drop (length (sign_text s)) bytes) rest g in rw (← p.0, ← p.1) (front_sign bytes s f))

less_again : (rest : List ℕ) → EndsBefore (token.Sign sign.Less) rest → sign_at (60 ∷ rest) ≡ Some (token.Sign sign.Less, rest)
unfolding sign_at
less_again [] h = refl
less_again (byte ∷ rest) h = (let p = or_parts (byte == 61) (byte == 62) h in rw (p.0, p.1) refl)

greater_again : (rest : List ℕ) → EndsBefore (token.Sign sign.Greater) rest → sign_at (62 ∷ rest) ≡ Some (token.Sign sign.Greater, rest)
unfolding sign_at
greater_again [] h = refl
greater_again (byte ∷ rest) h = rw h refl

pub sign_complete : (s : Sign) (rest : List ℕ) → EndsBefore (token.Sign s) rest → sign_at (sign_text s ++ rest) ≡ Some (token.Sign s, rest)
unfolding sign_at
sign_complete sign.Less rest h = less_again rest h
sign_complete sign.Greater rest h = greater_again rest h
sign_complete sign.Open rest h = refl
sign_complete other rest h = refl

pub other_complete : (rest : List ℕ) → sign_at (codes "!=" ++ rest) ≡ Some (token.Sign sign.NotEqual, rest)
unfolding sign_at
other_complete rest = refl

-- ---- What is scanned are the tokens, and the tokens are scanned.

-- ---- what stops a token

ends_part : (t : Token) (rest : List ℕ) → ((byte : ℕ) → goes_on t byte ≡ is_part byte) → Stops rest → EndsBefore t rest
ends_part t [] h stops = tt
ends_part t (byte ∷ rest) h stops = h byte ∙ stops

stops_from : (t : Token) (rest : List ℕ) → ((byte : ℕ) → goes_on t byte ≡ is_part byte) → EndsBefore t rest → Stops rest
stops_from t [] h ends = tt
stops_from t (byte ∷ rest) h ends = sym (h byte) ∙ ends

ends_quote : (bytes rest : List ℕ) → NoQuote rest → EndsBefore (token.Text bytes) rest
ends_quote bytes [] h = tt
ends_quote bytes (byte ∷ rest) h = h

quote_from : (bytes rest : List ℕ) → EndsBefore (token.Text bytes) rest → NoQuote rest
quote_from bytes [] h = tt
quote_from bytes (byte ∷ rest) h = h

-- ---- from what is scanned to the token

-- a run of parts that is the token
abbrev Spelled : List ℕ → Token → Type 0
Spelled run t = Lexeme run t × ((byte : ℕ) → goes_on t byte ≡ is_part byte)

not_long : (b : Bool) (o : Option Token) (t : Token) → cond b None o ≡ Some t → (b ≡ false) × (o ≡ Some t)
not_long true o t e = nothing_is t e
not_long false o t e = (refl, e)

pub length_folded : (run : List ℕ) → length (folded run) ≡ length run
length_folded [] = refl
length_folded (b ∷ bs) = ap suc (length_folded bs)

front_word : (run : List ℕ) (t : Token) (o : Option Keyword) → keyword_at (folded run) ≡ o → is_word run ≡ true → name_or o (folded run) ≡ Some t → Spelled run t
front_word run t (Some k) f w e = subst (Spelled run) (same_Some (token.Word k) t e) (word w (keyword_sound (folded run) k f), λ b. refl)
front_word run t None f w e =
    let g = not_long (nat_lt 30 (length (folded run))) (txt_in (folded run) >>= λ n. Some (token.Name n)) t e in
    let short : length run ≤ 30 = omega (arith, ltb-false 30 (length (folded run)) g.0, length_folded run) in
    bind_then (txt_in (folded run)) (λ n. Some (token.Name n)) t g.1 (λ n en e1.
    subst (Spelled run) (ap (λ (x : List ℕ). token.Name x) ((txt_in_taken (folded run) n en).1) ∙ same_Some (token.Name n) t e1) (name w (keyword_none (folded run) f) short, λ b. refl))

pub word_sound : (run : List ℕ) (t : Token) → is_word run ≡ true → word_at run ≡ Some t → Spelled run t
unfolding word_at
word_sound run t w e = front_word run t (keyword_at (folded run)) refl w e

numeral : (run : List ℕ) → length run ≢ 0 → list_all is_ascii_digit run ≡ true → is_numeral run ≡ true
numeral [] full all = absurd (full refl)
numeral (d ∷ ds) full all = all

pub number_sound : (run : List ℕ) (t : Token) → length run ≢ 0 → number_at run ≡ Some t → Spelled run t
unfolding number_at value_at
number_sound run t full e =
    bind_then (value_after 0 run >>= λ n. Some (pos n)) (λ n. Some (token.Number n)) t e (λ z ez e1.
    bind_then (value_after 0 run) (λ n. Some (pos n)) z ez (λ m em e2.
    let v = value_sound 0 run m (lit< tt) em in
    let low : digits_value 10 run < 2 ^ 63 = rw v.1 v.2 in
    let same : token.Number (pos (digits_value 10 run)) ≡ t = ap (λ (n : ℕ). token.Number (pos n)) v.1 ∙ ap (λ (n : ℤ). token.Number n) (same_Some (pos m) z e2) ∙ same_Some (token.Number z) t e1 in
    subst (Spelled run) same (number (numeral run full v.0) low, λ b. refl)))

pub bind_token_sound : (run : List ℕ) (t : Token) → bind_at run ≡ Some t → Spelled (58 ∷ run) t
unfolding bind_at
bind_token_sound run t e =
    bind_then (bind_number run) (λ n. Some (token.Bind n)) t e (λ n en e1.
    let v = bind_sound run n en in
    subst (Spelled (58 ∷ run)) (same_Some (token.Bind n) t e1) (subst (λ (r : List ℕ). Spelled (58 ∷ r) (token.Bind n)) (sym v.2) (bind v.0 v.1, λ b. refl)))

pub string_sound : (bytes : List ℕ) (t : Token) (rest : List ℕ) → string_at bytes ≡ Some (t, rest) → IsFront (39 ∷ bytes) t rest
unfolding string_at
string_sound bytes t rest e =
    bind_then (content_at bytes) (λ x. txt_in x.0 >>= λ text. Some (token.Text text, x.1)) (t, rest) e (λ x ex e1.
    bind_then (txt_in x.0) (λ text. Some (token.Text text, x.1)) (t, rest) e1 (λ text et e2.
    let k = content_sound bytes x.0 x.1 ex in
    let taken = txt_in_taken x.0 text et in
    let same = taken.1 in
    let parts : 39 ∷ bytes ≡ (39 ∷ (flat_map quoted text ++ 39 ∷ [])) ++ x.1 = ap (λ (bs : List ℕ). 39 ∷ bs) (k.parts ∙ ap (λ (c : List ℕ). flat_map quoted c ++ 39 ∷ x.1) same ∙ sym (append_assoc (flat_map quoted text) (39 ∷ []) x.1)) in
    subst (λ (q : Token × List ℕ). IsFront (39 ∷ bytes) q.0 q.1) (same_Some {A = Token × List ℕ} (token.Text text, x.1) (t, rest) e2) (record { text = 39 ∷ (flat_map quoted text ++ 39 ∷ []); parts = parts; lexeme = string (subst IsTxt same taken.0); ends = ends_quote text x.1 k.stops })))

-- a run of parts at the front
front_run : (bytes run rest : List ℕ) (t : Token) → IsRun bytes run rest → Spelled run t → IsFront bytes t rest
front_run bytes run rest t r s = record { text = run; parts = r.parts; lexeme = s.0; ends = ends_part t rest s.1 r.stops }

with_rest_is : {G : Type 0} (o : Option Token) (after : List ℕ) (t : Token) (rest : List ℕ) → with_rest o after ≡ Some (t, rest) → (o ≡ Some t → after ≡ rest → G) → G
with_rest_is o after t rest e go =
    bind_then o (λ x. Some (x, after)) (t, rest) e (λ x ex e1.
    let p = some_pair_parts x t after rest e1 in
    go (ex ∙ ap (λ (y : Token). Some y) p.0) p.1)

alphabetic_part : (b : ℕ) → is_ascii_alphabetic b ≡ true → is_part b ≡ true
alphabetic_part b h = grind (arith, nat_tests)

digit_part : (b : ℕ) → is_ascii_digit b ≡ true → is_part b ≡ true
digit_part b h = grind (arith, nat_tests)

-- a run that begins with a part
pub record BeginsWith (first : ℕ) (run : List ℕ) : Type 0 where
  pub others : List ℕ
  pub is : run ≡ first ∷ others

word_run : (first : ℕ) (others : List ℕ) → is_ascii_alphabetic first ≡ true → is_word (run_of (first ∷ others)) ≡ true
word_run first others h =
    let p = alphabetic_part first h in
    let r = run_sound others in
    rw (run_more first others p) (and_from _ _ h r.all)

number_run : (first : ℕ) (others : List ℕ) → is_ascii_digit first ≡ true → length (run_of (first ∷ others)) ≢ 0
number_run first others h z =
    let e = ap length (run_more first others (digit_part first h)) in
    absurd (omega (arith, e, z))

abbrev unless_bind : ℕ → List ℕ → Option (Token × List ℕ)
unless_bind first others = cond (first == 39) (string_at others) (sign_at (first ∷ others))

abbrev unless_number : ℕ → List ℕ → Option (Token × List ℕ)
unless_number first others = cond (first == 58) (with_rest (bind_at (run_of others)) (behind_run others)) (unless_bind first others)

abbrev unless_word : ℕ → List ℕ → Option (Token × List ℕ)
unless_word first others = cond (is_ascii_digit first) (with_rest (number_at (run_of (first ∷ others))) (behind_run (first ∷ others))) (unless_number first others)

bind_front : (first : ℕ) (others : List ℕ) (t : Token) → first ≡ 58 → bind_at (run_of others) ≡ Some t → IsFront (first ∷ others) t (behind_run others)
bind_front first others t c e =
    let s = bind_token_sound (run_of others) t e in
    let r = run_sound others in
    let parts : first ∷ others ≡ (58 ∷ run_of others) ++ behind_run others = rw c (ap (λ (bs : List ℕ). 58 ∷ bs) r.parts) in
    record { text = 58 ∷ run_of others; parts = parts; lexeme = s.0; ends = ends_part t (behind_run others) s.1 r.stops }

sound_token : (first : ℕ) (others : List ℕ) (t : Token) (rest : List ℕ) → token_at first others ≡ Some (t, rest) → IsFront (first ∷ others) t rest
unfolding token_at
sound_token first others t rest e =
    elim (chosen (is_ascii_alphabetic first) (with_rest (word_at (run_of (first ∷ others))) (behind_run (first ∷ others))) (unless_word first others) (Some (t, rest)) e) [
      | inl h ↦ with_rest_is (word_at (run_of (first ∷ others))) (behind_run (first ∷ others)) t rest h.1 (λ ew er. subst (IsFront (first ∷ others) t) er (front_run (first ∷ others) (run_of (first ∷ others)) (behind_run (first ∷ others)) t (run_sound (first ∷ others)) (word_sound (run_of (first ∷ others)) t (word_run first others h.0) ew)))
      | inr h ↦ elim (chosen (is_ascii_digit first) (with_rest (number_at (run_of (first ∷ others))) (behind_run (first ∷ others))) (unless_number first others) (Some (t, rest)) h.1) [
        | inl g ↦ with_rest_is (number_at (run_of (first ∷ others))) (behind_run (first ∷ others)) t rest g.1 (λ ew er. subst (IsFront (first ∷ others) t) er (front_run (first ∷ others) (run_of (first ∷ others)) (behind_run (first ∷ others)) t (run_sound (first ∷ others)) (number_sound (run_of (first ∷ others)) t (number_run first others g.0) ew)))
        | inr g ↦ elim (chosen (first == 58) (with_rest (bind_at (run_of others)) (behind_run others)) (unless_bind first others) (Some (t, rest)) g.1) [
          | inl b ↦ with_rest_is (bind_at (run_of others)) (behind_run others) t rest b.1 (λ ew er. subst (IsFront (first ∷ others) t) er (bind_front first others t (eqb-true _ _ b.0) ew))
          | inr b ↦ elim (chosen (first == 39) (string_at others) (sign_at (first ∷ others)) (Some (t, rest)) b.1) [
            | inl s ↦ subst (λ (c : ℕ). IsFront (c ∷ others) t rest) (sym (eqb-true _ _ s.0)) (string_sound others t rest s.1)
            | inr s ↦ sign_sound (first ∷ others) t rest s.1
          ]
        ]
      ]
    ]

-- ---- from what is scanned to the tokens

abbrev Adds : List ℕ → Option Token → List ℕ → Type 0
Adds bytes o rest = (tokens : List Token) → Tokens rest tokens → Tokens bytes (cons_option o tokens)

front_adds : (bytes : List ℕ) (t : Token) (rest : List ℕ) → IsFront bytes t rest → Adds bytes (Some t) rest
front_adds bytes t rest f tokens h = subst (λ (bs : List ℕ). Tokens bs (t ∷ tokens)) (sym f.parts) (then f.lexeme f.ends h)

step_sound : (bytes : List ℕ) (o : Option Token) (rest : List ℕ) → step_at bytes ≡ Some (o, rest) → Adds bytes o rest
unfolding step_at
step_sound [] o rest e = subst (λ (q : Option Token × List ℕ). Adds [] q.0 q.1) (same_Some {A = Option Token × List ℕ} (None, []) (o, rest) e) (λ tokens h. h)
step_sound (first ∷ others) o rest e =
    elim (chosen (is_space first) (Some (None, others)) (token_at first others >>= λ x. Some (Some x.0, x.1)) (Some (o, rest)) e) [
      | inl h ↦ subst (λ (q : Option Token × List ℕ). Adds (first ∷ others) q.0 q.1) (same_Some {A = Option Token × List ℕ} (None, others) (o, rest) h.1) (λ tokens g. space h.0 g)
      | inr h ↦ bind_then (token_at first others) (λ x. Some (Some x.0, x.1)) (o, rest) h.1 (λ x ex e1.
          subst (λ (q : Option Token × List ℕ). Adds (first ∷ others) q.0 q.1) (same_Some {A = Option Token × List ℕ} (Some x.0, x.1) (o, rest) e1) (front_adds (first ∷ others) x.0 x.1 (sound_token first others x.0 x.1 ex)))
    ]

tokens_sound : (n : ℕ) (bytes : List ℕ) (tokens : List Token) → tokens_at n bytes ≡ Some tokens → Tokens bytes tokens
unfolding tokens_at
tokens_sound zero [] tokens e = subst (Tokens []) (same_Some [] tokens e) end
tokens_sound zero (first ∷ others) tokens e = nothing_is tokens e
tokens_sound (suc n) bytes tokens e =
    bind_then (step_at bytes) (λ x. tokens_at n x.1 >>= λ ts. Some (cons_option x.0 ts)) tokens e (λ x ex e1.
    bind_then (tokens_at n x.1) (λ ts. Some (cons_option x.0 ts)) tokens e1 (λ ts et e2.
    subst (Tokens bytes) (same_Some (cons_option x.0 ts) tokens e2) (step_sound bytes x.0 x.1 ex ts (tokens_sound n x.1 ts et))))

pub scan_sound : (bytes : List ℕ) (tokens : List Token) → scanned bytes ≡ Some tokens → Tokens bytes tokens
unfolding scanned
scan_sound bytes tokens e = tokens_sound (length bytes) bytes tokens e

-- ---- from the tokens to what is scanned

token_step : (first : ℕ) (others : List ℕ) (t : Token) (rest : List ℕ) → is_space first ≡ false → token_at first others ≡ Some (t, rest) → step_at (first ∷ others) ≡ Some (Some t, rest)
unfolding step_at
token_step first others t rest h e = rw (h, e) refl

with_run : (read : List ℕ → Option Token) (run rest : List ℕ) (t : Token) → list_all is_part run ≡ true → Stops rest → read run ≡ Some t → with_rest (read (run_of (run ++ rest))) (behind_run (run ++ rest)) ≡ Some (t, rest)
with_run read run rest t all stops e =
    let r = run_complete run rest all stops in
    ap (λ (q : List ℕ). with_rest (read q) (behind_run (run ++ rest))) r.0 ∙ ap (λ (q : List ℕ). with_rest (read run) q) r.1 ∙ rw e refl

token_word : (first : ℕ) (others : List ℕ) → is_ascii_alphabetic first ≡ true → token_at first others ≡ with_rest (word_at (run_of (first ∷ others))) (behind_run (first ∷ others))
unfolding token_at
token_word first others h = rw h refl

token_number : (first : ℕ) (others : List ℕ) → is_ascii_alphabetic first ≡ false → is_ascii_digit first ≡ true → token_at first others ≡ with_rest (number_at (run_of (first ∷ others))) (behind_run (first ∷ others))
unfolding token_at
token_number first others h g = rw (h, g) refl

no_space_word : (b : ℕ) → is_ascii_alphabetic b ≡ true → is_space b ≡ false
no_space_word b h = grind (arith, nat_tests)

no_space_digit : (b : ℕ) → is_ascii_digit b ≡ true → is_space b ≡ false
no_space_digit b h = grind (arith, nat_tests)

digit_no_word : (b : ℕ) → is_ascii_digit b ≡ true → is_ascii_alphabetic b ≡ false
digit_no_word b h = grind (arith, nat_tests)

word_parts : (run : List ℕ) → is_word run ≡ true → list_all is_part run ≡ true
word_parts [] h = absurd cc
word_parts (f ∷ os) h = let p = and_parts (is_ascii_alphabetic f) (list_all is_part os) h in and_from _ _ (alphabetic_part f p.0) p.1

digits_parts : (run : List ℕ) → list_all is_ascii_digit run ≡ true → list_all is_part run ≡ true
digits_parts [] h = refl
digits_parts (d ∷ ds) h = let p = and_parts (is_ascii_digit d) (list_all is_ascii_digit ds) h in and_from _ _ (digit_part d p.0) (digits_parts ds p.1)

word_first : (run rest : List ℕ) (t : Token) → is_word run ≡ true → Stops rest → word_at run ≡ Some t → step_at (run ++ rest) ≡ Some (Some t, rest)
word_first [] rest t w stops e = absurd cc
word_first (f ∷ os) rest t w stops e =
    let p = and_parts (is_ascii_alphabetic f) (list_all is_part os) w in
    token_step f (os ++ rest) t rest (no_space_word f p.0) (token_word f (os ++ rest) p.0 ∙ with_run word_at (f ∷ os) rest t (word_parts (f ∷ os) w) stops e)

numeral_all : (run : List ℕ) → is_numeral run ≡ true → list_all is_ascii_digit run ≡ true
numeral_all [] h = refl
numeral_all (d ∷ ds) h = h

number_first : (run rest : List ℕ) (t : Token) → is_numeral run ≡ true → Stops rest → number_at run ≡ Some t → step_at (run ++ rest) ≡ Some (Some t, rest)
number_first [] rest t w stops e = absurd cc
number_first (f ∷ os) rest t w stops e =
    let p = and_parts (is_ascii_digit f) (list_all is_ascii_digit os) w in
    token_step f (os ++ rest) t rest (no_space_digit f p.0) (token_number f (os ++ rest) (digit_no_word f p.0) p.0 ∙ with_run number_at (f ∷ os) rest t (digits_parts (f ∷ os) w) stops e)

lower_ascii : (b : ℕ) → is_part b ≡ true → to_ascii_lowercase b < 128
lower_ascii b h = grind (arith, nat_tests)

folded_ascii : (run : List ℕ) → list_all is_part run ≡ true → IsAscii (folded run)
folded_ascii [] h i = lit< tt
folded_ascii (b ∷ bs) h zero = lower_ascii b (and_parts (is_part b) (list_all is_part bs) h).0
folded_ascii (b ∷ bs) h (suc i) = folded_ascii bs (and_parts (is_part b) (list_all is_part bs) h).1 i

word_again : (run : List ℕ) (k : Keyword) → folded run ≡ keyword_word k → word_at run ≡ Some (token.Word k)
unfolding word_at
word_again run k e = rw (e, keywords_have_own_words k) refl

name_again : (run : List ℕ) → is_word run ≡ true → ((k : Keyword) → folded run ≢ keyword_word k) → length run ≤ 30 → word_at run ≡ Some (token.Name (folded run))
unfolding word_at
name_again run w other short =
    let none = keyword_refused (folded run) (keyword_at (folded run)) refl other in
    let len = length_folded run in
    let fits = txt_in_again (folded run) (record { limit = omega (arith, len); utf8 = IsUtf8-from_ascii (folded run) (folded_ascii run (word_parts run w)) }) in
    let test : nat_lt 30 (length (folded run)) ≡ false = le-ltb _ _ (omega (arith, len)) in
    rw (none, test, fits) refl

number_again : (run : List ℕ) → is_numeral run ≡ true → digits_value 10 run < 2 ^ 63 → number_at run ≡ Some (token.Number (pos (digits_value 10 run)))
unfolding number_at value_at
number_again run w small = rw (value_complete 0 run (numeral_all run w) small) refl

string_again : (text rest : List ℕ) → IsTxt text → NoQuote rest → string_at ((flat_map quoted text ++ 39 ∷ []) ++ rest) ≡ Some (token.Text text, rest)
unfolding string_at
string_again text rest is stops =
    let e : (flat_map quoted text ++ 39 ∷ []) ++ rest ≡ flat_map quoted text ++ 39 ∷ rest = append_assoc (flat_map quoted text) (39 ∷ []) rest in
    let fits = txt_in_again text is in
    rw (e, content_complete text rest stops, fits) refl

token_quote : (others : List ℕ) → token_at 39 others ≡ string_at others
unfolding token_at
token_quote others = refl

token_colon : (others : List ℕ) → token_at 58 others ≡ with_rest (bind_at (run_of others)) (behind_run others)
unfolding token_at
token_colon others = refl

digit_run : (n : ℕ) → n < 10 → list_all is_part ((48 + n) ∷ []) ≡ true
digit_run n small = and_from _ _ (digit_part (48 + n) (grind (arith, nat_tests))) refl

digits_run : (n : ℕ) → list_all is_part (49 ∷ (48 + n % 10) ∷ []) ≡ true
digits_run n = and_from _ _ refl (digit_run (n % 10) (omega arith))

decimal_parts : (n : ℕ) → 1 ≤ n → n ≤ 16 → list_all is_part (decimal n) ≡ true
decimal_parts n low high =
    elim (cases_lt n 10) [
      | inl small ↦ rw (decimal_digit n small) (digit_run n small)
      | inr large ↦ rw (decimal_step n large (omega arith), tens n large high, decimal_digit 1 (lit< tt)) (digits_run n)
    ]

string_first : (text rest : List ℕ) → IsTxt text → NoQuote rest → step_at ((39 ∷ (flat_map quoted text ++ 39 ∷ [])) ++ rest) ≡ Some (Some (token.Text text), rest)
string_first text rest is stops = token_step 39 ((flat_map quoted text ++ 39 ∷ []) ++ rest) (token.Text text) rest refl (token_quote ((flat_map quoted text ++ 39 ∷ []) ++ rest) ∙ string_again text rest is stops)

bind_again : (n : ℕ) → 1 ≤ n → n ≤ 16 → bind_at (decimal n) ≡ Some (token.Bind n)
unfolding bind_at
bind_again n low high = rw (bind_complete n low high) refl

bind_first : (n : ℕ) (rest : List ℕ) → 1 ≤ n → n ≤ 16 → Stops rest → step_at ((58 ∷ decimal n) ++ rest) ≡ Some (Some (token.Bind n), rest)
bind_first n rest low high stops = token_step 58 (decimal n ++ rest) (token.Bind n) rest refl (token_colon (decimal n ++ rest) ∙ with_run bind_at (decimal n) rest (token.Bind n) (decimal_parts n low high) stops (bind_again n low high))

sign_first : (s : Sign) (rest : List ℕ) → step_at (sign_text s ++ rest) ≡ (sign_at (sign_text s ++ rest) >>= λ x. Some (Some x.0, x.1))
unfolding step_at token_at
sign_first sign.Open rest = refl
sign_first other rest = refl

other_first : (rest : List ℕ) → step_at (codes "!=" ++ rest) ≡ (sign_at (codes "!=" ++ rest) >>= λ x. Some (Some x.0, x.1))
unfolding step_at token_at
other_first rest = refl

lexeme_first : {text : List ℕ} {t : Token} → Lexeme text t → (rest : List ℕ) → EndsBefore t rest → step_at (text ++ rest) ≡ Some (Some t, rest)
lexeme_first {text} (word {keyword = k} w e) rest ends = word_first text rest (token.Word k) w (stops_from (token.Word k) rest (λ b. refl) ends) (word_again text k e)
lexeme_first {text} (name w other short) rest ends = word_first text rest (token.Name (folded text)) w (stops_from (token.Name (folded text)) rest (λ b. refl) ends) (name_again text w other short)
lexeme_first {text} (number w small) rest ends = number_first text rest (token.Number (pos (digits_value 10 text))) w (stops_from (token.Number (pos (digits_value 10 text))) rest (λ b. refl) ends) (number_again text w small)
lexeme_first (string {bytes = bytes} is) rest ends = string_first bytes rest is (quote_from bytes rest ends)
lexeme_first (bind {n = n} low high) rest ends = bind_first n rest low high (stops_from (token.Bind n) rest (λ b. refl) ends)
lexeme_first (mark {s = s}) rest ends = sign_first s rest ∙ rw (sign_complete s rest ends) refl
lexeme_first other_not_equal rest ends = other_first rest ∙ rw (other_complete rest) refl

word_long : (run : List ℕ) → is_word run ≡ true → 1 ≤ length run
word_long [] h = absurd cc
word_long (b ∷ bs) h = omega arith

numeral_long : (run : List ℕ) → is_numeral run ≡ true → 1 ≤ length run
numeral_long [] h = absurd cc
numeral_long (b ∷ bs) h = omega arith

sign_long : (s : Sign) → 1 ≤ length (sign_text s)
sign_long sign.Open = lit≤ tt
sign_long other = lit≤ tt

lexeme_long : {text : List ℕ} {t : Token} → Lexeme text t → 1 ≤ length text
lexeme_long {text} (word w e) = word_long text w
lexeme_long {text} (name w other short) = word_long text w
lexeme_long {text} (number w small) = numeral_long text w
lexeme_long (string is) = omega arith
lexeme_long (bind low high) = omega arith
lexeme_long (mark {s = s}) = sign_long s
lexeme_long other_not_equal = lit≤ tt

nothing_left : (n : ℕ) → tokens_at n [] ≡ Some []
unfolding tokens_at step_at
nothing_left zero = refl
nothing_left (suc n) = rw (nothing_left n) refl

step_tokens : (n : ℕ) (bytes : List ℕ) (o : Option Token) (rest : List ℕ) (tokens : List Token) → step_at bytes ≡ Some (o, rest) → tokens_at n rest ≡ Some tokens → tokens_at (suc n) bytes ≡ Some (cons_option o tokens)
unfolding tokens_at
step_tokens n bytes o rest tokens e f = rw (e, f) refl

space_step : (byte : ℕ) (bytes : List ℕ) → is_space byte ≡ true → step_at (byte ∷ bytes) ≡ Some (None, bytes)
unfolding step_at
space_step byte bytes h = rw h refl

tokens_complete : {bytes : List ℕ} {tokens : List Token} → Tokens bytes tokens → (n : ℕ) → length bytes ≤ n → tokens_at n bytes ≡ Some tokens
tokens_complete end n le = nothing_left n
tokens_complete (space {byte = byte} {bytes = bytes} h g) zero le = absurd (omega arith)
tokens_complete (space {byte = byte} {bytes = bytes} {tokens = tokens} h g) (suc n) le = step_tokens n (byte ∷ bytes) None bytes tokens (space_step byte bytes h) (tokens_complete g n (omega arith))
tokens_complete (then {text = text} {rest = rest} l ends g) zero le = absurd (omega (arith, length-append text rest, lexeme_long l))
tokens_complete (then {text = text} {rest = rest} {t = t} {tokens = tokens} l ends g) (suc n) le = step_tokens n (text ++ rest) (Some t) rest tokens (lexeme_first l rest ends) (tokens_complete g n (omega (arith, length-append text rest, lexeme_long l)))

pub scan_complete : (bytes : List ℕ) (tokens : List Token) → Tokens bytes tokens → scanned bytes ≡ Some tokens
unfolding scanned
scan_complete bytes tokens h = tokens_complete h (length bytes) (omega arith)
