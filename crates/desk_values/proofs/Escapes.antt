-- Reading escaped texts undoes escaping them.
use Rattle.std.proofs.Common.{◌≡◌, ℕ, suc, ◌+◌, ◌-◌, ◌*◌, ◌/◌, ◌%◌, ◌<◌, ◌≤◌, Bool, true, false, cond, eqb, ltb, leb, not, ◌&&◌, ◌||◌, List, [], ◌∷◌, ◌++◌, length, get_or, Option, Some, None, Err, append_assoc, append-nil, refl, sym, ap, subst, ◌∙◌, arith, inl, inr, lit<}
use Rattle.std.specs.Option.{option_map}
use lib.Utf8.{scalar, scalar_cases}
use Rattle.std.specs.List.{AllByRecursion}
use Rattle.std.specs.Char.{encode_utf8}
use Rattle.std.specs.Str.{IsUtf8, is_utf8, bytes_eq, all_scalars, encode_utf8_all}
use Rattle.std.proofs.lemmas.Bool.{lt-ltb, le-ltb, ltb-false, leb-true, le-leb, lt-leb, eqb-true, ne_eqb, and_parts, both_ways, true_from_ne_false, cases_lt, cases_Bool, cond-true, cond-false, agree_below_at}
use Rattle.std.proofs.lemmas.List.{length-append}
use Rattle.std.proofs.lemmas.List.Elements.{All-from_recursion}
use Rattle.std.proofs.lemmas.Slice.Eq.{bytes_eq-Decides}
use Rattle.std.proofs.lemmas.Str.{IsUtf8-from_is_utf8, is_utf8-from_IsUtf8}
use Rattle.std.proofs.lemmas.List.Concat.{flat_map-append}
use Rattle.std.proofs.lemmas.Option.{cond_some, same_Some}
use Rattle.percent_encoding.specs.AsciiSet.{should_percent_encode}
use Rattle.percent_encoding.specs.Percent.{percent_encode_byte, encode_byte, percent_encode, percent_decode}
use Rattle.percent_encoding.proofs.PercentLemmas.{round_trip, IsByte}
use Rattle.desk_values.specs.declared.escape.TheConstants.{ESCAPES}
use Rattle.desk_values.specs.Good.{IsTxt}
use Rattle.desk_values.specs.Text.{is_plain, hex_digit, escape, escaped, txt_text}
use Rattle.desk_values.specs.declared.read_err.ReadErr.{ReadErr}
use Rattle.desk_values.specs.declared.read_err.ReadErr.TheVariants.{Bad, Memory}
use Rattle.desk_values.specs.Reading.{Reads, txt_in, escaped_of, txt_of}
use Rattle.desk_values.specs.Inside.{hex_value, hex_byte, behind_percent, first_byte, IsUnescaped, Unescapes}
use Rattle.desk_values.proofs.Options.{bind_some, map_some, chosen, unless_some, unless_when, none_from, when_some}
use Rattle.desk_values.proofs.Readers.{IsReader, behind}

abbrev pub AllSmall : List ℕ → Type 0
AllSmall bytes = AllByRecursion IsByte bytes

pub small_from_places : (bytes : List ℕ) → ((k : ℕ) → get_or bytes k 0 < 256) → AllSmall bytes
small_from_places [] small = tt
small_from_places (byte ∷ bytes) small = (small 0, small_from_places bytes (λ k. small (suc k)))

-- ---- the set of what is escaped

-- it has the bytes that do not stand for themselves
escapes_if : (byte : ℕ) → byte < 256 → should_percent_encode ESCAPES byte ≡ not (is_plain byte)
unfolding should_percent_encode
escapes_if byte lt = agree_below_at (should_percent_encode ESCAPES) (λ b. not (is_plain b)) 256 byte refl lt

escape_is : (byte : ℕ) → byte < 256 → encode_byte ESCAPES byte ≡ escape byte
unfolding percent_encode_byte
escape_is byte lt =
    let high : byte / 16 % 16 ≡ byte / 16 = omega arith in
    rw (escapes_if byte lt) (elim (is_plain byte) as (λ b. cond (not b) (percent_encode_byte byte) (byte ∷ []) ≡ cond b (byte ∷ []) (37 ∷ hex_digit (byte / 16) ∷ hex_digit (byte % 16) ∷ [])) [ true ↦ refl | false ↦ rw high refl ])

pub percent_encode-escaped : (bytes : List ℕ) → AllSmall bytes → percent_encode ESCAPES bytes ≡ escaped bytes
unfolding percent_encode
percent_encode-escaped [] small = refl
percent_encode-escaped (byte ∷ bytes) small = ap (λ (front : List ℕ). front ++ percent_encode ESCAPES bytes) (escape_is byte small.0) ∙ ap (λ (bs : List ℕ). escape byte ++ bs) (percent_encode-escaped bytes small.1)

percent_decode-escaped : (bytes : List ℕ) → AllSmall bytes → percent_decode (escaped bytes) ≡ bytes
percent_decode-escaped bytes small = ap percent_decode (sym (percent_encode-escaped bytes small)) ∙ round_trip ESCAPES bytes refl (All-from_recursion IsByte bytes small)

-- ---- bytes of UTF-8 are bytes

AllSmall-append : (xs ys : List ℕ) → AllSmall xs → AllSmall ys → AllSmall (xs ++ ys)
AllSmall-append [] ys p q = q
AllSmall-append (x ∷ xs) ys p q = (p.0, AllSmall-append xs ys p.1 q)

encode_small : (c : ℕ) → c < 1114112 → AllSmall (encode_utf8 c)
unfolding encode_utf8
encode_small c lt =
    elim (cases_lt c 128) [
      | inl one ↦ rw (lt-ltb c 128 one) (omega arith, tt)
      | inr above ↦ elim (cases_lt c 2048) [
        | inl two ↦ rw (le-ltb c 128 above, lt-ltb c 2048 two) (omega arith, (omega arith, tt))
        | inr above' ↦ elim (cases_lt c 65536) [
          | inl three ↦ rw (le-ltb c 128 above, le-ltb c 2048 above', lt-ltb c 65536 three) (omega arith, (omega arith, (omega arith, tt)))
          | inr four ↦ rw (le-ltb c 128 above, le-ltb c 2048 above', le-ltb c 65536 four) (omega arith, (omega arith, (omega arith, (omega arith, tt))))
        ]
      ]
    ]

encodes_small : (cs : List ℕ) → all_scalars cs ≡ true → AllSmall (encode_utf8_all cs)
encodes_small [] e = tt
encodes_small (c ∷ cs) e =
    let both : (scalar c ≡ true) × (all_scalars cs ≡ true) = and_parts (scalar c) (all_scalars cs) e in
    AllSmall-append (encode_utf8 c) (encode_utf8_all cs) (encode_small c (omega (arith, scalar_cases c both.0))) (encodes_small cs both.1)

pub IsUtf8-small : (bytes : List ℕ) → IsUtf8 bytes → AllSmall bytes
IsUtf8-small bytes is = subst AllSmall is.1.1 (encodes_small is.0 is.1.0)

-- ---- the texts of the desk

pub txt_in_taken : (bytes text : List ℕ) → txt_in bytes ≡ Some text → IsTxt bytes × (bytes ≡ text)
unfolding txt_in
txt_in_taken bytes text e =
    let test = cond_some (leb (length bytes) 1000 && is_utf8 bytes) bytes text e in
    let both = and_parts (leb (length bytes) 1000) (is_utf8 bytes) test.0 in
    (record { limit = leb-true _ _ both.0; utf8 = IsUtf8-from_is_utf8 bytes both.1 }, test.1)

pub txt_in_again : (text : List ℕ) → IsTxt text → txt_in text ≡ Some text
unfolding txt_in
txt_in_again text is = rw (le-leb (length text) 1000 is.limit, is_utf8-from_IsUtf8 text is.utf8) refl

-- what is no text
pub txt_in_none : (bytes : List ℕ) → (IsTxt bytes → ⊥) → txt_in bytes ≡ None
txt_in_none bytes never = none_from (txt_in bytes) (λ text e. absurd (never (txt_in_taken bytes text e).0))

-- what is a text, by what making it answered
pub txt_in_made : (bytes made : List ℕ) → made ≡ bytes → (1000 < length bytes → ⊥) → ((length bytes ≤ 1000) × (IsUtf8 bytes → ⊥) → ⊥) → txt_in bytes ≡ Some made
txt_in_made bytes made same short utf8 =
    let fits : length bytes ≤ 1000 = omega arith in
    let is : is_utf8 bytes ≡ true = true_from_ne_false (is_utf8 bytes) (λ no. utf8 (fits, λ h. both_ways (is_utf8 bytes) no (is_utf8-from_IsUtf8 bytes h))) in
    txt_in_again bytes (record { limit = fits; utf8 = IsUtf8-from_is_utf8 bytes is }) ∙ ap (λ (t : List ℕ). Some t) (sym same)

escaped_taken : (bytes text : List ℕ) → escaped_of bytes ≡ Some text → IsTxt text × (bytes ≡ escaped text)
unfolding escaped_of
escaped_taken bytes text e =
    let found = percent_decode bytes in
    let again = when_some (bytes_eq (escaped found) bytes) (txt_in found) text e in
    let taken = txt_in_taken found text again.1 in
    subst (λ (t : List ℕ). IsTxt t × (bytes ≡ escaped t)) taken.1 (taken.0, sym ((bytes_eq-Decides (escaped found) bytes).0 again.0))

escaped_again : (text : List ℕ) → IsTxt text → escaped_of (escaped text) ≡ Some text
unfolding escaped_of
escaped_again text is =
    rw (percent_decode-escaped text (IsUtf8-small text is.utf8), (bytes_eq-Decides (escaped text) (escaped text)).1 refl) (txt_in_again text is)

pub escapes : IsReader escaped_of IsTxt escaped
escapes = record { takes = escaped_taken; again = escaped_again }

length_escape : (byte : ℕ) → length (escape byte) ≤ 3
length_escape byte = elim (is_plain byte) as (λ b. length (cond b (byte ∷ []) (37 ∷ hex_digit (byte / 16) ∷ hex_digit (byte % 16) ∷ [])) ≤ 3) [ true ↦ omega arith | false ↦ omega arith ]

length_escaped : (text : List ℕ) → length (escaped text) ≤ 3 * length text
length_escaped [] = omega arith
length_escaped (byte ∷ text) = omega (arith, length-append (escape byte) (escaped text), length_escape byte, length_escaped text)

-- no text takes over 3,000 bytes
pub long_is_none : (bytes : List ℕ) → 3000 < length bytes → escaped_of bytes ≡ None
long_is_none bytes long = none_from (escaped_of bytes) (λ text e.
    let taken = escaped_taken bytes text e in
    let short : length text ≤ 1000 = taken.0.limit in
    absurd (omega (arith, ap length taken.1, length_escaped text)))

pub txts : IsReader txt_of IsTxt txt_text
unfolding txt_of
txts = behind 116 (lit< tt) escapes

-- ---- one byte after the other

-- a byte that stands for itself is one
not_plain : (byte : ℕ) → 256 ≤ byte → is_plain byte ≡ false
not_plain byte above =
    rw (le-leb 65 byte (omega arith), lt-leb byte 90 (omega arith), le-leb 97 byte (omega arith), lt-leb byte 122 (omega arith), le-leb 48 byte (omega arith), lt-leb byte 57 (omega arith), ne_eqb byte 95 (omega arith), ne_eqb byte 45 (omega arith), ne_eqb byte 46 (omega arith)) refl

plain_small : (byte : ℕ) → is_plain byte ≡ true → byte < 256
plain_small byte plain =
    elim (cases_lt byte 256) [
      | inl lt ↦ lt
      | inr above ↦ absurd (both_ways (is_plain byte) (not_plain byte above) plain)
    ]

abbrev tells : Option ℕ → ℕ → Bool
tells None n = false
tells (Some m) n = eqb m n

told : (read : Option ℕ) (n : ℕ) → tells read n ≡ true → read ≡ Some n
told None n e = absurd cc
told (Some m) n e = ap (λ (k : ℕ). Some k) (eqb-true m n e)

other_of : (one other : Bool) → one ≡ false → (one || other) ≡ true → other ≡ true
other_of true other is either = absurd cc
other_of false other is either = either

-- the digits of a byte stand for it
hex_byte_again : (byte : ℕ) → byte < 256 → is_plain byte ≡ false → hex_byte (hex_digit (byte / 16)) (hex_digit (byte % 16)) ≡ Some byte
hex_byte_again byte lt other =
    told _ byte (other_of (is_plain byte) _ other
    (agree_below_at (λ b. is_plain b || tells (hex_byte (hex_digit (b / 16)) (hex_digit (b % 16))) b) (λ b. true) 256 byte refl lt))

abbrev with_rest : List ℕ → ℕ → ℕ × List ℕ
with_rest rest byte = (byte, rest)

first_plain : (byte : ℕ) (rest : List ℕ) → is_plain byte ≡ true → first_byte (byte ∷ rest) ≡ Some (byte, rest)
first_plain byte rest plain = cond-true (is_plain byte) (Some (byte, rest)) (cond (eqb byte 37) (behind_percent rest) None) plain

first_other : (high low byte : ℕ) (rest : List ℕ) → hex_byte high low ≡ Some byte → first_byte (37 ∷ high ∷ low ∷ rest) ≡ Some (byte, rest)
first_other high low byte rest e = ap (λ (read : Option ℕ). option_map (with_rest rest) read) e

escape_plain : (byte : ℕ) → is_plain byte ≡ true → escape byte ≡ byte ∷ []
escape_plain byte plain = cond-true (is_plain byte) (byte ∷ []) (37 ∷ hex_digit (byte / 16) ∷ hex_digit (byte % 16) ∷ []) plain

escape_other : (byte : ℕ) → is_plain byte ≡ false → escape byte ≡ 37 ∷ hex_digit (byte / 16) ∷ hex_digit (byte % 16) ∷ []
escape_other byte other = cond-false (is_plain byte) (byte ∷ []) (37 ∷ hex_digit (byte / 16) ∷ hex_digit (byte % 16) ∷ []) other

first_again : (byte : ℕ) (rest : List ℕ) → byte < 256 → first_byte (escape byte ++ rest) ≡ Some (byte, rest)
first_again byte rest lt =
    elim (cases_Bool (is_plain byte)) [
      | inl plain ↦ ap (λ (front : List ℕ). first_byte (front ++ rest)) (escape_plain byte plain) ∙ first_plain byte rest plain
      | inr other ↦ ap (λ (front : List ℕ). first_byte (front ++ rest)) (escape_other byte other) ∙ first_other (hex_digit (byte / 16)) (hex_digit (byte % 16)) byte rest (hex_byte_again byte lt other)
    ]

-- what a digit stands for is written by it
hex_digit_of : (digit value : ℕ) → value < 10 → 48 + value ≡ digit → hex_digit value ≡ digit
hex_digit_of digit value lt e = cond-true (ltb value 10) (48 + value) (55 + value) (lt-ltb value 10 lt) ∙ e

hex_letter_of : (digit value : ℕ) → 10 ≤ value → 55 + value ≡ digit → hex_digit value ≡ digit
hex_letter_of digit value le e = cond-false (ltb value 10) (48 + value) (55 + value) (le-ltb value 10 le) ∙ e

abbrev letter_of : ℕ → Option ℕ
letter_of digit = cond (ltb digit 65) None (cond (leb digit 70) (Some (digit - 65 + 10)) None)

letter_taken : (digit value : ℕ) → letter_of digit ≡ Some value → (value < 16) × (hex_digit value ≡ digit)
letter_taken digit value e =
    let over = unless_when (ltb digit 65) (cond (leb digit 70) (Some (digit - 65 + 10)) None) value e in
    let under = when_some (leb digit 70) (Some (digit - 65 + 10)) value over.1 in
    let least : 65 ≤ digit = ltb-false digit 65 over.0 in
    let most : digit ≤ 70 = leb-true digit 70 under.0 in
    let is : digit - 65 + 10 ≡ value = same_Some (digit - 65 + 10) value under.1 in
    (omega arith, hex_letter_of digit value (omega arith) (omega arith))

hex_value_taken : (digit value : ℕ) → hex_value digit ≡ Some value → (value < 16) × (hex_digit value ≡ digit)
hex_value_taken digit value e =
    let over = unless_when (ltb digit 48) (cond (leb digit 57) (Some (digit - 48)) (letter_of digit)) value e in
    let least : 48 ≤ digit = ltb-false digit 48 over.0 in
    elim (chosen (leb digit 57) (Some (digit - 48)) (letter_of digit) (Some value) over.1) [
      | inl number ↦
          let most : digit ≤ 57 = leb-true digit 57 number.0 in
          let is : digit - 48 ≡ value = same_Some (digit - 48) value number.1 in
          (omega arith, hex_digit_of digit value (omega arith) (omega arith))
      | inr letter ↦ letter_taken digit value letter.1
    ]

-- what two digits stand for is escaped so
hex_byte_taken : (high low byte : ℕ) → hex_byte high low ≡ Some byte → (byte < 256) × (escape byte ≡ 37 ∷ high ∷ low ∷ [])
hex_byte_taken high low byte e =
    let sixteens = bind_some (hex_value high) _ byte e in
    let ones = bind_some (hex_value low) _ byte sixteens.2 in
    let test = unless_some (is_plain (16 * sixteens.0 + ones.0)) (16 * sixteens.0 + ones.0) byte ones.2 in
    let first = hex_value_taken high sixteens.0 sixteens.1 in
    let second = hex_value_taken low ones.0 ones.1 in
    let sum : 16 * sixteens.0 + ones.0 ≡ byte = test.1 in
    let much : sixteens.0 < 16 = first.0 in
    let little : ones.0 < 16 = second.0 in
    let quotient : byte / 16 ≡ sixteens.0 = omega arith in
    let remainder : byte % 16 ≡ ones.0 = omega arith in
    let other : is_plain byte ≡ false = ap is_plain (sym sum) ∙ test.0 in (
      omega arith,
      escape_other byte other
          ∙ ap (λ (digit : ℕ). 37 ∷ digit ∷ hex_digit (byte % 16) ∷ []) (ap hex_digit quotient ∙ first.1)
          ∙ ap (λ (digit : ℕ). 37 ∷ high ∷ digit ∷ []) (ap hex_digit remainder ∙ second.1),
    )

-- the first byte is written by what it was read from
record IsFirst (bytes rest : List ℕ) (byte : ℕ) : Type 0 where
  spelled : bytes ≡ escape byte ++ rest
  small : byte < 256

first_is : (byte : ℕ) (front rest : List ℕ) (p : ℕ × List ℕ) → escape byte ≡ front → byte < 256 → (byte, rest) ≡ p → IsFirst (front ++ rest) p.1 p.0
first_is byte front rest p e lt is =
    subst (λ (q : ℕ × List ℕ). IsFirst (front ++ rest) q.1 q.0) is (record { spelled = ap (λ (bs : List ℕ). bs ++ rest) (sym e); small = lt })

behind_taken : (bytes : List ℕ) (p : ℕ × List ℕ) → behind_percent bytes ≡ Some p → IsFirst (37 ∷ bytes) p.1 p.0
behind_taken [] p e = absurd cc
behind_taken (high ∷ []) p e = absurd cc
behind_taken (high ∷ low ∷ rest) p e =
    let found = map_some (with_rest rest) (hex_byte high low) p e in
    let taken = hex_byte_taken high low found.0 found.1 in
    first_is found.0 (37 ∷ high ∷ low ∷ []) rest p taken.1 taken.0 found.2

first_taken : (bytes : List ℕ) (p : ℕ × List ℕ) → first_byte bytes ≡ Some p → IsFirst bytes p.1 p.0
first_taken [] p e = absurd cc
first_taken (first ∷ rest) p e =
    elim (chosen (is_plain first) (Some (first, rest)) (cond (eqb first 37) (behind_percent rest) None) (Some p) e) [
      | inl plain ↦ first_is first (first ∷ []) rest p (escape_plain first plain.0) (plain_small first plain.0) (same_Some _ _ plain.1)
      | inr other ↦
          let percent = when_some (eqb first 37) (behind_percent rest) p other.1 in
          subst (λ (b : ℕ). IsFirst (b ∷ rest) p.1 p.0) (sym (eqb-true first 37 percent.0)) (behind_taken rest p percent.1)
    ]

escape_some : (byte : ℕ) → 0 < length (escape byte)
escape_some byte = elim (is_plain byte) as (λ b. 0 < length (cond b (byte ∷ []) (37 ∷ hex_digit (byte / 16) ∷ hex_digit (byte % 16) ∷ []))) [ true ↦ omega arith | false ↦ omega arith ]

pub first_shorter : (bytes : List ℕ) (p : ℕ × List ℕ) → first_byte bytes ≡ Some p → length p.1 < length bytes
first_shorter bytes p e =
    let taken = first_taken bytes p e in
    omega (arith, ap length taken.spelled, length-append (escape p.0) p.1, escape_some p.0)

-- ---- the loop that undoes escapes

escaped-push : (text : List ℕ) (byte : ℕ) → escaped (text ++ byte ∷ []) ≡ escaped text ++ escape byte
escaped-push text byte = flat_map-append escape text (byte ∷ []) ∙ ap (λ (bs : List ℕ). escaped text ++ bs) (append-nil (escape byte))

pub unescaped_more : (bytes text rest : List ℕ) (p : ℕ × List ℕ) → bytes ≡ escaped text ++ rest → first_byte rest ≡ Some p → bytes ≡ escaped (text ++ p.0 ∷ []) ++ p.1
unescaped_more bytes text rest p e found =
    e ∙ ap (λ (bs : List ℕ). escaped text ++ bs) (first_taken rest p found).spelled
    ∙ sym (append_assoc (escaped text) (escape p.0) p.1) ∙ ap (λ (bs : List ℕ). bs ++ p.1) (sym (escaped-push text p.0))

pub small_more : (text rest : List ℕ) (p : ℕ × List ℕ) → AllSmall text → first_byte rest ≡ Some p → AllSmall (text ++ p.0 ∷ [])
small_more text rest p small found = AllSmall-append text (p.0 ∷ []) small ((first_taken rest p found).small, tt)

pub unescaped_all : (bytes text rest : List ℕ) → bytes ≡ escaped text ++ rest → AllSmall text → length rest ≡ 0 → IsUnescaped bytes text
unescaped_all bytes text [] e small none = record { spelled = e ∙ append-nil (escaped text); small = small }
unescaped_all bytes text (first ∷ rest) e small none = absurd (omega arith)

-- what begins with no escaped byte ends no escaped text
stuck : (text rest other : List ℕ) → AllSmall text → AllSmall other → first_byte rest ≡ None → (length rest ≡ 0 → ⊥) → escaped text ++ rest ≡ escaped other → ⊥
stuck [] rest [] small others none some e = some (ap length e)
stuck [] rest (byte ∷ other) small others none some e =
    let never : ◌≡◌ {A = Option (ℕ × List ℕ)} None (Some (byte, escaped other)) = sym none ∙ ap first_byte e ∙ first_again byte (escaped other) others.0 in
    cc
stuck (byte ∷ text) rest [] small others none some e =
    let never : ◌≡◌ {A = Option (ℕ × List ℕ)} None (Some (byte, escaped text ++ rest)) = ap first_byte (sym e ∙ append_assoc (escape byte) (escaped text) rest) ∙ first_again byte (escaped text ++ rest) small.0 in
    cc
stuck (byte ∷ text) rest (second ∷ other) small others none some e =
    let both : ◌≡◌ {A = Option (ℕ × List ℕ)} (Some (byte, escaped text ++ rest)) (Some (second, escaped other)) =
    sym (first_again byte (escaped text ++ rest) small.0) ∙ ap first_byte (sym (append_assoc (escape byte) (escaped text) rest) ∙ e) ∙ first_again second (escaped other) others.0 in
    let parts = same_Some (byte, escaped text ++ rest) (second, escaped other) both in
    stuck text rest other small.1 others.1 none some (ap (λ (p : ℕ × List ℕ). p.1) parts)

pub unescaped_never : (bytes text rest other : List ℕ) → bytes ≡ escaped text ++ rest → AllSmall text → first_byte rest ≡ None → (length rest ≡ 0 → ⊥) → IsUnescaped bytes other → ⊥
unescaped_never bytes text rest other e small none some is = stuck text rest other small is.small none some (sym e ∙ is.spelled)

-- ---- what is read then

pub unescaped_text : (bytes text : List ℕ) → IsUnescaped bytes text → escaped_of bytes ≡ txt_in text
unfolding escaped_of
unescaped_text bytes text is =
    let found : percent_decode bytes ≡ text = ap percent_decode is.spelled ∙ percent_decode-escaped text is.small in
    let same : bytes_eq (escaped text) bytes ≡ true = (bytes_eq-Decides (escaped text) bytes).1 (sym is.spelled) in
    rw (found, same) refl

pub unescaped_err : (bytes : List ℕ) (error : ReadErr) → Unescapes (Err error) bytes → Reads {T = List ℕ} (Err error) (escaped_of bytes)
unescaped_err bytes Memory never = tt
unescaped_err bytes Bad never = none_from (escaped_of bytes) (λ text e.
    let taken = escaped_taken bytes text e in
    never text (record { spelled = taken.1; small = IsUtf8-small text taken.0.utf8 }))
