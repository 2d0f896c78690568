-- Reading values undoes writing them.
use Rattle.std.proofs.Common.{◌≡◌, ℕ, ◌^◌, ◌<◌, true, eqb, List, [], ◌∷◌, ◌++◌, length, get_or, drop, map, Option, Some, refl, sym, ap, subst, ◌∙◌, arith, inl, inr, lit<, lit≤}
use Rattle.std.specs.Prelude.{codes}
use Rattle.std.specs.Option.{option_map}
use Rattle.std.specs.List.{AllByRecursion, join_with_byte}
use Rattle.std.specs.Fmt.{decimal}
use Rattle.std.specs.Str.{bytes_eq}
use Rattle.std.proofs.lemmas.Bool.{ne_eqb, eqb-true, or_left}
use Rattle.std.proofs.lemmas.List.{nil_from_length, length-append}
use Rattle.std.proofs.lemmas.Option.{same_Some}
use Rattle.std.proofs.lemmas.Slice.Eq.{bytes_eq-Decides}
use Rattle.desk_values.specs.declared.value.Value.{Value}
use Rattle.desk_values.specs.declared.value.Value.TheVariants.{Null, Int, Text, Row, Draw}
use Rattle.desk_values.specs.Fields.{Lacks, cut_at}
use Rattle.desk_values.specs.Good.{IsValue, IsValues}
use Rattle.desk_values.specs.Text.{value_text, values_text}
use Rattle.desk_values.specs.Reading.{number_of, number_below, integer_of, escaped_of, draw_of, value_of, items_of, inside_of, values_of}
use Rattle.desk_values.proofs.Options.{bind_some, map_some, when_some, chosen, at_end_some}
use Rattle.desk_values.proofs.Readers.{IsReader, first_of}
use Rattle.desk_values.proofs.Cuts.{IsCut, cut_at-joined, cut_at_parts, joined_reader}
use Rattle.desk_values.proofs.Numbers.{numbers, numbers_below, integers}
use Rattle.desk_values.proofs.Escapes.{escapes, IsUtf8-small}
use Rattle.desk_values.proofs.Bytes.{Consists, Consists-append, Consists-weaker, Lacks-from, is_word, is_item, is_listed, decimal-Lacks, decimal_words, signed_words, escaped_words, join_consists}

-- ---- one value

draw_spelled : (bytes front rest : List ℕ) (sequence n : ℕ) → IsCut 46 bytes front rest → front ≡ decimal sequence → rest ≡ decimal n → 100 ∷ bytes ≡ value_text (Draw sequence n)
draw_spelled bytes front rest sequence n is first second = ap (λ (bs : List ℕ). 100 ∷ bs) is.parts ∙ rw (first, second) refl

draw_taken : (bytes : List ℕ) (value : Value) → draw_of bytes ≡ Some value → IsValue value × (100 ∷ bytes ≡ value_text value)
unfolding draw_of
draw_taken bytes value e =
    let parts = bind_some (cut_at 46 bytes) _ value e in
    let sequence = bind_some (number_below (2 ^ 32) parts.0.0) _ value parts.2 in
    let n = bind_some (number_of parts.0.1) _ value sequence.2 in
    let cut = cut_at_parts 46 bytes parts.0 parts.1 in
    let first = (numbers_below (2 ^ 32) (lit≤ tt)).takes parts.0.0 sequence.0 sequence.1 in
    let second = numbers.takes parts.0.1 n.0 n.1 in
    let text = draw_spelled bytes parts.0.0 parts.0.1 sequence.0 n.0 cut first.1 second.1 in
    subst (λ (v : Value). IsValue v × (100 ∷ bytes ≡ value_text v)) (same_Some _ value n.2) ((first.0, second.0), text)

mapped_taken : {T : Type 0} {read : List ℕ → Option T} {Fits : T → Type 0} {text : T → List ℕ} (is : IsReader read Fits text) (make : T → Value) (letter : ℕ) → ((x : T) → Fits x → IsValue (make x)) → ((x : T) → value_text (make x) ≡ letter ∷ text x) → (bytes : List ℕ) (value : Value) → option_map make (read bytes) ≡ Some value → IsValue value × (letter ∷ bytes ≡ value_text value)
mapped_taken {read = read} is make letter fits spelled bytes value e =
    let found = map_some make (read bytes) value e in
    let taken = is.takes bytes found.0 found.1 in
    subst (λ (v : Value). IsValue v × (letter ∷ bytes ≡ value_text v)) found.2 (fits found.0 taken.0, ap (λ (bs : List ℕ). letter ∷ bs) taken.1 ∙ sym (spelled found.0))

-- what a letter leads to
record Behind (read : List ℕ → Option Value) (letter : ℕ) : Type 0 where
  some : 0 < letter
  takes : (bytes : List ℕ) (value : Value) → read bytes ≡ Some value → IsValue value × (letter ∷ bytes ≡ value_text value)

behind_taken : (read : List ℕ → Option Value) (letter : ℕ) → Behind read letter → (bytes : List ℕ) (value : Value) → eqb (get_or bytes 0 0) letter ≡ true → read (drop 1 bytes) ≡ Some value → IsValue value × (bytes ≡ value_text value)
behind_taken read letter is bytes value e h =
    let taken = is.takes (drop 1 bytes) value h in
    (taken.0, first_of bytes letter is.some (eqb-true _ letter e) ∙ taken.1)

behind_int : Behind (λ bytes. option_map Int (integer_of bytes)) 105
behind_int = record { some = lit< tt; takes = mapped_taken integers Int 105 (λ x h. h) (λ x. refl) }

behind_text : Behind (λ bytes. option_map Text (escaped_of bytes)) 116
behind_text = record { some = lit< tt; takes = mapped_taken escapes Text 116 (λ x h. h) (λ x. refl) }

behind_row : Behind (λ bytes. option_map Row (number_of bytes)) 114
behind_row = record { some = lit< tt; takes = mapped_taken numbers Row 114 (λ x h. h) (λ x. refl) }

behind_draw : Behind draw_of 100
behind_draw = record { some = lit< tt; takes = draw_taken }

value_taken : (bytes : List ℕ) (value : Value) → value_of bytes ≡ Some value → IsValue value × (bytes ≡ value_text value)
unfolding value_of
value_taken bytes value e =
    elim (chosen (bytes_eq bytes (codes "-")) _ _ (Some value) e) [
      | inl null ↦ subst (λ (v : Value). IsValue v × (bytes ≡ value_text v)) (same_Some Null value null.1) (tt, (bytes_eq-Decides bytes (codes "-")).0 null.0)
      | inr e ↦ elim (chosen (eqb (get_or bytes 0 0) 105) _ _ (Some value) e.1) [
        | inl int ↦ behind_taken _ 105 behind_int bytes value int.0 int.1
        | inr e ↦ elim (chosen (eqb (get_or bytes 0 0) 116) _ _ (Some value) e.1) [
          | inl text ↦ behind_taken _ 116 behind_text bytes value text.0 text.1
          | inr e ↦ elim (chosen (eqb (get_or bytes 0 0) 114) _ _ (Some value) e.1) [
            | inl row ↦ behind_taken _ 114 behind_row bytes value row.0 row.1
            | inr e ↦
                let draw = when_some (eqb (get_or bytes 0 0) 100) (draw_of (drop 1 bytes)) value e.1 in
                behind_taken _ 100 behind_draw bytes value draw.0 draw.1
          ]
        ]
      ]
    ]

value_again : (value : Value) → IsValue value → value_of (value_text value) ≡ Some value
unfolding value_of draw_of
value_again Null fits = refl
value_again (Int n) fits = rw (integers.again n fits) refl
value_again (Text text) fits = rw (escapes.again text fits) refl
value_again (Row n) fits = rw (numbers.again n fits) refl
value_again (Draw sequence n) fits =
    let small : sequence < 2 ^ 64 = omega arith in
    rw (cut_at-joined 46 (decimal sequence) (decimal n) (decimal-Lacks 46 sequence refl small), (numbers_below (2 ^ 32) (lit≤ tt)).again sequence fits.0, numbers.again n fits.1) refl

pub value_reader : IsReader value_of IsValue value_text
value_reader = record { takes = value_taken; again = value_again }

-- ---- values with a comma between

value_words : (value : Value) → IsValue value → Consists is_word (value_text value)
value_words Null fits = (refl, tt)
value_words (Int n) fits = (refl, signed_words n fits)
value_words (Text text) fits = (refl, escaped_words text (IsUtf8-small text fits.utf8))
value_words (Row n) fits = (refl, decimal_words n fits)
value_words (Draw sequence n) fits =
    let small : sequence < 2 ^ 64 = omega arith in
    (refl, Consists-append is_word (decimal sequence) (46 ∷ decimal n) (decimal_words sequence small) (refl, decimal_words n fits.1))

-- at least one value
abbrev AreSome : List Value → Type 0
AreSome values = (0 < length values) × AllByRecursion IsValue values

abbrev pub items_text : List Value → List ℕ
items_text values = join_with_byte 44 (map value_text values)

items_reader : IsReader items_of AreSome items_text
unfolding items_of
items_reader = joined_reader value_reader 44 (λ value fits. Lacks-from is_word 44 refl (value_text value) (value_words value fits))

items : (values : List Value) → AllByRecursion IsValue values → Consists is_item (items_text values)
items values fits = join_consists is_item 44 refl (map value_text values) (all values fits)
  where
    all : (values : List Value) → AllByRecursion IsValue values → AllByRecursion (Consists is_item) (map value_text values)
    all [] fits = tt
    all (value ∷ values) fits = (Consists-weaker is_word is_item (λ byte e. or_left (is_word byte) (eqb byte 44) e) (value_text value) (value_words value fits.0), all values fits.1)

-- ---- values in brackets

record IsInside (bytes inside : List ℕ) : Type 0 where
  parts : bytes ≡ 91 ∷ (inside ++ 93 ∷ [])
  lacks : Lacks 93 inside

inside_taken : (bytes inside : List ℕ) → inside_of bytes ≡ Some inside → IsInside bytes inside
unfolding inside_of
inside_taken bytes inside e =
    let open_bracket = when_some (eqb (get_or bytes 0 0) 91) _ inside e in
    let parts = bind_some (cut_at 93 (drop 1 bytes)) _ inside open_bracket.1 in
    let cut = cut_at_parts 93 (drop 1 bytes) parts.0 parts.1 in
    let last = at_end_some parts.0.1 parts.0.0 inside parts.2 in
    is_inside bytes parts.0.0 parts.0.1 inside (first_of bytes 91 (lit< tt) (eqb-true _ 91 open_bracket.0)) cut last.0 last.1
  where
    is_inside : (bytes front rest inside : List ℕ) → bytes ≡ 91 ∷ drop 1 bytes → IsCut 93 (drop 1 bytes) front rest → rest ≡ [] → front ≡ inside → IsInside bytes inside
    is_inside bytes front rest inside first cut nothing same = subst (IsInside bytes) same (record {
      parts = first ∙ ap (λ (bs : List ℕ). 91 ∷ bs) (cut.parts ∙ ap (λ (bs : List ℕ). front ++ 93 ∷ bs) nothing);
      lacks = cut.lacks;
    })

inside_again : (inside : List ℕ) → Lacks 93 inside → inside_of (91 ∷ (inside ++ 93 ∷ [])) ≡ Some inside
unfolding inside_of
inside_again inside lacks = rw (cut_at-joined 93 inside [] lacks) refl

values_taken : (bytes : List ℕ) (values : List Value) → values_of bytes ≡ Some values → IsValues values × (bytes ≡ values_text values)
unfolding values_of
values_taken bytes values e =
    let inside = bind_some (inside_of bytes) _ values e in
    let is = inside_taken bytes inside.0 inside.1 in
    elim (chosen (eqb (length inside.0) 0) (Some []) (items_of inside.0) (Some values) inside.2) [
      | inl none ↦ empty bytes inside.0 values is (eqb-true _ 0 none.0) (same_Some [] values none.1)
      | inr some ↦
          let taken = items_reader.takes inside.0 values some.1 in
          (taken.0.1, is.parts ∙ ap (λ (bs : List ℕ). 91 ∷ (bs ++ 93 ∷ [])) taken.1)
    ]
  where
    empty : (bytes inside : List ℕ) (values : List Value) → IsInside bytes inside → length inside ≡ 0 → [] ≡ values → IsValues values × (bytes ≡ values_text values)
    empty bytes inside values is none same = subst (λ (vs : List Value). IsValues vs × (bytes ≡ values_text vs)) same (tt, is.parts ∙ ap (λ (bs : List ℕ). 91 ∷ (bs ++ 93 ∷ [])) (nil_from_length inside none))

value_some : (value : Value) → 0 < length (value_text value)
value_some Null = omega arith
value_some (Int n) = omega arith
value_some (Text text) = omega arith
value_some (Row n) = omega arith
value_some (Draw sequence n) = omega arith

items_some : (values : List Value) → 0 < length values → 0 < length (items_text values)
items_some [] some = absurd (omega arith)
items_some (value ∷ []) some = value_some value
items_some (value ∷ next ∷ others) some = omega (arith, length-append (value_text value) (44 ∷ items_text (next ∷ others)))

pub inside_lacks : (values : List Value) → IsValues values → Lacks 93 (items_text values)
inside_lacks values fits = Lacks-from is_item 93 refl (items_text values) (items values fits)

values_again : (values : List Value) → IsValues values → values_of (values_text values) ≡ Some values
unfolding values_of
values_again [] fits = rw (inside_again [] tt) refl
values_again (value ∷ others) fits =
    let values : List Value = value ∷ others in
    let some : 0 < length (items_text values) = items_some values (omega arith) in
    rw (inside_again (items_text values) (inside_lacks values fits), ne_eqb (length (items_text values)) 0 (omega arith)) (items_reader.again values (omega arith, fits))

pub values_reader : IsReader values_of IsValues values_text
values_reader = record { takes = values_taken; again = values_again }

pub values_listed : (values : List Value) → IsValues values → Consists is_listed (values_text values)
values_listed values fits =
    (refl, Consists-append is_listed (items_text values) (93 ∷ []) (Consists-weaker is_item is_listed (λ byte e. or_left (is_item byte) _ e) (items_text values) (items values fits)) (refl, tt))
