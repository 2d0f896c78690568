-- Reading replies undoes writing them.
use Rattle.std.proofs.Common.{◌≡◌, ℕ, Bool, ◌||◌, ◌^◌, ◌<◌, true, false, eqb, List, [], ◌∷◌, ◌++◌, length, get_or, drop, map, Option, Some, None, Err, refl, sym, ap, subst, ◌∙◌, arith, inl, inr, lit<, lit≤, append_assoc, append-nil}
use Rattle.std.specs.Prelude.{codes, IfSome}
use Rattle.std.specs.Option.{option_map}
use Rattle.std.specs.List.{AllByRecursion, join_with_byte, flat_map}
use Rattle.std.specs.Fmt.{decimal}
use Rattle.std.specs.Str.{bytes_eq}
use Rattle.std.proofs.lemmas.Bool.{ne_eqb, eqb-true, eqb-false, or_left, cond-false, false_from_ne_true}
use Rattle.std.proofs.lemmas.Option.{same_Some, none-some, cond_some}
use Rattle.std.proofs.lemmas.Slice.Eq.{bytes_eq-Decides}
use Rattle.desk_values.specs.declared.read_err.ReadErr.{ReadErr}
use Rattle.desk_values.specs.declared.read_err.ReadErr.TheVariants.{Bad, Memory}
use Rattle.desk_values.specs.declared.value.Value.{Value}
use Rattle.desk_values.specs.declared.value.Value.TheVariants.{Draw}
use Rattle.desk_values.specs.declared.value.Image.{Image}
use Rattle.desk_values.specs.declared.fault.Fault.{Fault}
use Rattle.desk_values.specs.declared.call.Outcome.{Outcome}
use Rattle.desk_values.specs.declared.call.Outcome.TheVariants.{Rows, Count, Committed, RolledBack, Marked, Connected, Disconnected, Refused}
use Rattle.desk_values.specs.declared.call.Reply.{Reply}
use Rattle.desk_values.specs.Fault.{fault_number, fault_numbered}
use Rattle.desk_values.specs.Fields.{Lacks, cut_at, pieces}
use Rattle.desk_values.specs.Good.{IsValue, IsValues, IsGoodRow, IsGoodDraw, IsGoodImage, IsGoodOutcome, IsGoodReply, Ascend}
use Rattle.desk_values.specs.Text.{values_text, rows_text, left_text, image_text, images_text, outcome_text, made_text, reply_text}
use Rattle.desk_values.specs.Reading.{Reads, ◌>>=◌, number_of, number_below, each_of, values_of}
use Rattle.capture_format.specs.ReplyReading.{filled_of, open_rows_of, rows_of, left_of, image_of, images_of, fault_of, field_outcome_of, word_outcome_of, outcome_behind, outcome_of, draws_of, made_of, reply_of}
use Rattle.desk_values.specs.Good.{rows_ascend, all_draws}
use Rattle.capture_format.proofs.Fields.{by_word, one_text, no_word}
use Rattle.desk_values.proofs.Options.{bind_some, map_some, unless_some, unless_when, when_some, chosen, at_end_some}
use Rattle.desk_values.proofs.Readers.{IsReader, first_of}
use Rattle.desk_values.proofs.Cuts.{IsCut, cut_at-joined, cut_at_parts, cut_at_lacks, pieces-joined, pieces-none, pieces-cut, pieces_some, join-pieces, joined_reader, onto_items, onto_items-append}
use Rattle.desk_values.proofs.Numbers.{numbers, numbers_below}
use Rattle.desk_values.proofs.Faults.{numbered_taken, numbered_again, fault_number_small}
use Rattle.desk_values.proofs.ImageTests.{rows_ascend_is, all_draws_is}
use Rattle.desk_values.proofs.ValueTexts.{values_reader, values_listed, items_text, inside_lacks}
use Rattle.desk_values.proofs.Bytes.{Consists, Consists-append, Consists-weaker, Lacks-from, is_word, is_item, is_listed, decimal-Lacks, decimal_words, join_consists}

pub is_codes : (bytes text : List ℕ) → bytes_eq bytes text ≡ true → bytes ≡ text
is_codes bytes text e = (bytes_eq-Decides bytes text).0 e

-- a byte of an image
abbrev pub is_imaged : ℕ → Bool
is_imaged byte = is_listed byte || eqb byte 58

-- a byte of a field of a line
abbrev pub is_field : ℕ → Bool
is_field byte = is_imaged byte || eqb byte 59

-- ---- at least one value in brackets

filled_taken : (bytes : List ℕ) (values : List Value) → filled_of bytes ≡ Some values → IsGoodRow values × (bytes ≡ values_text values)
unfolding filled_of
filled_taken bytes values e =
    let found = bind_some (values_of bytes) _ values e in
    let some = unless_some (eqb (length found.0) 0) found.0 values found.2 in
    let taken = values_reader.takes bytes found.0 found.1 in
    subst (λ (vs : List Value). IsGoodRow vs × (bytes ≡ values_text vs)) some.1 ((positive _ (eqb-false _ 0 some.0), taken.0), taken.1)
  where
    positive : (n : ℕ) → (n ≡ 0 → ⊥) → 0 < n
    positive n h = omega arith

pub filled_reader : IsReader filled_of IsGoodRow values_text
unfolding filled_of
filled_reader = record {
  takes = filled_taken;
  again = λ values fits. rw (values_reader.again values fits.1, ne_eqb (length values) 0 (omega (arith, fits.0))) refl;
}

-- ---- rows

-- what pieces without their `]` spell
record AreOpen (parts : List (List ℕ)) (rows : List (List Value)) : Type 0 where
  good : AllByRecursion IsGoodRow rows
  text : join_with_byte 93 parts ≡ flat_map values_text rows

open_more : (piece next : List ℕ) (others : List (List ℕ)) (row : List Value) (rows all : List (List Value)) → IsGoodRow row × (piece ++ 93 ∷ [] ≡ values_text row) → AreOpen (next ∷ others) rows → row ∷ rows ≡ all → AreOpen (piece ∷ next ∷ others) all
open_more piece next others row rows all p is e = subst (AreOpen (piece ∷ next ∷ others)) e (record {
  good = (p.0, is.good);
  text = sym (append_assoc piece (93 ∷ []) (join_with_byte 93 (next ∷ others))) ∙ ap (λ (bs : List ℕ). bs ++ join_with_byte 93 (next ∷ others)) p.1 ∙ ap (λ (bs : List ℕ). values_text row ++ bs) is.text;
})

open_taken : (parts : List (List ℕ)) (rows : List (List Value)) → open_rows_of parts ≡ Some rows → AreOpen parts rows
unfolding open_rows_of
open_taken [] rows e = absurd (none-some rows e)
open_taken (last ∷ []) rows e =
    let ends = at_end_some last [] rows e in
    subst (AreOpen (last ∷ [])) ends.1 (record { good = tt; text = ends.0 })
open_taken (piece ∷ next ∷ others) rows e =
    let row = bind_some (filled_of (piece ++ 93 ∷ [])) _ rows e in
    let rest = bind_some (open_rows_of (next ∷ others)) _ rows row.2 in
    open_more piece next others row.0 rest.0 rows (filled_reader.takes (piece ++ 93 ∷ []) row.0 row.1) (open_taken (next ∷ others) rest.0 rest.1) (same_Some _ rows rest.2)

open_first : (piece : List ℕ) (parts : List (List ℕ)) (row : List Value) (rows : List (List Value)) → 0 < length parts → filled_of (piece ++ 93 ∷ []) ≡ Some row → open_rows_of parts ≡ Some rows → open_rows_of (piece ∷ parts) ≡ Some (row ∷ rows)
unfolding open_rows_of
open_first piece [] row rows some e h = absurd (omega arith)
open_first piece (next ∷ others) row rows some e h = rw (e, h) refl

open_again : (rows : List (List Value)) → AllByRecursion IsGoodRow rows → open_rows_of (pieces 93 (flat_map values_text rows)) ≡ Some rows
unfolding open_rows_of
open_again [] good = refl
open_again (row ∷ rows) good =
    let front : List ℕ = 91 ∷ items_text row in
    let rest : List ℕ = flat_map values_text rows in
    let lacks : Lacks 93 front = (λ e. absurd (omega arith), inside_lacks row good.0.1) in
    let cut : pieces 93 (values_text row ++ rest) ≡ front ∷ pieces 93 rest = ap (pieces 93) (append_assoc front (93 ∷ []) rest) ∙ pieces-joined 93 front rest lacks in
    ap open_rows_of cut ∙ open_first front (pieces 93 rest) row rows (pieces_some 93 rest) (filled_reader.again row good.0) (open_again rows good.1)

-- ---- the loop that reads rows

open_step : (piece : List ℕ) (parts : List (List ℕ)) → 0 < length parts → open_rows_of (piece ∷ parts) ≡ (filled_of (piece ++ 93 ∷ []) >>= λ row. open_rows_of parts >>= λ rows. Some (row ∷ rows))
unfolding open_rows_of
open_step piece [] some = absurd (omega arith)
open_step piece (next ∷ others) some = refl

-- one more row
pub rows_more : (rest front after : List ℕ) (rows : List (List Value)) (row : List Value) (whole : Option (List (List Value))) → cut_at 93 rest ≡ Some (front, after) → filled_of (front ++ 93 ∷ []) ≡ Some row → onto_items rows (open_rows_of (pieces 93 rest)) ≡ whole → onto_items (rows ++ row ∷ []) (open_rows_of (pieces 93 after)) ≡ whole
rows_more rest front after rows row whole e is h =
    onto_items-append rows row (open_rows_of (pieces 93 after)) ∙ sym (ap (λ (ps : List (List ℕ)). onto_items rows (open_rows_of ps)) (pieces-cut 93 rest front after e) ∙ ap (onto_items rows) (open_step front (pieces 93 after) (pieces_some 93 after)) ∙ rw is refl) ∙ h

-- a row that is none, or want of memory
pub rows_bad : (rest front after : List ℕ) (rows : List (List Value)) (whole : Option (List (List Value))) (error : ReadErr) → cut_at 93 rest ≡ Some (front, after) → Reads {T = List Value} (Err error) (filled_of (front ++ 93 ∷ [])) → onto_items rows (open_rows_of (pieces 93 rest)) ≡ whole → Reads {T = List (List Value)} (Err error) whole
rows_bad rest front after rows whole Memory e is h = tt
rows_bad rest front after rows whole Bad e is h =
    sym h ∙ ap (λ (ps : List (List ℕ)). onto_items rows (open_rows_of ps)) (pieces-cut 93 rest front after e) ∙ ap (onto_items rows) (open_step front (pieces 93 after) (pieces_some 93 after)) ∙ rw is refl

-- no row is left
pub rows_end : (rest : List ℕ) (rows : List (List Value)) (whole : Option (List (List Value))) → length rest ≡ 0 → onto_items rows (open_rows_of (pieces 93 rest)) ≡ whole → whole ≡ Some rows
unfolding open_rows_of
rows_end [] rows whole e h = sym h ∙ ap (λ (rs : List (List Value)). Some rs) (append-nil rows)
rows_end (first ∷ rest) rows whole e h = absurd (omega arith)

-- what is left is no row
pub rows_fault : (rest : List ℕ) (rows : List (List Value)) (whole : Option (List (List Value))) → (length rest ≡ 0 → ⊥) → cut_at 93 rest ≡ None → onto_items rows (open_rows_of (pieces 93 rest)) ≡ whole → whole ≡ None
unfolding open_rows_of
rows_fault [] rows whole some e h = absurd (some refl)
rows_fault (first ∷ rest) rows whole some e h =
    sym h ∙ ap (λ (ps : List (List ℕ)). onto_items rows (open_rows_of ps)) (pieces-none 93 (first ∷ rest) (cut_at_lacks 93 (first ∷ rest) e))

-- ---- rows as a field

rows_spelled : (bytes : List ℕ) (rows : List (List Value)) → (length bytes ≡ 0 → ⊥) → AllByRecursion IsGoodRow rows → bytes ≡ flat_map values_text rows → AllByRecursion IsGoodRow rows × (bytes ≡ rows_text rows)
rows_spelled bytes [] some good e = absurd (some (ap length e))
rows_spelled bytes (row ∷ rows) some good e = (good, e)

rows_taken : (bytes : List ℕ) (rows : List (List Value)) → rows_of bytes ≡ Some rows → AllByRecursion IsGoodRow rows × (bytes ≡ rows_text rows)
unfolding rows_of
rows_taken bytes rows e =
    elim (chosen (bytes_eq bytes (codes "-")) (Some []) _ (Some rows) e) [
      | inl none ↦ subst (λ (rs : List (List Value)). AllByRecursion IsGoodRow rs × (bytes ≡ rows_text rs)) (same_Some [] rows none.1) (tt, is_codes bytes (codes "-") none.0)
      | inr e ↦
          let some = unless_when (eqb (length bytes) 0) (open_rows_of (pieces 93 bytes)) rows e.1 in
          let are = open_taken (pieces 93 bytes) rows some.1 in
          rows_spelled bytes rows (eqb-false _ 0 some.0) are.good (sym (join-pieces 93 bytes) ∙ are.text)
    ]

rows_again : (rows : List (List Value)) → AllByRecursion IsGoodRow rows → rows_of (rows_text rows) ≡ Some rows
unfolding rows_of
rows_again [] good = refl
rows_again (row ∷ rows) good =
    let bytes : List ℕ = flat_map values_text (row ∷ rows) in
    cond-false (eqb (length bytes) 0) None (open_rows_of (pieces 93 bytes)) (ne_eqb (length bytes) 0 (λ e. absurd (omega arith))) ∙ open_again (row ∷ rows) good

pub rows_reader : IsReader rows_of (AllByRecursion IsGoodRow) rows_text
rows_reader = record { takes = rows_taken; again = rows_again }

rows_listed : (rows : List (List Value)) → AllByRecursion IsGoodRow rows → Consists is_listed (flat_map values_text rows)
rows_listed [] good = tt
rows_listed (row ∷ rows) good = Consists-append is_listed (values_text row) (flat_map values_text rows) (values_listed row good.0.1) (rows_listed rows good.1)

pub rows_text_listed : (rows : List (List Value)) → AllByRecursion IsGoodRow rows → Consists is_listed (rows_text rows)
rows_text_listed [] good = (refl, tt)
rows_text_listed (row ∷ rows) good = rows_listed (row ∷ rows) good

-- ---- images

abbrev IsLeft : Option (List Value) → Type 0
IsLeft left = IfSome left IsGoodRow

left_taken : (bytes : List ℕ) (left : Option (List Value)) → left_of bytes ≡ Some left → IfSome left IsGoodRow × (bytes ≡ left_text left)
unfolding left_of
left_taken bytes left e =
    elim (chosen (bytes_eq bytes (codes "gone")) (Some None) (option_map (λ values. Some values) (filled_of bytes)) (Some left) e) [
      | inl gone ↦ subst (λ (l : Option (List Value)). IfSome l IsGoodRow × (bytes ≡ left_text l)) (same_Some None left gone.1) (tt, is_codes bytes (codes "gone") gone.0)
      | inr e ↦
          let found = map_some (λ (values : List Value). Some values) (filled_of bytes) left e.1 in
          subst (λ (l : Option (List Value)). IfSome l IsGoodRow × (bytes ≡ left_text l)) found.2 (filled_reader.takes bytes found.0 found.1)
    ]

left_again : (left : Option (List Value)) → IfSome left IsGoodRow → left_of (left_text left) ≡ Some left
unfolding left_of
left_again None good = refl
left_again (Some values) good = rw (filled_reader.again values good) refl

image_spelled : (bytes front rest middle last : List ℕ) (image : Image) → IsCut 58 bytes front rest → IsCut 58 rest middle last → (image.row < 2 ^ 64) × (front ≡ decimal image.row) → (image.table < 32) × (middle ≡ decimal image.table) → IfSome image.left IsGoodRow × (last ≡ left_text image.left) → IsGoodImage image × (bytes ≡ image_text image)
image_spelled bytes front rest middle last image first second row table left =
    let small : image.table < 32 = table.0 in
    (record { row = row.0; table = (omega arith); left = left.0 }, first.parts ∙ rw (second.parts, row.1, table.1, left.1) refl)

image_taken : (bytes : List ℕ) (image : Image) → image_of bytes ≡ Some image → IsGoodImage image × (bytes ≡ image_text image)
unfolding image_of
image_taken bytes image e =
    let parts = bind_some (cut_at 58 bytes) _ image e in
    let row = bind_some (number_of parts.0.0) _ image parts.2 in
    let others = bind_some (cut_at 58 parts.0.1) _ image row.2 in
    let table = bind_some (number_below 32 others.0.0) _ image others.2 in
    let left = bind_some (left_of others.0.1) _ image table.2 in
    subst (λ (i : Image). IsGoodImage i × (bytes ≡ image_text i)) (same_Some _ image left.2)
    (image_spelled bytes parts.0.0 parts.0.1 others.0.0 others.0.1 (record { row = row.0; table = table.0; left = left.0 })
    (cut_at_parts 58 bytes parts.0 parts.1) (cut_at_parts 58 parts.0.1 others.0 others.1)
    (numbers.takes parts.0.0 row.0 row.1) ((numbers_below 32 (lit≤ tt)).takes others.0.0 table.0 table.1) (left_taken others.0.1 left.0 left.1))

image_again : (image : Image) → IsGoodImage image → image_of (image_text image) ≡ Some image
unfolding image_of
image_again image good =
    let table : image.table < 32 = good.table in
    let small : image.table < 2 ^ 64 = omega arith in
    rw (
      cut_at-joined 58 (decimal image.row) (decimal image.table ++ 58 ∷ left_text image.left) (decimal-Lacks 58 image.row refl good.row),
      numbers.again image.row good.row,
      cut_at-joined 58 (decimal image.table) (left_text image.left) (decimal-Lacks 58 image.table refl small),
      (numbers_below 32 (lit≤ tt)).again image.table (omega arith),
      left_again image.left good.left,
    ) refl

pub image_reader : IsReader image_of IsGoodImage image_text
image_reader = record { takes = image_taken; again = image_again }

left_listed : (left : Option (List Value)) → IfSome left IsGoodRow → Consists is_listed (left_text left)
left_listed None good = (refl, (refl, (refl, (refl, tt))))
left_listed (Some values) good = values_listed values good.1

image_imaged : (image : Image) → IsGoodImage image → Consists is_imaged (image_text image)
image_imaged image good =
    let table : image.table < 32 = good.table in
    let small : image.table < 2 ^ 64 = omega arith in
    let number = λ (n : ℕ) (lt : n < 2 ^ 64). Consists-weaker is_word is_imaged (λ byte e. or_left (is_listed byte) _ (or_left (is_item byte) _ (or_left (is_word byte) _ e))) (decimal n) (decimal_words n lt) in
    Consists-append is_imaged (decimal image.row) _ (number image.row good.row) (refl, Consists-append is_imaged (decimal image.table) _ (number image.table small) (refl, Consists-weaker is_listed is_imaged (λ byte e. or_left (is_listed byte) _ e) (left_text image.left) (left_listed image.left good.left)))

-- ---- images of a commit

image_list : IsReader (λ bytes. each_of image_of (pieces 59 bytes)) (λ images. (0 < length images) × AllByRecursion IsGoodImage images) (λ images. join_with_byte 59 (map image_text images))
image_list = joined_reader image_reader 59 (λ image good. Lacks-from is_imaged 59 refl (image_text image) (image_imaged image good))

images_spelled : (bytes : List ℕ) (images : List Image) → Ascend images → ((0 < length images) × AllByRecursion IsGoodImage images) × (bytes ≡ join_with_byte 59 (map image_text images)) → (AllByRecursion IsGoodImage images × Ascend images) × (bytes ≡ images_text images)
images_spelled bytes [] ascend taken = absurd (omega (arith, taken.0.0))
images_spelled bytes (image ∷ images) ascend taken = ((taken.0.1, ascend), taken.1)

images_taken : (bytes : List ℕ) (images : List Image) → images_of bytes ≡ Some images → (AllByRecursion IsGoodImage images × Ascend images) × (bytes ≡ images_text images)
unfolding images_of
images_taken bytes images e =
    elim (chosen (bytes_eq bytes (codes "-")) (Some []) _ (Some images) e) [
      | inl none ↦ subst (λ (is : List Image). (AllByRecursion IsGoodImage is × Ascend is) × (bytes ≡ images_text is)) (same_Some [] images none.1) ((tt, tt), is_codes bytes (codes "-") none.0)
      | inr e ↦
          let found = bind_some (each_of image_of (pieces 59 bytes)) _ images e.1 in
          let test = cond_some (rows_ascend found.0) found.0 images found.2 in
          subst (λ (is : List Image). (AllByRecursion IsGoodImage is × Ascend is) × (bytes ≡ images_text is)) test.1
          (images_spelled bytes found.0 ((rows_ascend_is found.0).0 test.0) (image_list.takes bytes found.0 found.1))
    ]

-- a dash is no image
dash_is_none : each_of image_of (pieces 59 (45 ∷ [])) ≡ None
unfolding each_of image_of
dash_is_none = refl

images_again : (images : List Image) → AllByRecursion IsGoodImage images × Ascend images → images_of (images_text images) ≡ Some images
unfolding images_of
images_again [] good = refl
images_again (image ∷ others) good =
    let images : List Image = image ∷ others in
    let bytes : List ℕ = images_text images in
    let read : each_of image_of (pieces 59 bytes) ≡ Some images = image_list.again images (omega arith, good.0) in
    let no_dash : bytes_eq bytes (codes "-") ≡ false = false_from_ne_true _ (λ yes. none-some images (sym dash_is_none ∙ ap (λ (bs : List ℕ). each_of image_of (pieces 59 bs)) (sym (is_codes bytes (codes "-") yes)) ∙ read)) in
    rw (no_dash, read, (rows_ascend_is images).1 good.1) refl

pub images_reader : IsReader images_of (λ images. AllByRecursion IsGoodImage images × Ascend images) images_text
images_reader = record { takes = images_taken; again = images_again }

pub images_field : (images : List Image) → AllByRecursion IsGoodImage images → Consists is_field (images_text images)
images_field [] good = (refl, tt)
images_field (image ∷ images) good = join_consists is_field 59 refl (map image_text (image ∷ images)) (all (image ∷ images) good)
  where
    all : (images : List Image) → AllByRecursion IsGoodImage images → AllByRecursion (Consists is_field) (map image_text images)
    all [] good = tt
    all (image ∷ images) good = (Consists-weaker is_imaged is_field (λ byte e. or_left (is_imaged byte) _ e) (image_text image) (image_imaged image good.0), all images good.1)

-- ---- outcomes

pub is_listed-field : (byte : ℕ) → is_listed byte ≡ true → is_field byte ≡ true
is_listed-field byte e = or_left (is_imaged byte) _ (or_left (is_listed byte) _ e)

pub is_word-field : (byte : ℕ) → is_word byte ≡ true → is_field byte ≡ true
is_word-field byte e = is_listed-field byte (or_left (is_item byte) _ (or_left (is_word byte) _ e))

pub decimal_field : (n : ℕ) → n < 2 ^ 64 → Consists is_field (decimal n)
decimal_field n lt = Consists-weaker is_word is_field is_word-field (decimal n) (decimal_words n lt)

pub values_field : (values : List Value) → IsValues values → Consists is_field (values_text values)
values_field values fits = Consists-weaker is_listed is_field is_listed-field (values_text values) (values_listed values fits)

space_lacks : (bytes : List ℕ) → Consists is_field bytes → Lacks 32 bytes
space_lacks bytes are = Lacks-from is_field 32 refl bytes are

word_taken : (word : List ℕ) (outcome : Outcome) → word_outcome_of word ≡ Some outcome → IsGoodOutcome outcome × (word ≡ outcome_text outcome)
unfolding word_outcome_of
word_taken word outcome =
    let P : Outcome → Type 0 = λ o. IsGoodOutcome o × (word ≡ outcome_text o) in
    one_text word (codes "rolledback") RolledBack _ P outcome (λ is. (tt, is))
    (one_text word (codes "marked") Marked _ P outcome (λ is. (tt, is))
    (one_text word (codes "connected") Connected _ P outcome (λ is. (tt, is))
    (one_text word (codes "disconnected") Disconnected None P outcome (λ is. (tt, is)) (no_word (P outcome) outcome))))

fault_taken : (field : List ℕ) (fault : Fault) → fault_of field ≡ Some fault → Unit {0} × (field ≡ decimal (fault_number fault))
fault_taken field fault e =
    let n = bind_some (number_below (2 ^ 32) field) fault_numbered fault e in
    (tt, ((numbers_below (2 ^ 32) (lit≤ tt)).takes field n.0 n.1).1 ∙ ap decimal (sym (numbered_taken n.0 fault n.2)))

fault_again : (fault : Fault) → Unit {0} → fault_of (decimal (fault_number fault)) ≡ Some fault
fault_again fault good =
    rw ((numbers_below (2 ^ 32) (lit≤ tt)).again (fault_number fault) (omega (arith, fault_number_small fault))) (numbered_again fault)

fault_reader : IsReader fault_of (λ fault. Unit {0}) (λ fault. decimal (fault_number fault))
fault_reader = record { takes = fault_taken; again = fault_again }

field_taken : (word field : List ℕ) (outcome : Outcome) → field_outcome_of word field ≡ Some outcome → IsGoodOutcome outcome × (word ++ 32 ∷ field ≡ outcome_text outcome)
unfolding field_outcome_of
field_taken word field outcome =
    by_word IsGoodOutcome outcome_text (codes "rows") Rows rows_reader (λ x h. (h, refl)) word field outcome _
    (by_word IsGoodOutcome outcome_text (codes "count") Count numbers (λ x h. (h, refl)) word field outcome _
    (by_word IsGoodOutcome outcome_text (codes "committed") Committed images_reader (λ x h. (h, refl)) word field outcome _
    (by_word IsGoodOutcome outcome_text (codes "refused") Refused fault_reader (λ x h. (h, refl)) word field outcome None (no_word _ outcome))))

-- an outcome at the front
abbrev IsFront : List ℕ → Outcome × List ℕ → Type 0
IsFront bytes p = IsGoodOutcome p.0 × (bytes ≡ outcome_text p.0 ++ 32 ∷ p.1)

behind_word : (word rest : List ℕ) (read : Option Outcome) (p : Outcome × List ℕ) → word_outcome_of word ≡ read → outcome_behind word rest read ≡ Some p → IsFront (word ++ 32 ∷ rest) p
behind_word word rest (Some outcome) p is e =
    let taken = word_taken word outcome is in
    subst (IsFront (word ++ 32 ∷ rest)) (same_Some _ p e) (taken.0, ap (λ (bs : List ℕ). bs ++ 32 ∷ rest) taken.1)
behind_word word rest None p is e =
    let parts = bind_some (cut_at 32 rest) _ p e in
    let outcome = bind_some (field_outcome_of word parts.0.0) _ p parts.2 in
    with_field parts.0.0 parts.0.1 outcome.0 (cut_at_parts 32 rest parts.0 parts.1) (field_taken word parts.0.0 outcome.0 outcome.1) (same_Some _ p outcome.2)
  where
    with_field : (field others : List ℕ) (outcome : Outcome) → IsCut 32 rest field others → IsGoodOutcome outcome × (word ++ 32 ∷ field ≡ outcome_text outcome) → (outcome, others) ≡ p → IsFront (word ++ 32 ∷ rest) p
    with_field field others outcome cut taken same =
        subst (IsFront (word ++ 32 ∷ rest)) same (taken.0, ap (λ (bs : List ℕ). word ++ 32 ∷ bs) cut.parts ∙ sym (append_assoc word (32 ∷ field) (32 ∷ others)) ∙ ap (λ (bs : List ℕ). bs ++ 32 ∷ others) taken.1)

outcome_taken : (bytes : List ℕ) (p : Outcome × List ℕ) → outcome_of bytes ≡ Some p → IsFront bytes p
unfolding outcome_of
outcome_taken bytes p e =
    let parts = bind_some (cut_at 32 bytes) _ p e in
    let cut = cut_at_parts 32 bytes parts.0 parts.1 in
    subst (λ (bs : List ℕ). IsFront bs p) (sym cut.parts) (behind_word parts.0.0 parts.0.1 (word_outcome_of parts.0.0) p refl parts.2)

rows_lacks : (rows : List (List Value)) → AllByRecursion IsGoodRow rows → Lacks 32 (rows_text rows)
rows_lacks rows good = Lacks-from is_listed 32 refl (rows_text rows) (rows_text_listed rows good)

outcome_again : (outcome : Outcome) (rest : List ℕ) → IsGoodOutcome outcome → outcome_of (outcome_text outcome ++ 32 ∷ rest) ≡ Some (outcome, rest)
unfolding outcome_of word_outcome_of field_outcome_of
outcome_again (Rows rows) rest good = rw (cut_at-joined 32 (rows_text rows) rest (rows_lacks rows good), rows_again rows good) refl
outcome_again (Count n) rest good = rw (cut_at-joined 32 (decimal n) rest (decimal-Lacks 32 n refl good), numbers.again n good) refl
outcome_again (Committed images) rest good = rw (cut_at-joined 32 (images_text images) rest (space_lacks (images_text images) (images_field images good.0)), images_again images good) refl
outcome_again RolledBack rest good = refl
outcome_again Marked rest good = refl
outcome_again Connected rest good = refl
outcome_again Disconnected rest good = refl
outcome_again (Refused fault) rest good =
    let small : fault_number fault < 2 ^ 64 = omega (arith, fault_number_small fault) in
    rw (cut_at-joined 32 (decimal (fault_number fault)) rest (decimal-Lacks 32 (fault_number fault) refl small), fault_again fault tt) refl

-- ---- draws and the made row

draws_taken : (bytes : List ℕ) (draws : List Value) → draws_of bytes ≡ Some draws → AllByRecursion IsGoodDraw draws × (bytes ≡ values_text draws)
unfolding draws_of
draws_taken bytes draws e =
    let found = bind_some (values_of bytes) _ draws e in
    let test = cond_some (all_draws found.0) found.0 draws found.2 in
    let taken = values_reader.takes bytes found.0 found.1 in
    subst (λ (vs : List Value). AllByRecursion IsGoodDraw vs × (bytes ≡ values_text vs)) test.1 ((all_draws_is found.0 taken.0).0 test.0, taken.1)

draw_fits : (value : Value) → IsGoodDraw value → IsValue value
draw_fits (Draw sequence n) good = good
draw_fits other good = absurd good

pub draws_fit : (draws : List Value) → AllByRecursion IsGoodDraw draws → IsValues draws
draws_fit [] good = tt
draws_fit (draw ∷ draws) good = (draw_fits draw good.0, draws_fit draws good.1)

draws_again : (draws : List Value) → AllByRecursion IsGoodDraw draws → draws_of (values_text draws) ≡ Some draws
unfolding draws_of
draws_again draws good =
    let fits = draws_fit draws good in
    rw (values_reader.again draws fits, (all_draws_is draws fits).1 good) refl

made_taken : (bytes : List ℕ) (made : Option ℕ) → made_of bytes ≡ Some made → IfSome made (λ row. row < 2 ^ 64) × (bytes ≡ made_text made)
unfolding made_of
made_taken bytes made e =
    elim (chosen (bytes_eq bytes (codes "-")) (Some None) _ (Some made) e) [
      | inl none ↦ subst (λ (m : Option ℕ). IfSome m (λ row. row < 2 ^ 64) × (bytes ≡ made_text m)) (same_Some None made none.1) (tt, is_codes bytes (codes "-") none.0)
      | inr e ↦
          let row = when_some (eqb (get_or bytes 0 0) 114) _ made e.1 in
          let found = map_some (λ (n : ℕ). Some n) (number_of (drop 1 bytes)) made row.1 in
          let taken = numbers.takes (drop 1 bytes) found.0 found.1 in
          subst (λ (m : Option ℕ). IfSome m (λ row. row < 2 ^ 64) × (bytes ≡ made_text m)) found.2 (taken.0, first_of bytes 114 (lit< tt) (eqb-true _ 114 row.0) ∙ ap (λ (bs : List ℕ). 114 ∷ bs) taken.1)
    ]

made_again : (made : Option ℕ) → IfSome made (λ row. row < 2 ^ 64) → made_of (made_text made) ≡ Some made
unfolding made_of
made_again None good = refl
made_again (Some row) good = rw (numbers.again row good) refl

-- ---- replies

reply_spelled : (bytes rest front last : List ℕ) (reply : Reply) → IsFront bytes (reply.outcome, rest) → IsCut 32 rest front last → AllByRecursion IsGoodDraw reply.draws × (front ≡ values_text reply.draws) → IfSome reply.made (λ row. row < 2 ^ 64) × (last ≡ made_text reply.made) → IsGoodReply reply × (bytes ≡ reply_text reply)
reply_spelled bytes rest front last reply outcome cut draws made =
    (record { outcome = outcome.0; draws = draws.0; made = made.0 }, outcome.1 ∙ rw (cut.parts, draws.1, made.1) refl)

reply_taken : (bytes : List ℕ) (reply : Reply) → reply_of bytes ≡ Some reply → IsGoodReply reply × (bytes ≡ reply_text reply)
unfolding reply_of
reply_taken bytes reply e =
    let front = bind_some (outcome_of bytes) _ reply e in
    let parts = bind_some (cut_at 32 front.0.1) _ reply front.2 in
    let draws = bind_some (draws_of parts.0.0) _ reply parts.2 in
    let made = bind_some (made_of parts.0.1) _ reply draws.2 in
    subst (λ (r : Reply). IsGoodReply r × (bytes ≡ reply_text r)) (same_Some _ reply made.2)
    (reply_spelled bytes front.0.1 parts.0.0 parts.0.1 (record { outcome = front.0.0; draws = draws.0; made = made.0 })
    (outcome_taken bytes front.0 front.1) (cut_at_parts 32 front.0.1 parts.0 parts.1) (draws_taken parts.0.0 draws.0 draws.1) (made_taken parts.0.1 made.0 made.1))

reply_again : (reply : Reply) → IsGoodReply reply → reply_of (reply_text reply) ≡ Some reply
unfolding reply_of
reply_again reply good =
    rw (
      outcome_again reply.outcome (values_text reply.draws ++ 32 ∷ made_text reply.made) good.outcome,
      cut_at-joined 32 (values_text reply.draws) (made_text reply.made) (space_lacks (values_text reply.draws) (values_field reply.draws (draws_fit reply.draws good.draws))),
      draws_again reply.draws good.draws,
      made_again reply.made good.made,
    ) refl

pub reply_reader : IsReader reply_of IsGoodReply reply_text
reply_reader = record { takes = reply_taken; again = reply_again }
