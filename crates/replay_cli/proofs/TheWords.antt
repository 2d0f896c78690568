-- The words that are told.
use Rattle.std.proofs.Common.{◌≡◌, ℕ, suc, ◌+◌, ◌≤◌, List, [], ◌∷◌, ◌++◌, length, map, drop, Option, Some, None, Err, inl, inr, refl, sym, ap, ◌∙◌, arith, append_assoc, append-nil}
use Rattle.std.specs.Prelude.{slice_get}
use Rattle.std.specs.Option.{option_map}
use Rattle.std.proofs.lemmas.List.{drop_all}
use Rattle.std.proofs.lemmas.Option.{get_or_from_slice_get, slice_get_cases, slice_get_within}
use Rattle.std.proofs.Math.Seq.{drop-cons}
use Rattle.std.specs.declared.env.FillError.TheVariants.{TooLong}
use Rattle.desk_values.proofs.Escapes.{txt_in_none}
use Rattle.desk_files.specs.Outside.{Told}
use Rattle.replay_cli.specs.Called.{Copies, word_in}

pub told_two : {T : Type 0} {P Q R : T → Type 0} (content : Option T) → ((x : T) → P x → Q x → R x) → Told content P → Told content Q → Told content R
told_two None f h k = tt
told_two (Some x) f h k = f x h k

pub told_one : {T : Type 0} {P R : T → Type 0} (content : Option T) → ((x : T) → P x → R x) → Told content P → Told content R
told_one None f h = tt
told_one (Some x) f h = f x h

-- a word that is too long counts as the empty one
pub long_word : (found : Option (List ℕ)) (buffer : List ℕ) → length buffer ≡ 1000 → Copies found (Err TooLong) buffer → Some [] ≡ option_map word_in found
long_word None buffer room copies = absurd (cc copies)
long_word (Some word) buffer room copies =
    let none = txt_in_none word (λ is. omega (arith, room, copies, is.limit)) in
    rw none refl

here : (all : List (List ℕ)) (place : ℕ) (word : List ℕ) → slice_get all place ≡ Some word → drop place all ≡ word ∷ drop (place + 1) all
here all place word is =
    drop-cons all place [] (slice_get_within all place word is) ∙ (let e = get_or_from_slice_get all place word [] is in let next : suc place ≡ place + 1 = omega arith in rw (e, next) refl)

gone : (all : List (List ℕ)) (place : ℕ) → slice_get all place ≡ None → drop place all ≡ []
gone all place is = elim (slice_get_cases all place).1 [
  | inl found ↦ absurd (let two = sym is ∙ found.2 in cc two)
  | inr past ↦ drop_all place all past.0
]

-- the words so far, and those that are still to come
pub one_more : (all : List (List ℕ)) (place : ℕ) (words whole : List (List ℕ)) (word : List ℕ) → words ++ map word_in (drop place all) ≡ whole → Some word ≡ option_map word_in (slice_get all place) → (words ++ word ∷ []) ++ map word_in (drop (place + 1) all) ≡ whole
one_more all place words whole word so_far is = found (slice_get all place) refl is where
  found : (o : Option (List ℕ)) → slice_get all place ≡ o → Some word ≡ option_map word_in o → (words ++ word ∷ []) ++ map word_in (drop (place + 1) all) ≡ whole
  found None at is = absurd (cc is)
  found (Some bytes) at is =
      let same : word ≡ word_in bytes = cc is in
      append_assoc words (word ∷ []) (map word_in (drop (place + 1) all)) ∙ ap (λ (w : List ℕ). words ++ w ∷ map word_in (drop (place + 1) all)) same
      ∙ ap (λ (ws : List (List ℕ)). words ++ map word_in ws) (sym (here all place bytes at)) ∙ so_far

pub no_more : (all : List (List ℕ)) (place : ℕ) (words whole : List (List ℕ)) → words ++ map word_in (drop place all) ≡ whole → None ≡ option_map word_in (slice_get all place) → words ≡ whole
no_more all place words whole so_far is = found (slice_get all place) refl is where
  found : (o : Option (List ℕ)) → slice_get all place ≡ o → None ≡ option_map word_in o → words ≡ whole
  found (Some bytes) at is = absurd (cc is)
  found None at is = sym (append-nil words) ∙ ap (λ (ws : List (List ℕ)). words ++ map word_in ws) (sym (gone all place at)) ∙ so_far

pub all_words : (all : List (List ℕ)) (place : ℕ) (words whole : List (List ℕ)) → words ++ map word_in (drop place all) ≡ whole → length all ≤ place → words ≡ whole
all_words all place words whole so_far past = sym (append-nil words) ∙ ap (λ (ws : List (List ℕ)). words ++ map word_in ws) (sym (drop_all place all past)) ∙ so_far
