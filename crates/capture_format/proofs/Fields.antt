-- Readers of several fields, from readers of each.
use Rattle.std.proofs.Common.{◌≡◌, inl, inr, ℕ, cond, List, ◌∷◌, ◌++◌, Option, Some, None, refl, ap, subst, ◌∙◌}
use Rattle.std.specs.Option.{option_map}
use Rattle.std.specs.Str.{bytes_eq}
use Rattle.std.proofs.lemmas.Option.{same_Some}
use Rattle.std.proofs.lemmas.Slice.Eq.{bytes_eq-Decides}
use Rattle.desk_values.specs.Fields.{Lacks, cut_at}
use Rattle.desk_values.specs.Reading.{◌>>=◌}
use Rattle.desk_values.proofs.Options.{bind_some, map_some, chosen}
use Rattle.desk_values.proofs.Readers.{IsReader}
use Rattle.desk_values.proofs.Cuts.{cut_at-joined, cut_at_parts}
use Rattle.capture_format.specs.Inside.Fields.{two_of}

-- ---- two fields

module _ {A B : Type 0} {read : List ℕ → Option A} {Fits : A → Type 0} {text : A → List ℕ} {read2 : List ℕ → Option B} {Fits2 : B → Type 0} {text2 : B → List ℕ} where
  pub two_reader : (separator : ℕ) → IsReader read Fits text → IsReader read2 Fits2 text2 → ((x : A) → Fits x → Lacks separator (text x)) → IsReader (two_of separator read read2) (λ p. Fits p.0 × Fits2 p.1) (λ p. text p.0 ++ separator ∷ text2 p.1)
  unfolding two_of
  two_reader separator first second apart = record { takes = takes; again = again }
    where
      takes : (bytes : List ℕ) (p : A × B) → two_of separator read read2 bytes ≡ Some p → (Fits p.0 × Fits2 p.1) × (bytes ≡ text p.0 ++ separator ∷ text2 p.1)
      takes bytes p e =
          let parts = bind_some (cut_at separator bytes) _ p e in
          let a = bind_some (read parts.0.0) _ p parts.2 in
          let b = bind_some (read2 parts.0.1) (λ y. Some (a.0, y)) p a.2 in
          let one = first.takes parts.0.0 a.0 a.1 in
          let other = second.takes parts.0.1 b.0 b.1 in
          subst (λ (q : A × B). (Fits q.0 × Fits2 q.1) × (bytes ≡ text q.0 ++ separator ∷ text2 q.1)) (same_Some (a.0, b.0) p b.2)
          ((one.0, other.0), (cut_at_parts separator bytes parts.0 parts.1).parts ∙ ap (λ (t : List ℕ). t ++ separator ∷ parts.0.1) one.1 ∙ ap (λ (t : List ℕ). text a.0 ++ separator ∷ t) other.1)

      again : (p : A × B) → Fits p.0 × Fits2 p.1 → two_of separator read read2 (text p.0 ++ separator ∷ text2 p.1) ≡ Some p
      again p fits = rw (cut_at-joined separator (text p.0) (text2 p.1) (apart p.0 fits.0), first.again p.0 fits.0, second.again p.1 fits.1) refl

-- ---- fields behind a word

-- the text begins with the word
abbrev pub Behind : {T : Type 0} → (T → Type 0) → (T → List ℕ) → List ℕ → List ℕ → T → Type 0
Behind Fits text word rest x = Fits x × (word ++ 32 ∷ rest ≡ text x)

-- one choice of a word: it is this one, or the others decide
pub by_word : {A T : Type 0} {read : List ℕ → Option A} {FitsA : A → Type 0} {textA : A → List ℕ} (Fits : T → Type 0) (text : T → List ℕ) (own : List ℕ) (make : A → T) → IsReader read FitsA textA → ((a : A) → FitsA a → Fits (make a) × (own ++ 32 ∷ textA a ≡ text (make a))) → (word rest : List ℕ) (x : T) (others : Option T) → (others ≡ Some x → Behind Fits text word rest x) → cond (bytes_eq word own) (option_map make (read rest)) others ≡ Some x → Behind Fits text word rest x
by_word {read = read} Fits text own make is fits word rest x others later e =
    elim (chosen (bytes_eq word own) (option_map make (read rest)) others (Some x) e) [
      | inl hit ↦
          let found = map_some make (read rest) x hit.1 in
          let taken = is.takes rest found.0 found.1 in
          let made = fits found.0 taken.0 in
          subst (Behind Fits text word rest) found.2 (made.0, ap (λ (t : List ℕ). t ++ 32 ∷ rest) ((bytes_eq-Decides word own).0 hit.0) ∙ ap (λ (t : List ℕ). own ++ 32 ∷ t) taken.1 ∙ made.1)
      | inr miss ↦ later miss.1
    ]

-- one choice of a text: it is this one, or the others decide
pub one_text : {A : Type 0} (bytes text : List ℕ) (here : A) (others : Option A) (P : A → Type 0) (x : A) → (bytes ≡ text → P here) → (others ≡ Some x → P x) → cond (bytes_eq bytes text) (Some here) others ≡ Some x → P x
one_text bytes text here others P x is rest e =
    elim (chosen (bytes_eq bytes text) (Some here) others (Some x) e) [
      | inl hit ↦ subst P (same_Some here x hit.1) (is ((bytes_eq-Decides bytes text).0 hit.0))
      | inr miss ↦ rest miss.1
    ]

pub no_word : {T : Type 0} (P : Type 0) (x : T) → ◌≡◌ {A = Option T} None (Some x) → P
no_word P x e = absurd cc

-- a text whose first field says how the rest is read
pub worded : {T : Type 0} (Fits : T → Type 0) (text : T → List ℕ) (read : List ℕ → List ℕ → Option T) → ((word rest : List ℕ) (x : T) → read word rest ≡ Some x → Behind Fits text word rest x) → (bytes : List ℕ) (x : T) → (cut_at 32 bytes >>= λ parts. read parts.0 parts.1) ≡ Some x → Fits x × (bytes ≡ text x)
worded Fits text read takes bytes x e =
    let parts = bind_some (cut_at 32 bytes) (λ p. read p.0 p.1) x e in
    let is = takes parts.0.0 parts.0.1 x parts.2 in
    (is.0, (cut_at_parts 32 bytes parts.0 parts.1).parts ∙ is.1)
