-- Savepoints by their names: of which no two have one, and those in front of one.
use Rattle.std.proofs.Common.{◌≡◌, ◌∙◌, ℕ, Bool, true, false, List, [], ◌∷◌, ◌++◌, refl, sym, ap, subst}
use Rattle.std.proofs.lemmas.Bool.{false≢true}
use Rattle.std.proofs.lemmas.List.{append_assoc}
use Rattle.std.proofs.lemmas.Slice.Eq.{bytes_eq-Decides}
use Rattle.std.specs.Prelude.{◌||◌, if◌then◌else◌}
use Rattle.server_words.specs.declared.session.Savepoint.{Savepoint}
use Rattle.server_words.specs.Causes.{is_empty}
use Rattle.server_words.specs.Savepoints.{has_savepoint, is_named, up_to, with_savepoint, without}
use Rattle.server_words.proofs.Marks.{each_up_to, each_without}
use Rattle.server_words.proofs.Members.{each_joined}
use Rattle.law_steps.specs.Marks.{NamesDiffer, NoneIsNamed}

-- one that has another name is passed
without_passes : (name : List ℕ) (x : Savepoint) (xs : List Savepoint) → ¬ (x.name ≡ name) → without name (x ∷ xs) ≡ x ∷ without name xs
without_passes name x xs apart =
    elim (is_named name x) as (λ b. is_named name x ≡ b → (if b then xs else x ∷ without name xs) ≡ x ∷ without name xs) [
      | true ↦ λ is. absurd (apart ((bytes_eq-Decides x.name name).0 is))
      | false ↦ λ is. refl
    ] refl

up_to_passes : (name : List ℕ) (x : Savepoint) (xs : List Savepoint) → ¬ (x.name ≡ name) → up_to name (x ∷ xs) ≡ x ∷ up_to name xs
up_to_passes name x xs apart =
    elim (is_named name x) as (λ b. is_named name x ≡ b → x ∷ (if b then [] else up_to name xs) ≡ x ∷ up_to name xs) [
      | true ↦ λ is. absurd (apart ((bytes_eq-Decides x.name name).0 is))
      | false ↦ λ is. refl
    ] refl

-- ---- no two have one name

module _ (name : List ℕ) where
  names_without : (xs : List Savepoint) → NamesDiffer xs → NamesDiffer (without name xs)
  names_without [] differ = tt
  names_without (x ∷ xs) differ = elim (is_named name x) as (λ b. NamesDiffer (if b then xs else x ∷ without name xs)) [
    | true ↦ differ.1
    | false ↦ (each_without (λ (y : Savepoint). ¬ (y.name ≡ x.name)) name xs differ.0, names_without xs differ.1)
  ]

  pub gone_without : (xs : List Savepoint) → NamesDiffer xs → NoneIsNamed name (without name xs)
  gone_without [] differ = tt
  gone_without (x ∷ xs) differ = elim (is_named name x) as (λ b. is_named name x ≡ b → NoneIsNamed name (if b then xs else x ∷ without name xs)) [
    | true ↦ λ is. subst (λ (n : List ℕ). NoneIsNamed n xs) ((bytes_eq-Decides x.name name).0 is) differ.0
    | false ↦ λ is. (λ same. false≢true (sym is ∙ (bytes_eq-Decides x.name name).1 same), gone_without xs differ.1)
  ] refl

  pub names_up_to : (xs : List Savepoint) → NamesDiffer xs → NamesDiffer (up_to name xs)
  names_up_to [] differ = tt
  names_up_to (x ∷ xs) differ = elim (is_named name x) as (λ b. NamesDiffer (x ∷ (if b then [] else up_to name xs))) [
    | true ↦ (tt, tt)
    | false ↦ (each_up_to (λ (y : Savepoint). ¬ (y.name ≡ x.name)) name xs differ.0, names_up_to xs differ.1)
  ]

names_joined : (xs : List Savepoint) (x : Savepoint) → NamesDiffer xs → NoneIsNamed x.name xs → NamesDiffer (xs ++ x ∷ [])
names_joined [] x differ apart = (tt, tt)
names_joined (y ∷ xs) x differ apart = (
  each_joined (λ (z : Savepoint). ¬ (z.name ≡ y.name)) xs (x ∷ []) differ.0 ((λ same. apart.0 (sym same)), tt),
  names_joined xs x differ.1 apart.1,
)

pub names_with : (xs : List Savepoint) (x : Savepoint) → NamesDiffer xs → NamesDiffer (with_savepoint xs x)
names_with xs x differ = names_joined (without x.name xs) x (names_without x.name xs differ) (gone_without x.name xs differ)

-- ---- those in front of one

module _ (this : Savepoint) where
  -- these stand in front of it, and others behind
  abbrev pub HasFront : List Savepoint → List Savepoint → Type 0
  HasFront front xs = (behind : List Savepoint) × (xs ≡ front ++ this ∷ behind)

  pub front_there : (front behind : List Savepoint) → is_empty (front ++ this ∷ behind) ≡ false
  front_there [] behind = refl
  front_there (x ∷ front) behind = refl

  pub front_has : (front behind : List Savepoint) → has_savepoint this.name (front ++ this ∷ behind) ≡ true
  front_has [] behind = ap (λ (b : Bool). b || has_savepoint this.name behind) ((bytes_eq-Decides this.name this.name).1 refl)
  front_has (x ∷ front) behind = elim (is_named this.name x) as (λ b. (b || has_savepoint this.name (front ++ this ∷ behind)) ≡ true) [
    | true ↦ refl
    | false ↦ front_has front behind
  ]

  module _ (other : List ℕ) where
    without_front : (front behind : List Savepoint) → ¬ (this.name ≡ other) → NoneIsNamed other front → without other (front ++ this ∷ behind) ≡ front ++ this ∷ without other behind
    without_front [] behind apart older = without_passes other this behind apart
    without_front (x ∷ front) behind apart older =
        without_passes other x (front ++ this ∷ behind) older.0 ∙ ap (λ (l : List Savepoint). x ∷ l) (without_front front behind apart older.1)

    up_to_front : (front behind : List Savepoint) → NoneIsNamed other front → up_to other (front ++ this ∷ behind) ≡ front ++ this ∷ (if is_named other this then [] else up_to other behind)
    up_to_front [] behind older = refl
    up_to_front (x ∷ front) behind older =
        up_to_passes other x (front ++ this ∷ behind) older.0 ∙ ap (λ (l : List Savepoint). x ∷ l) (up_to_front front behind older.1)

  pub front_with : (front xs : List Savepoint) (new : Savepoint) → ¬ (this.name ≡ new.name) → NoneIsNamed new.name front → HasFront front xs → HasFront front (with_savepoint xs new)
  front_with front xs new apart older has =
      let behind = without new.name has.0 in (
        behind ++ new ∷ [],
        ap (λ (l : List Savepoint). without new.name l ++ new ∷ []) has.1
            ∙ ap (λ (l : List Savepoint). l ++ new ∷ []) (without_front new.name front has.0 apart older)
            ∙ append_assoc front (this ∷ behind) (new ∷ []),
      )

  pub front_up_to : (front xs : List Savepoint) (other : List ℕ) → NoneIsNamed other front → HasFront front xs → HasFront front (up_to other xs)
  front_up_to front xs other older has =
      ((if is_named other this then [] else up_to other has.0), ap (up_to other) has.1 ∙ up_to_front other front has.0 older)
