-- What placing and laying changes leave of rows.
use Rattle.std.proofs.Common.{◌≡◌, ◌<◌, true, false, ltb, eqb, if◌then◌else◌, List, [], ◌∷◌, ◌++◌, refl, arith, ◌⊎◌, inl, inr, ⊎_elim}
use Rattle.std.specs.List.{AllByRecursion}
use Rattle.std.proofs.lemmas.Bool.{ltb-true, eqb-true}
use Rattle.std.proofs.lemmas.Bool.Decides.{nat_tests}
use Rattle.desk_values.specs.declared.value.Image.{Image}
use Rattle.server_words.specs.Rows.{is_there, lay, lay_all, noted, one, placed, shown}
use Rattle.server_words.proofs.SoundRows.{each_placed}

-- the change goes behind the first row, in its place, or before it
abbrev pub Places : (Image → List Image) → Image → Image → List Image → Type 0
Places show c y ys = ((y.row < c.row) × (placed show c (y ∷ ys) ≡ y ∷ placed show c ys)) ⊎ (((y.row ≡ c.row) × (placed show c (y ∷ ys) ≡ show c ++ ys)) ⊎ ((c.row < y.row) × (placed show c (y ∷ ys) ≡ show c ++ y ∷ ys)))

pub places : (show : Image → List Image) (c y : Image) (ys : List Image) → Places show c y ys
places show c y ys = elim (ltb y.row c.row) as (λ b. ltb y.row c.row ≡ b → Places show c y ys) [
  | true ↦ λ below. inl (ltb-true _ _ below, rw below refl)
  | false ↦ λ above. elim (eqb y.row c.row) as (λ b. eqb y.row c.row ≡ b → Places show c y ys) [
    | true ↦ λ same. inr (inl (eqb-true _ _ same, rw (above, same) refl))
    | false ↦ λ apart. inr (inr (grind (arith, nat_tests), rw (above, apart) refl))
  ] refl
] refl

-- what holds of each row and of what a change shows holds of each that is left
module _ (P : Image → Type 0) where
  each_shown : (c : Image) → P c → AllByRecursion P (shown c)
  each_shown c h = elim (is_there c) as (λ b. AllByRecursion P (if b then c ∷ [] else [])) [ true ↦ (h, tt) | false ↦ tt ]

  pub each_laid : (xs cs : List Image) → AllByRecursion P xs → AllByRecursion P cs → AllByRecursion P (lay xs cs)
  each_laid xs [] h g = h
  each_laid xs (c ∷ cs) h g = each_laid (placed shown c xs) cs (each_placed P shown c xs (each_shown c g.0) h) g.1

  pub each_laid_all : (xs : List Image) (commits : List (List Image)) → AllByRecursion P xs → AllByRecursion (AllByRecursion P) commits → AllByRecursion P (lay_all xs commits)
  each_laid_all xs [] h g = h
  each_laid_all xs (c ∷ cs) h g = each_laid_all (lay xs c) cs (each_laid xs c h g.0) g.1

  pub each_noted : (xs cs : List Image) → AllByRecursion P xs → AllByRecursion P cs → AllByRecursion P (noted xs cs)
  each_noted xs [] h g = h
  each_noted xs (c ∷ cs) h g = each_noted (placed one c xs) cs (each_placed P one c xs (g.0, tt) h) g.1
