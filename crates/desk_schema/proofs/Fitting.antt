-- Tests of a row and of a column's kind.
use Rattle.std.proofs.Common.{◌≡◌, ℕ, zero, suc, ◌+◌, ◌-◌, ◌<◌, List, [], ◌∷◌, length, get_or, drop, Some, sym, ◌∙◌, ap, subst, arith, ◌↔◌}
use Rattle.std.specs.List.{AllByRecursion, AllZip, Contains, slice_get}
use Rattle.std.proofs.lemmas.List.{drop_more}
use Rattle.std.proofs.lemmas.Option.{slice_get_within}
use Rattle.desk_values.specs.declared.value.Image.{Image}
use Rattle.desk_values.specs.Good.{Ascend}
use Rattle.desk_schema.specs.declared.schema.Kind.TheVariants.{Seq}
use Rattle.desk_schema.specs.Line.{with_name, name_of}
use Rattle.desk_schema.specs.Name.{IsName}
use Rattle.desk_schema.specs.Rules.{AreBelow, IsKind}
use Rattle.desk_schema.proofs.Members.{Contains-here, Contains-there}
use Rattle.desk_schema.proofs.Steps.{known_kind}

below_all_at : (rows : List Image) (place : ℕ) (last : Image) (number : ℕ) → place + 1 ≡ length rows → Ascend rows → slice_get rows place ≡ Some last → last.row < number → AreBelow number rows
below_all_at [] place last number end up is h = tt
below_all_at (row ∷ []) zero last number end up is h = (let e : row ≡ last = cc in let f : row.row ≡ last.row = ap (λ (r : Image). r.row) e in omega arith, tt)
below_all_at (row ∷ []) (suc place) last number end up is h = absurd (omega arith)
below_all_at (row ∷ next ∷ rows) zero last number end up is h = absurd (omega arith)
below_all_at (row ∷ next ∷ rows) (suc place) last number end up is h =
    let rest : AreBelow number (next ∷ rows) = below_all_at (next ∷ rows) place last number (omega arith) up.1 is h in
    (let a = up.0 in let b = rest.0 in omega arith, rest)

-- each of ascending rows is below what the last is below
pub below_all : (rows : List Image) (last : Image) (number : ℕ) → Ascend rows → slice_get rows (length rows - 1) ≡ Some last → last.row < number → AreBelow number rows
below_all rows last number up is h = below_all_at rows (length rows - 1) last number (omega (arith, slice_get_within rows (length rows - 1) last is)) up is h

last_below_at : (rows : List Image) (place : ℕ) (last : Image) (number : ℕ) → slice_get rows place ≡ Some last → AreBelow number rows → last.row < number
last_below_at [] place last number is below = cc
last_below_at (row ∷ rows) zero last number is below = let e : row ≡ last = cc in let f : row.row ≡ last.row = ap (λ (r : Image). r.row) e in let h = below.0 in omega arith
last_below_at (row ∷ rows) (suc place) last number is below = last_below_at rows place last number is below.1

-- the last is below what all are below
pub last_below : (rows : List Image) (last : Image) (number : ℕ) → slice_get rows (length rows - 1) ≡ Some last → AreBelow number rows → last.row < number
last_below rows last number is below = last_below_at rows (length rows - 1) last number is below

module _ {A B : Type 0} (R : A → B → Type 0) where
  -- all pairs are related just where those are that are left after the first i
  abbrev pub Remain : List A → List B → ℕ → Type 0
  Remain xs ys i = AllZip R xs ys ↔ AllZip R (drop i xs) (drop i ys)

  pub one_more : (xs : List A) (ys : List B) (i : ℕ) (x : A) (y : B) → i < length xs → i < length ys → x ≡ get_or xs i x → y ≡ get_or ys i y → R x y → Remain xs ys i → Remain xs ys (i + 1)
  one_more xs ys i x y in_xs in_ys is_x is_y related remain =
      let P : List A → List B → Type 0 = AllZip R in
      let first : drop i xs ≡ x ∷ drop (i + 1) xs = drop_more xs i x in_xs ∙ ap (λ v. v ∷ drop (i + 1) xs) (sym is_x) in
      let second : drop i ys ≡ y ∷ drop (i + 1) ys = drop_more ys i y in_ys ∙ ap (λ v. v ∷ drop (i + 1) ys) (sym is_y) in
      let Q : List A → Type 0 = λ zs. AllZip R zs (drop i ys) in
      let S : List B → Type 0 = λ zs. AllZip R (x ∷ drop (i + 1) xs) zs in (
        λ all. let found : R x y × AllZip R (drop (i + 1) xs) (drop (i + 1) ys) = subst S second (subst Q first (remain.0 all)) in found.1,
        λ rest. remain.1 (subst Q (sym first) (subst S (sym second) (related, rest))),
      )

-- a sequence that is there has its name among the names
name_there : (names : List (List ℕ)) (sequence : ℕ) → sequence < length names → Contains names (name_of names sequence)
name_there [] sequence h = absurd (omega arith)
name_there (x ∷ xs) zero h = Contains-here x xs
name_there (x ∷ xs) (suc sequence) h = Contains-there x xs (name_of xs sequence) (name_there xs sequence (omega arith))

pub is_sequence : (names : List (List ℕ)) (sequence : ℕ) → AllByRecursion IsName names → (sequence < length names) ↔ IsKind names (with_name names (Seq sequence))
is_sequence names sequence named = (λ h. name_there names sequence h, λ is. known_kind names (Seq sequence) named is)
