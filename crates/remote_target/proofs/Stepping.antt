-- Lines, one after the other.
use Rattle.std.proofs.Common.{◌≡◌, ◌∙◌, ◌≤◌, ◌<◌, ℕ, zero, suc, ◌+◌, inl, inr, Bool, List, [], ◌∷◌, ◌++◌, length, map, take, get_or, Option, Result, Err, refl, sym, ap, subst, append_assoc, append-nil, arith, add-one}
use Rattle.std.specs.List.{AllByRecursion, flat_map}
use Rattle.std.proofs.lemmas.Bool.{cases_lt}
use Rattle.std.proofs.lemmas.List.{length-map, length-take, take_all, take_more}
use Rattle.std.proofs.lemmas.List.Concat.{flat_map-append}
use Rattle.remote_link.specs.declared.heard.Heard.{Heard}
use Rattle.remote_desk.specs.Desk.{RemoteView}
use Rattle.remote_target.specs.declared.line.Line.{Line}
use Rattle.remote_target.specs.declared.remote_err.RemoteErr.{RemoteErr}
use Rattle.remote_target.specs.declared.remote_err.RemoteErr.TheVariants.{Link, OtherJob, Mismatch, Memory}
use Rattle.remote_target.specs.Inside.{ComparesIn}
use Rattle.remote_target.specs.Agreement.{AgreesOn, Compares, DiffersAt, DiffersOn, heard_on, kept_of}

-- what holds of the first few, and of the next one
all_next : {X Y : Type 0} (P : Y → Type 0) (f : X → Y) (xs : List X) (i : ℕ) (x : X) → i < length xs → x ≡ get_or xs i x → AllByRecursion P (take i (map f xs)) → P (f x) → AllByRecursion P (take (suc i) (map f xs))
all_next P f [] i x within is all here = absurd (omega (arith, within))
all_next {X = X} P f (y ∷ xs) zero x within is all here = (subst (λ (z : X). P (f z)) is here, tt)
all_next P f (y ∷ xs) (suc i) x within is all here = (all.0, all_next P f xs i x (omega (arith, within)) is all.1 here)

pub all_more : {X Y : Type 0} (P : Y → Type 0) (f : X → Y) (xs : List X) (i : ℕ) (x : X) → i < length xs → x ≡ get_or xs i x → AllByRecursion P (take i (map f xs)) → P (f x) → AllByRecursion P (take (i + 1) (map f xs))
all_more {Y = Y} P f xs i x within is all here = subst (λ (n : ℕ). AllByRecursion P (take n (map f xs))) (sym (add-one i)) (all_next P f xs i x within is all here)

-- what holds of the first few, where there are no more
pub all_taken : {X Y : Type 0} (P : Y → Type 0) (f : X → Y) (xs : List X) (i : ℕ) → length xs ≤ i → AllByRecursion P (take i (map f xs)) → AllByRecursion P (map f xs)
all_taken P f [] i past all = tt
all_taken P f (x ∷ xs) zero past all = absurd (omega (arith, past))
all_taken P f (x ∷ xs) (suc i) past all = (all.0, all_taken P f xs i (omega (arith, past)) all.1)

-- the first few of a list, by how many there are
pub as_far : {X Y : Type 0} (f : X → Y) (xs : List X) (its : List Y) (n : ℕ) → map f xs ≡ take n its → map f xs ≡ take (length xs) its
as_far f xs its n is =
    let long = ap length is in
    let many = length-map xs f in
    let cut = length-take n its in
    elim (cases_lt (length its) n) [
      | inl past ↦ is ∙ take_all n its (omega (arith, past)) ∙ sym (take_all (length xs) its (omega (arith, past, long, many, cut)))
      | inr within ↦ is ∙ ap (λ (k : ℕ). take k its) (omega (arith, within, long, many, cut))
    ]

-- what each of the first few gives, and what the next one gives
pub flat_more : {X Y : Type 0} (f : X → List Y) (xs : List X) (i : ℕ) (x : X) → i < length xs → x ≡ get_or xs i x → flat_map f (take (i + 1) xs) ≡ flat_map f (take i xs) ++ f x
flat_more {X = X} {Y = Y} f xs i x within is =
    let next : take (i + 1) xs ≡ take i xs ++ x ∷ [] = take_more xs i x within ∙ ap (λ (y : X). take i xs ++ y ∷ []) (sym is) in
    ap (flat_map f) next ∙ flat_map-append f (take i xs) (x ∷ []) ∙ ap (λ (l : List Y). flat_map f (take i xs) ++ l) (append-nil (f x))

-- ---- all of them, taken one by one

module _ {X : Type 0} (done rest all : List X) where
  pub one_taken : (one : X) (rest' : List X) → rest ≡ one ∷ rest' → done ++ rest ≡ all → (done ++ one ∷ []) ++ rest' ≡ all
  one_taken one rest' steps is = append_assoc done (one ∷ []) rest' ∙ ap (λ (l : List X). done ++ l) (sym steps) ∙ is

  pub none_left : length rest ≡ 0 → done ++ rest ≡ all → done ≡ all
  none_left none is = sym (append-nil done) ∙ ap (λ (l : List X). done ++ l) (sym (empty rest none)) ∙ is
    where
      empty : (l : List X) → length l ≡ 0 → l ≡ []
      empty [] none = refl
      empty (x ∷ l) none = absurd (omega (arith, none))

-- ---- the comparison

module _ {L : Type 0} (desk : RemoteView) where
  -- the next line differs, and those before it do not
  differs_next : (lines : List (Line L)) (i : ℕ) (line : Line L) → i < length lines → line ≡ get_or lines i line → AllByRecursion (AgreesOn desk) (take i (map heard_on lines))
      → (session place : ℕ) (one other : Option Heard) → (session ≡ line.session) × DiffersAt desk.stopped (kept_of desk line.session) line.spoken.heard place one other → DiffersOn desk (map heard_on lines) session place one other
  differs_next [] i line within is agreed session place one other differs = absurd (omega (arith, within))
  differs_next (first ∷ lines) zero line within is agreed session place one other differs =
      inl (subst (λ (l : Line L). (session ≡ l.session) × DiffersAt desk.stopped (kept_of desk l.session) l.spoken.heard place one other) is differs)
  differs_next (first ∷ lines) (suc i) line within is agreed session place one other differs =
      inr (agreed.0, differs_next lines i line (omega (arith, within)) is agreed.1 session place one other differs)

  pub compares_so : (lines : List (Line L)) (i : ℕ) (line : Line L) → i < length lines → line ≡ get_or lines i line → AllByRecursion (AgreesOn desk) (take i (map heard_on lines))
      → (error : RemoteErr) → ComparesIn desk.stopped line.session (kept_of desk line.session) line.spoken.heard (Err error) → Compares desk (map heard_on lines) (Err error)
  compares_so lines i line within is agreed Link compares = absurd compares
  compares_so lines i line within is agreed (OtherJob job) compares = absurd compares
  compares_so lines i line within is agreed (Mismatch session place one other) compares = differs_next lines i line within is agreed session place one other compares
  compares_so lines i line within is agreed Memory compares = tt

  -- what was compared is what the desk keeps and what the line heard
  pub as_kept : (line : Line L) (stopped : Bool) (kept answered : List Heard) → stopped ≡ desk.stopped → kept ≡ kept_of desk line.session → answered ≡ line.spoken.heard
      → (result : Result (Unit {0}) RemoteErr) → ComparesIn stopped line.session kept answered result → ComparesIn desk.stopped line.session (kept_of desk line.session) line.spoken.heard result
  as_kept line stopped kept answered stops keeps hears result compares =
      subst (λ (b : Bool). ComparesIn b line.session (kept_of desk line.session) line.spoken.heard result) stops
      (subst (λ (l : List Heard). ComparesIn stopped line.session l line.spoken.heard result) keeps (subst (λ (l : List Heard). ComparesIn stopped line.session kept l result) hears compares))
