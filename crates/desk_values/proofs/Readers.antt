-- A function that reads all the bytes of a text, and undoes the writing of it.
use Rattle.std.proofs.Common.{◌<◌, cond, eqb, [], ◌∷◌, get_or, drop, arith, ◌≡◌, ℕ, List, Option, Some, None, Result, Ok, Err, refl, sym, ap, subst, ◌∙◌}
use Rattle.std.specs.Prelude.{IfOk, IfSome}
use Rattle.desk_values.specs.declared.read_err.ReadErr.{ReadErr}
use Rattle.std.proofs.lemmas.Bool.{eqb-true, eq-eqb}
use Rattle.desk_values.specs.Reading.{Reads}
use Rattle.desk_values.proofs.Options.{when_some}

-- what is read fits and is spelled so; what fits and is spelled so is read
pub record IsReader {T : Type 0} (read : List ℕ → Option T) (Fits : T → Type 0) (text : T → List ℕ) : Type 0 where
  pub takes : (bytes : List ℕ) (x : T) → read bytes ≡ Some x → Fits x × (bytes ≡ text x)
  pub again : (x : T) → Fits x → read (text x) ≡ Some x

module _ {T : Type 0} {read : List ℕ → Option T} {Fits : T → Type 0} {text : T → List ℕ} (is : IsReader read Fits text) where
  -- what a reader of the code read is spelled so
  pub reads_ok : (bytes : List ℕ) (result : Result T ReadErr) → Reads result (read bytes) → IfOk result (λ x. Fits x × (bytes ≡ text x))
  reads_ok bytes (Ok x) e = is.takes bytes x e
  reads_ok bytes (Err e) h = tt

  -- what is spelled so is read by it
  pub reads_only : (bytes : List ℕ) (result : Result T ReadErr) → Reads result (read bytes) → (x : T) → Fits x → bytes ≡ text x → Reads result (Some x)
  reads_only bytes result h x fits e = subst (λ (found : Option T). Reads result found) (ap read e ∙ is.again x fits) h

  -- the same of a reader that takes no memory
  pub finds_some : (bytes : List ℕ) (result : Option T) → result ≡ read bytes → IfSome result (λ x. bytes ≡ text x)
  finds_some bytes None e = tt
  finds_some bytes (Some x) e = (is.takes bytes x (sym e)).1

  pub finds_only : (bytes : List ℕ) (result : Option T) → result ≡ read bytes → (x : T) → Fits x → bytes ≡ text x → result ≡ Some x
  finds_only bytes result h x fits e = h ∙ ap read e ∙ is.again x fits

  -- a text is the text of one alone
  pub one_text : (x y : T) → Fits x → Fits y → text x ≡ text y → x ≡ y
  one_text x y fits others e = same_some x y (sym (is.again x fits) ∙ ap read e ∙ is.again y others)
    where
      same_some : (x y : T) → ◌≡◌ {A = Option T} (Some x) (Some y) → x ≡ y
      same_some x y e = cc

-- ---- behind a letter

pub first_of : (bytes : List ℕ) (first : ℕ) → 0 < first → get_or bytes 0 0 ≡ first → bytes ≡ first ∷ drop 1 bytes
first_of [] first lt e = absurd (omega arith)
first_of (other ∷ rest) first lt e = ap (λ (b : ℕ). b ∷ rest) e

abbrev pub read_behind : {T : Type 0} → ℕ → (List ℕ → Option T) → List ℕ → Option T
read_behind letter read bytes = cond (eqb (get_or bytes 0 0) letter) (read (drop 1 bytes)) None

pub behind : {T : Type 0} {read : List ℕ → Option T} {Fits : T → Type 0} {text : T → List ℕ} (letter : ℕ) → 0 < letter → IsReader read Fits text → IsReader (read_behind letter read) Fits (λ x. letter ∷ text x)
behind {read = read} {text = text} letter lt is = record {
  takes = λ bytes x e.
      let test = when_some (eqb (get_or bytes 0 0) letter) (read (drop 1 bytes)) x e in
      let taken = is.takes (drop 1 bytes) x test.1 in
      (taken.0, first_of bytes letter lt (eqb-true _ _ test.0) ∙ ap (λ (bs : List ℕ). letter ∷ bs) taken.1);
  again = λ x fits. rw (eq-eqb letter letter refl, is.again x fits) refl;
}
