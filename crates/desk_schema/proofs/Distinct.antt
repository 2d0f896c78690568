-- Lists in which nothing stands twice, with one more at the end.
use Rattle.std.proofs.Common.{◌≡◌, ℕ, zero, suc, ◌+◌, ◌<◌, Bool, true, false, cond, List, [], ◌∷◌, ◌++◌, length, Option, None, Some, refl, sym, ◌∙◌, ap, subst, arith, length-append, ⊎_elim}
use Rattle.std.specs.Option.{option_map}
use Rattle.std.specs.List.{AllByRecursion, Contains}
use Rattle.std.specs.Str.{bytes_eq}
use Rattle.std.proofs.lemmas.Bool.{cases_lt}
use Rattle.std.proofs.lemmas.Slice.Eq.{bytes_eq-Decides}
use Rattle.desk_values.specs.declared.value.Value.{Value}
use Rattle.desk_values.specs.declared.value.Image.{Image}
use Rattle.desk_values.specs.Comparison.{same_key}
use Rattle.desk_values.specs.Good.{Ascend}
use Rattle.desk_schema.specs.Schema.{place_of}
use Rattle.desk_schema.specs.Line.{name_of}
use Rattle.desk_schema.specs.Rules.{IsNewKey, AreBelow}
use Rattle.desk_schema.specs.Sound.{AreDistinct, AreApart}
use Rattle.desk_schema.proofs.Members.{Contains-here, Contains-there}
use Rattle.desk_schema.proofs.Places.{refuted}

pub all-push : {X : Type 0} (P : X → Type 0) (xs : List X) (x : X) → AllByRecursion P xs → P x → AllByRecursion P (xs ++ x ∷ [])
all-push P [] x all p = (p, tt)
all-push P (y ∷ ys) x all p = (all.0, all-push P ys x all.1 p)

name_of-front : (names : List (List ℕ)) (name : List ℕ) (place : ℕ) → place < length names → name_of (names ++ name ∷ []) place ≡ name_of names place
name_of-front [] name place h = absurd (omega arith)
name_of-front (x ∷ xs) name zero h = refl
name_of-front (x ∷ xs) name (suc place) h = name_of-front xs name place (omega arith)

name_of-end : (names : List (List ℕ)) (name : List ℕ) → name_of (names ++ name ∷ []) (length names) ≡ name
name_of-end [] name = refl
name_of-end (x ∷ xs) name = name_of-end xs name

-- a place in the front is that in all
place_of-front : (names : List (List ℕ)) (last name : List ℕ) (place : ℕ) → place_of names name ≡ Some place → place_of (names ++ last ∷ []) name ≡ Some place
place_of-front [] last name place e = cc
place_of-front (x ∷ xs) last name place e = at (bytes_eq x name) place (place_of xs name) e (λ p f. place_of-front xs last name p f)
  where
    at : (b : Bool) (q : ℕ) (o : Option ℕ) → cond b (Some 0) (option_map (λ p. p + 1) o) ≡ Some q
        → ((p : ℕ) → o ≡ Some p → place_of (xs ++ last ∷ []) name ≡ Some p) → cond b (Some 0) (option_map (λ p. p + 1) (place_of (xs ++ last ∷ []) name)) ≡ Some q
    at true q o is rest = is
    at false q None is rest = cc
    at false q (Some p) is rest = ap (option_map (λ p. p + 1)) (rest p refl) ∙ is

place_of-end : (names : List (List ℕ)) (name : List ℕ) → (Contains names name → ⊥) → place_of (names ++ name ∷ []) name ≡ Some (length names)
place_of-end [] name fresh = ap (λ b. cond b (Some 0) None) ((bytes_eq-Decides name name).1 refl)
place_of-end (x ∷ xs) name fresh =
    ap (λ b. cond b (Some 0) (option_map (λ p. p + 1) (place_of (xs ++ name ∷ []) name)))
    (refuted _ (bytes_eq x name) (bytes_eq-Decides x name) (λ e. let P : List ℕ → Type 0 = λ y. Contains (x ∷ xs) y in fresh (subst P e (Contains-here x xs))))
    ∙ ap (option_map (λ p. p + 1)) (place_of-end xs name (λ c. fresh (Contains-there x xs name c)))
    ∙ (let e : length xs + 1 ≡ length (x ∷ xs) = omega arith in ap Some e)

pub distinct-push : (names : List (List ℕ)) (name : List ℕ) → AreDistinct names → (Contains names name → ⊥) → AreDistinct (names ++ name ∷ [])
distinct-push names name distinct fresh place h = ⊎_elim
    (λ before. ap (place_of (names ++ name ∷ [])) (name_of-front names name place before) ∙ place_of-front names name _ place (distinct place before))
    (λ after. let e : place ≡ length names = omega (arith, length-append names (name ∷ [])) in
    ap (λ p. place_of (names ++ name ∷ []) (name_of (names ++ name ∷ []) p)) e ∙ ap (place_of (names ++ name ∷ [])) (name_of-end names name)
    ∙ place_of-end names name fresh ∙ ap Some (sym e))
    (cases_lt place (length names))

pub apart-push : (level : ℕ) (values : List Value) (value : Value) → AreApart level values → IsNewKey level values value → AreApart level (values ++ value ∷ [])
apart-push level [] value apart fresh = (tt, tt)
apart-push level (first ∷ others) value apart fresh = (all-push (λ other. same_key level first other ≡ false) others value apart.0 fresh.0, apart-push level others value apart.1 fresh.1)

-- rows that ascend, and one above them all
pub ascend-push : (rows : List Image) (row : Image) → Ascend rows → AreBelow row.row rows → Ascend (rows ++ row ∷ [])
ascend-push [] row up below = tt
ascend-push (first ∷ []) row up below = (below.0, tt)
ascend-push (first ∷ second ∷ others) row up below = (up.0, ascend-push (second ∷ others) row up.1 below.1)
