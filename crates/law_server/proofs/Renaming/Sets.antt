-- What is asked of a set of items.
use Rattle.std.proofs.Common.{◌≡◌, Bool, true, false, ◌||◌, List, [], ◌∷◌, length, refl, sym, ap, ◌∙◌, arith}
use Rattle.std.specs.List.{Contains, list_any}
use Rattle.server_words.specs.Causes.{is_empty}
use Rattle.law_server.specs.Rows.Bags.{AreBags}
use Rattle.law_server.proofs.Rows.Bags.{bags_length}
use Rattle.law_server.proofs.Rows.Members.{either_both}
use Rattle.law_server.specs.Renaming.Twins.{AreSets}
use Rattle.desk_schema.proofs.Members.{Contains-here, Contains-none, Contains-there}
use Rattle.std.proofs.lemmas.List.Folds.{list_any_at}

module _ {A : Type 0} (p : A → Bool) where
  pub any_of : (xs : List A) (x : A) → Contains xs x → p x ≡ true → list_any p xs ≡ true
  any_of xs x c e = list_any_at p xs c.0 x c.1 (ap p c.2 ∙ e)

  pub one_of : (xs : List A) → list_any p xs ≡ true → (x : A) × Contains xs x × (p x ≡ true)
  one_of [] e = absurd (cc)
  one_of (x ∷ xs) e = elim (p x) as (λ b. p x ≡ b → (b || list_any p xs) ≡ true → (y : A) × Contains (x ∷ xs) y × (p y ≡ true)) [
    | true ↦ λ is any. (x, Contains-here x xs, is)
    | false ↦ λ is any. let t = one_of xs any in (t.0, Contains-there x xs t.0 t.1, t.2)
  ] refl e

pub sets_any : {A B : Type 0} (R : A → B → Type 0) (p : A → Bool) (q : B → Bool) → ((x : A) (y : B) → R x y → p x ≡ q y) → (xs : List A) (ys : List B) → AreSets R xs ys → list_any p xs ≡ list_any q ys
sets_any R p q alike xs ys sets = either_both (list_any p xs) (list_any q ys)
    (λ e. let t = one_of p xs e in let s = sets.forth t.0 t.1 in any_of q ys s.0 s.1 (sym (alike t.0 s.0 s.2) ∙ t.2))
    (λ e. let t = one_of q ys e in let s = sets.back t.0 t.1 in any_of p xs s.0 s.1 (alike s.0 t.0 s.2 ∙ t.2))

pub sets_empty : {A B : Type 0} (R : A → B → Type 0) (xs : List A) (ys : List B) → AreSets R xs ys → is_empty xs ≡ is_empty ys
sets_empty R [] [] sets = refl
sets_empty R (x ∷ xs) (y ∷ ys) sets = refl
sets_empty R [] (y ∷ ys) sets = let t = sets.back y (Contains-here y ys) in absurd (Contains-none t.0 t.1)
sets_empty R (x ∷ xs) [] sets = let t = sets.forth x (Contains-here x xs) in absurd (Contains-none t.0 t.1)

same_empty : {A B : Type 0} (xs : List A) (ys : List B) → length xs ≡ length ys → is_empty xs ≡ is_empty ys
same_empty [] [] e = refl
same_empty (x ∷ xs) (y ∷ ys) e = refl
same_empty [] (y ∷ ys) e = absurd (omega (arith, e))
same_empty (x ∷ xs) [] e = absurd (omega (arith, e))

pub bags_empty : {A B : Type 0} (R : A → B → Type 0) (xs : List A) (ys : List B) → AreBags R xs ys → is_empty xs ≡ is_empty ys
bags_empty R xs ys bags = same_empty xs ys (bags_length R bags)
