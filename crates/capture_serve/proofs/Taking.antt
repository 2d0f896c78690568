-- Lists of which one after the other is taken.
use Rattle.std.proofs.Common.{◌≡◌, ◌∙◌, List, [], ◌∷◌, ◌++◌, length, map, refl, ap, sym, subst, arith, append_assoc}
use Rattle.std.specs.List.{AllByRecursion}
use Rattle.std.proofs.lemmas.List.{append-nil, map-append}

module _ {X : Type 0} (done rest all : List X) where
  pub one_more : (one : X) (rest' : List X) → rest ≡ one ∷ rest' → done ++ rest ≡ all → (done ++ one ∷ []) ++ rest' ≡ all
  one_more one rest' steps is = append_assoc done (one ∷ []) rest' ∙ ap (λ (l : List X). done ++ l) (sym steps) ∙ is

  pub no_more : length rest ≡ 0 → done ++ rest ≡ all → done ≡ all
  no_more none is = sym (append-nil done) ∙ ap (λ (l : List X). done ++ l) (sym (empty rest none)) ∙ is where
    empty : (l : List X) → length l ≡ 0 → l ≡ []
    empty [] none = refl
    empty (x ∷ l) none = absurd (omega (arith, none))

pub all_more : {X : Type 0} (P : X → Type 0) (done : List X) (one : X) → AllByRecursion P done → P one → AllByRecursion P (done ++ one ∷ [])
all_more P [] one each is = (is, tt)
all_more P (x ∷ done) one each is = (each.0, all_more P done one each.1 is)

pub mapped_twice : {X Y Z : Type 0} (f : X → Y) (g : Y → Z) (xs : List X) → map g (map f xs) ≡ map (λ x. g (f x)) xs
mapped_twice f g [] = refl
mapped_twice f g (x ∷ xs) = ap (λ (l : List _). g (f x) ∷ l) (mapped_twice f g xs)

-- what is seen of two lists is the same where it is seen of values that are
pub seen_same : {S T C M : Type 0} (see : C → M) (of_seat : S → C) (was : T → C) (seats : List S) (all : List T) → map was all ≡ map of_seat seats → map (λ t. see (was t)) all ≡ map (λ s. see (of_seat s)) seats
seen_same see of_seat was seats all same = sym (mapped_twice was see all) ∙ ap (map see) same ∙ mapped_twice of_seat see seats

-- one more of two lists whose items are seen as one
pub mapped_one : {S T C : Type 0} (was : T → C) (of_seat : S → C) (all all' : List T) (done : List S) (t : T) (s : S) → all' ≡ all ++ t ∷ [] → map was all ≡ map of_seat done → was t ≡ of_seat s → map was all' ≡ map of_seat (done ++ s ∷ [])
mapped_one {C = C} was of_seat all all' done t s more same is =
    ap (map was) more ∙ map-append was all (t ∷ []) ∙ ap (λ (l : List C). l ++ was t ∷ []) same ∙ ap (λ (x : C). map of_seat done ++ x ∷ []) is ∙ sym (map-append of_seat done (s ∷ []))

-- one more of which it holds
pub passed_one : {X Y : Type 0} (P : Y → Type 0) (f : X → Y) (all all' : List X) (x : X) → all' ≡ all ++ x ∷ [] → AllByRecursion P (map f all) → P (f x) → AllByRecursion P (map f all')
passed_one {X = X} {Y = Y} P f all all' x more each is =
    subst (λ (l : List X). AllByRecursion P (map f l)) (sym more) (subst (λ (l : List Y). AllByRecursion P l) (sym (map-append f all (x ∷ []))) (all_more P (map f all) (f x) each is))
