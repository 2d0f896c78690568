-- Lists in which each item stands once, in one order, are equal where they have the same items.
use Rattle.std.proofs.Common.{◌≡◌, List, [], ◌∷◌, Option, None, Some, refl, sym, ap, subst, ◌∙◌, ⊎_elim}
use Rattle.std.specs.List.{AllZip, Contains}
use Rattle.std.specs.Cmp.{IsTotalOrder, tied_itself}
use Rattle.std.specs.declared.cmp.Ordering.{Ordering}
use Rattle.std.specs.declared.cmp.Ordering.TheVariants.{Less}
use Rattle.std.proofs.lemmas.Option.{same_Some}
use Rattle.desk_schema.proofs.Members.{Contains-cases, Contains-here, Contains-none, Contains-there}
use Rattle.server_words.specs.Views.{AreOnce, Ascend}
use Rattle.law_server.specs.Renaming.Twins.{AreSets}
use Rattle.twin_tables.proofs.Handed.{HaveSame}

module _ {X : Type 0} (R : X → X → Ordering) (o : IsTotalOrder R) where
  -- the first stands before each other
  before_all : (x : X) (xs : List X) (z : X) → Ascend R (x ∷ xs) → Contains xs z → R x z ≡ Less
  before_all x [] z up there = absurd (Contains-none z there)
  before_all x (y ∷ ys) z up there = ⊎_elim
      (λ same. subst (λ w. R x w ≡ Less) same up.0)
      (λ later. o.trans x y z up.0 (before_all y ys z up.1 later))
      (Contains-cases y ys z there)

  rest_ascends : (x : X) (xs : List X) → Ascend R (x ∷ xs) → Ascend R xs
  rest_ascends x [] up = tt
  rest_ascends x (y ∷ ys) up = up.1

  not_itself : (x : X) → R x x ≡ Less → ⊥
  not_itself x less = let tied = tied_itself o x in absurd cc

  not_both : (x y : X) → R x y ≡ Less → R y x ≡ Less → ⊥
  not_both x y less more = not_itself x (o.trans x y x less more)

  first_same : (x y : X) (xs ys : List X) → Ascend R (x ∷ xs) → Ascend R (y ∷ ys) → Contains (y ∷ ys) x → Contains (x ∷ xs) y → x ≡ y
  first_same x y xs ys up rise there here = ⊎_elim
      (λ same. sym same)
      (λ later. ⊎_elim
      (λ same. same)
      (λ after. absurd (not_both x y (before_all x xs y up after) (before_all y ys x rise later)))
      (Contains-cases x xs y here))
      (Contains-cases y ys x there)

  rest_has : (x y : X) (xs ys : List X) → Ascend R (x ∷ xs) → x ≡ y → ((z : X) → Contains (x ∷ xs) z → Contains (y ∷ ys) z) → (z : X) → Contains xs z → Contains ys z
  rest_has x y xs ys up same has z there = ⊎_elim
      (λ first. absurd (not_itself x (subst (λ w. R x w ≡ Less) (sym (same ∙ first)) (before_all x xs z up there))))
      (λ later. later)
      (Contains-cases y ys z (has z (Contains-there x xs z there)))

  pub one_list : (xs ys : List X) → Ascend R xs → Ascend R ys → HaveSame xs ys → xs ≡ ys
  one_list [] [] up rise same = refl
  one_list [] (y ∷ ys) up rise same = absurd (Contains-none y (same.back y (Contains-here y ys)))
  one_list (x ∷ xs) [] up rise same = absurd (Contains-none x (same.forth x (Contains-here x xs)))
  one_list (x ∷ xs) (y ∷ ys) up rise same =
      let first = first_same x y xs ys up rise (same.forth x (Contains-here x xs)) (same.back y (Contains-here y ys)) in
      let others = one_list xs ys (rest_ascends x xs up) (rest_ascends y ys rise) (record {
        forth = rest_has x y xs ys up first same.forth;
        back = rest_has y x ys xs rise (sym first) same.back;
      }) in
      λ i. first i ∷ others i

  -- the two that are left of lists are equal just where the lists are one as sets
  pub once_sets : (xs ys ones others : List X) → AreOnce R xs ones → AreOnce R ys others → ones ≡ others → AreSets (λ x y. x ≡ y) xs ys
  once_sets xs ys ones others one other is = record {
    forth = λ x c. (x, other.only x (subst (λ (l : List X). Contains l x) is (one.all x c)), refl);
    back = λ y c. (y, one.only y (subst (λ (l : List X). Contains l y) (sym is) (other.all y c)), refl);
  }

  pub sets_once : (xs ys ones others : List X) → AreOnce R xs ones → AreOnce R ys others → AreSets (λ x y. x ≡ y) xs ys → ones ≡ others
  sets_once xs ys ones others one other sets = one_list ones others one.ascend other.ascend (record {
    forth = λ x c. let s = sets.forth x (one.only x c) in other.all x (subst (λ (w : X). Contains ys w) (sym s.2) s.1);
    back = λ y c. let s = sets.back y (other.only y c) in one.all y (subst (λ (w : X). Contains xs w) s.2 s.1);
  })

-- ---- with an image of each item

module _ {X : Type 0} (carried : X → Option X) where
  abbrev pub AreCarried : List X → List X → Type 0
  AreCarried = AllZip (λ x y. carried x ≡ Some y)

  carried_there : (xs zs : List X) → AreCarried xs zs → (x : X) → Contains xs x → (z : X) × Contains zs z × (carried x ≡ Some z)
  carried_there [] [] zip x c = absurd (Contains-none x c)
  carried_there [] (b ∷ zs) zip x c = absurd zip
  carried_there (a ∷ xs) [] zip x c = absurd zip
  carried_there (a ∷ xs) (b ∷ zs) zip x c = ⊎_elim
      (λ same. (b, Contains-here b zs, subst (λ w. carried w ≡ Some b) same zip.0))
      (λ later. let t = carried_there xs zs zip.1 x later in (t.0, Contains-there b zs t.0 t.1, t.2))
      (Contains-cases a xs x c)

  carried_back : (xs zs : List X) → AreCarried xs zs → (z : X) → Contains zs z → (x : X) × Contains xs x × (carried x ≡ Some z)
  carried_back [] [] zip z c = absurd (Contains-none z c)
  carried_back [] (b ∷ zs) zip z c = absurd zip
  carried_back (a ∷ xs) [] zip z c = absurd zip
  carried_back (a ∷ xs) (b ∷ zs) zip z c = ⊎_elim
      (λ same. (a, Contains-here a xs, subst (λ w. carried a ≡ Some w) same zip.0))
      (λ later. let t = carried_back xs zs zip.1 z later in (t.0, Contains-there a xs t.0 t.1, t.2))
      (Contains-cases b zs z c)

  pub sets_carried : (xs zs ys : List X) → AreCarried xs zs → AreSets (λ z y. z ≡ y) zs ys → AreSets (λ x y. carried x ≡ Some y) xs ys
  sets_carried xs zs ys zip sets = record {
    forth = λ x c. let t = carried_there xs zs zip x c in let s = sets.forth t.0 t.1 in (s.0, s.1, t.2 ∙ ap (λ (w : X). Some w) s.2);
    back = λ y c. let s = sets.back y c in let t = carried_back xs zs zip s.0 s.1 in (t.0, t.1, t.2 ∙ ap (λ (w : X). Some w) s.2);
  }

  pub carried_sets : (xs zs ys : List X) → AreCarried xs zs → AreSets (λ x y. carried x ≡ Some y) xs ys → AreSets (λ z y. z ≡ y) zs ys
  carried_sets xs zs ys zip sets = record {
    forth = λ z c. let t = carried_back xs zs zip z c in let s = sets.forth t.0 t.1 in (s.0, s.1, same_Some z s.0 (sym t.2 ∙ s.2));
    back = λ y c. let s = sets.back y c in let t = carried_there xs zs zip s.0 s.1 in (t.0, t.1, same_Some t.0 y (sym t.2 ∙ s.2));
  }

  pub no_sets : (xs ys : List X) (x : X) → Contains xs x → carried x ≡ None → AreSets (λ x y. carried x ≡ Some y) xs ys → ⊥
  no_sets xs ys x c none sets =
      let s = sets.forth x c in
      let wrong : None ≡ Some s.0 = sym none ∙ s.2 in
      absurd cc
