-- What changes leave of rows, by its members: with each id renamed it is what renamed changes leave of renamed rows.
use Rattle.std.proofs.Common.{◌≡◌, ℕ, ◌+◌, true, false, eqb, if◌then◌else◌, List, [], ◌∷◌, Option, None, Some, refl, sym, ap, subst, ◌∙◌, arith, ◌⊎◌, inl, inr, ⊎_elim}
use Rattle.std.specs.List.{AllByRecursion, AllZip, Contains}
use Rattle.std.proofs.lemmas.Bool.{eqb-true, eq-eqb}
use Rattle.std.proofs.lemmas.List.Elements.{Contains-append_cases, Contains-append_left, Contains-append_right}
use Rattle.desk_values.specs.declared.value.Value.{Value}
use Rattle.desk_values.specs.declared.value.Image.{Image}
use Rattle.desk_schema.proofs.Members.{Contains-cases, Contains-here, Contains-none, Contains-there}
use Rattle.server_words.specs.Rows.{IsRising, RisesFrom, is_there, lay, lay_all, placed, shown}
use Rattle.server_words.proofs.Laying.{rising_lay, rising_shown}
use Rattle.id_pairs.specs.declared.Id.TheVariants.{Row}
use Rattle.id_pairs.specs.Pairs.{HasNoIdTwice, IdPair}
use Rattle.law_server.specs.Rows.Images.{IsRenamedImage, IsRenamedLeft}
use Rattle.law_server.proofs.Rows.Members.{same_ids}
use Rattle.law_replays.proofs.Told.Placed.{places}
use Rattle.law_server.specs.Renaming.Twins.{AreSets}
use Rattle.law_server.proofs.Renaming.Rising.{least_row}

-- ---- one change

module _ (show : Image → List Image) (c : Image) where
  -- a member is what the change shows, or another row
  from_placed : (n : ℕ) (xs : List Image) → RisesFrom n xs → (x : Image) → Contains (placed show c xs) x → Contains (show c) x ⊎ (Contains xs x × (x.row ≡ c.row → ⊥))
  from_placed n [] up x t = inl t
  from_placed n (y ∷ ys) up x t =
      let P : List Image → Type 0 = λ l. Contains l x in
      ⊎_elim
      (λ below. ⊎_elim
      (λ is. inr (subst (λ (w : Image). Contains (y ∷ ys) w) is (Contains-here y ys), λ e. omega (arith, below.0, e, ap (λ (w : Image). w.row) is)))
      (λ later. ⊎_elim inl (λ old. inr (Contains-there y ys x old.0, old.1)) (from_placed (y.row + 1) ys up.1 x later))
      (Contains-cases y (placed show c ys) x (subst P below.1 t)))
      (λ other. ⊎_elim
      (λ same. ⊎_elim inl (λ later. inr (Contains-there y ys x later, λ e. omega (arith, same.0, e, least_row (y.row + 1) ys up.1 x later))) (Contains-append_cases (show c) ys x (subst P same.1 t)))
      (λ above. ⊎_elim inl (λ later. inr (later, λ e. omega (arith, above.0, e, least_row y.row (y ∷ ys) (omega arith, up.1) x later))) (Contains-append_cases (show c) (y ∷ ys) x (subst P above.1 t)))
      other)
      (places show c y ys)

  shown_placed : (xs : List Image) (x : Image) → Contains (show c) x → Contains (placed show c xs) x
  shown_placed [] x t = t
  shown_placed (y ∷ ys) x t =
      let P : List Image → Type 0 = λ l. Contains l x in
      ⊎_elim
      (λ below. subst P (sym below.1) (Contains-there y (placed show c ys) x (shown_placed ys x t)))
      (λ other. ⊎_elim (λ same. subst P (sym same.1) (Contains-append_left (show c) ys x t)) (λ above. subst P (sym above.1) (Contains-append_left (show c) (y ∷ ys) x t)) other)
      (places show c y ys)

  other_placed : (xs : List Image) (x : Image) → Contains xs x → (x.row ≡ c.row → ⊥) → Contains (placed show c xs) x
  other_placed [] x t apart = absurd (Contains-none x t)
  other_placed (y ∷ ys) x t apart =
      let P : List Image → Type 0 = λ l. Contains l x in
      ⊎_elim
      (λ below. subst P (sym below.1) (⊎_elim
      (λ is. subst (λ (w : Image). Contains (y ∷ placed show c ys) w) is (Contains-here y (placed show c ys)))
      (λ later. Contains-there y (placed show c ys) x (other_placed ys x later apart))
      (Contains-cases y ys x t)))
      (λ other. ⊎_elim
      (λ same. subst P (sym same.1) (⊎_elim (λ is. absurd (apart (sym (ap (λ (w : Image). w.row) is) ∙ same.0))) (λ later. Contains-append_right (show c) ys x later) (Contains-cases y ys x t)))
      (λ above. subst P (sym above.1) (Contains-append_right (show c) (y ∷ ys) x t))
      other)
      (places show c y ys)

shown_is : (c x : Image) → Contains (shown c) x → (c ≡ x) × (is_there c ≡ true)
shown_is c x = elim (is_there c) as (λ b. Contains (if b then c ∷ [] else []) x → (c ≡ x) × (b ≡ true)) [
  | true ↦ λ t. (⊎_elim (λ is. is) (λ later. absurd (Contains-none x later)) (Contains-cases c [] x t), refl)
  | false ↦ λ t. absurd (Contains-none x t)
]

is_shown : (c : Image) → is_there c ≡ true → Contains (shown c) c
is_shown c = elim (is_there c) as (λ b. b ≡ true → Contains (if b then c ∷ [] else []) c) [
  | true ↦ λ t. Contains-here c []
  | false ↦ λ t. absurd cc
]

-- ---- changes

-- none of the changes is one of this row
abbrev LeaveAlone : List Image → Image → Type 0
LeaveAlone cs x = (c : Image) → Contains cs c → c.row ≡ x.row → ⊥

-- what is left: what the changes show, and the rows that they leave alone
abbrev IsLeft : List Image → List Image → Image → Type 0
IsLeft xs cs x = (Contains cs x × (is_there x ≡ true)) ⊎ (Contains xs x × LeaveAlone cs x)

alone_more : (c : Image) (cs : List Image) (x : Image) → (x.row ≡ c.row → ⊥) → LeaveAlone cs x → LeaveAlone (c ∷ cs) x
alone_more c cs x apart alone d t e = ⊎_elim (λ is. apart (sym e ∙ ap (λ (w : Image). w.row) (sym is))) (λ later. alone d later e) (Contains-cases c cs d t)

from_laid : (m : ℕ) (xs cs : List Image) → IsRising xs → RisesFrom m cs → (x : Image) → Contains (lay xs cs) x → IsLeft xs cs x
from_laid m xs [] up more x t = inr (t, λ c s e. Contains-none c s)
from_laid m xs (c ∷ cs) up more x t = ⊎_elim
    (λ told. inl (Contains-there c cs x told.0, told.1))
    (λ old. ⊎_elim
    (λ here. let s = shown_is c x here in inl (subst (λ (w : Image). Contains (c ∷ cs) w) s.0 (Contains-here c cs), subst (λ (w : Image). is_there w ≡ true) s.0 s.1))
    (λ other. inr (other.0, alone_more c cs x other.1 old.1))
    (from_placed shown c 0 xs up x old.0))
    (from_laid (c.row + 1) (placed shown c xs) cs (rising_shown c xs up) more.1 x t)

laid : (m : ℕ) (xs cs : List Image) → RisesFrom m cs → (x : Image) → IsLeft xs cs x → Contains (lay xs cs) x
laid m xs [] more x left = ⊎_elim (λ told. absurd (Contains-none x told.0)) (λ old. old.0) left
laid m xs (c ∷ cs) more x left = laid (c.row + 1) (placed shown c xs) cs more.1 x (⊎_elim
    (λ told. ⊎_elim
    (λ is. inr (
      shown_placed shown c xs x (subst (λ (w : Image). Contains (shown c) w) is (is_shown c (subst (λ (w : Image). is_there w ≡ true) (sym is) told.1))),
      λ d s e. omega (arith, e, ap (λ (w : Image). w.row) is, least_row (c.row + 1) cs more.1 d s),
    ))
    (λ later. inl (later, told.1))
    (Contains-cases c cs x told.0))
    (λ old. inr (other_placed shown c xs x old.0 (λ e. old.1 c (Contains-here c cs) (sym e)), λ d s e. old.1 d (Contains-there c cs d s) e))
    left)

-- ---- renamed rows and changes

module _ (R : Image → Image → Type 0) (same_there : (x y : Image) → R x y → is_there x ≡ is_there y) (one_row : (a b x y : Image) → R a x → R b y → x.row ≡ y.row → a.row ≡ b.row) where
  laid_forth : (m n : ℕ) (xs ys cs ds : List Image) → IsRising xs → RisesFrom m cs → RisesFrom n ds → AreSets R xs ys → AreSets R cs ds → (x : Image) → Contains (lay xs cs) x → (y : Image) × Contains (lay ys ds) y × R x y
  laid_forth m n xs ys cs ds up more also rows changes x t = ⊎_elim
      (λ told. let s = changes.forth x told.0 in (s.0, laid n ys ds also s.0 (inl (s.1, sym (same_there x s.0 s.2) ∙ told.1)), s.2))
      (λ old. let s = rows.forth x old.0 in (s.0, laid n ys ds also s.0 (inr (s.1, λ d t e. let u = changes.back d t in old.1 u.0 u.1 (one_row u.0 x d s.0 u.2 s.2 e))), s.2))
      (from_laid m xs cs up more x t)

turn : {A B : Type 0} (R : A → B → Type 0) (xs : List A) (ys : List B) → AreSets R xs ys → AreSets (λ y x. R x y) ys xs
turn R xs ys sets = record { forth = sets.back; back = sets.forth }

there_renamed : (pairs : List IdPair) (left other : Option (List Value)) (x y : Image) → x.left ≡ left → y.left ≡ other → IsRenamedLeft pairs left other → is_there x ≡ is_there y
there_renamed pairs None None x y e f t = rw (e, f) refl
there_renamed pairs (Some values) (Some others) x y e f t = rw (e, f) refl
there_renamed pairs None (Some others) x y e f t = absurd t
there_renamed pairs (Some values) None x y e f t = absurd t

module _ (pairs : List IdPair) (once : HasNoIdTwice pairs) where
  pub same_rows : (a b x y : Image) → IsRenamedImage pairs a x → IsRenamedImage pairs b y → eqb a.row b.row ≡ eqb x.row y.row
  same_rows a b x y s t = same_ids pairs once (Row a.row) (Row b.row) (Row x.row) (Row y.row) s.row t.row

  pub sets_laid : (xs ys cs ds : List Image) → IsRising xs → IsRising ys → IsRising cs → IsRising ds → AreSets (IsRenamedImage pairs) xs ys → AreSets (IsRenamedImage pairs) cs ds → AreSets (IsRenamedImage pairs) (lay xs cs) (lay ys ds)
  sets_laid xs ys cs ds up also more again rows changes =
      let there : (x y : Image) → IsRenamedImage pairs x y → is_there x ≡ is_there y = λ x y t. there_renamed pairs x.left y.left x y refl refl t.left in
      record {
        forth = laid_forth (IsRenamedImage pairs) there (λ a b x y s t e. eqb-true _ _ (same_rows a b x y s t ∙ eq-eqb _ _ e)) 0 0 xs ys cs ds up more again rows changes;
        back = laid_forth (λ y x. IsRenamedImage pairs x y) (λ y x t. sym (there x y t)) (λ x y a b s t e. eqb-true _ _ (sym (same_rows a b x y s t) ∙ eq-eqb _ _ e)) 0 0 ys xs ds cs also again more (turn (IsRenamedImage pairs) xs ys rows) (turn (IsRenamedImage pairs) cs ds changes);
      }

  -- the same of commits in their order
  pub sets_laid_all : (commits others : List (List Image)) → AllByRecursion IsRising commits → AllByRecursion IsRising others → AllZip (AreSets (IsRenamedImage pairs)) commits others
      → (xs ys : List Image) → IsRising xs → IsRising ys → AreSets (IsRenamedImage pairs) xs ys → AreSets (IsRenamedImage pairs) (lay_all xs commits) (lay_all ys others)
  sets_laid_all [] [] more again zipped xs ys up also rows = rows
  sets_laid_all (c ∷ cs) (d ∷ ds) more again zipped xs ys up also rows = sets_laid_all cs ds more.1 again.1 zipped.1 (lay xs c) (lay ys d) (rising_lay xs c up) (rising_lay ys d also) (sets_laid xs ys c d up also more.0 again.0 rows zipped.0)
  sets_laid_all [] (d ∷ ds) more again zipped xs ys up also rows = absurd zipped
  sets_laid_all (c ∷ cs) [] more again zipped xs ys up also rows = absurd zipped
