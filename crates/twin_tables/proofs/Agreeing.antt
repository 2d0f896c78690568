-- When rows of two tables are one but for ids, and what may be said of the rows once a suspect is known to agree.
use Rattle.std.proofs.Common.{◌≡◌, ◌∙◌, ◌↔◌, ℕ, Bool, true, false, ◌&&◌, List, [], ◌∷◌, Option, None, Some, refl, sym, ap, subst, ⊎_elim}
use Rattle.std.specs.Prelude.{nat_eq}
use Rattle.std.specs.List.{Contains, list_any}
use Rattle.std.proofs.lemmas.Bool.{cases_eq, eq-eqb, eqb-true}
use Rattle.std.proofs.lemmas.Option.{none-some, same_Some}
use Rattle.desk_values.specs.declared.value.Image.{Image}
use Rattle.machine_stores.proofs.Storing.{told_is}
use Rattle.id_pairs.specs.declared.Id.TheVariants.{Row}
use Rattle.id_pairs.specs.Pairs.{IdPair, IsIdMap}
use Rattle.id_pairs.specs.Carrying.Carried.{carried_number}
use Rattle.law_server.specs.Rows.Images.{IsRenamedImage}
use Rattle.law_server.specs.Renaming.Twins.{AreSets, IsRenamedRow}
use Rattle.law_server.proofs.Renaming.Sets.{sets_any}
use Rattle.law_server.proofs.Rows.Members.{same_ids}
use Rattle.twin_tables.specs.Differences.{Agree, AgreeBeside, Both, HasTwin, IsTwin, captured_told, is_changed, replayed_told}
use Rattle.twin_tables.specs.Inside.Judging.{AreTwinImages, CapturedAgrees, ReplayedAgrees}
use Rattle.twin_tables.proofs.Renamed.{renamed_row, row_renamed}

-- ---- two images that there may be

module _ (pairs : List IdPair) where
  twin_of : (o p : Option Image) → AreTwinImages pairs o p → (x : Image) → o ≡ Some x → (y : Image) × (p ≡ Some y) × IsRenamedImage pairs x y
  twin_of None None twins x e = absurd (none-some x e)
  twin_of None (Some b) twins x e = absurd twins
  twin_of (Some a) None twins x e = absurd twins
  twin_of (Some a) (Some b) twins x e = (b, refl, subst (λ (i : Image). IsRenamedImage pairs i b) (same_Some a x e) twins)

  origin_of : (o p : Option Image) → AreTwinImages pairs o p → (y : Image) → p ≡ Some y → (x : Image) × (o ≡ Some x) × IsRenamedImage pairs x y
  origin_of None None twins y e = absurd (none-some y e)
  origin_of None (Some b) twins y e = absurd twins
  origin_of (Some a) None twins y e = absurd twins
  origin_of (Some a) (Some b) twins y e = (a, refl, subst (IsRenamedImage pairs a) (same_Some b y e) twins)

  twins_from : (o p : Option Image) → ((x : Image) → o ≡ Some x → (y : Image) × (p ≡ Some y) × IsRenamedImage pairs x y)
      → ((y : Image) → p ≡ Some y → (x : Image) × (o ≡ Some x) × IsRenamedImage pairs x y) → AreTwinImages pairs o p
  twins_from None None forth back = tt
  twins_from None (Some b) forth back = let t = back b refl in none-some t.0 t.1
  twins_from (Some a) None forth back = let t = forth a refl in none-some t.0 t.1
  twins_from (Some a) (Some b) forth back = let t = forth a refl in subst (IsRenamedImage pairs a) (sym (same_Some b t.0 t.1)) t.2

module _ (both : Both) (is_map : IsIdMap both.pairs) where
  abbrev pairs : List IdPair
  pairs = both.pairs

  -- no row stands for two, nor two for one
  pub one_twin : (a b x y : ℕ) → IsRenamedRow pairs a x → IsRenamedRow pairs b y → a ≡ b → x ≡ y
  one_twin a b x y c d e = eqb-true x y (sym (same_ids pairs is_map.once (Row a) (Row b) (Row x) (Row y) c d) ∙ eq-eqb a b e)

  pub one_origin : (a b x y : ℕ) → IsRenamedRow pairs a x → IsRenamedRow pairs b y → x ≡ y → a ≡ b
  one_origin a b x y c d e = eqb-true a b (same_ids pairs is_map.once (Row a) (Row b) (Row x) (Row y) c d ∙ eq-eqb x y e)

  pub captured_is : (row : ℕ) (image : Image) → captured_told both row ≡ Some image → image.row ≡ row
  captured_is row image at = told_is row both.captured_at both.captured image at

  pub replayed_is : (row : ℕ) (image : Image) → replayed_told both row ≡ Some image → image.row ≡ row
  replayed_is row image at = told_is row both.replayed_at both.replayed image at

  -- ---- a pair of rows

  module _ (row other : ℕ) (pair : IsRenamedRow both.pairs row other) where
    abbrev AreAlike : Type 0
    AreAlike = AreTwinImages both.pairs (captured_told both row) (replayed_told both other)

    has_twin : AreAlike → HasTwin both row
    has_twin alike image at =
        let t = twin_of pairs (captured_told both row) (replayed_told both other) alike image at in
        let there : t.0.row ≡ other = replayed_is other t.0 t.1 in
        (t.0, subst (λ (r : ℕ). replayed_told both r ≡ Some t.0) (sym there) t.1, t.2)

    is_twin : AreAlike → IsTwin both other
    is_twin alike image at =
        let t = origin_of pairs (captured_told both row) (replayed_told both other) alike image at in
        let there : t.0.row ≡ row = captured_is row t.0 t.1 in
        (t.0, subst (λ (r : ℕ). captured_told both r ≡ Some t.0) (sym there) t.1, t.2)

    are_alike : HasTwin both row → IsTwin both other → AreAlike
    are_alike has is = twins_from pairs (captured_told both row) (replayed_told both other)
        (λ x at.
        let t = has x at in
        let there : t.0.row ≡ other = sym (one_twin row x.row other t.0.row pair t.2.row (sym (captured_is row x at))) in
        (t.0, subst (λ (r : ℕ). replayed_told both r ≡ Some t.0) there t.1, t.2))
        (λ y at.
        let t = is y at in
        let there : t.0.row ≡ row = sym (one_origin row t.0.row other y.row pair t.2.row (sym (replayed_is other y at))) in
        (t.0, subst (λ (r : ℕ). captured_told both r ≡ Some t.0) there t.1, t.2))

    pub captured_by : AreAlike ↔ CapturedAgrees both row
    captured_by = (
      λ alike. (has_twin alike, λ o p. subst (IsTwin both) (one_twin row row other o pair p refl) (is_twin alike)),
      λ agrees. are_alike agrees.0 (agrees.1 other pair),
    )

    pub replayed_by : AreAlike ↔ ReplayedAgrees both other
    replayed_by = (
      λ alike. (is_twin alike, λ r p. subst (HasTwin both) (one_origin row r other other pair p refl) (has_twin alike)),
      λ agrees. are_alike (agrees.1 row pair) agrees.0,
    )

  -- ---- a row for which none of the other side stands

  told_none : (o : Option Image) → ((x : Image) → o ≡ Some x → ⊥) → o ≡ None
  told_none None none = refl
  told_none (Some x) none = absurd (none x refl)

  none_told : (o : Option Image) → o ≡ None → (x : Image) → o ≡ Some x → ⊥
  none_told o e x at = none-some x (sym e ∙ at)

  pub captured_alone : (row : ℕ) → carried_number both.pairs row ≡ None → (captured_told both row ≡ None) ↔ CapturedAgrees both row
  captured_alone row none = (
    λ gone. (λ image at. absurd (none_told (captured_told both row) gone image at), λ other pair. absurd (none-some other (sym none ∙ renamed_row pairs is_map row other pair))),
    λ agrees. told_none (captured_told both row) (λ image at.
        let t = agrees.0 image at in
        let pair : IsRenamedRow both.pairs row t.0.row = subst (λ (r : ℕ). IsRenamedRow both.pairs r t.0.row) (captured_is row image at) t.2.row in
        none-some t.0.row (sym none ∙ renamed_row pairs is_map row t.0.row pair)),
  )

  pub replayed_alone : (row : ℕ) → ((captured : ℕ) → ¬ IsRenamedRow both.pairs captured row) → (replayed_told both row ≡ None) ↔ ReplayedAgrees both row
  replayed_alone row none = (
    λ gone. (λ image at. absurd (none_told (replayed_told both row) gone image at), λ captured pair. absurd (none captured pair)),
    λ agrees. told_none (replayed_told both row) (λ image at.
        let t = agrees.0 image at in
        none t.0.row (subst (λ (r : ℕ). IsRenamedRow both.pairs t.0.row r) (replayed_is row image at) t.2.row)),
  )

  -- ---- rows beside the changes of two sessions, which are one but for ids

  module _ (table : ℕ) (own others : List Image) (twins : AreSets (IsRenamedImage both.pairs) own others) where
    pub changed_both : (row other : ℕ) → IsRenamedRow both.pairs row other → is_changed own table row ≡ is_changed others table other
    changed_both row other pair = sets_any (IsRenamedImage both.pairs)
        (λ (image : Image). nat_eq image.row row && nat_eq image.table table) (λ (image : Image). nat_eq image.row other && nat_eq image.table table)
        (λ x y t. λ i. same_ids pairs is_map.once (Row x.row) (Row row) (Row y.row) (Row other) t.row pair i && nat_eq (t.table i) table)
        own others twins

    pub captured_apart : (row : ℕ) → is_changed own table row ≡ false → ¬ CapturedAgrees both row → ¬ AgreeBeside both table own others
    captured_apart row beside apart agree = apart (
      agree.forth row beside,
      λ other pair. agree.back other (sym (changed_both row other pair) ∙ beside),
    )

    pub replayed_apart : (row : ℕ) → is_changed others table row ≡ false → ¬ ReplayedAgrees both row → ¬ AgreeBeside both table own others
    replayed_apart row beside apart agree = apart (
      agree.back row beside,
      λ captured pair. agree.forth captured (changed_both captured row pair ∙ beside),
    )

  -- ---- suspects that agree

  pub weaker : (C D R S : ℕ → Bool) → ((row : ℕ) → D row ≡ false → C row ≡ false) → ((row : ℕ) → S row ≡ false → R row ≡ false) → Agree both C R → Agree both D S
  weaker C D R S first second old = record {
    forth = λ row free partners. old.forth row (first row free) (λ other p. second other (partners other p));
    back = λ other free partners. old.back other (second other free) (λ row p. first row (partners row p));
  }

  module _ (C D R S : ℕ → Bool) (old : Agree both C R) where
    -- a captured row is let go
    module _ (gone : ℕ) (first : (row : ℕ) → D row ≡ false → (gone ≡ row → ⊥) → C row ≡ false) (second : (row : ℕ) → S row ≡ false → R row ≡ false) (agrees : CapturedAgrees both gone) where
      back_captured : (other : ℕ) → S other ≡ false → ((row : ℕ) → IsRenamedRow both.pairs row other → D row ≡ false) → (o : Option ℕ) → carried_number both.pairs gone ≡ o → IsTwin both other
      back_captured other free partners None none = old.back other (second other free) (λ row p. first row (partners row p) (λ e.
          none-some other (sym none ∙ renamed_row pairs is_map gone other (subst (λ (n : ℕ). IsRenamedRow both.pairs n other) (sym e) p))))
      back_captured other free partners (Some m) some = ⊎_elim
          (λ (same : m ≡ other). agrees.1 other (row_renamed pairs is_map gone other (some ∙ ap (λ (n : ℕ). Some n) same)))
          (λ apart. old.back other (second other free) (λ row p. first row (partners row p) (λ e.
          apart (same_Some m other (sym some ∙ renamed_row pairs is_map gone other (subst (λ (n : ℕ). IsRenamedRow both.pairs n other) (sym e) p))))))
          (cases_eq m other)

      pub without_captured : Agree both D S
      without_captured = record {
        forth = λ row free partners. ⊎_elim
            (λ (here : gone ≡ row). subst (HasTwin both) here agrees.0)
            (λ apart. old.forth row (first row free apart) (λ other p. second other (partners other p)))
            (cases_eq gone row);
        back = λ other free partners. back_captured other free partners (carried_number both.pairs gone) refl;
      }

    -- a replayed row is let go
    module _ (gone : ℕ) (first : (row : ℕ) → D row ≡ false → C row ≡ false) (second : (row : ℕ) → S row ≡ false → (gone ≡ row → ⊥) → R row ≡ false) (agrees : ReplayedAgrees both gone) where
      forth_replayed : (row : ℕ) → D row ≡ false → ((other : ℕ) → IsRenamedRow both.pairs row other → S other ≡ false) → (o : Option ℕ) → carried_number both.pairs row ≡ o → HasTwin both row
      forth_replayed row free partners None none = old.forth row (first row free) (λ other p. absurd (none-some other (sym none ∙ renamed_row pairs is_map row other p)))
      forth_replayed row free partners (Some m) some = ⊎_elim
          (λ (same : gone ≡ m). agrees.1 row (row_renamed pairs is_map row gone (some ∙ ap (λ (n : ℕ). Some n) (sym same))))
          (λ apart. old.forth row (first row free) (λ other p. second other (partners other p) (λ e.
          apart (e ∙ sym (same_Some m other (sym some ∙ renamed_row pairs is_map row other p))))))
          (cases_eq gone m)

      pub without_replayed : Agree both D S
      without_replayed = record {
        forth = λ row free partners. forth_replayed row free partners (carried_number both.pairs row) refl;
        back = λ other free partners. ⊎_elim
            (λ (here : gone ≡ other). subst (IsTwin both) here agrees.0)
            (λ apart. old.back other (second other free apart) (λ row p. first row (partners row p)))
            (cases_eq gone other);
      }
