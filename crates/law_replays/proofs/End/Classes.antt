-- What a class tells of renamed outcomes, and the other way round.
use Rattle.std.proofs.Common.{◌≡◌, ℕ, ◌+◌, true, false, eqb, if◌then◌else◌, List, [], ◌∷◌, Option, None, Some, refl, sym, ap, subst, ◌∙◌, arith, ⊎_elim}
use Rattle.std.specs.List.{AllZip, Contains}
use Rattle.std.specs.List.Sorted.{IsPermutation}
use Rattle.std.specs.Option.{option_map}
use Rattle.std.proofs.lemmas.Bool.{and_cases, eq-eqb, eqb-true, not-false, or_parts}
use Rattle.std.proofs.lemmas.List.Sorted.{IsPermutation-cons, IsPermutation-middle, IsPermutation-refl, IsPermutation-trans}
use Rattle.std.proofs.lemmas.Option.{none-some, same_Some}
use Rattle.desk_values.specs.declared.value.Value.{Value}
use Rattle.desk_values.specs.declared.value.Value.TheVariants.{Null, Int, Text, Row, Draw}
use Rattle.desk_values.specs.declared.value.Image.{Image}
use Rattle.desk_values.specs.declared.call.Outcome.{Outcome}
use Rattle.desk_values.specs.declared.call.Outcome.TheVariants as outcome
use Rattle.desk_values.specs.declared.call.Reply.{Reply}
use Rattle.desk_schema.proofs.Members.{Contains-cases, Contains-here, Contains-none, Contains-there}
use Rattle.sql_eval.specs.Moved.{Moved, none, more, swapped, along}
use Rattle.server_words.specs.Rows.{IsRising, RisesFrom}
use Rattle.server_words.specs.Step.{committed_in}
use Rattle.replay_history.specs.declared.report.Class.{Class}
use Rattle.replay_history.specs.declared.report.Class.TheVariants.{Same, NewError, GoneError, MutatedError, RowsModified, RowsFetched, RowContents, Images, Shape}
use Rattle.replay_history.specs.Class.{class_number}
use Rattle.id_pairs.specs.declared.Id.{Id}
use Rattle.id_pairs.specs.declared.Id.TheVariants as id
use Rattle.id_pairs.specs.Ids.{id_value}
use Rattle.id_pairs.specs.Pairs.{AreLike, HasNoIdTwice, IdPair, IsIdMap, image_in}
use Rattle.id_pairs.specs.Renaming.{AreRenamed, IsRenamed}
use Rattle.law_server.specs.Rows.Bags.{AreBags}
use Rattle.law_server.specs.Rows.Images.{IsRenamedImage, IsRenamedLeft}
use Rattle.law_server.proofs.Rows.Bags.{moved_same}
use Rattle.law_server.proofs.Rows.Members.{image_is}
use Rattle.law_server.specs.Renaming.Replies.{IsRenamedOutcome}
use Rattle.law_server.specs.Renaming.Replies as renamed
use Rattle.law_server.specs.Renaming.Twins.{AreSets}
use Rattle.law_server.proofs.Renaming.Rising.{bags_sets, least_row}
use Rattle.id_pairs.specs.Carrying.Carried.{carried_image, carried_images, carried_left, carried_number, carried_row, carried_value, each_some, row_of}
use Rattle.divergence.specs.Class.{class_between, is_committed, is_write_divergence}
use Rattle.divergence.specs.Bags.Equality.{found}
use Rattle.divergence.specs.Bags.Laws.{AreSameMaps}
use Rattle.divergence.specs.Laws.{IsSameOutcome, rows, count, committed, rolled_back, marked, connected, disconnected, refused}
use Rattle.id_pairs.proofs.Carrying.Carrying.{renamed_carried, then_some}
use Rattle.divergence.proofs.Classes.{same_is_equal}
use Rattle.law_replays.specs.End.Tables.{AreCarried}
use Rattle.law_replays.specs.End.Laws.{CarriedTablesAreOne}
use Rattle.law_replays.proofs.End.Order.{AscendFrom, one_ascending}
use Rattle.law_replays.proofs.End.Laid.{same_rows}
use Rattle.law_ids.proofs.Replays.Starts.{each_in}
use Rattle.law_replays.proofs.End.Written.{written}
use Rattle.desk_values.proofs.Options.{map_some}

-- ---- each of a list

module _ {A B : Type 0} (f : A → Option B) where
  each_zipped : (xs : List A) (ys : List B) → each_some f xs ≡ Some ys → AllZip (λ x y. f x ≡ Some y) xs ys
  each_zipped [] ys e = let P : List B → Type 0 = λ l. AllZip (λ x y. f x ≡ Some y) [] l in subst P (same_Some [] ys e) tt
  each_zipped (x ∷ xs) ys e =
      let one = then_some (λ (y : B). option_map (λ (zs : List B). y ∷ zs) (each_some f xs)) (f x) ys e in
      let others = map_some (λ (zs : List B). one.0 ∷ zs) (each_some f xs) ys one.2 in
      let P : List B → Type 0 = λ l. AllZip (λ x y. f x ≡ Some y) (x ∷ xs) l in
      subst P others.2 (one.1, each_zipped xs others.0 others.1)

  zipped_each : (R : A → B → Type 0) → ((x : A) (y : B) → R x y → f x ≡ Some y) → (xs : List A) (ys : List B) → AllZip R xs ys → each_some f xs ≡ Some ys
  zipped_each R is [] [] z = refl
  zipped_each R is (x ∷ xs) (y ∷ ys) z = rw (is x y z.0, zipped_each R is xs ys z.1) refl
  zipped_each R is [] (y ∷ ys) z = absurd z
  zipped_each R is (x ∷ xs) [] z = absurd z

zipped_bags : {A B : Type 0} (R : A → B → Type 0) (xs : List A) (ys : List B) → AllZip R xs ys → AreBags R xs ys
zipped_bags R xs ys z = record { turned = ys; related = z; moved = moved_same ys }

-- ---- images by row

module _ (xs : List Image) where
  pub one_image : (n : ℕ) → RisesFrom n xs → (a b : Image) → Contains xs a → Contains xs b → a.row ≡ b.row → a ≡ b
  one_image = go xs
    where
      go : (ys : List Image) (n : ℕ) → RisesFrom n ys → (a b : Image) → Contains ys a → Contains ys b → a.row ≡ b.row → a ≡ b
      go [] n up a b c d e = absurd (Contains-none a c)
      go (y ∷ ys) n up a b c d e = ⊎_elim
          (λ is. ⊎_elim (λ too. sym is ∙ too) (λ later. absurd (omega (arith, e, ap (λ (w : Image). w.row) is, least_row (y.row + 1) ys up.1 b later))) (Contains-cases y ys b d))
          (λ first. ⊎_elim (λ too. absurd (omega (arith, e, ap (λ (w : Image). w.row) too, least_row (y.row + 1) ys up.1 a first))) (λ later. go ys (y.row + 1) up.1 a b first later e) (Contains-cases y ys b d))
          (Contains-cases y ys a c)

found_in : (xs : List Image) (row : ℕ) (y : Image) → found xs row ≡ Some y → Contains xs y × (y.row ≡ row)
found_in [] row y e = absurd (none-some y e)
found_in (x ∷ xs) row y e = elim (eqb x.row row) as (λ b. eqb x.row row ≡ b → (if b then Some x else found xs row) ≡ Some y → Contains (x ∷ xs) y × (y.row ≡ row)) [
  | true ↦ λ is there. let same = same_Some x y there in (subst (Contains (x ∷ xs)) same (Contains-here x xs), ap (λ (w : Image). w.row) (sym same) ∙ eqb-true _ _ is)
  | false ↦ λ isnt there. let t = found_in xs row y there in (Contains-there x xs y t.0, t.1)
] refl e

in_found : (xs : List Image) (y : Image) → Contains xs y → (z : Image) × (found xs y.row ≡ Some z)
in_found [] y c = absurd (Contains-none y c)
in_found (x ∷ xs) y c = elim (eqb x.row y.row) as (λ b. eqb x.row y.row ≡ b → (z : Image) × ((if b then Some x else found xs y.row) ≡ Some z)) [
  | true ↦ λ is. (x, refl)
  | false ↦ λ isnt. ⊎_elim (λ same. absurd (let is = eq-eqb x.row y.row (ap (λ (w : Image). w.row) same) in let f : false ≡ true = sym isnt ∙ is in cc)) (λ later. in_found xs y later) (Contains-cases x xs y c)
] refl

module _ (pairs : List IdPair) (is_map : IsIdMap pairs) where
  -- ---- carried values are renamed

  paired : (x y : Id) → image_in pairs x ≡ Some y → Contains pairs (x, y)
  paired x y e = (image_is pairs x y is_map.once).1 e

  alike : (x y : Id) → image_in pairs x ≡ Some y → AreLike x y
  alike x y e = each_in _ pairs is_map.like (x, y) (paired x y e)

  row_to : (n : ℕ) (y : Id) → image_in pairs (id.Row n) ≡ Some y → AreLike (id.Row n) y → IsRenamed pairs (Row n) (id_value y)
  row_to n (id.Row m) e like = paired (id.Row n) (id.Row m) e
  row_to n (id.Draw q m) e like = absurd like

  draw_to : (p n : ℕ) (y : Id) → image_in pairs (id.Draw p n) ≡ Some y → AreLike (id.Draw p n) y → IsRenamed pairs (Draw p n) (id_value y)
  draw_to p n (id.Draw q m) e like = paired (id.Draw p n) (id.Draw q m) e
  draw_to p n (id.Row m) e like = absurd like

  pub value_to : (v w : Value) → carried_value pairs v ≡ Some w → IsRenamed pairs v w
  value_to Null w e = subst (IsRenamed pairs Null) (same_Some Null w e) tt
  value_to (Int n) w e = subst (IsRenamed pairs (Int n)) (same_Some (Int n) w e) refl
  value_to (Text t) w e = subst (IsRenamed pairs (Text t)) (same_Some (Text t) w e) refl
  value_to (Row n) w e = let one = map_some id_value (image_in pairs (id.Row n)) w e in subst (IsRenamed pairs (Row n)) one.2 (row_to n one.0 one.1 (alike (id.Row n) one.0 one.1))
  value_to (Draw q n) w e = let one = map_some id_value (image_in pairs (id.Draw q n)) w e in subst (IsRenamed pairs (Draw q n)) one.2 (draw_to q n one.0 one.1 (alike (id.Draw q n) one.0 one.1))

  values_to : (values others : List Value) → AllZip (λ v w. carried_value pairs v ≡ Some w) values others → AreRenamed pairs values others
  values_to [] [] z = tt
  values_to (v ∷ values) (w ∷ others) z = (value_to v w z.0, values_to values others z.1)
  values_to [] (w ∷ others) z = absurd z
  values_to (v ∷ values) [] z = absurd z

  left_to : (left other : Option (List Value)) → carried_left pairs left ≡ Some other → IsRenamedLeft pairs left other
  left_to None other e = subst (IsRenamedLeft pairs None) (same_Some None other e) tt
  left_to (Some values) other e = let one = map_some (λ (l : List Value). Some l) (carried_row pairs values) other e in subst (IsRenamedLeft pairs (Some values)) one.2 (values_to values one.0 (each_zipped (carried_value pairs) values one.0 one.1))

  pub number_to : (n m : ℕ) (y : Id) → image_in pairs (id.Row n) ≡ Some y → row_of y ≡ Some m → Contains pairs (id.Row n, id.Row m)
  number_to n m (id.Row k) e is = paired (id.Row n) (id.Row m) (e ∙ ap (λ (j : ℕ). Some (id.Row j)) (same_Some k m is))
  number_to n m (id.Draw q k) e is = absurd (none-some m is)

  pub image_to : (image other : Image) → carried_image pairs image ≡ Some other → IsRenamedImage pairs image other
  image_to image other e =
      let made : ℕ → Option (List Value) → Image = λ row left. record { row = row; table = image.table; left = left } in
      let one = then_some (λ (row : ℕ). option_map (made row) (carried_left pairs image.left)) (carried_number pairs image.row) other e in
      let number = then_some row_of (image_in pairs (id.Row image.row)) one.0 one.1 in
      let left = map_some (made one.0) (carried_left pairs image.left) other one.2 in
      subst (IsRenamedImage pairs image) left.2 (record { row = number_to image.row one.0 number.0 number.1 number.2; table = refl; left = left_to image.left left.0 left.1 })

  -- ---- equal maps are renamed as sets

  sets_to : (images carried others : List Image) → IsRising images → IsRising others → carried_images pairs images ≡ Some carried → AreSameMaps carried others → AreSets (IsRenamedImage pairs) images others
  sets_to images carried others up also e same =
      let sets = bags_sets (λ x y. carried_image pairs x ≡ Some y) images carried (zipped_bags _ images carried (each_zipped (carried_image pairs) images carried e)) in
      record {
        forth = λ x c.
            let s = sets.forth x c in
            let z = in_found carried s.0 s.1 in
            let here = found_in carried s.0.row z.0 z.1 in
            let there = found_in others s.0.row z.0 (sym (same s.0.row) ∙ z.1) in
            let t = sets.back z.0 here.0 in
            let row = eqb-true _ _ (same_rows pairs is_map.once t.0 x z.0 s.0 (image_to t.0 z.0 t.2) (image_to x s.0 s.2) ∙ eq-eqb _ _ here.1) in
            (z.0, there.0, subst (λ (w : Image). IsRenamedImage pairs w z.0) (one_image images 0 up t.0 x t.1 c row) (image_to t.0 z.0 t.2));
        back = λ y c.
            let z = in_found others y c in
            let there = found_in others y.row z.0 z.1 in
            let here = found_in carried y.row z.0 (same y.row ∙ z.1) in
            let t = sets.back z.0 here.0 in
            (t.0, t.1, subst (IsRenamedImage pairs t.0) (one_image others 0 also z.0 y there.0 c there.1) (image_to t.0 z.0 t.2));
      }

  -- what two same outcomes write is renamed as sets
  same_written : (o p : Outcome) → IsSameOutcome pairs o p → IsRising (committed_in o) → IsRising (committed_in p) → AllZip (AreSets (IsRenamedImage pairs)) (written o) (written p)
  same_written o p (committed images carried others e same) up also = both images others (sets_to images carried others up also e same)
    where
      both : (xs ys : List Image) → AreSets (IsRenamedImage pairs) xs ys → AllZip (AreSets (IsRenamedImage pairs)) (written (outcome.Committed xs)) (written (outcome.Committed ys))
      both [] [] sets = tt
      both (x ∷ xs) (y ∷ ys) sets = (sets, tt)
      both [] (y ∷ ys) sets = let t = sets.back y (Contains-here y ys) in absurd (Contains-none t.0 t.1)
      both (x ∷ xs) [] sets = let t = sets.forth x (Contains-here x xs) in absurd (Contains-none t.0 t.1)
  same_written o p (rows found carried others e same) up also = tt
  same_written o p (count n) up also = tt
  same_written o p rolled_back up also = tt
  same_written o p marked up also = tt
  same_written o p connected up also = tt
  same_written o p disconnected up also = tt
  same_written o p (refused fault) up also = tt

pub same_class : (class : Class) → class_number class ≡ 0 → class ≡ Same
same_class Same e = refl
same_class NewError e = absurd cc
same_class GoneError e = absurd cc
same_class MutatedError e = absurd cc
same_class RowsModified e = absurd cc
same_class RowsFetched e = absurd cc
same_class RowContents e = absurd cc
same_class Images e = absurd cc
same_class Shape e = absurd cc

none_written : (o : Outcome) → is_committed o ≡ false → written o ≡ []
none_written (outcome.Committed images) e = absurd cc
none_written (outcome.Rows found) e = refl
none_written (outcome.Count n) e = refl
none_written outcome.RolledBack e = refl
none_written outcome.Marked e = refl
none_written outcome.Connected e = refl
none_written outcome.Disconnected e = refl
none_written (outcome.Refused fault) e = refl

-- where a call is no write divergence, what it writes is renamed
pub quiet_written : (pairs : List IdPair) → IsIdMap pairs → (captured replayed : Reply) → is_write_divergence pairs captured replayed ≡ false
    → IsRising (committed_in captured.outcome) → IsRising (committed_in replayed.outcome) → AllZip (AreSets (IsRenamedImage pairs)) (written captured.outcome) (written replayed.outcome)
quiet_written pairs is_map captured replayed quiet up also = ⊎_elim
    (λ same. same_written pairs is_map captured.outcome replayed.outcome ((same_is_equal pairs captured replayed).0 (same_class (class_between pairs captured replayed) (eqb-true _ _ (not-false _ same)))) up also)
    (λ neither. let parts = or_parts _ _ neither in rw (none_written captured.outcome parts.0, none_written replayed.outcome parts.1) tt)
    (and_cases _ _ quiet)

-- ---- renamed outcomes have the class of the same

moved_permutes : {A : Type 0} {xs ys : List A} → Moved xs ys → IsPermutation xs ys
moved_permutes none = IsPermutation-refl []
moved_permutes (more x xs ys m) = IsPermutation-cons x xs ys (moved_permutes m)
moved_permutes (swapped x y xs) = IsPermutation-middle (x ∷ []) y xs
moved_permutes (along xs ys zs m n) = IsPermutation-trans xs ys zs (moved_permutes m) (moved_permutes n)

zipped_same : {A : Type 0} (xs : List A) → AllZip (λ x y. x ≡ y) xs xs
zipped_same [] = tt
zipped_same (x ∷ xs) = (refl, zipped_same xs)

-- one map, in whatever order
moved_maps : (xs ys : List Image) → Moved xs ys → IsRising ys → AreSameMaps xs ys
moved_maps xs ys moved up row = by (found xs row) (found ys row) refl refl
  where
    sets : AreSets (λ x y. x ≡ y) xs ys
    sets = bags_sets (λ x y. x ≡ y) xs ys (record { turned = xs; related = zipped_same xs; moved = moved })

    by : (o p : Option Image) → found xs row ≡ o → found ys row ≡ p → o ≡ p
    by None None e f = refl
    by (Some a) (Some b) e f =
        let s = found_in xs row a e in let t = found_in ys row b f in let u = sets.forth a s.0 in
        ap (λ (w : Image). Some w) (u.2 ∙ one_image ys 0 up u.0 b u.1 t.0 (ap (λ (w : Image). w.row) (sym u.2) ∙ s.1 ∙ sym t.1))
    by (Some a) None e f =
        let s = found_in xs row a e in let u = sets.forth a s.0 in let z = in_found ys u.0 u.1 in
        absurd (none-some z.0 (sym f ∙ ap (found ys) (sym s.1 ∙ ap (λ (w : Image). w.row) u.2) ∙ z.1))
    by None (Some b) e f =
        let t = found_in ys row b f in let u = sets.back b t.0 in let z = in_found xs u.0 u.1 in
        absurd (none-some z.0 (sym e ∙ ap (found xs) (sym t.1 ∙ ap (λ (w : Image). w.row) (sym u.2)) ∙ z.1))

module _ (pairs : List IdPair) (once : HasNoIdTwice pairs) where
  to_left : (left other : Option (List Value)) → IsRenamedLeft pairs left other → carried_left pairs left ≡ Some other
  to_left None None t = refl
  to_left (Some values) (Some others) t = rw (renamed_carried pairs values others once t) refl
  to_left None (Some others) t = absurd t
  to_left (Some values) None t = absurd t

  pub to_image : (image other : Image) → IsRenamedImage pairs image other → carried_image pairs image ≡ Some other
  to_image image other t = let e = (image_is pairs (id.Row image.row) (id.Row other.row) once).0 t.row in rw (e, to_left image.left other.left t.left) (ap (λ (n : ℕ). Some (record { row = other.row; table = n; left = other.left })) t.table)

  same_outcome : (o p : Outcome) → IsRenamedOutcome pairs o p → IsRising (committed_in p) → IsSameOutcome pairs o p
  same_outcome o p (renamed.rows found others bags) up = rows found bags.turned others (zipped_each (carried_row pairs) (AreRenamed pairs) (λ v w t. renamed_carried pairs v w once t) found bags.turned bags.related) (moved_permutes bags.moved)
  same_outcome o p (renamed.committed images others bags) up = committed images bags.turned others (zipped_each (carried_image pairs) (IsRenamedImage pairs) to_image images bags.turned bags.related) (moved_maps bags.turned others bags.moved up)
  same_outcome o p (renamed.count n) up = count n
  same_outcome o p renamed.rolled_back up = rolled_back
  same_outcome o p renamed.marked up = marked
  same_outcome o p renamed.connected up = connected
  same_outcome o p renamed.disconnected up = disconnected
  same_outcome o p (renamed.refused fault) up = refused fault

  pub renamed_same : (captured replayed : Reply) → IsRenamedOutcome pairs captured.outcome replayed.outcome → IsRising (committed_in replayed.outcome) → class_between pairs captured replayed ≡ Same
  renamed_same captured replayed t up = (same_is_equal pairs captured replayed).1 (same_outcome captured.outcome replayed.outcome t up)

-- ---- one list of carried rows

rising_ascends : (n : ℕ) (xs : List Image) → RisesFrom n xs → AscendFrom (λ (x : Image). x.row) n xs
rising_ascends n [] up = tt
rising_ascends n (x ∷ xs) up = (up.0, rising_ascends (x.row + 1) xs up.1)

pub one_carried : CarriedTablesAreOne
one_carried pairs captured one other is_map first second =
    let there : (xs ys : List Image) → AreCarried pairs captured xs → AreCarried pairs captured ys → (x : Image) → Contains xs x → Contains ys x = λ xs ys p q x c.
    let s = (bags_sets (IsRenamedImage pairs) captured xs p.rows).back x c in
    let t = (bags_sets (IsRenamedImage pairs) captured ys q.rows).forth s.0 s.1 in
    subst (Contains ys) (same_Some t.0 x (sym (to_image pairs is_map.once s.0 t.0 t.2) ∙ to_image pairs is_map.once s.0 x s.2)) t.1 in
    one_ascending (λ (x : Image). x.row) 0 0 one other (rising_ascends 0 one first.ascending) (rising_ascends 0 other second.ascending) (there one other first second) (there other one second first)
