-- Carrying by a longer map, and what is carried where ids are renamed.
use Rattle.std.proofs.Common.{◌≡◌, ◌∙◌, ℕ, zero, ◌+◌, ◌<◌, get_or, take, arith, List, [], ◌∷◌, ◌++◌, length, suc, Option, None, Some, cond, Bool, true, false, refl, sym, ap}
use Rattle.std.specs.List.{Contains}
use Rattle.std.specs.Option.{option_and_then, option_map}
use Rattle.std.proofs.lemmas.List.{take_more}
use Rattle.std.proofs.lemmas.Option.{same_Some, none-some}
use Rattle.std.proofs.lemmas.Map.Views.{lookup-from_Contains}
use Rattle.desk_values.specs.declared.value.Value.{Value}
use Rattle.desk_values.specs.declared.value.Value.TheVariants as value
use Rattle.desk_values.specs.declared.value.Image.{Image}
use Rattle.id_pairs.specs.declared.Id.{Id}
use Rattle.id_pairs.specs.declared.Id.TheVariants.{Row, Draw}
use Rattle.id_pairs.specs.Ids.{id_of, id_value, same_id}
use Rattle.id_pairs.specs.Pairs.{HasNoIdTwice, IdPair, image_in}
use Rattle.id_pairs.specs.Renaming.{IsRenamed}
use Rattle.id_pairs.proofs.SameIds.{same_equivalence}
use Rattle.id_pairs.specs.Carrying.Carried.{carried_image, carried_images, carried_left, carried_number, carried_or, carried_row, carried_rows, carried_value, each_some, row_of}
use Rattle.id_pairs.specs.Carrying.Laws.{RenamedAreCarried}
use Rattle.desk_values.proofs.Options.{map_some}

-- what two steps gave, each gave
pub then_some : {A B : Type 0} (f : A → Option B) (o : Option A) (y : B) → option_and_then f o ≡ Some y → (x : A) × (o ≡ Some x) × (f x ≡ Some y)
then_some f None y e = absurd (none-some y e)
then_some f (Some x) y e = (x, refl, e)

module _ {A B : Type 0} (f g : A → Option B) (more : (x : A) (y : B) → f x ≡ Some y → g x ≡ Some y) where
  each_more : (xs : List A) (ys : List B) → each_some f xs ≡ Some ys → each_some g xs ≡ Some ys
  each_more [] ys e = e
  each_more (x ∷ xs) ys e =
      let one = then_some (λ (y : B). option_map (λ (zs : List B). y ∷ zs) (each_some f xs)) (f x) ys e in
      let others = map_some (λ (zs : List B). one.0 ∷ zs) (each_some f xs) ys one.2 in
      rw (more x one.0 one.1, each_more xs others.0 others.1) (ap Some others.2)

chosen_longer : (b : Bool) (first image : Id) (o p : Option Id) → (o ≡ Some image → p ≡ Some image) → cond b (Some first) o ≡ Some image → cond b (Some first) p ≡ Some image
chosen_longer true first image o p longer e = e
chosen_longer false first image o p longer e = longer e

pub each_length : {A B : Type 0} (f : A → Option B) (xs : List A) (ys : List B) → each_some f xs ≡ Some ys → length xs ≡ length ys
each_length {A} {B} f [] ys e = ap length (same_Some [] ys e)
each_length {A} {B} f (x ∷ xs) ys e =
    let one = then_some (λ (y : B). option_map (λ (zs : List B). y ∷ zs) (each_some f xs)) (f x) ys e in
    let others = map_some (λ (zs : List B). one.0 ∷ zs) (each_some f xs) ys one.2 in
    ap suc (each_length f xs others.0 others.1) ∙ ap length others.2

-- ---- a loop that carries one item after another

each_push : {A B : Type 0} (f : A → Option B) (xs : List A) (ys : List B) (x : A) (y : B) → each_some f xs ≡ Some ys → f x ≡ Some y → each_some f (xs ++ x ∷ []) ≡ Some (ys ++ y ∷ [])
each_push {A} {B} f [] ys x y e h = rw h (ap (λ (zs : List B). Some (zs ++ y ∷ [])) (same_Some [] ys e))
each_push {A} {B} f (z ∷ xs) ys x y e h =
    let one = then_some (λ (w : B). option_map (λ (zs : List B). w ∷ zs) (each_some f xs)) (f z) ys e in
    let others = map_some (λ (zs : List B). one.0 ∷ zs) (each_some f xs) ys one.2 in
    rw (one.1, each_push f xs others.0 x y others.1 h) (ap (λ (zs : List B). Some (zs ++ y ∷ [])) others.2)

pub each_step : {A B : Type 0} (f : A → Option B) (xs : List A) (i : ℕ) (ys : List B) (x : A) (y : B) → i < length xs → x ≡ get_or xs i x → each_some f (take i xs) ≡ Some ys → f x ≡ Some y → each_some f (take (i + 1) xs) ≡ Some (ys ++ y ∷ [])
each_step {A} {B} f xs i ys x y below is e h =
    let more : take (i + 1) xs ≡ take i xs ++ x ∷ [] = take_more xs i x below ∙ ap (λ (z : A). take i xs ++ z ∷ []) (sym is) in
    ap (each_some f) more ∙ each_push f (take i xs) ys x y e h

pub each_fails : {A B : Type 0} (f : A → Option B) (xs : List A) (i : ℕ) (x : A) → i < length xs → x ≡ get_or xs i x → f x ≡ None → each_some f xs ≡ None
each_fails {A} {B} f [] i x below is h = absurd (omega arith)
each_fails {A} {B} f (z ∷ xs) zero x below is h = rw (sym is, h) refl
each_fails {A} {B} f (z ∷ xs) (suc i) x below is h = on (f z) (each_some f xs) (each_fails f xs i x (omega arith) is h)
  where
    on : (o : Option B) (p : Option (List B)) → p ≡ None → option_and_then (λ (w : B). option_map (λ (zs : List B). w ∷ zs) p) o ≡ None
    on None p e = refl
    on (Some w) p e = ap (option_map (λ (zs : List B). w ∷ zs)) e

-- ---- a longer map

looked_longer : (pairs more : List IdPair) (id image : Id) → image_in pairs id ≡ Some image → image_in (pairs ++ more) id ≡ Some image
looked_longer [] more id image e = absurd (none-some image e)
looked_longer (pair ∷ pairs) more id image e = chosen_longer (same_id id pair.0) pair.1 image (image_in pairs id) (image_in (pairs ++ more) id) (looked_longer pairs more id image) e

module _ (pairs more : List IdPair) where
  or_longer : (v : Value) (o : Option Id) (w : Value) → carried_or pairs v o ≡ Some w → carried_or (pairs ++ more) v o ≡ Some w
  or_longer v None w e = e
  or_longer v (Some id) w e =
      let one = map_some id_value (image_in pairs id) w e in
      rw (looked_longer pairs more id one.0 one.1) (ap Some one.2)

  row_longer : (row others : List Value) → carried_row pairs row ≡ Some others → carried_row (pairs ++ more) row ≡ Some others
  row_longer = each_more (carried_value pairs) (carried_value (pairs ++ more)) (λ v w e. or_longer v (id_of v) w e)

  pub rows_longer : (rows others : List (List Value)) → carried_rows pairs rows ≡ Some others → carried_rows (pairs ++ more) rows ≡ Some others
  rows_longer = each_more (carried_row pairs) (carried_row (pairs ++ more)) row_longer

  left_longer : (left other : Option (List Value)) → carried_left pairs left ≡ Some other → carried_left (pairs ++ more) left ≡ Some other
  left_longer None other e = e
  left_longer (Some values) other e =
      let one = map_some Some (carried_row pairs values) other e in
      rw (row_longer values one.0 one.1) (ap Some one.2)

  image_longer : (image other : Image) → carried_image pairs image ≡ Some other → carried_image (pairs ++ more) image ≡ Some other
  image_longer image other e =
      let made : ℕ → Option (List Value) → Image = λ row left. record { row = row; table = image.table; left = left } in
      let one = then_some (λ (row : ℕ). option_map (made row) (carried_left pairs image.left)) (carried_number pairs image.row) other e in
      let id = then_some row_of (image_in pairs (Row image.row)) one.0 one.1 in
      let left = map_some (made one.0) (carried_left pairs image.left) other one.2 in
      rw (looked_longer pairs more (Row image.row) id.0 id.1, id.2, left_longer image.left left.0 left.1) (ap Some left.2)

  pub images_longer : (images others : List Image) → carried_images pairs images ≡ Some others → carried_images (pairs ++ more) images ≡ Some others
  images_longer = each_more (carried_image pairs) (carried_image (pairs ++ more)) image_longer

-- ---- renamed values

module _ (pairs : List IdPair) (once : HasNoIdTwice pairs) where
  paired : (id image : Id) → Contains pairs (id, image) → image_in pairs id ≡ Some image
  paired id image c = lookup-from_Contains same_equivalence id image pairs once.captured c

  value_carried : (v w : Value) → IsRenamed pairs v w → carried_value pairs v ≡ Some w
  value_carried value.Null value.Null t = refl
  value_carried (value.Int a) (value.Int b) t = ap (λ n. Some (value.Int n)) t
  value_carried (value.Text a) (value.Text b) t = ap (λ n. Some (value.Text n)) t
  value_carried (value.Row a) (value.Row b) t = rw (paired (Row a) (Row b) t) refl
  value_carried (value.Draw p a) (value.Draw q b) t = rw (paired (Draw p a) (Draw q b) t) refl
  value_carried v w t = absurd t

pub renamed_carried : RenamedAreCarried
renamed_carried pairs [] [] once t = refl
renamed_carried pairs (v ∷ values) (w ∷ others) once t = rw (value_carried pairs once v w t.0, renamed_carried pairs values others once t.1) refl
renamed_carried pairs [] (w ∷ others) once t = absurd t
renamed_carried pairs (v ∷ values) [] once t = absurd t
