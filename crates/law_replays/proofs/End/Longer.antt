-- Pairs that come later: what is renamed stays so, and pairs in which no id stands twice began with such pairs.
use Rattle.std.proofs.Common.{◌≡◌, false, List, [], ◌∷◌, ◌++◌, map, Option, None, Some, subst}
use Rattle.std.specs.List.{AllByRecursion, AllZip, Contains, IsDistinct}
use Rattle.std.proofs.lemmas.List.{map-append}
use Rattle.std.proofs.lemmas.List.Elements.{Contains-append_left}
use Rattle.desk_values.specs.declared.value.Value.{Value}
use Rattle.desk_values.specs.declared.value.Image.{Image}
use Rattle.id_pairs.specs.declared.Id.{Id}
use Rattle.id_pairs.specs.Ids.{same_id}
use Rattle.id_pairs.specs.Pairs.{AreLike, HasNoIdTwice, IdPair, IsIdMap}
use Rattle.id_pairs.specs.Renaming.{AreRenamed, IsRenamed}
use Rattle.law_server.specs.Rows.Images.{IsRenamedImage, IsRenamedLeft}
use Rattle.law_server.specs.Renaming.Twins.{AreSets}
use Rattle.law_server.proofs.Renaming.Longer.{sets_so, values_longer}

module _ (pairs more : List IdPair) where
  within : (p : IdPair) → Contains pairs p → Contains (pairs ++ more) p
  within p c = Contains-append_left pairs more p c

  pub value_longer : (v w : Value) → IsRenamed pairs v w → IsRenamed (pairs ++ more) v w
  value_longer v w t = (values_longer pairs (pairs ++ more) within (v ∷ []) (w ∷ []) (t, tt)).0

  pub many_longer : (values : List Value) → AreRenamed pairs values values → AreRenamed (pairs ++ more) values values
  many_longer values t = values_longer pairs (pairs ++ more) within values values t

  left_longer : (left other : Option (List Value)) → IsRenamedLeft pairs left other → IsRenamedLeft (pairs ++ more) left other
  left_longer None None t = tt
  left_longer (Some values) (Some others) t = values_longer pairs (pairs ++ more) within values others t
  left_longer None (Some others) t = absurd t
  left_longer (Some values) None t = absurd t

  pub image_longer : (image other : Image) → IsRenamedImage pairs image other → IsRenamedImage (pairs ++ more) image other
  image_longer image other t = record { row = within _ t.row; table = t.table; left = left_longer image.left other.left t.left }

  pub zipped_longer : (xs ys : List (List Image)) → AllZip (AreSets (IsRenamedImage pairs)) xs ys → AllZip (AreSets (IsRenamedImage (pairs ++ more))) xs ys
  zipped_longer [] [] z = tt
  zipped_longer (x ∷ xs) (y ∷ ys) z = (sets_so (IsRenamedImage pairs) (IsRenamedImage (pairs ++ more)) image_longer z.0, zipped_longer xs ys z.1)
  zipped_longer [] (y ∷ ys) z = absurd z
  zipped_longer (x ∷ xs) [] z = absurd z

-- ---- the pairs before

all_before : {A : Type 0} (P : A → Type 0) (xs ys : List A) → AllByRecursion P (xs ++ ys) → AllByRecursion P xs
all_before P [] ys h = tt
all_before P (x ∷ xs) ys h = (h.0, all_before P xs ys h.1)

distinct_before : (xs ys : List Id) → IsDistinct same_id (xs ++ ys) → IsDistinct same_id xs
unfolding IsDistinct
distinct_before [] ys h = tt
distinct_before (x ∷ xs) ys h = (all_before (λ y. same_id x y ≡ false) xs ys h.0, distinct_before xs ys h.1)

pub once_before : (pairs more : List IdPair) → HasNoIdTwice (pairs ++ more) → HasNoIdTwice pairs
once_before pairs more once = record {
  captured = distinct_before (map (λ pair. pair.0) pairs) (map (λ pair. pair.0) more) (subst (IsDistinct same_id) (map-append (λ (pair : IdPair). pair.0) pairs more) once.captured);
  replayed = distinct_before (map (λ pair. pair.1) pairs) (map (λ pair. pair.1) more) (subst (IsDistinct same_id) (map-append (λ (pair : IdPair). pair.1) pairs more) once.replayed);
}

pub map_before : (pairs more : List IdPair) → IsIdMap (pairs ++ more) → IsIdMap pairs
map_before pairs more is = record { once = once_before pairs more is.once; like = all_before (λ pair. AreLike pair.0 pair.1) pairs more is.like }
