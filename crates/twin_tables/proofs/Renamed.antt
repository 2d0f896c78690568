-- What has an image under a map of ids is renamed to it, and what is renamed has that image.
use Rattle.std.proofs.Common.{◌≡◌, ◌↔◌, ℕ, List, None, Some, refl, sym, ap, subst, ◌∙◌}
use Rattle.std.specs.Option.{option_map}
use Rattle.std.specs.List.{Contains}
use Rattle.std.proofs.lemmas.Option.{none-some, same_Some}
use Rattle.desk_values.proofs.Options.{map_some}
use Rattle.id_pairs.proofs.Carrying.Carrying.{then_some}
use Rattle.desk_values.specs.declared.value.Value.{Value}
use Rattle.desk_values.specs.declared.value.Value.TheVariants as value
use Rattle.desk_values.specs.declared.value.Image.{Image}
use Rattle.server_words.specs.declared.views.KeyId.{KeyId}
use Rattle.id_pairs.specs.declared.Id.{Id}
use Rattle.id_pairs.specs.declared.Id.TheVariants.{Row, Draw}
use Rattle.id_pairs.specs.Pairs.{IdPair, IsIdMap, image_in}
use Rattle.id_pairs.specs.Renaming.{IsRenamed}
use Rattle.id_pairs.specs.Carrying.Carried.{carried_image, carried_number, carried_value, row_of}
use Rattle.law_server.specs.Rows.Images.{IsRenamedImage}
use Rattle.law_server.specs.Renaming.Twins.{AreSets, IsRenamedRow}
use Rattle.law_server.proofs.Rows.Members.{image_is}
use Rattle.law_replays.proofs.End.Classes.{image_to, number_to, to_image, value_to}
use Rattle.twin_tables.specs.Members.{IsRenamedKeyId, carried_key}

pub sets_so : {A B : Type 0} (R S : A → B → Type 0) → ((x : A) (y : B) → R x y → S x y) → (xs : List A) (ys : List B) → AreSets R xs ys → AreSets S xs ys
sets_so R S so xs ys sets = record {
  forth = λ x c. let s = sets.forth x c in (s.0, s.1, so x s.0 s.2);
  back = λ y c. let s = sets.back y c in (s.0, s.1, so s.0 y s.2);
}

module _ (pairs : List IdPair) (is_map : IsIdMap pairs) where
  imaged : (x y : Id) → Contains pairs (x, y) → image_in pairs x ≡ Some y
  imaged x y c = (image_is pairs x y is_map.once).0 c

  pub value_renamed : (v w : Value) → carried_value pairs v ≡ Some w → IsRenamed pairs v w
  value_renamed = value_to pairs is_map

  pub renamed_value : (v w : Value) → IsRenamed pairs v w → carried_value pairs v ≡ Some w
  renamed_value value.Null value.Null t = refl
  renamed_value (value.Int a) (value.Int b) t = ap (λ n. Some (value.Int n)) t
  renamed_value (value.Text a) (value.Text b) t = ap (λ n. Some (value.Text n)) t
  renamed_value (value.Row a) (value.Row b) t = rw (imaged (Row a) (Row b) t) refl
  renamed_value (value.Draw p a) (value.Draw q b) t = rw (imaged (Draw p a) (Draw q b) t) refl
  renamed_value v w t = absurd t

  pub row_renamed : (n m : ℕ) → carried_number pairs n ≡ Some m → IsRenamedRow pairs n m
  row_renamed n m e = let one = then_some row_of (image_in pairs (Row n)) m e in number_to pairs is_map n m one.0 one.1 one.2

  pub renamed_row : (n m : ℕ) → IsRenamedRow pairs n m → carried_number pairs n ≡ Some m
  renamed_row n m t = rw (imaged (Row n) (Row m) t) refl

  pub key_renamed : (key other : KeyId) → carried_key pairs key ≡ Some other → IsRenamedKeyId pairs key other
  key_renamed key other e =
      let made : Value → KeyId = λ v. record { table = key.table; key = v } in
      let one = map_some made (carried_value pairs key.key) other e in
      subst (IsRenamedKeyId pairs key) one.2 (record { table = refl; value = value_renamed key.key one.0 one.1 })

  pub renamed_key : (key other : KeyId) → IsRenamedKeyId pairs key other → carried_key pairs key ≡ Some other
  renamed_key key other t =
      let made : Value → KeyId = λ v. record { table = key.table; key = v } in
      ap (option_map made) (renamed_value key.key other.key t.value) ∙ (λ i. Some (record { table = t.table i; key = other.key }))

  pub image_renamed : (image other : Image) → carried_image pairs image ≡ Some other → IsRenamedImage pairs image other
  image_renamed = image_to pairs is_map

  pub renamed_image : (image other : Image) → IsRenamedImage pairs image other → carried_image pairs image ≡ Some other
  renamed_image = to_image pairs is_map.once

  -- by the image that a value has
  pub by_image : (v w image : Value) → carried_value pairs v ≡ Some image → (image ≡ w) ↔ IsRenamed pairs v w
  by_image v w image e = (λ same. value_renamed v w (e ∙ ap (λ (x : Value). Some x) same), λ t. same_Some image w (sym e ∙ renamed_value v w t))

  pub by_no_image : (v w : Value) → carried_value pairs v ≡ None → IsRenamed pairs v w → ⊥
  by_no_image v w e t = none-some w (sym e ∙ renamed_value v w t)
