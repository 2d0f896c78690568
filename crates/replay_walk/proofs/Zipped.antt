-- Lists that are related place by place.
use Rattle.std.proofs.Common.{◌≡◌, ◌∙◌, ℕ, zero, suc, ◌+◌, ◌<◌, List, [], ◌∷◌, ◌++◌, length, get_or, take, refl, sym, ap, subst, arith}
use Rattle.std.specs.List.{AllZip}
use Rattle.std.proofs.lemmas.List.{take_more}
use Rattle.server_words.proofs.Handing.{zip_push}
use Rattle.desk_values.specs.declared.value.Value.{Value}
use Rattle.id_pairs.specs.Pairs.{IdPair}
use Rattle.id_pairs.specs.Renaming.{AreRenamed, IsRenamed}

module _ {A B : Type 0} (R : A → B → Type 0) where
  pub zip_length : (xs : List A) (ys : List B) → AllZip R xs ys → length xs ≡ length ys
  zip_length [] [] zip = refl
  zip_length (x ∷ xs) (y ∷ ys) zip = let rest = zip_length xs ys zip.1 in omega (arith, rest)
  zip_length [] (y ∷ ys) zip = absurd zip
  zip_length (x ∷ xs) [] zip = absurd zip

  pub zip_at : (xs : List A) (ys : List B) (i : ℕ) (x : A) (y : B) → i < length xs → x ≡ get_or xs i x → y ≡ get_or ys i y → AllZip R xs ys → R x y
  zip_at [] ys i x y within one other zip = absurd (omega (arith, within))
  zip_at (a ∷ xs) [] i x y within one other zip = absurd zip
  zip_at (a ∷ xs) (b ∷ ys) zero x y within one other zip = subst (λ (w : A). R w y) (sym one) (subst (R a) (sym other) zip.0)
  zip_at (a ∷ xs) (b ∷ ys) (suc i) x y within one other zip = zip_at xs ys i x y (omega (arith, within)) one other zip.1

  pub zip_more : (xs : List A) (ys : List B) (i : ℕ) (x : A) (y : B) → i < length xs → i < length ys → x ≡ get_or xs i x → y ≡ get_or ys i y → AllZip R (take i xs) (take i ys) → R x y → AllZip R (take (i + 1) xs) (take (i + 1) ys)
  zip_more xs ys i x y within also one other zip related =
      let more : take (i + 1) xs ≡ take i xs ++ x ∷ [] = take_more xs i x within ∙ ap (λ (w : A). take i xs ++ w ∷ []) (sym one) in
      let again : take (i + 1) ys ≡ take i ys ++ y ∷ [] = take_more ys i y also ∙ ap (λ (w : B). take i ys ++ w ∷ []) (sym other) in
      subst (λ (l : List A). AllZip R l (take (i + 1) ys)) (sym more) (subst (AllZip R (take i xs ++ x ∷ [])) (sym again) (zip_push R (take i xs) (take i ys) x y zip related))

-- renamed values are related so
pub renamed_zip : (pairs : List IdPair) (values others : List Value) → AreRenamed pairs values others → AllZip (IsRenamed pairs) values others
renamed_zip pairs [] [] t = tt
renamed_zip pairs (v ∷ values) (w ∷ others) t = (t.0, renamed_zip pairs values others t.1)
renamed_zip pairs [] (w ∷ others) t = absurd t
renamed_zip pairs (v ∷ values) [] t = absurd t

pub zip_renamed : (pairs : List IdPair) (values others : List Value) → AllZip (IsRenamed pairs) values others → AreRenamed pairs values others
zip_renamed pairs [] [] t = tt
zip_renamed pairs (v ∷ values) (w ∷ others) t = (t.0, zip_renamed pairs values others t.1)
zip_renamed pairs [] (w ∷ others) t = absurd t
zip_renamed pairs (v ∷ values) [] t = absurd t
