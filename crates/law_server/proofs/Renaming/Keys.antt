-- Keys of renamed rows: which are one, whether two are, and whether others hold one.
use Rattle.std.proofs.Common.{◌≡◌, ℕ, false, ◌||◌, List, [], ◌∷◌, refl, ap, ◌∙◌}
use Rattle.std.specs.List.{AllZip, list_any}
use Rattle.std.specs.Option.{unwrap_or}
use Rattle.desk_values.specs.declared.value.Value.{Value}
use Rattle.desk_values.specs.declared.value.Image.{Image}
use Rattle.desk_values.specs.Comparison.{same_key}
use Rattle.desk_schema.specs.Rules.{key_of}
use Rattle.sql_eval.specs.Moved.{Moved, none, more, swapped, along}
use Rattle.sql_eval.specs.Totals.{values_in}
use Rattle.sql_eval.proofs.Moved.{moved_any}
use Rattle.server_words.specs.Rows.{row_key}
use Rattle.server_words.specs.Writes.{is_locked_key, repeats_key}
use Rattle.server_words.proofs.Repeating.{or_swap, same_back}
use Rattle.id_pairs.specs.Pairs.{HasNoIdTwice, IdPair}
use Rattle.id_pairs.specs.Renaming.{AreRenamed, IsRenamed}
use Rattle.law_server.specs.Rows.Bags.{AreBags}
use Rattle.law_server.specs.Rows.Images.{IsRenamedImage}
use Rattle.law_server.proofs.Rows.Bags.{zipped_any}
use Rattle.law_server.proofs.Rows.Expressions.{equal_twins, image_values, twin_of}
use Rattle.law_server.specs.Renaming.Twins.{AreSets}
use Rattle.law_server.proofs.Renaming.Sets.{sets_any}

-- ---- whatever the order

pub moved_repeats : (level : ℕ) {xs ys : List Value} → Moved xs ys → repeats_key level xs ≡ repeats_key level ys
unfolding repeats_key
moved_repeats level none = refl
moved_repeats level (more x xs ys m) = λ i. moved_any (same_key level x) m i || moved_repeats level m i
moved_repeats level (swapped x y xs) = ap (λ b. (b || list_any (same_key level x) xs) || (list_any (same_key level y) xs || repeats_key level xs)) (same_back level x y) ∙ or_swap (same_key level y x) (list_any (same_key level x) xs) (list_any (same_key level y) xs) (repeats_key level xs)
moved_repeats level (along xs ys zs m n) = moved_repeats level m ∙ moved_repeats level n

-- ---- renamed keys

module _ (pairs : List IdPair) (once : HasNoIdTwice pairs) (level : ℕ) where
  pub same_keys : (v w x y : Value) → IsRenamed pairs v x → IsRenamed pairs w y → same_key level v w ≡ same_key level x y
  same_keys v w x y s t = ap (λ o. unwrap_or o false) (equal_twins pairs once level (twin_of pairs v x s) (twin_of pairs w y t))

  zipped_repeats : (keys others : List Value) → AllZip (IsRenamed pairs) keys others → repeats_key level keys ≡ repeats_key level others
  unfolding repeats_key
  zipped_repeats [] [] z = refl
  zipped_repeats (k ∷ ks) (o ∷ os) z = λ i. zipped_any (IsRenamed pairs) (same_key level k) (same_key level o) (λ x y t. same_keys k x o y z.0 t) ks os z.1 i || zipped_repeats ks os z.1 i
  zipped_repeats [] (o ∷ os) z = absurd z
  zipped_repeats (k ∷ ks) [] z = absurd z

  pub same_repeats : {keys others : List Value} → AreBags (IsRenamed pairs) keys others → repeats_key level keys ≡ repeats_key level others
  same_repeats {keys} {others} bags = zipped_repeats keys bags.turned bags.related ∙ moved_repeats level bags.moved

  pub same_lock : (locked others : List Value) → AreSets (IsRenamed pairs) locked others → (key other : Value) → IsRenamed pairs key other → is_locked_key level locked key ≡ is_locked_key level others other
  same_lock locked others sets key other t = sets_any (IsRenamed pairs) (same_key level key) (same_key level other) (λ x y s. same_keys key x other y t s) locked others sets

pub key_of_values : (pairs : List IdPair) (values others : List Value) → AreRenamed pairs values others → IsRenamed pairs (key_of values) (key_of others)
key_of_values pairs [] [] t = tt
key_of_values pairs (v ∷ vs) (w ∷ ws) t = t.0
key_of_values pairs [] (w ∷ ws) t = absurd t
key_of_values pairs (v ∷ vs) [] t = absurd t

pub key_of_image : (pairs : List IdPair) (image other : Image) → IsRenamedImage pairs image other → IsRenamed pairs (row_key image) (row_key other)
key_of_image pairs image other t = key_of_values pairs (values_in image) (values_in other) (image_values pairs image other t)
