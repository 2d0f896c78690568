-- What is renamed stays so under more pairs.
use Rattle.std.proofs.Common.{List, [], ◌∷◌, Option, None, Some}
use Rattle.std.specs.List.{AllZip, Contains}
use Rattle.desk_values.specs.declared.value.Value.{Value}
use Rattle.desk_values.specs.declared.value.Image.{Image}
use Rattle.server_words.specs.declared.session.Savepoint.{Savepoint}
use Rattle.server_words.specs.View.{View}
use Rattle.id_pairs.specs.Pairs.{IdPair}
use Rattle.id_pairs.specs.Renaming.{AreRenamed, IsRenamed}
use Rattle.law_server.specs.Rows.Bags.{AreBags}
use Rattle.law_server.specs.Rows.Images.{IsRenamedImage, IsRenamedLeft}
use Rattle.law_server.proofs.Rows.Expressions.{Twin, null, int, text, row, draw, renamed_of, twin_of}
use Rattle.law_server.specs.Renaming.Twins.{AreSets, AreTwinSavepoints, IsRenamedKey, IsRenamedRow}
use Rattle.law_server.proofs.Renaming.Matched.{AreMatched}

module _ {A B : Type 0} (R S : A → B → Type 0) (carried : (x : A) (y : B) → R x y → S x y) where
  zipped_so : (xs : List A) (ys : List B) → AllZip R xs ys → AllZip S xs ys
  zipped_so [] [] z = tt
  zipped_so (x ∷ xs) (y ∷ ys) z = (carried x y z.0, zipped_so xs ys z.1)
  zipped_so [] (y ∷ ys) z = absurd z
  zipped_so (x ∷ xs) [] z = absurd z

  pub bags_so : {xs : List A} {ys : List B} → AreBags R xs ys → AreBags S xs ys
  bags_so {xs} {ys} bags = record { turned = bags.turned; related = zipped_so xs bags.turned bags.related; moved = bags.moved }

  pub sets_so : {xs : List A} {ys : List B} → AreSets R xs ys → AreSets S xs ys
  sets_so sets = record {
    forth = λ x c. let t = sets.forth x c in (t.0, t.1, carried x t.0 t.2);
    back = λ y c. let t = sets.back y c in (t.0, t.1, carried t.0 y t.2);
  }

module _ (pairs more : List IdPair) (within : (p : IdPair) → Contains pairs p → Contains more p) where
  twin_longer : {v w : Value} → Twin pairs v w → Twin more v w
  twin_longer null = null
  twin_longer (int n) = int n
  twin_longer (text t) = text t
  twin_longer (row m n c) = row m n (within _ c)
  twin_longer (draw p m q n c) = draw p m q n (within _ c)

  value_longer : (v w : Value) → IsRenamed pairs v w → IsRenamed more v w
  value_longer v w t = renamed_of (twin_longer (twin_of pairs v w t))

  pub values_longer : (values others : List Value) → AreRenamed pairs values others → AreRenamed more values others
  values_longer [] [] t = tt
  values_longer (v ∷ vs) (w ∷ ws) t = (value_longer v w t.0, values_longer vs ws t.1)
  values_longer [] (w ∷ ws) t = absurd t
  values_longer (v ∷ vs) [] t = absurd t

  left_longer : (left other : Option (List Value)) → IsRenamedLeft pairs left other → IsRenamedLeft more left other
  left_longer None None t = tt
  left_longer (Some values) (Some others) t = values_longer values others t
  left_longer None (Some others) t = absurd t
  left_longer (Some values) None t = absurd t

  image_longer : (image other : Image) → IsRenamedImage pairs image other → IsRenamedImage more image other
  image_longer image other t = record { row = within _ t.row; table = t.table; left = left_longer image.left other.left t.left }

  savepoint_longer : (savepoint other : Savepoint) → AreTwinSavepoints pairs savepoint other → AreTwinSavepoints more savepoint other
  savepoint_longer savepoint other t = record {
    name = t.name;
    changes = sets_so (IsRenamedImage pairs) (IsRenamedImage more) image_longer t.changes;
    own_rows = sets_so (IsRenamedRow pairs) (IsRenamedRow more) (λ m n c. within _ c) t.own_rows;
    own_keys = sets_so (IsRenamedKey pairs) (IsRenamedKey more) (λ h k s. record { table = s.table; key = value_longer h.key k.key s.key }) t.own_keys;
  }

  pub views_longer : (view other : View) → AreMatched pairs view other → AreMatched more view other
  views_longer view other t = record {
    rights = t.rights;
    reads_only = t.reads_only;
    changes = bags_so (IsRenamedImage pairs) (IsRenamedImage more) image_longer t.changes;
    own_rows = sets_so (IsRenamedRow pairs) (IsRenamedRow more) (λ m n c. within _ c) t.own_rows;
    own_keys = sets_so (IsRenamedKey pairs) (IsRenamedKey more) (λ h k s. record { table = s.table; key = value_longer h.key k.key s.key }) t.own_keys;
    savepoints = zipped_so (AreTwinSavepoints pairs) (AreTwinSavepoints more) savepoint_longer view.savepoints other.savepoints t.savepoints;
    rows = bags_so (IsRenamedImage pairs) (IsRenamedImage more) image_longer t.rows;
    locked = sets_so (IsRenamedImage pairs) (IsRenamedImage more) image_longer t.locked;
    locked_keys = sets_so (IsRenamed pairs) (IsRenamed more) value_longer t.locked_keys;
  }
