-- Views that are handed out are twins exactly where the views are that they are handed out of.
use Rattle.std.proofs.Common.{◌≡◌, ℕ, List, [], ◌∷◌, map, Option, None, Some, sym, subst, ◌∙◌}
use Rattle.std.specs.List.{AllZip, Contains}
use Rattle.std.specs.Ordering.{nat_cmp}
use Rattle.std.specs.declared.cmp.Ordering.{Ordering}
use Rattle.desk_values.specs.declared.value.Image.{Image}
use Rattle.server_words.specs.declared.session.HeldKey.{HeldKey}
use Rattle.server_words.specs.declared.session.Savepoint.{Savepoint}
use Rattle.server_words.specs.declared.views.KeyId.{KeyId}
use Rattle.server_words.specs.declared.views.Point.{Point}
use Rattle.server_words.specs.declared.views.View.{View as Handed}
use Rattle.server_words.specs.Rows.{IsRising, row_numbers}
use Rattle.server_words.specs.State.{State}
use Rattle.server_words.specs.View.{View, view_of}
use Rattle.server_words.specs.Views.{AreOnce, IsPointOf, IsViewOf, key_id, key_order}
use Rattle.id_pairs.specs.Pairs.{IdPair}
use Rattle.id_pairs.specs.Renaming.{IsRenamed}
use Rattle.law_server.specs.Rows.Images.{IsRenamedImage}
use Rattle.law_server.specs.Renaming.Twins.{AreSets, AreTwinSavepoints, AreTwinViews, IsRenamedKey, IsRenamedRow}
use Rattle.replay_walk.specs.Inside.Standing.{HaveTwinOwn}
use Rattle.replay_walk.specs.Twins.{AreTwinPoints, AreTwins}
use Rattle.twin_tables.specs.Members.{IsRenamedKeyId}
use Rattle.twin_tables.proofs.Handed.{images_of, numbers_of, sets_mapped, sets_same, sets_unmapped}

-- ---- lists in which each item stands once

module _ {A B : Type 0} (R : A → B → Type 0) (order : A → A → Ordering) (turn : B → B → Ordering) (xs ones : List A) (ys others : List B) (one : AreOnce order xs ones) (other : AreOnce turn ys others) where
  pub from_once : AreSets R ones others → AreSets R xs ys
  from_once = sets_same R ones xs others ys (record { forth = one.only; back = one.all }) (record { forth = other.only; back = other.all })

  pub to_once : AreSets R xs ys → AreSets R ones others
  to_once = sets_same R xs ones ys others (record { forth = one.all; back = one.only }) (record { forth = other.all; back = other.only })

-- ---- what a session has of its own, whatever table its call is on

pub record IsOwnOf (view : View) (handed : Handed) : Type 0 where
  rights : handed.rights ≡ view.rights
  read_only : handed.read_only ≡ view.reads_only
  changes : handed.changes ≡ view.own.changes
  held_rows : AreOnce nat_cmp view.own.rows handed.held_rows
  held_keys : AreOnce key_order (map key_id view.own.keys) handed.held_keys
  points : AllZip IsPointOf view.savepoints handed.points

pub own_of : (view : View) (handed : Handed) → IsViewOf view handed → IsOwnOf view handed
own_of view handed is = record { rights = is.rights; read_only = is.read_only; changes = is.changes; held_rows = is.held_rows; held_keys = is.held_keys; points = is.points }

pub own_by : (state : State) (session : ℕ) (table : Option ℕ) (handed : Handed) → IsViewOf (view_of state session None) handed → IsOwnOf (view_of state session table) handed
own_by state session None handed is = own_of (view_of state session None) handed is
own_by state session (Some table) handed is = record { rights = is.rights; read_only = is.read_only; changes = is.changes; held_rows = is.held_rows; held_keys = is.held_keys; points = is.points }

module _ (pairs : List IdPair) where
  keys_to : (order turn : KeyId → KeyId → Ordering) (keys others : List HeldKey) (ones twos : List KeyId) → AreOnce order (map key_id keys) ones → AreOnce turn (map key_id others) twos
      → AreSets (IsRenamedKeyId pairs) ones twos → AreSets (IsRenamedKey pairs) keys others
  keys_to order turn keys others ones twos one two sets =
      sets_unmapped key_id key_id (IsRenamedKey pairs) (IsRenamedKeyId pairs) (λ x y r. record { table = r.table; key = r.value }) keys others
      (from_once (IsRenamedKeyId pairs) order turn (map key_id keys) ones (map key_id others) twos one two sets)

  keys_from : (order turn : KeyId → KeyId → Ordering) (keys others : List HeldKey) (ones twos : List KeyId) → AreOnce order (map key_id keys) ones → AreOnce turn (map key_id others) twos
      → AreSets (IsRenamedKey pairs) keys others → AreSets (IsRenamedKeyId pairs) ones twos
  keys_from order turn keys others ones twos one two sets =
      to_once (IsRenamedKeyId pairs) order turn (map key_id keys) ones (map key_id others) twos one two
      (sets_mapped key_id key_id (IsRenamedKey pairs) (IsRenamedKeyId pairs) (λ x y r. record { table = r.table; value = r.key }) keys others sets)

  images_along : (xs xs' ys ys' : List Image) → xs ≡ xs' → ys ≡ ys' → AreSets (IsRenamedImage pairs) xs ys → AreSets (IsRenamedImage pairs) xs' ys'
  images_along xs xs' ys ys' one two sets = subst (λ (l : List Image). AreSets (IsRenamedImage pairs) xs' l) two (subst (λ (l : List Image). AreSets (IsRenamedImage pairs) l ys) one sets)

  -- ---- savepoints

  point_to : (s t : Savepoint) (p q : Point) → IsPointOf s p → IsPointOf t q → AreTwinPoints pairs p q → AreTwinSavepoints pairs s t
  point_to s t p q one two twin = record {
    name = sym one.name ∙ twin.name ∙ two.name;
    changes = images_along p.changes s.own.changes q.changes t.own.changes one.changes two.changes twin.changes;
    own_rows = from_once (IsRenamedRow pairs) _ _ s.own.rows p.held_rows t.own.rows q.held_rows one.held_rows two.held_rows twin.held_rows;
    own_keys = keys_to _ _ s.own.keys t.own.keys p.held_keys q.held_keys one.held_keys two.held_keys twin.held_keys;
  }

  point_from : (s t : Savepoint) (p q : Point) → IsPointOf s p → IsPointOf t q → AreTwinSavepoints pairs s t → AreTwinPoints pairs p q
  point_from s t p q one two twin = record {
    name = one.name ∙ twin.name ∙ sym two.name;
    changes = images_along s.own.changes p.changes t.own.changes q.changes (sym one.changes) (sym two.changes) twin.changes;
    held_rows = to_once (IsRenamedRow pairs) _ _ s.own.rows p.held_rows t.own.rows q.held_rows one.held_rows two.held_rows twin.own_rows;
    held_keys = keys_from _ _ s.own.keys t.own.keys p.held_keys q.held_keys one.held_keys two.held_keys twin.own_keys;
  }

  points_to : (ss : List Savepoint) (ps : List Point) (ts : List Savepoint) (qs : List Point) → AllZip IsPointOf ss ps → AllZip IsPointOf ts qs → AllZip (AreTwinPoints pairs) ps qs → AllZip (AreTwinSavepoints pairs) ss ts
  points_to [] [] [] [] one two twins = tt
  points_to (s ∷ ss) (p ∷ ps) (t ∷ ts) (q ∷ qs) one two twins = (point_to s t p q one.0 two.0 twins.0, points_to ss ps ts qs one.1 two.1 twins.1)
  points_to [] [] (t ∷ ts) (q ∷ qs) one two twins = absurd twins
  points_to (s ∷ ss) (p ∷ ps) [] [] one two twins = absurd twins
  points_to [] (p ∷ ps) ts qs one two twins = absurd one
  points_to (s ∷ ss) [] ts qs one two twins = absurd one
  points_to ss ps [] (q ∷ qs) one two twins = absurd two
  points_to ss ps (t ∷ ts) [] one two twins = absurd two

  points_from : (ss : List Savepoint) (ps : List Point) (ts : List Savepoint) (qs : List Point) → AllZip IsPointOf ss ps → AllZip IsPointOf ts qs → AllZip (AreTwinSavepoints pairs) ss ts → AllZip (AreTwinPoints pairs) ps qs
  points_from [] [] [] [] one two twins = tt
  points_from (s ∷ ss) (p ∷ ps) (t ∷ ts) (q ∷ qs) one two twins = (point_from s t p q one.0 two.0 twins.0, points_from ss ps ts qs one.1 two.1 twins.1)
  points_from [] [] (t ∷ ts) (q ∷ qs) one two twins = absurd twins
  points_from (s ∷ ss) (p ∷ ps) [] [] one two twins = absurd twins
  points_from [] (p ∷ ps) ts qs one two twins = absurd one
  points_from (s ∷ ss) [] ts qs one two twins = absurd one
  points_from ss ps [] (q ∷ qs) one two twins = absurd two
  points_from ss ps (t ∷ ts) [] one two twins = absurd two

  -- ---- what a session has of its own

  pub own_from : (v w : View) (a b : Handed) → IsOwnOf v a → IsOwnOf w b → AreTwinViews pairs v w → HaveTwinOwn pairs a b
  own_from v w a b one two twins = record {
    rights = one.rights ∙ twins.rights ∙ sym two.rights;
    read_only = one.read_only ∙ twins.reads_only ∙ sym two.read_only;
    changes = images_along v.own.changes a.changes w.own.changes b.changes (sym one.changes) (sym two.changes) twins.changes;
    held_rows = to_once (IsRenamedRow pairs) _ _ v.own.rows a.held_rows w.own.rows b.held_rows one.held_rows two.held_rows twins.own_rows;
    held_keys = keys_from _ _ v.own.keys w.own.keys a.held_keys b.held_keys one.held_keys two.held_keys twins.own_keys;
    points = points_from v.savepoints a.points w.savepoints b.points one.points two.points twins.savepoints;
  }

  -- and so it is in the views that it is handed out of
  pub record AreTwinOwn (v w : View) : Type 0 where
    pub rights : v.rights ≡ w.rights
    pub reads_only : v.reads_only ≡ w.reads_only
    pub changes : AreSets (IsRenamedImage pairs) v.own.changes w.own.changes
    pub own_rows : AreSets (IsRenamedRow pairs) v.own.rows w.own.rows
    pub own_keys : AreSets (IsRenamedKey pairs) v.own.keys w.own.keys
    pub savepoints : AllZip (AreTwinSavepoints pairs) v.savepoints w.savepoints

  pub own_to : (v w : View) (a b : Handed) → IsOwnOf v a → IsOwnOf w b → HaveTwinOwn pairs a b → AreTwinOwn v w
  own_to v w a b one two twins = record {
    rights = sym one.rights ∙ twins.rights ∙ two.rights;
    reads_only = sym one.read_only ∙ twins.read_only ∙ two.read_only;
    changes = images_along a.changes v.own.changes b.changes w.own.changes one.changes two.changes twins.changes;
    own_rows = from_once (IsRenamedRow pairs) _ _ v.own.rows a.held_rows w.own.rows b.held_rows one.held_rows two.held_rows twins.held_rows;
    own_keys = keys_to _ _ v.own.keys w.own.keys a.held_keys b.held_keys one.held_keys two.held_keys twins.held_keys;
    savepoints = points_to v.savepoints a.points w.savepoints b.points one.points two.points twins.points;
  }

  -- ---- whole views; rows that are held stand among the rows

  module _ (v w : View) (a b : Handed) (one : IsViewOf v a) (two : IsViewOf w b) where
    pub twins_from : AreTwinViews pairs v w → AreTwins pairs a b
    twins_from twins =
        let own = own_from v w a b (own_of v a one) (own_of w b two) twins in
        record {
          rights = own.rights;
          read_only = own.read_only;
          changes = own.changes;
          held_rows = own.held_rows;
          held_keys = own.held_keys;
          points = own.points;
          rows = images_along v.rows a.rows w.rows b.rows (sym one.rows) (sym two.rows) twins.rows;
          others_rows = subst (λ (l : List ℕ). AreSets (IsRenamedRow pairs) a.others_rows l) (sym two.others_rows) (subst (λ (l : List ℕ). AreSets (IsRenamedRow pairs) l (row_numbers w.locked)) (sym one.others_rows) (numbers_of pairs v.locked w.locked twins.locked));
          others_keys = to_once (IsRenamed pairs) _ _ v.locked_keys a.others_keys w.locked_keys b.others_keys one.others_keys two.others_keys twins.locked_keys;
        }

    -- no id stands twice on one side
    module _ (one_to : (x y c d : Image) → IsRenamedRow pairs x.row c.row → IsRenamedRow pairs y.row d.row → x.row ≡ y.row → c.row ≡ d.row)
        (to_one : (x y c d : Image) → IsRenamedRow pairs x.row c.row → IsRenamedRow pairs y.row d.row → c.row ≡ d.row → x.row ≡ y.row)
        (up : IsRising v.rows) (rise : IsRising w.rows) (within : (x : Image) → Contains v.locked x → Contains v.rows x) (inside : (y : Image) → Contains w.locked y → Contains w.rows y) where
      pub twins_to : AreTwins pairs a b → AreTwinViews pairs v w
      twins_to twins =
          let rows = images_along a.rows v.rows b.rows w.rows one.rows two.rows twins.rows in
          let numbers = subst (λ (l : List ℕ). AreSets (IsRenamedRow pairs) (row_numbers v.locked) l) two.others_rows (subst (λ (l : List ℕ). AreSets (IsRenamedRow pairs) l b.others_rows) one.others_rows twins.others_rows) in
          record {
            rights = sym one.rights ∙ twins.rights ∙ two.rights;
            reads_only = sym one.read_only ∙ twins.read_only ∙ two.read_only;
            changes = images_along a.changes v.own.changes b.changes w.own.changes one.changes two.changes twins.changes;
            own_rows = from_once (IsRenamedRow pairs) _ _ v.own.rows a.held_rows w.own.rows b.held_rows one.held_rows two.held_rows twins.held_rows;
            own_keys = keys_to _ _ v.own.keys w.own.keys a.held_keys b.held_keys one.held_keys two.held_keys twins.held_keys;
            savepoints = points_to v.savepoints a.points w.savepoints b.points one.points two.points twins.points;
            rows = rows;
            locked = images_of pairs one_to to_one v.rows w.rows v.locked w.locked up rise within inside rows numbers;
            locked_keys = from_once (IsRenamed pairs) _ _ v.locked_keys a.others_keys w.locked_keys b.others_keys one.others_keys two.others_keys twins.others_keys;
          }
