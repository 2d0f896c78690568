-- What a call can depend on, as it is handed out: images and rows ascend, and of what is held each stands once, in one order.
use Rattle.std.specs.Prelude.{◌≡◌, List, [], ◌∷◌, map}
use Rattle.std.specs.List.{AllZip, Contains}
use Rattle.std.specs.Ordering.{nat_cmp, ordering_then}
use Rattle.std.specs.declared.cmp.Ordering.{Ordering}
use Rattle.std.specs.declared.cmp.Ordering.TheVariants.{Less}
use Rattle.desk_values.specs.Sorting.{kind_then_value}
use Rattle.server_words.specs.declared.session.HeldKey.{HeldKey}
use Rattle.server_words.specs.declared.session.Savepoint.{Savepoint}
use Rattle.server_words.specs.declared.views.KeyId.{KeyId}
use Rattle.server_words.specs.declared.views.Point.{Point}
use Rattle.server_words.specs.declared.views.View.{View as Handed}
use Rattle.server_words.specs.Rows.{IsRising, row_numbers}
use Rattle.server_words.specs.View.{View}

-- each item stands before the next
abbrev pub Ascend : {A : Type 0} → (A → A → Ordering) → List A → Type 0
Ascend order [] = Unit {0}
Ascend order (x ∷ []) = Unit {0}
Ascend order (x ∷ y ∷ rest) = (order x y ≡ Less) × Ascend order (y ∷ rest)

-- the second list has the items of the first, each once, in this order
pub record AreOnce {A : Type 0} (order : A → A → Ordering) (items once : List A) : Type 0 where
  pub ascend : Ascend order once
  pub only : (x : A) → Contains once x → Contains items x
  pub all : (x : A) → Contains items x → Contains once x

abbrev pub key_id : HeldKey → KeyId
key_id held = record { table = held.table; key = held.key }

-- by table, and then as rows are sorted
abbrev pub key_order : KeyId → KeyId → Ordering
key_order a b = ordering_then (nat_cmp a.table b.table) (kind_then_value a.key b.key)

-- this is handed out of a savepoint
pub record IsPointOf (savepoint : Savepoint) (handed : Point) : Type 0 where
  pub name : handed.name ≡ savepoint.name
  pub changes : handed.changes ≡ savepoint.own.changes
  pub held_rows : AreOnce nat_cmp savepoint.own.rows handed.held_rows
  pub held_keys : AreOnce key_order (map key_id savepoint.own.keys) handed.held_keys

-- its changes ascend
abbrev pub KeepsRising : Point → Type 0
KeepsRising point = IsRising point.changes

-- this is handed out of what a call can depend on
pub record IsViewOf (view : View) (handed : Handed) : Type 0 where
  pub rights : handed.rights ≡ view.rights
  pub read_only : handed.read_only ≡ view.reads_only
  pub changes : handed.changes ≡ view.own.changes
  pub held_rows : AreOnce nat_cmp view.own.rows handed.held_rows
  pub held_keys : AreOnce key_order (map key_id view.own.keys) handed.held_keys
  -- savepoints one by one, the oldest first
  pub points : AllZip IsPointOf view.savepoints handed.points
  pub rows : handed.rows ≡ view.rows
  pub others_rows : handed.others_rows ≡ row_numbers view.locked
  pub others_keys : AreOnce kind_then_value view.locked_keys handed.others_keys
