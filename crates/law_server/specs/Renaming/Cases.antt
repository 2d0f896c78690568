-- Two worked cases: one in which every id is another and the law holds, and one in which an id would stand twice and the
-- replies differ.
use Rattle.std.specs.Prelude.{◌≡◌, ℕ, pos, negsuc, true, false, List, [], ◌∷◌, ◌++◌, None, Some, codes}
use Rattle.desk_values.specs.declared.value.Value.{Value}
use Rattle.desk_values.specs.declared.value.Value.TheVariants.{Int, Row, Draw}
use Rattle.desk_values.specs.declared.value.Image.{Image}
use Rattle.desk_values.specs.declared.fault.Fault.TheVariants.{DuplicateKey}
use Rattle.desk_values.specs.declared.call.Outcome.TheVariants.{Count, Refused, Rows}
use Rattle.desk_values.specs.declared.call.Reply.{Reply}
use Rattle.desk_schema.specs.declared.schema.Kind.TheVariants as kind
use Rattle.desk_schema.specs.declared.schema.Rights.TheVariants.{ReadWrite}
use Rattle.desk_schema.specs.Schema.{SchemaView}
use Rattle.sql_tree.specs.declared.tree.Op.TheVariants.{Eq}
use Rattle.sql_tree.specs.Plain.{Plan, bin, bind, column, drawn, insert, int, rowid, select, value, values}
use Rattle.server_words.specs.Answer.{answer, reply_of}
use Rattle.server_words.specs.Request.{statement}
use Rattle.server_words.specs.State.{nothing}
use Rattle.server_words.specs.View.{View}
use Rattle.id_pairs.specs.declared.Id.TheVariants as id
use Rattle.id_pairs.specs.Pairs.{HasNoIdTwice, IdPair, IsIdMap, learnt}
use Rattle.id_pairs.specs.Renaming.{AreRenamed}
use Rattle.law_server.specs.Renaming.Twins.{AreTwinViews, IsRisingView}

-- a table with a drawn key and a number
abbrev pub schema : SchemaView
schema = record {
  version = 2;
  level = 1;
  sequences = codes "s" ∷ [];
  services = [];
  tables = record {
    name = codes "t";
    columns = record { name = codes "id"; kind = kind.Seq 0; not_null = true }
        ∷ record { name = codes "n"; kind = kind.Int (negsuc 9) (pos 999); not_null = false } ∷ [];
  }
      ∷ [];
}

abbrev pub row_with : ℕ → ℕ → ℕ → Image
row_with row key n = record { row = row; table = 0; left = Some (Draw 0 key ∷ Int (pos n) ∷ []) }

abbrev pub view_with : List Image → View
view_with rows = record { rights = Some ReadWrite; reads_only = false; own = nothing; savepoints = []; rows = rows; locked = []; locked_keys = [] }

abbrev pub reply_of_plan : View → ℕ → ℕ → Plan ℕ → List Value → Reply
reply_of_plan view next_value row plan binds = (answer schema view (next_value ∷ []) row (statement plan binds)).reply

-- ---- two sessions drew in the other order, and made their rows so

-- the row and the values of one key
abbrev pub look_up : Plan ℕ
look_up = select 0 (values (rowid ∷ column 0 ∷ column 1 ∷ [])) (Some (bin Eq (column 0) (bind 1))) [] false

abbrev pub crossed : List IdPair
crossed = (id.Row 1, id.Row 2) ∷ (id.Draw 0 10, id.Draw 0 11) ∷ (id.Row 2, id.Row 1) ∷ (id.Draw 0 11, id.Draw 0 10) ∷ []

abbrev pub first_view : View
first_view = view_with (row_with 1 10 100 ∷ row_with 2 11 200 ∷ [])

abbrev pub second_view : View
second_view = view_with (row_with 1 10 200 ∷ row_with 2 11 100 ∷ [])

-- the premises of the law are met, and the replies are equal after the map, though no id is the same
pub record EveryIdChanges : Type 0 where
  pub map : IsIdMap crossed
  pub views : AreTwinViews crossed first_view second_view
  pub rising : IsRisingView first_view × IsRisingView second_view
  pub binds : AreRenamed crossed (Draw 0 10 ∷ []) (Draw 0 11 ∷ [])
  pub first : reply_of_plan first_view 12 3 look_up (Draw 0 10 ∷ [])
      ≡ reply_of (Rows ((Row 1 ∷ Draw 0 10 ∷ Int (pos 100) ∷ []) ∷ [])) [] None
  pub second : reply_of_plan second_view 12 3 look_up (Draw 0 11 ∷ [])
      ≡ reply_of (Rows ((Row 2 ∷ Draw 0 11 ∷ Int (pos 100) ∷ []) ∷ [])) [] None

-- ---- the replay draws a value that is the image of another one already

abbrev pub add_row : Plan ℕ
add_row = insert 0 None (drawn 0 ∷ value (int (pos 5)) ∷ [])

abbrev pub shifted : List IdPair
shifted = (id.Row 1, id.Row 1) ∷ (id.Draw 0 10, id.Draw 0 11) ∷ []

abbrev pub captured_view : View
captured_view = view_with (row_with 1 10 100 ∷ [])

abbrev pub replayed_view : View
replayed_view = view_with (row_with 1 11 100 ∷ [])

-- views and statements are twins, yet one server makes a row and the other refuses: both draw 11, which stands on the other side
-- of the map already
pub record OneIdTwice : Type 0 where
  pub map : IsIdMap shifted
  pub views : AreTwinViews shifted captured_view replayed_view
  pub rising : IsRisingView captured_view × IsRisingView replayed_view
  pub twice : ¬ HasNoIdTwice
      (shifted ++ learnt (reply_of_plan captured_view 11 2 add_row []) (reply_of_plan replayed_view 11 2 add_row []))
  pub made : reply_of_plan captured_view 11 2 add_row [] ≡ reply_of (Count 1) (Draw 0 11 ∷ []) (Some 2)
  pub refused : reply_of_plan replayed_view 11 2 add_row [] ≡ reply_of (Refused DuplicateKey) (Draw 0 11 ∷ []) None
