-- The law of renaming for expressions and totals.
use Rattle.std.specs.Prelude.{◌≡◌, ◌↔◌, ℕ, Bool, true, false, List, Some}
use Rattle.std.specs.List.{Contains, list_any}
use Rattle.desk_values.specs.declared.value.Value.{Value}
use Rattle.desk_values.specs.declared.value.Image.{Image}
use Rattle.sql_tree.specs.Leaves.{leaves}
use Rattle.sql_tree.specs.Plain.{Term, Total, rowid}
use Rattle.sql_eval.specs.Value.{truth_value, value_of}
use Rattle.sql_eval.specs.Totals.{total_over}
use Rattle.id_pairs.specs.declared.Id.{Id}
use Rattle.id_pairs.specs.declared.Id.TheVariants.{Row}
use Rattle.id_pairs.specs.Pairs.{HasNoIdTwice, IdPair, image_in}
use Rattle.id_pairs.specs.Renaming.{AreRenamed}
use Rattle.law_server.specs.Rows.Bags.{AreBags}
use Rattle.law_server.specs.Rows.Images.{IsRenamedImage, IsRenamedResult}

abbrev pub is_rowid : Term ℕ → Bool
is_rowid rowid = true
is_rowid other = false

-- ROWID stands in the expression
abbrev pub names_row : Term ℕ → Bool
names_row e = list_any is_rowid (leaves e)

-- the rows are a pair, where the expression asks for them
abbrev pub RowsFit : List IdPair → ℕ → ℕ → Term ℕ → Type 0
RowsFit pairs row other e = names_row e ≡ true → Contains pairs (Row row, Row other)

-- with row, values and binds renamed, the value is the renamed one, or the fault the same
abbrev pub ValuesAreRenamed : Type 0
ValuesAreRenamed = (pairs : List IdPair) (level row other : ℕ) (values others binds sent : List Value) (e : Term ℕ)
    → RowsFit pairs row other e → AreRenamed pairs values others → AreRenamed pairs binds sent
    → IsRenamedResult pairs (value_of level row values binds e) (value_of level other others sent e)

-- and where no id stands twice on one side, the truth or the fault is the same
abbrev pub TruthsStay : Type 0
TruthsStay = (pairs : List IdPair) (level row other : ℕ) (values others binds sent : List Value) (e : Term ℕ)
    → HasNoIdTwice pairs → RowsFit pairs row other e → AreRenamed pairs values others → AreRenamed pairs binds sent
    → truth_value level row values binds e ≡ truth_value level other others sent e

-- totals over rows stay, whatever the order of the rows
abbrev pub TotalsStay : Type 0
TotalsStay = (pairs : List IdPair) (level : ℕ) (binds sent : List Value) (t : Total ℕ) (rows others : List Image)
    → AreRenamed pairs binds sent → AreBags (IsRenamedImage pairs) rows others
    → total_over level binds t rows ≡ total_over level sent t others

-- where no id stands twice on one side, the image of an id is the one that it is paired with
abbrev pub ImagesArePairs : Type 0
ImagesArePairs = (pairs : List IdPair) (id image : Id) → HasNoIdTwice pairs
    → Contains pairs (id, image) ↔ (image_in pairs id ≡ Some image)
