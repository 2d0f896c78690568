-- When a table has the same rows at a commit of the captured server and at one of the replayed server, but for ids, and what is kept to tell
-- it: up to where what both wrote is known to agree, and which rows were passed although they may differ.
use Rattle.std.specs.Prelude.{◌≡◌, ℕ, ◌≤◌, Bool, false, ◌&&◌, ◌||◌, nat_eq, nat_le, List, [], length, take, drop, Option, Some}
use Rattle.std.specs.List.{AllByRecursion, list_any}
use Rattle.desk_values.specs.declared.value.Image.{Image}
use Rattle.row_versions.specs.History.{Written}
use Rattle.id_pairs.specs.Pairs.{IdPair}
use Rattle.law_server.specs.Rows.Images.{IsRenamedImage}
use Rattle.law_server.specs.Renaming.Twins.{AreSets, IsRenamedRow}
use Rattle.twin_tables.specs.declared.differences.Differences.{Differences}
use Rattle.twin_tables.specs.declared.judging.Sides.{Sides}
use Rattle.twin_tables.specs.declared.judging.Suspect.{Suspect}
use Rattle.twin_tables.specs.declared.judging.Suspect.TheVariants.{Captured, Replayed}
use Rattle.twin_tables.specs.Ledger.{told}

-- ---- what is compared

-- what was written to a table of both servers, the numbers of the commits at which it is looked at, and the pairs of ids
pub record Both : Type 0 where
  pub pairs : List IdPair
  pub captured : List Written
  pub captured_at : ℕ
  pub replayed : List Written
  pub replayed_at : ℕ

-- the row of this number on either side, where it is not gone
abbrev pub captured_told : Both → ℕ → Option Image
captured_told both row = told both.captured both.captured_at row

abbrev pub replayed_told : Both → ℕ → Option Image
replayed_told both row = told both.replayed both.replayed_at row

-- the captured row, where it stands, is some replayed one but for ids
abbrev pub HasTwin : Both → ℕ → Type 0
HasTwin both row = (image : Image) → captured_told both row ≡ Some image
    → (other : Image) × (replayed_told both other.row ≡ Some other) × IsRenamedImage both.pairs image other

-- and the other way round
abbrev pub IsTwin : Both → ℕ → Type 0
IsTwin both row = (other : Image) → replayed_told both row ≡ Some other
    → (image : Image) × (captured_told both image.row ≡ Some image) × IsRenamedImage both.pairs image other

-- a row of the table is among these changes
abbrev pub is_changed : List Image → ℕ → ℕ → Bool
is_changed changes table row = list_any (λ (image : Image). nat_eq image.row row && nat_eq image.table table) changes

-- each row of the table beside these changes has its twin or is one
pub record AgreeBeside (both : Both) (table : ℕ) (own others : List Image) : Type 0 where
  pub forth : (row : ℕ) → is_changed own table row ≡ false → HasTwin both row
  pub back : (row : ℕ) → is_changed others table row ≡ false → IsTwin both row

-- ---- the same, handed in

abbrev pub both_of : Sides → Both
both_of with = record {
  pairs = with.map.now.pairs;
  captured = with.captured.now.list;
  captured_at = with.captured_at;
  replayed = with.replayed.now.list;
  replayed_at = with.replayed_at;
}

abbrev pub own_of : Sides → List Image
own_of with = with.own.now

abbrev pub others_of : Sides → List Image
others_of with = with.others.now

-- reads may go by these commits, and what the two sessions changed is one but for ids
pub record AreSides (with : Sides) : Type 0 where
  pub captured : with.captured.now.floor ≤ with.captured_at
  pub replayed : with.replayed.now.floor ≤ with.replayed_at
  pub twins : AreSets (IsRenamedImage with.map.now.pairs) (own_of with) (others_of with)

-- ---- what is kept

abbrev pub names_captured : ℕ → Suspect → Bool
names_captured row (Captured other) = nat_eq other row
names_captured row (Replayed other) = false

abbrev pub names_replayed : ℕ → Suspect → Bool
names_replayed row (Captured other) = false
names_replayed row (Replayed other) = nat_eq other row

-- one of these is of the row, with a number up to this one
abbrev pub is_written : List Written → ℕ → ℕ → Bool
is_written list number row = list_any (λ (w : Written). nat_eq w.image.row row && nat_le w.number number) list

-- the row was passed although it may differ, or was written since
abbrev pub captured_suspect : Both → Differences → ℕ → Bool
captured_suspect both d row = list_any (names_captured row) d.kept.items || is_written (drop d.captured_place both.captured) both.captured_at row

abbrev pub replayed_suspect : Both → Differences → ℕ → Bool
replayed_suspect both d row = list_any (names_replayed row) d.kept.items || is_written (drop d.replayed_place both.replayed) both.replayed_at row

-- each row has its twin or is one, but for these and those for which they stand
pub record Agree (both : Both) (captured replayed : ℕ → Bool) : Type 0 where
  pub forth : (row : ℕ) → captured row ≡ false → ((other : ℕ) → IsRenamedRow both.pairs row other → replayed other ≡ false) → HasTwin both row
  pub back : (other : ℕ) → replayed other ≡ false → ((row : ℕ) → IsRenamedRow both.pairs row other → captured row ≡ false) → IsTwin both other

abbrev pub IsUpTo : ℕ → Written → Type 0
IsUpTo number written = written.number ≤ number

-- a place in what was written, before which no commit is later than this one
pub record IsPlace (list : List Written) (number place : ℕ) : Type 0 where
  pub within : place ≤ length list
  pub before : AllByRecursion (IsUpTo number) (take place list)

-- what is kept is right where it is asked at these commits: each row has its twin but for suspects
pub record AreKept (both : Both) (d : Differences) : Type 0 where
  pub agree : Agree both (captured_suspect both d) (replayed_suspect both d)
  pub captured : IsPlace both.captured both.captured_at d.captured_place
  pub replayed : IsPlace both.replayed both.replayed_at d.replayed_place

abbrev pub stood_at : List IdPair → List Written → List Written → Differences → Both
stood_at pairs captured replayed d = record { pairs = pairs; captured = captured; captured_at = d.captured_at; replayed = replayed; replayed_at = d.replayed_at }

-- it is right at the commits at which it was asked last
abbrev pub Follows : List IdPair → List Written → List Written → Differences → Type 0
Follows pairs captured replayed d = AreKept (stood_at pairs captured replayed d) d

-- so many changes of both are those of one start
pub record HasBegun (captured replayed : ℕ) (d : Differences) : Type 0 where
  pub captured_at : d.captured_at ≡ 0
  pub replayed_at : d.replayed_at ≡ 0
  pub captured_place : d.captured_place ≡ captured
  pub replayed_place : d.replayed_place ≡ replayed
  pub kept : d.kept.items ≡ []
