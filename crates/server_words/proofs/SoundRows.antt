-- Rows that stand, and changes that a reply may tell.
use Rattle.std.proofs.Common.{◌≡◌, ◌∙◌, ℕ, zero, suc, ◌+◌, ◌<◌, ◌≤◌, true, false, ltb, eqb, List, [], ◌∷◌, ◌++◌, length, map, set, refl, subst, arith, length-set}
use Rattle.std.specs.Prelude.{if◌then◌else◌, Option, None, Some, IsSomeAnd}
use Rattle.std.specs.Ordering.{is_lt}
use Rattle.std.specs.List.{AllByRecursion, AllZip}
use Rattle.desk_values.specs.Limits.{table_limit}
use Rattle.desk_values.specs.declared.value.Value.{Value}
use Rattle.desk_values.specs.declared.value.Image.{Image}
use Rattle.desk_values.specs.Good.{Ascend, HasValues, IsShapedImage}
use Rattle.desk_schema.specs.declared.schema.Column.{Column}
use Rattle.desk_schema.specs.declared.schema.Table.{Table}
use Rattle.desk_schema.specs.Rules.{IsAllowed}
use Rattle.desk_schema.specs.Schema.{HasColumns, columns_of}
use Rattle.desk_schema.specs.Sound.{IsSoundRow}
use Rattle.sql_tree.specs.declared.tree.Key.{Key}
use Rattle.sql_tree.specs.Plain.{Change}
use Rattle.sql_eval.specs.Totals.{values_in}
use Rattle.server_words.specs.declared.session.Session.{Session}
use Rattle.server_words.specs.Rows.{IsRising, RisesFrom, is_there, lay, lay_all, noted, of_table, one, placed, shown}
use Rattle.server_words.specs.Found.{Environment, insert_ordered, ordered, row_order}
use Rattle.server_words.specs.View.{commits_seen, rows_seen}
use Rattle.server_words.specs.Writes.{assigned, gone, row_values, updated}
use Rattle.server_words.specs.Sound.{AreSound}
use Rattle.server_words.proofs.Laying.{rising_put}
use Rattle.server_words.proofs.Members.{each_filtered, each_joined, each_mapped, each_taken, each_weaker}

-- a row that is there, in a table that there may be
pub record IsStanding (image : Image) : Type 0 where
  pub table : image.table < table_limit
  pub values : HasValues (values_in image)

is_there_by : (left : Option (List Value)) (image : Image) → image.left ≡ left → HasValues (values_in image) → is_there image ≡ true
is_there_by None image is values = absurd (let none : HasValues (values_in (record image { left = None })) = subst (λ (l : Option (List Value)). HasValues (values_in (record image { left = l }))) is values in omega arith)
is_there_by (Some vs) image is values = rw is refl

pub stands_there : (image : Image) → IsStanding image → is_there image ≡ true
stands_there image is = is_there_by image.left image refl is.values

-- ---- changes

module _ (P : Image → Type 0) where
  pub each_placed : (show : Image → List Image) (new : Image) (xs : List Image) → AllByRecursion P (show new) → AllByRecursion P xs → AllByRecursion P (placed show new xs)
  each_placed show new [] shows h = shows
  each_placed show new (x ∷ xs) shows h =
      elim (ltb x.row new.row) as (λ b. AllByRecursion P (if b then x ∷ placed show new xs else if eqb x.row new.row then show new ++ xs else show new ++ x ∷ xs)) [
        | true ↦ (h.0, each_placed show new xs shows h.1)
        | false ↦
            elim (eqb x.row new.row) as (λ b. AllByRecursion P (if b then show new ++ xs else show new ++ x ∷ xs)) [
              | true ↦ each_joined P (show new) xs shows h.1
              | false ↦ each_joined P (show new) (x ∷ xs) shows h
            ]
      ]

  each_inserted : (level : ℕ) (keys : List (Key ℕ)) (image : Image) (rows : List Image) → P image → AllByRecursion P rows → AllByRecursion P (insert_ordered level keys image rows)
  each_inserted level keys image [] h rest = (h, tt)
  each_inserted level keys image (first ∷ rows) h rest =
      elim (is_lt (row_order level keys first image)) as (λ b. AllByRecursion P (if b then first ∷ insert_ordered level keys image rows else image ∷ first ∷ rows)) [
        | true ↦ (rest.0, each_inserted level keys image rows h rest.1)
        | false ↦ (h, rest)
      ]

  pub each_ordered : (level : ℕ) (keys : List (Key ℕ)) (rows : List Image) → AllByRecursion P rows → AllByRecursion P (ordered level keys rows)
  unfolding ordered
  each_ordered level keys [] h = tt
  each_ordered level keys (image ∷ rows) h = each_inserted level keys image (ordered level keys rows) h.0 (each_ordered level keys rows h.1)

pub sound_noted : (changes images : List Image) → AreSound changes → AllByRecursion IsShapedImage images → AreSound (noted changes images)
sound_noted changes [] sound h = sound
sound_noted changes (image ∷ images) sound h = sound_noted (placed one image changes) images (record { shaped = each_placed IsShapedImage one image changes (h.0, tt) sound.shaped; rising = rising_put image changes sound.rising }) h.1

pub sound_none : AreSound []
sound_none = record { shaped = tt; rising = tt }

ascend_from : (n : ℕ) (images : List Image) → RisesFrom n images → Ascend images
ascend_from n [] up = tt
ascend_from n (x ∷ []) up = tt
ascend_from n (x ∷ y ∷ images) up = (omega (arith, up.1.0), ascend_from (x.row + 1) (y ∷ images) up.1)

pub rising_ascends : (images : List Image) → IsRising images → Ascend images
rising_ascends images up = ascend_from 0 images up

rises_from : (n : ℕ) (x : Image) (images : List Image) → n ≤ x.row → Ascend (x ∷ images) → RisesFrom n (x ∷ images)
rises_from n x [] le up = (le, tt)
rises_from n x (y ∷ images) le up = (le, rises_from (x.row + 1) y images (omega (arith, up.0)) up.1)

pub ascending_rises : (images : List Image) → Ascend images → IsRising images
ascending_rises [] up = tt
ascending_rises (x ∷ images) up = rises_from 0 x images (omega arith) up

-- ---- rows that are seen

shown_stand : (row table : ℕ) (left : Option (List Value)) → IsShapedImage (record { row = row; table = table; left = left }) → AllByRecursion IsStanding (shown (record { row = row; table = table; left = left }))
shown_stand row table None is = tt
shown_stand row table (Some values) is = (record { table = is.table; values = is.left }, tt)

stand_laid : (rows changes : List Image) → AllByRecursion IsStanding rows → AllByRecursion IsShapedImage changes → AllByRecursion IsStanding (lay rows changes)
stand_laid rows [] stand h = stand
stand_laid rows (c ∷ changes) stand h = stand_laid (placed shown c rows) changes (each_placed IsStanding shown c rows (shown_stand c.row c.table c.left h.0) stand) h.1

abbrev pub AreShaped : List Image → Type 0
AreShaped images = AllByRecursion IsShapedImage images

pub stand_laid_all : (rows : List Image) (commits : List (List Image)) → AllByRecursion IsStanding rows → AllByRecursion AreShaped commits → AllByRecursion IsStanding (lay_all rows commits)
stand_laid_all rows [] stand h = stand
stand_laid_all rows (c ∷ commits) stand h = stand_laid_all (lay rows c) commits (stand_laid rows c stand h.0) h.1

each_commit_seen : (snapshot : Option ℕ) (commits : List (List Image)) → AllByRecursion AreSound commits → AllByRecursion AreSound (commits_seen snapshot commits)
each_commit_seen None commits h = h
each_commit_seen (Some n) commits h = each_taken AreSound n commits h

pub stand_seen : (start : List Image) (commits : List (List Image)) (session : Session) (table : ℕ) → AllByRecursion IsStanding start → AllByRecursion AreSound commits → AreSound session.own.changes → AllByRecursion IsStanding (rows_seen start commits session table)
stand_seen start commits session table stand sound own =
    let among = commits_seen session.snapshot commits in
    let shaped : AllByRecursion (λ images. AreShaped (of_table table images)) among = each_weaker AreSound (λ images. AreShaped (of_table table images)) (λ images is. each_filtered IsShapedImage _ images is.shaped) among (each_commit_seen session.snapshot commits sound) in
    stand_laid _ (of_table table session.own.changes)
    (stand_laid_all (of_table table start) (map (of_table table) among) (each_filtered IsStanding _ start stand) (each_mapped AreShaped (of_table table) among shaped))
    (each_filtered IsShapedImage _ session.own.changes own.shaped)

-- ---- rows of a start

pub some_columns : (tables : List Table) (place : ℕ) → AllByRecursion HasColumns tables → place < length tables → 0 < length (columns_of tables place)
some_columns [] place have within = absurd (omega arith)
some_columns (table ∷ tables) zero have within = omega (arith, have.0.least)
some_columns (table ∷ tables) (suc place) have within = some_columns tables place have.1 (omega arith)

some_values : (nexts : List ℕ) (columns : List Column) (values : List Value) → 0 < length columns → AllZip (IsAllowed nexts) columns values → HasValues values
some_values nexts [] values some fit = absurd (omega arith)
some_values nexts (c ∷ columns) [] some fit = absurd fit
some_values nexts (c ∷ columns) (v ∷ values) some fit = omega arith

there : (nexts : List ℕ) (columns : List Column) (left : Option (List Value)) (image : Image) → image.left ≡ left → 0 < length columns → IsSomeAnd left (λ values. AllZip (IsAllowed nexts) columns values) → HasValues (values_in image)
there nexts columns None image is some fit = absurd fit
there nexts columns (Some values) image is some fit = rw is (some_values nexts columns values some fit)

module _ (tables : List Table) (nexts : List ℕ) (count : length tables ≤ table_limit) (have : AllByRecursion HasColumns tables) where
  stands_first : (row : Image) → IsSoundRow tables nexts row → IsStanding row
  stands_first row is = record { table = omega (arith, is.is_table); values = there nexts (columns_of tables row.table) row.left row refl (some_columns tables row.table have is.is_table) is.allowed }

  pub stand_first : (rows : List Image) → AllByRecursion (IsSoundRow tables nexts) rows → AllByRecursion IsStanding rows
  stand_first rows h = each_weaker (IsSoundRow tables nexts) IsStanding stands_first rows h

-- ---- new images

length_assigned : (olds : List Value) (columns : List ℕ) (news : List Value) → length (assigned olds columns news) ≡ length olds
length_assigned olds [] news = refl
length_assigned olds (c ∷ columns) [] = refl
length_assigned olds (c ∷ columns) (v ∷ news) = length_assigned (set olds c v) columns news ∙ length-set olds c v

pub shaped_updated : (env : Environment) (changes : List (Change ℕ)) (image : Image) → IsStanding image → IsShapedImage (updated env changes image)
shaped_updated env changes image is = record { table = is.table; left = omega (arith, is.values, length_assigned (values_in image)) }

pub shaped_gone : (image : Image) → IsStanding image → IsShapedImage (gone image)
shaped_gone image is = record { table = is.table; left = tt }

pub some_row_values : (named : Option (List ℕ)) (inputs : List Value) (columns : List Column) → 0 < length columns → HasValues (row_values named inputs 0 columns)
some_row_values named inputs [] some = absurd (omega arith)
some_row_values named inputs (c ∷ columns) some = omega arith
