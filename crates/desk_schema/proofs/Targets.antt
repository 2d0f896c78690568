-- What a changed start has of the start before it.
use Rattle.std.proofs.Common.{◌≡◌, ℕ, zero, suc, ◌<◌, ◌≤◌, Bool, true, List, [], ◌∷◌, length, map, Option, None, Some, refl, sym, ◌∙◌, ap, subst, arith}
use Rattle.std.specs.Prelude.{is_some, slice_get, slice_set, IsSomeAnd}
use Rattle.std.specs.Option.{option_map}
use Rattle.std.specs.List.{AllByRecursion, AllZip}
use Rattle.std.proofs.lemmas.List.{length-set}
use Rattle.desk_values.specs.declared.value.Value.{Value}
use Rattle.desk_values.specs.declared.value.Image.{Image}
use Rattle.desk_schema.specs.declared.edit.Edit.{Edit}
use Rattle.desk_schema.specs.declared.edit.Edit.TheVariants.{Level, Shape, Next, Grant, Add, Withdraw}
use Rattle.desk_schema.specs.declared.schema.Column.{Column}
use Rattle.desk_schema.specs.declared.schema.Kind.{Kind}
use Rattle.desk_schema.specs.declared.schema.Kind.TheVariants.{Int, Text, Seq}
use Rattle.desk_schema.specs.declared.schema.Table.{Table}
use Rattle.desk_schema.specs.File.{IsStart}
use Rattle.desk_schema.specs.Schema.{columns_in, columns_of}
use Rattle.desk_schema.specs.Start.{StartView}
use Rattle.desk_schema.specs.Sound.{IsKnownKind, IsSoundRow, IsSoundTable}
use Rattle.desk_schema.specs.Change.{ChangesTo, MayChange, change_at, edit_of, edited, with_column_at, with_shape}
use Rattle.desk_schema.specs.Target.{IsTarget, bare_column, bare_kind, bare_table}
use Rattle.desk_schema.specs.Inside.Declaring.{EditFits, IsNumbered, IsSayable}
use Rattle.desk_schema.proofs.Files.{sound_start}
use Rattle.desk_schema.proofs.Edits.{edit_fits}

-- ---- one item changed

module _ {X : Type 0} (f : X → X) where
  pub all_changed : (P : X → Type 0) (n : ℕ) (xs : List X) → AllByRecursion P xs → ((x : X) → slice_get xs n ≡ Some x → P (f x)) → AllByRecursion P (change_at f n xs)
  all_changed P n [] all here = tt
  all_changed P zero (x ∷ xs) all here = (here x refl, all.1)
  all_changed P (suc n) (x ∷ xs) all here = (all.0, all_changed P n xs all.1 here)

  pub map_changed : {Y : Type 0} (g : X → Y) (n : ℕ) (xs : List X) → ((x : X) → slice_get xs n ≡ Some x → g (f x) ≡ g x) → map g (change_at f n xs) ≡ map g xs
  map_changed g n [] here = refl
  map_changed g zero (x ∷ xs) here = ap (λ y. y ∷ map g xs) (here x refl)
  map_changed g (suc n) (x ∷ xs) here = ap (λ ys. g x ∷ ys) (map_changed g n xs here)

each_weaker : {X : Type 0} (P Q : X → Type 0) → ((x : X) → P x → Q x) → (xs : List X) → AllByRecursion P xs → AllByRecursion Q xs
each_weaker P Q weaker [] all = tt
each_weaker P Q weaker (x ∷ xs) all = (weaker x all.0, each_weaker P Q weaker xs all.1)

each_of : {X : Type 0} (P : X → Type 0) (xs : List X) (n : ℕ) (x : X) → AllByRecursion P xs → slice_get xs n ≡ Some x → P x
each_of P [] n x all is = absurd (cc)
each_of P (y ∷ xs) zero x all is = let same : y ≡ x = cc in subst P same all.0
each_of P (y ∷ xs) (suc n) x all is = each_of P xs n x all.1 is

-- ---- the columns

numbered_bare : (n : ℕ) (new old : Kind) → bare_kind new ≡ bare_kind old → IsNumbered n old → IsNumbered n new
numbered_bare n (Int low high) old same is = tt
numbered_bare n (Text most) old same is = tt
numbered_bare n (Seq p) (Seq q) same is = let one : p ≡ q = cc in subst (λ (s : ℕ). s < n) (sym one) is
numbered_bare n (Seq p) (Int low high) same is = absurd (cc)
numbered_bare n (Seq p) (Text most) same is = absurd (cc)

-- the column that is edited, where it stands
here : (tables : List Table) (t c : ℕ) (column : Column) → slice_get (columns_of tables t) c ≡ Some column → (table : Table) → slice_get tables t ≡ Some table → (other : Column) → slice_get table.columns c ≡ Some other → column ≡ other
here tables t c column is table there other found =
    let at : slice_get table.columns c ≡ Some column = sym (ap (λ (o : Option Table). slice_get (columns_in o) c) there) ∙ is in cc

abbrev AreNumbered : ℕ → List Column → Type 0
AreNumbered n columns = AllByRecursion (λ (column : Column). IsNumbered n column.kind) columns

module _ (tables : List Table) (t c : ℕ) (kind : Kind) (not_null : Bool) (column : Column) (is : slice_get (columns_of tables t) c ≡ Some column) (bare : bare_kind kind ≡ bare_kind column.kind) where
  abbrev change : Table → Table
  change = with_column_at (with_shape kind not_null) c

  pub bare_stays : map bare_table (change_at change t tables) ≡ map bare_table tables
  bare_stays = map_changed change bare_table t tables (λ table there. ap (λ cs. (table.name, cs)) (map_changed (with_shape kind not_null) bare_column c table.columns (λ other found.
      ap (λ k. (other.name, k)) (bare ∙ ap (λ (column : Column). bare_kind column.kind) (here tables t c column is table there other found)))))

  pub numbered_stays : (n : ℕ) → AllByRecursion (λ (table : Table). AreNumbered n table.columns) tables → AllByRecursion (λ (table : Table). AreNumbered n table.columns) (change_at change t tables)
  numbered_stays n all = all_changed change (λ (table : Table). AreNumbered n table.columns) t tables all (λ table there.
      let columns = each_of (λ (table : Table). AreNumbered n table.columns) tables t table all there in
      all_changed (with_shape kind not_null) (λ (column : Column). IsNumbered n column.kind) c table.columns columns (λ other found.
      numbered_bare n kind other.kind (bare ∙ ap (λ (column : Column). bare_kind column.kind) (here tables t c column is table there other found)) (each_of (λ (column : Column). IsNumbered n column.kind) table.columns c other columns found)))

-- ---- what lines can say

known_numbered : (n : ℕ) (kind : Kind) → IsKnownKind n kind → IsNumbered n kind
known_numbered n (Int low high) is = tt
known_numbered n (Text most) is = tt
known_numbered n (Seq sequence) is = is

some_left : (tables : List Table) (nexts : List ℕ) (row : Image) → IsSoundRow tables nexts row → is_some row.left ≡ true
some_left tables nexts row is = by _ row.left is.allowed
  where
    by : (P : List Value → Type 0) (o : Option (List Value)) → IsSomeAnd o P → is_some o ≡ true
    by P None is = absurd is
    by P (Some values) is = refl

pub start_sayable : (start : StartView) → IsStart start → IsSayable start
start_sayable start is =
    let sound = (sound_start start is).sound in
    let n = length start.schema.sequences in
    record {
      counts = sound.sequences.counts;
      distinct = sound.sequences.distinct;
      numbered = each_weaker (IsSoundTable n) (λ (table : Table). AreNumbered n table.columns) (λ table one.
          each_weaker _ (λ (column : Column). IsNumbered n column.kind) (λ column both. known_numbered n column.kind both.1) table.columns one.columns) start.schema.tables sound.is_schema.tables_sound;
      left = each_weaker (IsSoundRow start.schema.tables start.next_values) (λ (row : Image). is_some row.left ≡ true) (some_left start.schema.tables start.next_values) start.rows sound.sound_rows.each;
    }

pub edited_sayable : (start : StartView) (edit : Edit) → IsSayable start → EditFits start edit → IsSayable (edited edit start)
edited_sayable start (Level level) is fits = record { counts = is.counts; distinct = is.distinct; numbered = is.numbered; left = is.left }
edited_sayable start (Shape t c kind not_null) is fits = record {
  counts = is.counts;
  distinct = is.distinct;
  numbered = numbered_stays start.schema.tables t c kind not_null fits.0 fits.1 fits.2 (length start.schema.sequences) is.numbered;
  left = is.left;
}
edited_sayable start (Next q next) is fits = record { counts = length-set start.next_values q next ∙ is.counts; distinct = is.distinct; numbered = is.numbered; left = is.left }
edited_sayable start (Grant place rights) is fits = record { counts = is.counts; distinct = is.distinct; numbered = is.numbered; left = is.left }
edited_sayable start (Add name rights) is fits = record { counts = is.counts; distinct = is.distinct; numbered = is.numbered; left = is.left }
edited_sayable start (Withdraw place) is fits = record { counts = is.counts; distinct = is.distinct; numbered = is.numbered; left = is.left }

-- what the lines of edited parts can say
pub parts_sayable : (start parts : StartView) → parts ≡ start → IsStart start → (edit one : Edit) → edit ≡ one → EditFits start edit → IsSayable (edited one parts)
parts_sayable start parts same is edit one which fits =
    subst (λ (s : StartView). IsSayable (edited one s)) (sym same) (edited_sayable start one (start_sayable start is) (subst (EditFits start) which fits))

pub within : {X : Type 0} (xs : List X) (n : ℕ) (x : X) → slice_get xs n ≡ Some x → n < length xs
within [] n x is = absurd (cc)
within (y ∷ ys) zero x is = omega arith
within (y ∷ ys) (suc n) x is = let below = within ys n x is in omega (arith, below)

pub table_within : (tables : List Table) (t c : ℕ) (column : Column) → slice_get (columns_of tables t) c ≡ Some column → t < length tables
table_within tables t c column is = by (slice_get tables t) refl is
  where
    by : (o : Option Table) → slice_get tables t ≡ o → slice_get (columns_in o) c ≡ Some column → t < length tables
    by None at found = absurd (cc)
    by (Some table) at found = within tables t table at

-- ---- targets

abbrev AreUp : List ℕ → List ℕ → Type 0
AreUp olds nexts = AllZip (λ old next. old ≤ next) olds nexts

up_itself : (nexts : List ℕ) → AreUp nexts nexts
up_itself [] = tt
up_itself (next ∷ nexts) = (omega arith, up_itself nexts)

up_set : (nexts : List ℕ) (q old next : ℕ) → slice_get nexts q ≡ Some old → old ≤ next → AreUp nexts (slice_set nexts q next)
up_set [] q old next is up = tt
up_set (first ∷ nexts) zero old next is up = let same : first ≡ old = cc in (omega (arith, same, up), up_itself nexts)
up_set (first ∷ nexts) (suc q) old next is up = (omega arith, up_set nexts q old next is up)

up_further : (olds nexts lasts : List ℕ) → AreUp olds nexts → AreUp nexts lasts → AreUp olds lasts
up_further [] [] [] first second = tt
up_further (o ∷ os) (n ∷ ns) (l ∷ ls) first second = let one = first.0 in let two = second.0 in (omega (arith, one, two), up_further os ns ls first.1 second.1)
up_further [] (n ∷ ns) lasts first second = absurd first
up_further (o ∷ os) [] lasts first second = absurd first
up_further [] [] (l ∷ ls) first second = absurd second
up_further (o ∷ os) (n ∷ ns) [] first second = absurd second

pub target_itself : (start : StartView) → IsTarget start start
target_itself start = record { version = refl; sequences = refl; tables = refl; rows = refl; next_row = refl; next_values = up_itself start.next_values }

pub target_further : (start next last : StartView) → IsTarget start next → IsTarget next last → IsTarget start last
target_further start next last one two = record {
  version = two.version ∙ one.version;
  sequences = two.sequences ∙ one.sequences;
  tables = two.tables ∙ one.tables;
  rows = two.rows ∙ one.rows;
  next_row = two.next_row ∙ one.next_row;
  next_values = up_further start.next_values next.next_values last.next_values one.next_values two.next_values;
}

target_edited : (start : StartView) (edit : Edit) → EditFits start edit → IsTarget start (edited edit start)
target_edited start (Level level) fits = record { version = refl; sequences = refl; tables = refl; rows = refl; next_row = refl; next_values = up_itself start.next_values }
target_edited start (Shape t c kind not_null) fits = record {
  version = refl;
  sequences = refl;
  tables = bare_stays start.schema.tables t c kind not_null fits.0 fits.1 fits.2;
  rows = refl;
  next_row = refl;
  next_values = up_itself start.next_values;
}
target_edited start (Next q next) fits = record { version = refl; sequences = refl; tables = refl; rows = refl; next_row = refl; next_values = up_set start.next_values q fits.0 next fits.1 fits.2 }
target_edited start (Grant place rights) fits = record { version = refl; sequences = refl; tables = refl; rows = refl; next_row = refl; next_values = up_itself start.next_values }
target_edited start (Add name rights) fits = record { version = refl; sequences = refl; tables = refl; rows = refl; next_row = refl; next_values = up_itself start.next_values }
target_edited start (Withdraw place) fits = record { version = refl; sequences = refl; tables = refl; rows = refl; next_row = refl; next_values = up_itself start.next_values }

some_mapped : {X Y : Type 0} (f : X → Y) (o : Option X) (y : Y) → option_map f o ≡ Some y → (x : X) × (o ≡ Some x) × (f x ≡ y)
some_mapped f None y is = absurd (cc)
some_mapped f (Some x) y is = (x, refl, let same : f x ≡ y = cc in same)

target_of_record : (start next : StartView) (fields : List (List ℕ)) → MayChange start fields next → IsTarget start next
target_of_record start next fields may =
    let one = some_mapped (λ (edit : Edit). edited edit start) (edit_of start fields) next may.makes in
    let edit = one.0 in
    subst (IsTarget start) one.2 (target_edited start edit (edit_fits start fields edit one.1))

-- the start that the records of a change lead to
pub targets : (start last : StartView) (records : List (List (List ℕ))) → ChangesTo start records last → IsTarget start last
targets start last [] to = subst (IsTarget start) (sym to) (target_itself start)
targets start last (fields ∷ records) to = target_further start to.0 last (target_of_record start to.0 fields to.1) (targets to.0 last records to.2)

pub keeps : (start last : StartView) (records : List (List (List ℕ))) → IsStart start → ChangesTo start records last → IsStart last
keeps start last [] is to = subst IsStart (sym to) is
keeps start last (fields ∷ records) is to = keeps to.0 last records to.1.keeps to.2
