-- What holds of a state holds with one more line that may follow.
use Rattle.std.proofs.Common.{◌≡◌, ℕ, suc, ◌<◌, ◌≤◌, Bool, true, false, cond, eqb, List, [], ◌∷◌, ◌++◌, length, map, None, Some, refl, sym, ap, subst, arith, length-append, ⊎_elim, IfSome}
use Rattle.std.specs.Option.{unwrap_or}
use Rattle.std.specs.List.{AllByRecursion, Contains, slice_get, cons_option}
use Rattle.std.proofs.lemmas.Bool.{cases_lt, eqb-true}
use Rattle.std.proofs.lemmas.List.{map-append, append-nil}
use Rattle.std.proofs.lemmas.List.Elements.{filter_map-append, All-contains, All-from_recursion}
use Rattle.std.proofs.lemmas.Option.{slice_get_past}
use Rattle.desk_values.specs.declared.value.Value.{Value}
use Rattle.desk_values.specs.declared.value.Image.{Image}
use Rattle.desk_schema.specs.Limits.{column_limit}
use Rattle.desk_values.specs.Limits.{session_limit}
use Rattle.desk_schema.specs.declared.line.StartLine.{StartLine}
use Rattle.desk_schema.specs.declared.line.StartLine.TheVariants.{Head, Level as LevelLine, Seq as SeqLine, Service as ServiceLine, Table as TableLine, Column as ColumnLine, Row as RowLine, NextRow, Sessions, End}
use Rattle.desk_schema.specs.declared.line.ColumnKind.{ColumnKind}
use Rattle.desk_schema.specs.declared.schema.Kind.{Kind}
use Rattle.desk_schema.specs.declared.schema.Kind.TheVariants.{Int, Text, Seq}
use Rattle.desk_schema.specs.declared.schema.Service.{Service}
use Rattle.desk_schema.specs.declared.schema.Table.{Table}
use Rattle.desk_schema.specs.declared.schema.Column.{Column}
use Rattle.desk_schema.specs.Name.{IsName, is_name}
use Rattle.desk_schema.specs.Schema.{SchemaView, table_names, column_names}
use Rattle.desk_schema.specs.Line.{with_name, with_number, name_of}
use Rattle.desk_schema.specs.State.{State, nothing, place, with_column, sessions_with, start_with, added}
use Rattle.desk_schema.specs.Rules.{IsKind, IsNewKey, key_of, key_in, keys_of, last_columns, MayFollow}
use Rattle.desk_schema.specs.Sound.{AreDistinct, AreApart, IsKnownKind, IsSoundTable, IsSoundRow, AreSoundRows, IsSound, IsSoundNextRow}
use Rattle.desk_schema.specs.Inside.Sound.{HaveColumnsButLast, IsInOrder, IsSoundState}
use Rattle.desk_schema.proofs.Distinct.{all-push, distinct-push, apart-push, ascend-push}
use Rattle.desk_schema.proofs.Sequences.{with_name-with_number}

pub sound_nothing : IsSoundState nothing
sound_nothing = record {
  order = record { version = λ h. absurd (omega arith); level = λ h. absurd (omega arith); no_sequences = λ _. refl; no_services = λ _. refl; no_tables = λ _. refl; some_table = λ h k. absurd (omega arith); no_rows = λ _. refl; begun = tt; whole = λ _. tt };
  sound = record {
    sequences = record { most = omega arith; counts = refl; are_names = tt; distinct = λ place h. absurd (omega arith); limits = tt };
    is_schema = record { services = omega arith; services_named = tt; services_distinct = λ place h. absurd (omega arith); tables = omega arith; tables_sound = tt; tables_distinct = λ place h. absurd (omega arith) };
    sound_rows = record { most = omega arith; rising = tt; each = tt; apart = λ table. tt };
  };
  next_row = λ h. absurd (omega arith);
  sessions = omega arith;
}

-- the text of no bytes is no name
pub empty_is_no_name : IsName [] → ⊥
unfolding is_name
empty_is_no_name e = cc

-- a number whose sequence has a name is that of a sequence
pub known_kind : (names : List (List ℕ)) (kind : Kind) → AllByRecursion IsName names → IsKind names (with_name names kind) → IsKnownKind (length names) kind
known_kind names (Int low high) named is = is
known_kind names (Text most) named is = is
known_kind names (Seq sequence) named is = ⊎_elim (λ below. below)
    (λ past. let P : List ℕ → Type 0 = IsName in
    absurd (empty_is_no_name (subst P (ap (λ o. unwrap_or o []) (slice_get_past names sequence past)) (All-contains IsName names (name_of names sequence) (All-from_recursion IsName names named) is))))
    (cases_lt sequence (length names))

-- ---- tables and their columns

have_columns-but_last : (tables : List Table) → AllByRecursion (λ table. 1 ≤ length table.columns) tables → HaveColumnsButLast tables
have_columns-but_last [] have = tt
have_columns-but_last (table ∷ []) have = tt
have_columns-but_last (table ∷ next ∷ tables) have = (have.0, have_columns-but_last (next ∷ tables) have.1)

begun-push : (tables : List Table) (table : Table) → AllByRecursion (λ table. 1 ≤ length table.columns) tables → HaveColumnsButLast (tables ++ table ∷ [])
begun-push [] table have = tt
begun-push (first ∷ []) table have = (have.0, tt)
begun-push (first ∷ next ∷ tables) table have = (have.0, begun-push (next ∷ tables) table have.1)

-- with one more column each table has some
whole-with_column : (tables : List Table) (column : Column) → HaveColumnsButLast tables → AllByRecursion (λ table. 1 ≤ length table.columns) (with_column tables column)
whole-with_column [] column begun = tt
whole-with_column (table ∷ []) column begun = (omega (arith, length-append table.columns (column ∷ [])), tt)
whole-with_column (table ∷ next ∷ tables) column begun = (begun.0, whole-with_column (next ∷ tables) column begun.1)

new_table : (sequences : ℕ) (name : List ℕ) → IsName name → IsSoundTable sequences (record { name = name; columns = [] })
new_table sequences name is = record { is_name = is; most = omega arith; columns = tt; distinct = λ place h. absurd (omega arith); key = tt }

-- the first column is not null
abbrev pub IfFirst : List Column → Type 0
IfFirst columns = IfSome (slice_get columns 0) (λ column. column.not_null ≡ true)

first_column : (columns : List Column) (column : Column) → IfFirst columns → (length columns ≡ 0 → column.not_null ≡ true) → IfFirst (columns ++ column ∷ [])
first_column [] column key new = new refl
first_column (c ∷ cs) column key new = key

one_more_column : (sequences : ℕ) (table : Table) (column : Column) → IsSoundTable sequences table
    → length table.columns < column_limit → IsName column.name → (Contains (column_names table.columns) column.name → ⊥) → IsKnownKind sequences column.kind
    → (length table.columns ≡ 0 → column.not_null ≡ true) → IsSoundTable sequences (record { name = table.name; columns = table.columns ++ column ∷ [] })
one_more_column sequences table column sound count is fresh known key =
    let e : column_names (table.columns ++ column ∷ []) ≡ column_names table.columns ++ column.name ∷ [] = map-append _ table.columns (column ∷ []) in record {
      is_name = sound.is_name;
      most = omega (arith, length-append table.columns (column ∷ []));
      columns = all-push _ table.columns column sound.columns (is, known);
      distinct = (let P : List (List ℕ) → Type 0 = λ xs. AreDistinct xs in subst P (sym e) (distinct-push (column_names table.columns) column.name sound.distinct fresh));
      key = first_column table.columns column sound.key key;
    }

tables_sound-with_column : (sequences : ℕ) (tables : List Table) (column : Column) → AllByRecursion (IsSoundTable sequences) tables
    → length (last_columns tables) < column_limit → IsName column.name → (Contains (column_names (last_columns tables)) column.name → ⊥) → IsKnownKind sequences column.kind
    → (length (last_columns tables) ≡ 0 → column.not_null ≡ true) → AllByRecursion (IsSoundTable sequences) (with_column tables column)
tables_sound-with_column sequences [] column sound count is fresh known key = tt
tables_sound-with_column sequences (table ∷ []) column sound count is fresh known key = (one_more_column sequences table column sound.0 count is fresh known key, tt)
tables_sound-with_column sequences (table ∷ next ∷ tables) column sound count is fresh known key =
    (sound.0, tables_sound-with_column sequences (next ∷ tables) column sound.1 count is fresh known key)

pub table_names-with_column : (tables : List Table) (column : Column) → table_names (with_column tables column) ≡ table_names tables
table_names-with_column [] column = refl
table_names-with_column (table ∷ []) column = refl
table_names-with_column (table ∷ next ∷ tables) column = ap (λ xs. table.name ∷ xs) (table_names-with_column (next ∷ tables) column)

pub length-with_column : (tables : List Table) (column : Column) → length (with_column tables column) ≡ length tables
length-with_column [] column = refl
length-with_column (table ∷ []) column = refl
length-with_column (table ∷ next ∷ tables) column = ap suc (length-with_column (next ∷ tables) column)

-- ---- the order

order_added : (state : State) (line : StartLine) → IsSoundState state → MayFollow state line → IsInOrder (place line) (start_with state.start line)
order_added state (Head version) is rule =
    let o = is.order in
    record {
      version = λ _. rule.1;
      level = λ h. absurd (omega arith);
      no_sequences = λ _. o.no_sequences (omega (arith, rule.0));
      no_services = λ _. o.no_services (omega (arith, rule.0));
      no_tables = λ _. o.no_tables (omega (arith, rule.0));
      some_table = λ h k. absurd (omega arith);
      no_rows = λ _. o.no_rows (omega (arith, rule.0));
      begun = o.begun;
      whole = λ _. o.whole (λ h. omega (arith, rule.0));
    }
order_added state (LevelLine level) is rule =
    let o = is.order in
    record {
      version = λ _. o.version (omega (arith, rule.0));
      level = λ _. rule.1;
      no_sequences = λ _. o.no_sequences (omega (arith, rule.0));
      no_services = λ _. o.no_services (omega (arith, rule.0));
      no_tables = λ _. o.no_tables (omega (arith, rule.0));
      some_table = λ h k. absurd (omega arith);
      no_rows = λ _. o.no_rows (omega (arith, rule.0));
      begun = o.begun;
      whole = λ _. o.whole (λ h. omega (arith, rule.0));
    }
order_added state (SeqLine name next) is rule =
    let o = is.order in
    let low = rule.order.from in
    let high = rule.order.to in
    record {
      version = λ _. o.version (omega arith);
      level = λ _. o.level low;
      no_sequences = λ h. absurd (omega arith);
      no_services = λ _. o.no_services high;
      no_tables = λ _. o.no_tables (omega arith);
      some_table = λ h k. absurd (omega arith);
      no_rows = λ _. o.no_rows (omega arith);
      begun = o.begun;
      whole = λ _. o.whole (λ h. omega arith);
    }
order_added state (ServiceLine name rights) is rule =
    let o = is.order in
    let low = rule.order.from in
    let high = rule.order.to in
    record {
      version = λ _. o.version (omega arith);
      level = λ _. o.level low;
      no_sequences = λ h. absurd (omega arith);
      no_services = λ h. absurd (omega arith);
      no_tables = λ _. o.no_tables high;
      some_table = λ h k. absurd (omega arith);
      no_rows = λ _. o.no_rows (omega arith);
      begun = o.begun;
      whole = λ _. o.whole (λ h. omega arith);
    }
order_added state (TableLine name) is rule =
    let o = is.order in
    let tables = state.start.schema.tables in
    record {
      version = λ _. o.version (omega (arith, rule.order.from));
      level = λ _. o.level rule.order.from;
      no_sequences = λ h. absurd (omega arith);
      no_services = λ h. absurd (omega arith);
      no_tables = λ h. absurd (omega arith);
      some_table = λ _ _. omega (arith, length-append tables (record { name = name; columns = [] } ∷ []));
      no_rows = λ _. o.no_rows rule.order.to;
      begun = begun-push tables _ (o.whole rule.whole);
      whole = λ h. absurd (h refl);
    }
order_added state (ColumnLine name kind not_null) is rule =
    let o = is.order in
    let low = rule.order.from in
    let tables = state.start.schema.tables in
    let column : Column = record { name = name; kind = with_number state.start.schema.sequences kind; not_null = not_null } in
    let whole : AllByRecursion (λ table. 1 ≤ length table.columns) (with_column tables column) = whole-with_column tables column o.begun in
    record {
      version = λ _. o.version (omega arith);
      level = λ _. o.level (omega arith);
      no_sequences = λ h. absurd (omega arith);
      no_services = λ h. absurd (omega arith);
      no_tables = λ h. absurd (omega arith);
      some_table = λ _ _. (let some = o.some_table low rule.order.to in omega (arith, length-with_column tables column));
      no_rows = λ _. o.no_rows rule.order.to;
      begun = have_columns-but_last _ whole;
      whole = λ _. whole;
    }
order_added state (RowLine row table values) is rule =
    let o = is.order in
    let low = rule.fits.order.from in
    record {
      version = λ _. o.version (omega arith);
      level = λ _. o.level (omega arith);
      no_sequences = λ h. absurd (omega arith);
      no_services = λ h. absurd (omega arith);
      no_tables = λ h. absurd (omega arith);
      some_table = λ h k. absurd (omega arith);
      no_rows = λ h. absurd (omega arith);
      begun = o.begun;
      whole = λ _. o.whole (λ h. omega arith);
    }
order_added state (NextRow next) is rule =
    let o = is.order in
    record {
      version = λ _. o.version (omega (arith, rule.order.from));
      level = λ _. o.level rule.order.from;
      no_sequences = λ h. absurd (omega arith);
      no_services = λ h. absurd (omega arith);
      no_tables = λ h. absurd (omega arith);
      some_table = λ h k. absurd (omega arith);
      no_rows = λ h. absurd (omega arith);
      begun = o.begun;
      whole = λ _. o.whole rule.whole;
    }
order_added state (Sessions count) is rule =
    let o = is.order in
    record {
      version = λ _. o.version (omega (arith, rule.0));
      level = λ _. o.level (omega (arith, rule.0));
      no_sequences = λ h. absurd (omega arith);
      no_services = λ h. absurd (omega arith);
      no_tables = λ h. absurd (omega arith);
      some_table = λ h k. absurd (omega arith);
      no_rows = λ h. absurd (omega arith);
      begun = o.begun;
      whole = λ _. o.whole (λ h. omega (arith, rule.0));
    }
order_added state End is rule =
    let o = is.order in
    record {
      version = λ _. o.version (omega (arith, rule));
      level = λ _. o.level (omega (arith, rule));
      no_sequences = λ h. absurd (omega arith);
      no_services = λ h. absurd (omega arith);
      no_tables = λ h. absurd (omega arith);
      some_table = λ h k. absurd (omega arith);
      no_rows = λ h. absurd (omega arith);
      begun = o.begun;
      whole = λ _. o.whole (λ h. omega (arith, rule));
    }

-- ---- the parts

no_rows : (schema : SchemaView) (nexts : List ℕ) (rows : List Image) → rows ≡ [] → AreSoundRows schema nexts rows
no_rows schema nexts rows none = rw none (record { most = omega arith; rising = tt; each = tt; apart = λ table. tt })

-- the keys of a table with one more row
keys_apart : (level : ℕ) (rows : List Image) (table other : ℕ) (values : List Value) (same : Bool) → (same ≡ true → table ≡ other) → AreApart level (keys_of other rows)
    → IsNewKey level (keys_of table rows) (key_of values) → AreApart level (keys_of other rows ++ cons_option (cond same (Some (key_of values)) None) [])
keys_apart level rows table other values true is apart fresh =
    apart-push level (keys_of other rows) (key_of values) apart (let P : ℕ → Type 0 = λ t. IsNewKey level (keys_of t rows) (key_of values) in subst P (is refl) fresh)
keys_apart level rows table other values false is apart fresh = let P : List Value → Type 0 = AreApart level in subst P (sym (append-nil (keys_of other rows))) apart

-- the names of items with one more
module _ {X : Type 0} (name_in : X → List ℕ) (items : List X) (item : X) where
  all_named : AllByRecursion IsName (map name_in items) → IsName (name_in item) → AllByRecursion IsName (map name_in (items ++ item ∷ []))
  all_named all is = rw map-append (all-push IsName (map name_in items) (name_in item) all is)

  all_distinct : AreDistinct (map name_in items) → (Contains (map name_in items) (name_in item) → ⊥) → AreDistinct (map name_in (items ++ item ∷ []))
  all_distinct distinct fresh = let P : List (List ℕ) → Type 0 = AreDistinct in subst P (sym (map-append name_in items (item ∷ []))) (distinct-push (map name_in items) (name_in item) distinct fresh)

parts_added : (state : State) (line : StartLine) → IsSoundState state → MayFollow state line → IsSound (start_with state.start line)
parts_added state (Head version) is rule = let old = is.sound in record {
  sequences = old.sequences;
  is_schema = record {
    services = old.is_schema.services;
    services_named = old.is_schema.services_named;
    services_distinct = old.is_schema.services_distinct;
    tables = old.is_schema.tables;
    tables_sound = old.is_schema.tables_sound;
    tables_distinct = old.is_schema.tables_distinct;
  };
  sound_rows = no_rows _ _ _ (is.order.no_rows (omega (arith, rule.0)));
}
parts_added state (LevelLine level) is rule = let old = is.sound in record {
  sequences = old.sequences;
  is_schema = record {
    services = old.is_schema.services;
    services_named = old.is_schema.services_named;
    services_distinct = old.is_schema.services_distinct;
    tables = old.is_schema.tables;
    tables_sound = old.is_schema.tables_sound;
    tables_distinct = old.is_schema.tables_distinct;
  };
  sound_rows = no_rows _ _ _ (is.order.no_rows (omega (arith, rule.0)));
}
parts_added state (SeqLine name next) is rule =
    let old = is.sound in
    let names = state.start.schema.sequences in
    let nexts = state.start.next_values in
    let high = rule.order.to in
    record {
      sequences = record {
        most = (let c = rule.count in omega (arith, length-append names (name ∷ [])));
        counts = (let c = old.sequences.counts in omega (arith, length-append names (name ∷ []), length-append nexts (next ∷ [])));
        are_names = all-push IsName names name old.sequences.are_names rule.is_name;
        distinct = distinct-push names name old.sequences.distinct rule.distinct;
        limits = all-push _ nexts next old.sequences.limits (rule.least, rule.most);
      };
      is_schema = record {
        services = old.is_schema.services;
        services_named = old.is_schema.services_named;
        services_distinct = old.is_schema.services_distinct;
        tables = old.is_schema.tables;
        tables_sound = rw (is.order.no_tables (omega arith)) tt;
        tables_distinct = old.is_schema.tables_distinct;
      };
      sound_rows = no_rows _ _ _ (is.order.no_rows (omega arith));
    }
parts_added state (ServiceLine name rights) is rule =
    let old = is.sound in
    let services = state.start.schema.services in
    let service : Service = record { name = name; rights = rights } in
    let high = rule.order.to in
    record {
      sequences = old.sequences;
      is_schema = record {
        services = (let c = rule.count in omega (arith, length-append services (service ∷ [])));
        services_named = all_named (λ service. service.name) services service old.is_schema.services_named rule.is_name;
        services_distinct = all_distinct (λ service. service.name) services service old.is_schema.services_distinct rule.distinct;
        tables = old.is_schema.tables;
        tables_sound = old.is_schema.tables_sound;
        tables_distinct = old.is_schema.tables_distinct;
      };
      sound_rows = no_rows _ _ _ (is.order.no_rows (omega arith));
    }
parts_added state (TableLine name) is rule =
    let old = is.sound in
    let tables = state.start.schema.tables in
    let table : Table = record { name = name; columns = [] } in
    record {
      sequences = old.sequences;
      is_schema = record {
        services = old.is_schema.services;
        services_named = old.is_schema.services_named;
        services_distinct = old.is_schema.services_distinct;
        tables = (let c = rule.count in omega (arith, length-append tables (table ∷ [])));
        tables_sound = all-push _ tables table old.is_schema.tables_sound (new_table (length state.start.schema.sequences) name rule.is_name);
        tables_distinct = all_distinct (λ table. table.name) tables table old.is_schema.tables_distinct rule.distinct;
      };
      sound_rows = no_rows _ _ _ (is.order.no_rows rule.order.to);
    }
parts_added state (ColumnLine name kind not_null) is rule =
    let old = is.sound in
    let names = state.start.schema.sequences in
    let tables = state.start.schema.tables in
    let column : Column = record { name = name; kind = with_number names kind; not_null = not_null } in
    let known : IsKnownKind (length names) column.kind =
    (let P : ColumnKind → Type 0 = IsKind names in known_kind names column.kind old.sequences.are_names (subst P (sym (with_name-with_number names kind rule.is_kind)) rule.is_kind)) in
    record {
      sequences = old.sequences;
      is_schema = record {
        services = old.is_schema.services;
        services_named = old.is_schema.services_named;
        services_distinct = old.is_schema.services_distinct;
        tables = (let c = old.is_schema.tables in omega (arith, length-with_column tables column));
        tables_sound = tables_sound-with_column (length names) tables column old.is_schema.tables_sound rule.count rule.is_name rule.distinct known rule.key;
        tables_distinct = (let P : List (List ℕ) → Type 0 = AreDistinct in subst P (sym (table_names-with_column tables column)) old.is_schema.tables_distinct);
      };
      sound_rows = no_rows _ _ _ (is.order.no_rows rule.order.to);
    }
parts_added state (RowLine row table values) is rule =
    let old = is.sound in
    let start = state.start in
    let image : Image = record { row = row; table = table; left = Some values } in
    let fits = rule.fits in
    record {
      sequences = old.sequences;
      is_schema = old.is_schema;
      sound_rows = record {
        most = (let c = fits.count in omega (arith, length-append start.rows (image ∷ [])));
        rising = ascend-push start.rows image old.sound_rows.rising fits.rising;
        each = all-push (IsSoundRow start.schema.tables start.next_values) start.rows image old.sound_rows.each (record { least = fits.least; most = fits.most; is_table = fits.is_table; allowed = fits.allowed });
        apart = λ other. let P : List Value → Type 0 = AreApart start.schema.level in
            subst P (sym (filter_map-append (key_in other) start.rows (image ∷ [])))
            (keys_apart start.schema.level start.rows table other values (eqb table other) (eqb-true table other) (old.sound_rows.apart other) rule.key);
      };
    }
parts_added state (NextRow next) is rule = let old = is.sound in record { sequences = old.sequences; is_schema = old.is_schema; sound_rows = old.sound_rows }
parts_added state (Sessions count) is rule = is.sound
parts_added state End is rule = is.sound

next_row_added : (state : State) (line : StartLine) → IsSoundState state → MayFollow state line → 8 ≤ place line → IsSoundNextRow (start_with state.start line)
next_row_added state (Head version) is rule late = absurd (omega arith)
next_row_added state (LevelLine level) is rule late = absurd (omega arith)
next_row_added state (SeqLine name next) is rule late = absurd (omega arith)
next_row_added state (ServiceLine name rights) is rule late = absurd (omega arith)
next_row_added state (TableLine name) is rule late = absurd (omega arith)
next_row_added state (ColumnLine name kind not_null) is rule late = absurd (omega arith)
next_row_added state (RowLine row table values) is rule late = absurd (omega arith)
next_row_added state (NextRow next) is rule late = record { least = rule.least; most = rule.most; above = rule.above }
next_row_added state (Sessions count) is rule late = is.next_row (omega (arith, rule.0))
next_row_added state End is rule late = is.next_row (omega (arith, rule))

sessions_added : (state : State) (line : StartLine) → IsSoundState state → MayFollow state line → sessions_with state.sessions line ≤ session_limit
sessions_added state (Head version) is rule = is.sessions
sessions_added state (LevelLine level) is rule = is.sessions
sessions_added state (SeqLine name next) is rule = is.sessions
sessions_added state (ServiceLine name rights) is rule = is.sessions
sessions_added state (TableLine name) is rule = is.sessions
sessions_added state (ColumnLine name kind not_null) is rule = is.sessions
sessions_added state (RowLine row table values) is rule = is.sessions
sessions_added state (NextRow next) is rule = is.sessions
sessions_added state (Sessions count) is rule = rule.1
sessions_added state End is rule = is.sessions

pub sound_added : (state : State) (line : StartLine) → IsSoundState state → MayFollow state line → IsSoundState (added state line)
sound_added state line is rule = record { order = order_added state line is rule; sound = parts_added state line is rule; next_row = next_row_added state line is rule; sessions = sessions_added state line is rule }
