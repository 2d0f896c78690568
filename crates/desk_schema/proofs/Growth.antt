-- One more line that may follow is one more line of the state.
use Rattle.std.proofs.Common.{◌≡◌, ℕ, ◌<◌, ◌≤◌, nat_le, cond, List, [], ◌∷◌, ◌++◌, length, map, Some, refl, sym, ◌∙◌, ap, arith}
use Rattle.std.specs.List.{flat_map}
use Rattle.std.proofs.lemmas.List.{append_assoc, append-nil, map-append}
use Rattle.std.proofs.lemmas.Bool.Decides.{nat_tests}
use Rattle.std.proofs.lemmas.Grind.{flat_map-append}
use Rattle.desk_values.specs.declared.value.Image.{Image}
use Rattle.desk_schema.specs.declared.line.StartLine.{StartLine}
use Rattle.desk_schema.specs.declared.line.StartLine.TheVariants.{Head, Level as LevelLine, Seq as SeqLine, Service as ServiceLine, Table as TableLine, Column as ColumnLine, Row as RowLine, NextRow, Sessions, End}
use Rattle.desk_schema.specs.declared.schema.Service.{Service}
use Rattle.desk_schema.specs.declared.schema.Table.{Table}
use Rattle.desk_schema.specs.declared.schema.Column.{Column}
use Rattle.desk_schema.specs.Line.{with_number}
use Rattle.desk_schema.specs.Start.{StartView, sequence_lines, service_line, column_line, table_lines, row_line, part_lines, lines_of, file_lines}
use Rattle.desk_schema.specs.State.{State, with_column, added}
use Rattle.desk_schema.specs.Rules.{MayFollow}
use Rattle.desk_schema.specs.Inside.Sound.{IsSoundState}
use Rattle.desk_schema.proofs.Sequences.{with_name-with_number}

-- the lines of a state
abbrev pub lines_at : ℕ → StartView → ℕ → List StartLine
lines_at last start sessions =
    cond (nat_le 10 last) (file_lines start sessions)
    (cond (nat_le 9 last) (lines_of start ++ Sessions sessions ∷ [])
    (cond (nat_le 8 last) (lines_of start)
    (cond (nat_le 2 last) (part_lines start)
    (cond (nat_le 1 last) (Head start.schema.version ∷ []) []))))

abbrev pub written : State → List StartLine
written state = lines_at state.last state.start state.sessions

written_parts : (last : ℕ) (start : StartView) (sessions : ℕ) → 2 ≤ last → last ≤ 7 → lines_at last start sessions ≡ part_lines start
written_parts last start sessions low high = grind (arith, nat_tests)

sequence_lines-push : (names : List (List ℕ)) (nexts : List ℕ) (name : List ℕ) (next : ℕ) → length nexts ≡ length names
    → sequence_lines (names ++ name ∷ []) (nexts ++ next ∷ []) ≡ sequence_lines names nexts ++ SeqLine name next ∷ []
sequence_lines-push [] [] name next same = refl
sequence_lines-push [] (x ∷ xs) name next same = absurd (omega arith)
sequence_lines-push (n ∷ ns) [] name next same = absurd (omega arith)
sequence_lines-push (n ∷ ns) (x ∷ xs) name next same = ap (λ lines. SeqLine n x ∷ lines) (sequence_lines-push ns xs name next (omega arith))

table_lines-with_column : (names : List (List ℕ)) (tables : List Table) (column : Column) → 0 < length tables
    → flat_map (table_lines names) (with_column tables column) ≡ flat_map (table_lines names) tables ++ column_line names column ∷ []
table_lines-with_column names [] column some = absurd (omega arith)
table_lines-with_column names (table ∷ []) column some = simp (map-append, append_assoc, append-nil)
table_lines-with_column names (table ∷ next ∷ tables) column some = rw (table_lines-with_column names (next ∷ tables) column (omega arith)) (simp append_assoc)

-- something at the end of two lists in a row
behind : (a b c x : List StartLine) → c ≡ b ++ x → a ++ c ≡ (a ++ b) ++ x
behind a b c x e = ap (λ lines. a ++ lines) e ∙ sym (append_assoc a b x)

module _ (start : StartView) where
  abbrev names : List (List ℕ)
  names = start.schema.sequences

  -- the first two lines, and more
  abbrev opened : List StartLine → List StartLine
  opened lines = Head start.schema.version ∷ LevelLine start.schema.level ∷ lines

  abbrev first : List StartLine
  first = sequence_lines names start.next_values

  abbrev second : List StartLine
  second = map service_line start.schema.services

  abbrev third : List StartLine
  third = flat_map (table_lines names) start.schema.tables

  one_more_sequence : (name : List ℕ) (next : ℕ) → length start.next_values ≡ length names
      → opened (sequence_lines (names ++ name ∷ []) (start.next_values ++ next ∷ []) ++ []) ≡ opened (first ++ []) ++ SeqLine name next ∷ []
  one_more_sequence name next same = ap opened (rw (sequence_lines-push names start.next_values name next same) (simp append-nil))

  one_more_service : (service : Service) → opened (first ++ (map service_line (start.schema.services ++ service ∷ []) ++ [])) ≡ opened (first ++ (second ++ [])) ++ service_line service ∷ []
  one_more_service service =
      let more : map service_line (start.schema.services ++ service ∷ []) ++ [] ≡ (second ++ []) ++ service_line service ∷ [] = rw (map-append service_line start.schema.services (service ∷ [])) (simp append-nil) in
      ap opened (behind first _ _ _ more)

  -- tables with one more line
  one_more_of_tables : (tables : List Table) (line : StartLine) → flat_map (table_lines names) tables ≡ third ++ line ∷ []
      → opened (first ++ (second ++ (flat_map (table_lines names) tables ++ []))) ≡ opened (first ++ (second ++ (third ++ []))) ++ line ∷ []
  one_more_of_tables tables line more =
      let whole : flat_map (table_lines names) tables ++ [] ≡ (third ++ []) ++ line ∷ [] = rw more (simp append-nil) in
      ap opened (behind first _ _ _ (behind second _ _ _ whole))

  one_more_row : (row : Image) → opened (first ++ (second ++ (third ++ map row_line (start.rows ++ row ∷ [])))) ≡ opened (first ++ (second ++ (third ++ map row_line start.rows))) ++ row_line row ∷ []
  one_more_row row = ap opened (behind first _ _ _ (behind second _ _ _ (behind third _ _ _ (map-append row_line start.rows (row ∷ [])))))

-- one more line that may follow
pub written_added : (state : State) (line : StartLine) → IsSoundState state → MayFollow state line → written (added state line) ≡ written state ++ line ∷ []
written_added state (Head version) is rule = rw rule.0 refl
written_added state (LevelLine level) is rule =
    let o = is.order in
    rw (rule.0, o.no_sequences (omega (arith, rule.0)), o.no_services (omega (arith, rule.0)), o.no_tables (omega (arith, rule.0)), o.no_rows (omega (arith, rule.0))) refl
written_added state (SeqLine name next) is rule =
    let o = is.order in
    let high = rule.order.to in
    rw (written_parts state.last state.start state.sessions rule.order.from (omega arith), o.no_services high, o.no_tables (omega arith), o.no_rows (omega arith))
    (one_more_sequence state.start name next is.sound.sequences.counts)
written_added state (ServiceLine name rights) is rule =
    let o = is.order in
    let high = rule.order.to in
    rw (written_parts state.last state.start state.sessions rule.order.from (omega arith), o.no_tables high, o.no_rows (omega arith)) (one_more_service state.start (record { name = name; rights = rights }))
written_added state (TableLine name) is rule =
    let names = state.start.schema.sequences in
    let tables = state.start.schema.tables in
    let table : Table = record { name = name; columns = [] } in
    let high = rule.order.to in
    rw (written_parts state.last state.start state.sessions rule.order.from (omega arith), is.order.no_rows high)
    (one_more_of_tables state.start (tables ++ table ∷ []) (TableLine name) (flat_map-append (table_lines names) tables (table ∷ [])))
written_added state (ColumnLine name kind not_null) is rule =
    let o = is.order in
    let names = state.start.schema.sequences in
    let tables = state.start.schema.tables in
    let low = rule.order.from in
    let high = rule.order.to in
    let column : Column = record { name = name; kind = with_number names kind; not_null = not_null } in
    let more : flat_map (table_lines names) (with_column tables column) ≡ flat_map (table_lines names) tables ++ ColumnLine name kind not_null ∷ [] =
    table_lines-with_column names tables column (o.some_table low high) ∙ ap (λ k. flat_map (table_lines names) tables ++ ColumnLine name k not_null ∷ []) (with_name-with_number names kind rule.is_kind) in
    rw (written_parts state.last state.start state.sessions (omega arith) (omega arith), o.no_rows high) (one_more_of_tables state.start (with_column tables column) _ more)
written_added state (RowLine row table values) is rule =
    let low = rule.fits.order.from in
    rw (written_parts state.last state.start state.sessions (omega arith) rule.fits.order.to) (one_more_row state.start (record { row = row; table = table; left = Some values }))
written_added state (NextRow next) is rule = rw (written_parts state.last state.start state.sessions rule.order.from rule.order.to) refl
written_added state (Sessions count) is rule = rw rule.0 refl
written_added state End is rule = rw rule (sym (append_assoc (lines_of state.start) (Sessions state.sessions ∷ []) (End ∷ [])))
