-- Lines that declare a start, and the start that they declare.
use Rattle.std.proofs.Common.{◌≡◌, ℕ, ◌+◌, ◌<◌, ◌≤◌, true, List, [], ◌∷◌, ◌++◌, length, map, get_or, drop, Option, None, Some, refl, sym, ◌∙◌, ap, subst, arith, ◌↔◌}
use Rattle.std.specs.Prelude.{is_some, Result, Ok, Err, IfOk, IsErr, IsErrAnd}
use Rattle.std.specs.Option.{unwrap_or}
use Rattle.std.specs.List.{AllByRecursion, flat_map, fold}
use Rattle.std.proofs.lemmas.Bool.{false≢true}
use Rattle.std.proofs.lemmas.List.{append_assoc, append-nil, drop_all, drop_more}
use Rattle.std.proofs.lemmas.List.Sums.{fold-append}
use Rattle.desk_values.specs.declared.value.Value.{Value}
use Rattle.desk_values.specs.declared.value.Image.{Image}
use Rattle.desk_schema.specs.declared.line.StartLine.{StartLine}
use Rattle.desk_schema.specs.declared.line.StartLine.TheVariants.{Head, Level as LevelLine, Seq as SeqLine, Table as TableLine, NextRow}
use Rattle.desk_schema.specs.declared.schema.Column.{Column}
use Rattle.desk_schema.specs.declared.schema.Kind.{Kind}
use Rattle.desk_schema.specs.declared.schema.Kind.TheVariants.{Int, Text, Seq}
use Rattle.desk_schema.specs.declared.schema.Service.{Service}
use Rattle.desk_schema.specs.declared.schema.Table.{Table}
use Rattle.desk_schema.specs.Line.{with_name, with_number}
use Rattle.desk_schema.specs.Start.{StartView, column_line, lines_of, row_line, sequence_lines, service_line, table_lines}
use Rattle.desk_schema.specs.State.{State, added, nothing, start_with, state_after, state_of, with_column}
use Rattle.desk_schema.specs.Rules.{AreLines, AreLinesFrom, MayFollow}
use Rattle.desk_schema.specs.Sound.{AreDistinct}
use Rattle.desk_schema.specs.File.{IsStart}
use Rattle.desk_schema.specs.declared.draft.DraftErr.{DraftErr}
use Rattle.desk_schema.specs.declared.draft.DraftErr.TheVariants.{Rule, Memory}
use Rattle.desk_schema.specs.Draft.{Judges, JudgesUnlessMemory, finished}
use Rattle.desk_schema.specs.Inside.Declaring.{Declares, IsNumbered, IsSayable}

-- ---- lines after lines

pub after_more : (state : State) (front rest : List StartLine) → state_after state (front ++ rest) ≡ state_after (state_after state front) rest
after_more state front rest = fold-append added state front rest

pub lines_more : (state : State) (front rest : List StartLine) → AreLinesFrom state front → AreLinesFrom (state_after state front) rest → AreLinesFrom state (front ++ rest)
lines_more state [] rest first then_ = then_
lines_more state (line ∷ front) rest first then_ = (first.0, lines_more (added state line) front rest first.1 then_)

pub lines_front : (state : State) (front rest : List StartLine) → AreLinesFrom state (front ++ rest) → AreLinesFrom state front
lines_front state [] rest are = tt
lines_front state (line ∷ front) rest are = (are.0, lines_front (added state line) front rest are.1)

pub lines_rest : (state : State) (front rest : List StartLine) → AreLinesFrom state (front ++ rest) → AreLinesFrom (state_after state front) rest
lines_rest state [] rest are = are
lines_rest state (line ∷ front) rest are = lines_rest (added state line) front rest are.1

-- what lines say of a start is what the lines that are left say of the state that the others led to
pub record IsOnTheWay (old : State) (all : List StartLine) (now : State) (rest : List StartLine) : Type 0 where
  pub rules : AreLinesFrom old all ↔ AreLinesFrom now rest
  pub leads : state_after old all ≡ state_after now rest

pub begins : (old : State) (all : List StartLine) → IsOnTheWay old all old all
begins old all = record { rules = (λ are. are, λ are. are); leads = refl }

pub arrives : (old now : State) (all : List StartLine) → IsOnTheWay old all now [] → AreLinesFrom old all × (now ≡ state_after old all)
arrives old now all way = (way.rules.1 tt, sym way.leads)

module _ (old now : State) (all : List StartLine) where
  pub goes_on : (new : State) (line : StartLine) (rest : List StartLine) → IsOnTheWay old all now (line ∷ rest) → MayFollow now line → new ≡ added now line → IsOnTheWay old all new rest
  goes_on new line rest way may is = subst (λ (s : State). IsOnTheWay old all s rest) (sym is) (record { rules = (λ are. (way.rules.0 are).1, λ are. way.rules.1 (may, are)); leads = way.leads })

  pub stops : (line : StartLine) (rest : List StartLine) → IsOnTheWay old all now (line ∷ rest) → ¬ MayFollow now line → ¬ AreLinesFrom old all
  stops line rest way never are = never (way.rules.0 are).0

  pub passes : (new : State) (lines rest : List StartLine) → IsOnTheWay old all now (lines ++ rest) → AreLinesFrom now lines × (new ≡ state_after now lines) → IsOnTheWay old all new rest
  passes new lines rest way passed = subst (λ (s : State). IsOnTheWay old all s rest) (sym passed.1) (record {
    rules = (λ are. lines_rest now lines rest (way.rules.0 are), λ are. way.rules.1 (lines_more now lines rest passed.0 are));
    leads = way.leads ∙ after_more now lines rest;
  })

  pub stops_within : (lines rest : List StartLine) → IsOnTheWay old all now (lines ++ rest) → ¬ AreLinesFrom now lines → ¬ AreLinesFrom old all
  stops_within lines rest way never are = never (lines_front now lines rest (way.rules.0 are))

-- an error of one line is that of the lines
pub line_refused : (old now new : State) (all : List StartLine) (line : StartLine) (rest : List StartLine) (error : DraftErr) → IsOnTheWay old all now (line ∷ rest) → Judges {T = Unit {0}} (Err error) (MayFollow now line) → Declares (Err error) old all new
line_refused old now new all line rest Rule way never = stops old now all line rest way never
line_refused old now new all line rest Memory way may = tt

pub row_refused : (old now new : State) (all : List StartLine) (line : StartLine) (rest : List StartLine) (error : DraftErr) → IsOnTheWay old all now (line ∷ rest) → JudgesUnlessMemory {T = Unit {0}} (Err error) (MayFollow now line) → Declares (Err error) old all new
row_refused old now new all line rest Rule way never = stops old now all line rest way never
row_refused old now new all line rest Memory way may = tt

pub lines_refused : (old now new : State) (all lines rest : List StartLine) (error : DraftErr) → IsOnTheWay old all now (lines ++ rest) → Declares (Err error) now lines new → Declares (Err error) old all new
lines_refused old now new all lines rest Rule way never = stops_within old now all lines rest way never
lines_refused old now new all lines rest Memory way may = tt

-- an error that is handed on
pub refused_on : (result : Result (Unit {0}) DraftErr) (error : DraftErr) (old new : State) (all : List StartLine) → IsErr result × IsErrAnd result (λ other. other ≡ error) → Declares (Err error) old all new → Declares result old all new
refused_on (Ok _) error old new all is says = absurd (cc)
refused_on (Err other) error old new all is says = let same : other ≡ error = is.1 in subst (λ (e : DraftErr). Declares (Err e) old all new) (sym same) says

-- a line, and then those behind it
pub behind : (old now new : State) (line : StartLine) (rest : List StartLine) (result : Result (Unit {0}) DraftErr) → MayFollow old line → now ≡ added old line → Declares result now rest new → Declares result old (line ∷ rest) new
behind old now new line rest result may is says = by result (subst (λ (s : State). Declares result s rest new) is says)
  where
    by : (r : Result (Unit {0}) DraftErr) → Declares r (added old line) rest new → Declares r old (line ∷ rest) new
    by (Ok _) said = ((may, said.0), said.1)
    by (Err Rule) never = λ are. never are.1
    by (Err Memory) free = tt

-- the lines of columns declare no sequence
pub columns_keep_names : (state : State) (names : List (List ℕ)) (columns : List Column) → (state_after state (map (column_line names) columns)).start.schema.sequences ≡ state.start.schema.sequences
columns_keep_names state names [] = refl
columns_keep_names state names (column ∷ columns) = columns_keep_names (added state (column_line names column)) names columns

pub table_keeps_names : (state : State) (names : List (List ℕ)) (table : Table) → (state_after state (table_lines names table)).start.schema.sequences ≡ state.start.schema.sequences
table_keeps_names state names table = columns_keep_names (added state (TableLine table.name)) names table.columns

-- the first of what is left, and nothing where none is
pub front_of : {X : Type 0} (f : X → StartLine) (xs : List X) (i : ℕ) (x : X) → i < length xs → x ≡ get_or xs i x → map f (drop i xs) ≡ f x ∷ map f (drop (i + 1) xs)
front_of f xs i x within is = ap (map f) (drop_more xs i x within) ∙ ap (λ y. f y ∷ map f (drop (i + 1) xs)) (sym is)

pub none_left : {X : Type 0} (f : X → StartLine) (xs : List X) (i : ℕ) → length xs ≤ i → map f (drop i xs) ≡ []
none_left f xs i end = ap (map f) (drop_all i xs end)

pub front_many : {X : Type 0} (f : X → List StartLine) (xs : List X) (i : ℕ) (x : X) → i < length xs → x ≡ get_or xs i x → flat_map f (drop i xs) ≡ f x ++ flat_map f (drop (i + 1) xs)
front_many f xs i x within is = ap (flat_map f) (drop_more xs i x within) ∙ ap (λ y. f y ++ flat_map f (drop (i + 1) xs)) (sym is)

pub none_many : {X : Type 0} (f : X → List StartLine) (xs : List X) (i : ℕ) → length xs ≤ i → flat_map f (drop i xs) ≡ []
none_many f xs i end = ap (flat_map f) (drop_all i xs end)

pub front_sequence : (names : List (List ℕ)) (nexts : List ℕ) (i : ℕ) (name : List ℕ) (next : ℕ) → i < length names → i < length nexts → name ≡ get_or names i name → next ≡ get_or nexts i next
    → sequence_lines (drop i names) (drop i nexts) ≡ SeqLine name next ∷ sequence_lines (drop (i + 1) names) (drop (i + 1) nexts)
front_sequence names nexts i name next within also first second =
    ap (λ ns. sequence_lines ns (drop i nexts)) (drop_more names i name within)
    ∙ ap (λ xs. sequence_lines (get_or names i name ∷ drop (i + 1) names) xs) (drop_more nexts i next also)
    ∙ ap (λ n. SeqLine n (get_or nexts i next) ∷ sequence_lines (drop (i + 1) names) (drop (i + 1) nexts)) (sym first)
    ∙ ap (λ x. SeqLine name x ∷ sequence_lines (drop (i + 1) names) (drop (i + 1) nexts)) (sym second)

pub none_sequences : (names : List (List ℕ)) (nexts : List ℕ) (i : ℕ) → length names ≤ i → sequence_lines (drop i names) (drop i nexts) ≡ []
none_sequences names nexts i end = ap (λ ns. sequence_lines ns (drop i nexts)) (drop_all i names end)

-- ---- what the lines of a part declare

-- a start with what lines declare
abbrev start_after : StartView → List StartLine → StartView
start_after start lines = fold start_with start lines

start_of_state : (state : State) (lines : List StartLine) → (state_after state lines).start ≡ start_after state.start lines
start_of_state state [] = refl
start_of_state state (line ∷ lines) = start_of_state (added state line) lines

sequences_declared : (start : StartView) (names : List (List ℕ)) (nexts : List ℕ) → length nexts ≡ length names
    → start_after start (sequence_lines names nexts) ≡ record start { schema = record start.schema { sequences = start.schema.sequences ++ names }; next_values = start.next_values ++ nexts }
sequences_declared start [] [] same = rw (append-nil start.schema.sequences, append-nil start.next_values) refl
sequences_declared start [] (next ∷ nexts) same = absurd (omega (arith, same))
sequences_declared start (name ∷ names) [] same = absurd (omega (arith, same))
sequences_declared start (name ∷ names) (next ∷ nexts) same =
    sequences_declared (start_with start (SeqLine name next)) names nexts (omega (arith, same))
    ∙ rw (append_assoc start.schema.sequences (name ∷ []) names, append_assoc start.next_values (next ∷ []) nexts) refl

services_declared : (start : StartView) (services : List Service)
    → start_after start (map service_line services) ≡ record start { schema = record start.schema { services = start.schema.services ++ services } }
services_declared start [] = rw (append-nil start.schema.services) refl
services_declared start (service ∷ services) =
    services_declared (start_with start (service_line service)) services ∙ rw (append_assoc start.schema.services (service ∷ []) services) refl

-- a kind of a sequence that is there comes back by its name
kind_back : (names : List (List ℕ)) → AreDistinct names → (kind : Kind) → IsNumbered (length names) kind → with_number names (with_name names kind) ≡ kind
kind_back names distinct (Int low high) is = refl
kind_back names distinct (Text most) is = refl
kind_back names distinct (Seq sequence) is = ap (λ (o : Option ℕ). Seq (unwrap_or o 0)) (distinct sequence is)

with_column-end : (tables : List Table) (name : List ℕ) (columns : List Column) (column : Column)
    → with_column (tables ++ record { name = name; columns = columns } ∷ []) column ≡ tables ++ record { name = name; columns = columns ++ column ∷ [] } ∷ []
with_column-end [] name columns column = refl
with_column-end (table ∷ []) name columns column = refl
with_column-end (table ∷ next ∷ tables) name columns column = ap (λ (ts : List Table). table ∷ ts) (with_column-end (next ∷ tables) name columns column)

module _ (names : List (List ℕ)) (distinct : AreDistinct names) where
  -- a start with these tables
  abbrev tabled : StartView → List Table → StartView
  tabled start tables = record start { schema = record start.schema { tables = tables } }

  columns_declared : (start : StartView) (tables : List Table) (name : List ℕ) (columns more : List Column) → start.schema.sequences ≡ names → AllByRecursion (λ (column : Column). IsNumbered (length names) column.kind) more
      → start_after (tabled start (tables ++ record { name = name; columns = columns } ∷ [])) (map (column_line names) more) ≡ tabled start (tables ++ record { name = name; columns = columns ++ more } ∷ [])
  columns_declared start tables name columns [] same numbered = rw (append-nil columns) refl
  columns_declared start tables name columns (column ∷ more) same numbered =
      let one : start_with (tabled start (tables ++ record { name = name; columns = columns } ∷ [])) (column_line names column) ≡ tabled start (tables ++ record { name = name; columns = columns ++ column ∷ [] } ∷ []) =
      rw (same, kind_back names distinct column.kind numbered.0, with_column-end tables name columns column) refl in
      ap (λ (s : StartView). start_after s (map (column_line names) more)) one
      ∙ columns_declared start tables name (columns ++ column ∷ []) more same numbered.1
      ∙ rw (append_assoc columns (column ∷ []) more) refl

  tables_declared : (start : StartView) (tables : List Table) → start.schema.sequences ≡ names
      → AllByRecursion (λ (table : Table). AllByRecursion (λ (column : Column). IsNumbered (length names) column.kind) table.columns) tables
      → start_after start (flat_map (table_lines names) tables) ≡ tabled start (start.schema.tables ++ tables)
  tables_declared start [] same numbered = rw (append-nil start.schema.tables) refl
  tables_declared start (table ∷ tables) same numbered =
      let first = start_with start (TableLine table.name) in
      fold-append start_with first (map (column_line names) table.columns) (flat_map (table_lines names) tables)
      ∙ ap (λ (s : StartView). start_after s (flat_map (table_lines names) tables)) (columns_declared start start.schema.tables table.name [] table.columns same numbered.0)
      ∙ tables_declared (tabled start (start.schema.tables ++ table ∷ [])) tables same numbered.1
      ∙ rw (append_assoc start.schema.tables (table ∷ []) tables) refl

row_said : (start : StartView) (row : Image) (left : Option (List Value)) → row.left ≡ left → is_some left ≡ true
    → start_with start (row_line row) ≡ record start { rows = start.rows ++ row ∷ [] }
row_said start row None is there = absurd (false≢true there)
row_said start row (Some values) is there = rw is (let same : record { row = row.row; table = row.table; left = Some values } ≡ row = ap (λ (l : Option (List Value)). record row { left = l }) (sym is) in rw same refl)

rows_declared : (start : StartView) (rows : List Image) → AllByRecursion (λ (row : Image). is_some row.left ≡ true) rows
    → start_after start (map row_line rows) ≡ record start { rows = start.rows ++ rows }
rows_declared start [] left = rw (append-nil start.rows) refl
rows_declared start (row ∷ rows) left =
    ap (λ (s : StartView). start_after s (map row_line rows)) (row_said start row row.left refl left.0)
    ∙ rows_declared (record start { rows = start.rows ++ row ∷ [] }) rows left.1
    ∙ rw (append_assoc start.rows (row ∷ []) rows) refl

-- ---- the whole

-- the lines of a start declare just it
pub lines_declare : (start : StartView) → IsSayable start → (state_of (lines_of start)).start ≡ start
lines_declare start is =
    let schema = start.schema in
    let names = schema.sequences in
    let a = sequence_lines names start.next_values in
    let b = map service_line schema.services in
    let c = flat_map (table_lines names) schema.tables in
    let d = map row_line start.rows in
    let zero_ : StartView = record { schema = record { version = schema.version; level = schema.level; sequences = []; services = []; tables = [] }; rows = []; next_row = 0; next_values = [] } in
    let one : StartView = record { schema = record { version = schema.version; level = schema.level; sequences = names; services = []; tables = [] }; rows = []; next_row = 0; next_values = start.next_values } in
    let two : StartView = record { schema = record { version = schema.version; level = schema.level; sequences = names; services = schema.services; tables = [] }; rows = []; next_row = 0; next_values = start.next_values } in
    let three : StartView = record { schema = schema; rows = []; next_row = 0; next_values = start.next_values } in
    let four : StartView = record { schema = schema; rows = start.rows; next_row = 0; next_values = start.next_values } in
    start_of_state nothing (lines_of start)
    ∙ fold-append start_with (start_with (start_with nothing.start (Head schema.version)) (LevelLine schema.level)) (a ++ (b ++ (c ++ d))) (NextRow start.next_row ∷ [])
    ∙ ap (λ (s : StartView). start_with s (NextRow start.next_row)) (
    fold-append start_with zero_ a (b ++ (c ++ d)) ∙ ap (λ (s : StartView). start_after s (b ++ (c ++ d))) (sequences_declared zero_ names start.next_values is.counts)
    ∙ fold-append start_with one b (c ++ d) ∙ ap (λ (s : StartView). start_after s (c ++ d)) (services_declared one schema.services)
    ∙ fold-append start_with two c d ∙ ap (λ (s : StartView). start_after s d) (tables_declared names is.distinct two schema.tables refl is.numbered)
    ∙ rows_declared three start.rows is.left)

pub start_said : (start : StartView) → IsSayable start → AreLines (lines_of start) → IsStart start
start_said start is lines = record { lines = lines; declared = lines_declare start is }

-- the lines of a start, without the brackets
pub lines_in_turn : (start : StartView) → lines_of start ≡ Head start.schema.version ∷ LevelLine start.schema.level ∷ (sequence_lines start.schema.sequences start.next_values ++ (map service_line start.schema.services ++ (flat_map (table_lines start.schema.sequences) start.schema.tables ++ (map row_line start.rows ++ NextRow start.next_row ∷ []))))
lines_in_turn start = simp append_assoc

-- the first two lines
abbrev pub head_lines : StartView → List StartLine
head_lines start = Head start.schema.version ∷ LevelLine start.schema.level ∷ []

-- the way from the level on
pub from_level : (start : StartView) (now : State) → AreLines (head_lines start) → now ≡ state_of (head_lines start)
    → IsOnTheWay nothing (lines_of start) now (sequence_lines start.schema.sequences start.next_values ++ (map service_line start.schema.services ++ (flat_map (table_lines start.schema.sequences) start.schema.tables ++ (map row_line start.rows ++ NextRow start.next_row ∷ []))))
from_level start now may is =
    let lines = lines_of start in
    let rest = sequence_lines start.schema.sequences start.next_values ++ (map service_line start.schema.services ++ (flat_map (table_lines start.schema.sequences) start.schema.tables ++ (map row_line start.rows ++ NextRow start.next_row ∷ []))) in
    let first = subst (λ (ls : List StartLine). IsOnTheWay nothing lines nothing ls) (lines_in_turn start) (begins nothing lines) in
    passes nothing nothing lines now (head_lines start) rest first (may, is)

-- what comes of the last line
module _ (start : StartView) (now : State) (way : IsOnTheWay nothing (lines_of start) now (NextRow start.next_row ∷ [])) where
  pub finishes : (made : StartView) → IsSayable start → finished made ≡ added now (NextRow start.next_row) → MayFollow now (NextRow start.next_row) → (made ≡ start) × IsStart start
  finishes made is same may =
      let last = added now (NextRow start.next_row) in
      let end = arrives nothing last (lines_of start) (goes_on nothing now (lines_of start) last (NextRow start.next_row) [] way may refl) in
      (ap (λ (s : State). s.start) (same ∙ end.1) ∙ lines_declare start is, start_said start is end.0)

  pub finish_refused : ¬ MayFollow now (NextRow start.next_row) → ¬ IsStart start
  finish_refused never is = stops nothing now (lines_of start) (NextRow start.next_row) [] way never is.lines

-- lines on the way that are refused
pub part_refused : (start : StartView) (now new : State) (lines rest : List StartLine) (result : Result StartView DraftErr) (error : DraftErr) → IsOnTheWay nothing (lines_of start) now (lines ++ rest) → Declares (Err error) now lines new
    → IsErr result × IsErrAnd result (λ other. other ≡ error) → JudgesUnlessMemory result (IsStart start)
part_refused start now new lines rest (Ok _) error way says is = absurd (cc)
part_refused start now new lines rest (Err other) Memory way says is = let same : other ≡ Memory = is.1 in subst (λ (e : DraftErr). JudgesUnlessMemory {T = StartView} (Err e) (IsStart start)) (sym same) tt
part_refused start now new lines rest (Err other) Rule way never is = let same : other ≡ Rule = is.1 in
    subst (λ (e : DraftErr). JudgesUnlessMemory {T = StartView} (Err e) (IsStart start)) (sym same) (λ keeps. stops_within nothing now (lines_of start) lines rest way never keeps.lines)

-- the names of the sequences, once these and the services are declared
pub names_stand : (start : StartView) (zero_ one two : State) → IsSayable start → zero_ ≡ state_of (head_lines start) → one ≡ state_after zero_ (sequence_lines start.schema.sequences start.next_values)
    → two ≡ state_after one (map service_line start.schema.services) → two.start.schema.sequences ≡ start.schema.sequences
names_stand start zero_ one two is at_level at_names at_services =
    let first = state_of (head_lines start) in
    let a = sequence_lines start.schema.sequences start.next_values in
    let b = map service_line start.schema.services in
    let whole : two ≡ state_after (state_after first a) b = at_services ∙ ap (λ (s : State). state_after s b) (at_names ∙ ap (λ (s : State). state_after s a) at_level) in
    ap (λ (s : State). s.start.schema.sequences) whole
    ∙ ap (λ (s : StartView). s.schema.sequences) (start_of_state (state_after first a) b ∙ ap (λ (s : StartView). start_after s b) (start_of_state first a ∙ sequences_declared first.start start.schema.sequences start.next_values is.counts) ∙ services_declared _ start.schema.services)

module _ (start : StartView) (now : State) (is : IsSayable start) (way : IsOnTheWay nothing (lines_of start) now (NextRow start.next_row ∷ [])) where
  pub ended_start : (result : Result StartView DraftErr) → IfOk result (λ made. finished made ≡ added now (NextRow start.next_row)) → Judges result (MayFollow now (NextRow start.next_row)) → IfOk result (λ made. made ≡ start)
  ended_start (Ok made) same may = (finishes start now way made is same may).0
  ended_start (Err error) same may = tt

  pub ended_rule : (result : Result StartView DraftErr) → IfOk result (λ made. finished made ≡ added now (NextRow start.next_row)) → Judges result (MayFollow now (NextRow start.next_row)) → JudgesUnlessMemory result (IsStart start)
  ended_rule (Ok made) same may = (finishes start now way made is same may).1
  ended_rule (Err Rule) same never = finish_refused start now way never
  ended_rule (Err Memory) same may = tt
