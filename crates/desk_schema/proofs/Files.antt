-- Lines and the states that they lead to, and files and starts, both ways.
use Rattle.std.proofs.Common.{◌≡◌, ℕ, ◌≤◌, List, [], ◌∷◌, ◌++◌, length, refl, sym, ◌∙◌, ap, subst, arith}
use Rattle.std.specs.List.{AllByRecursion}
use Rattle.std.proofs.lemmas.List.{append_assoc, append-nil}
use Rattle.std.proofs.lemmas.List.Sums.{fold-append}
use Rattle.desk_schema.specs.declared.line.StartLine.{StartLine}
use Rattle.desk_values.specs.Limits.{session_limit}
use Rattle.desk_schema.specs.declared.line.StartLine.TheVariants.{Head, Level as LevelLine, Seq as SeqLine, Service as ServiceLine, Table as TableLine, Column as ColumnLine, Row as RowLine, NextRow, Sessions, End}
use Rattle.desk_schema.specs.declared.schema.Table.{Table}
use Rattle.desk_schema.specs.Schema.{HasColumns, IsSchema, IsVersion}
use Rattle.desk_schema.specs.Start.{StartView, part_lines, lines_of, file_lines}
use Rattle.desk_schema.specs.State.{State, nothing, place, added, state_after, state_of}
use Rattle.desk_schema.specs.Rules.{MayFollow, AreLinesFrom, AreLines}
use Rattle.desk_schema.specs.Sound.{IsSoundTable, IsSoundStart}
use Rattle.desk_schema.specs.Inside.Sound.{IsSoundState}
use Rattle.desk_schema.specs.Draft.{IsReached, with_version}
use Rattle.desk_schema.specs.File.{IsStart, IsFile, IsFileOf}
use Rattle.desk_schema.proofs.Growth.{written, written_added}
use Rattle.desk_schema.proofs.Steps.{sound_nothing, sound_added}

sound_after : (state : State) (lines : List StartLine) → IsSoundState state → AreLinesFrom state lines → IsSoundState (state_after state lines)
sound_after state [] is are = is
sound_after state (line ∷ lines) is are = sound_after (added state line) lines (sound_added state line is are.0) are.1

written_after : (state : State) (lines : List StartLine) → IsSoundState state → AreLinesFrom state lines → written (state_after state lines) ≡ written state ++ lines
written_after state [] is are = sym (append-nil (written state))
written_after state (line ∷ lines) is are =
    written_after (added state line) lines (sound_added state line is are.0) are.1
    ∙ ap (λ before. before ++ lines) (written_added state line is are.0) ∙ append_assoc (written state) (line ∷ []) lines

sound_of : (lines : List StartLine) → AreLines lines → IsSoundState (state_of lines)
sound_of lines are = sound_after nothing lines sound_nothing are

-- the state has the lines that lead to it
written_of : (lines : List StartLine) → AreLines lines → written (state_of lines) ≡ lines
written_of lines are = written_after nothing lines sound_nothing are

-- ---- one more line, and some less

pub more_lines : (state : State) (lines : List StartLine) (line : StartLine) → AreLinesFrom state lines → MayFollow (state_after state lines) line → AreLinesFrom state (lines ++ line ∷ [])
more_lines state [] line are rule = (rule, tt)
more_lines state (first ∷ lines) line are rule = (are.0, more_lines (added state first) lines line are.1 rule)

pub front_lines : (state : State) (front rest : List StartLine) → AreLinesFrom state (front ++ rest) → AreLinesFrom state front
front_lines state [] rest are = tt
front_lines state (line ∷ front) rest are = (are.0, front_lines (added state line) front rest are.1)

after_both : (front rest : List StartLine) → state_of (front ++ rest) ≡ state_after (state_of front) rest
after_both front rest = fold-append added nothing front rest

pub reached_more : (state : State) (line : StartLine) → IsReached state → MayFollow state line → IsReached (added state line)
reached_more state line is rule = record {
  lines = is.lines ++ line ∷ [];
  are_lines = more_lines nothing is.lines line is.are_lines (let P : State → Type 0 = λ s. MayFollow s line in subst P (sym is.leads) rule);
  leads = after_both is.lines (line ∷ []) ∙ ap (λ (s : State). added s line) is.leads;
}

-- ---- the same lines with another version

may_still : (version : ℕ) (state : State) (line : StartLine) → MayFollow state line → MayFollow (with_version version state) line
may_still version state (Head other) rule = rule
may_still version state (LevelLine level) rule = rule
may_still version state (SeqLine name next) rule = rule
may_still version state (ServiceLine name rights) rule = rule
may_still version state (TableLine name) rule = rule
may_still version state (ColumnLine name kind not_null) rule = rule
may_still version state (RowLine row table values) rule = record { fits = rule.fits; key = rule.key }
may_still version state (NextRow next) rule = rule
may_still version state (Sessions count) rule = rule
may_still version state End rule = rule

added_still : (version : ℕ) (state : State) (line : StartLine) → 1 ≤ state.last → MayFollow state line
    → added (with_version version state) line ≡ with_version version (added state line)
added_still version state (Head other) late rule = absurd (omega (arith, rule.0))
added_still version state (LevelLine level) late rule = refl
added_still version state (SeqLine name next) late rule = refl
added_still version state (ServiceLine name rights) late rule = refl
added_still version state (TableLine name) late rule = refl
added_still version state (ColumnLine name kind not_null) late rule = refl
added_still version state (RowLine row table values) late rule = refl
added_still version state (NextRow next) late rule = refl
added_still version state (Sessions count) late rule = refl
added_still version state End late rule = refl

some_place : (line : StartLine) → 1 ≤ place line
some_place (Head version) = omega arith
some_place _ = omega arith

lines_still : (version : ℕ) (state : State) (lines : List StartLine) → 1 ≤ state.last → AreLinesFrom state lines
    → AreLinesFrom (with_version version state) lines × (state_after (with_version version state) lines ≡ with_version version (state_after state lines))
lines_still version state [] late are = (tt, refl)
lines_still version state (line ∷ lines) late are =
    let P : State → Type 0 = λ s. AreLinesFrom s lines × (state_after s lines ≡ with_version version (state_after (added state line) lines)) in
    let rest = subst P (sym (added_still version state line late are.0)) (lines_still version (added state line) lines (some_place line) are.1) in
    ((may_still version state line are.0, rest.0), rest.1)

-- the first line is the version
reached_by : (version : ℕ) (state : State) (lines : List StartLine) → IsVersion version → 1 ≤ state.last → AreLines lines → state_of lines ≡ state
    → IsReached (with_version version state)
reached_by version state [] is late are leads = let e : 0 ≡ state.last = ap (λ (s : State). s.last) leads in absurd (omega arith)
reached_by version state (Head other ∷ lines) is late are leads =
    let rest = lines_still version (added nothing (Head other)) lines (omega arith) are.1 in
    record { lines = Head version ∷ lines; are_lines = ((refl, is), rest.0); leads = rest.1 ∙ ap (with_version version) leads }
reached_by version state (LevelLine level ∷ lines) is late are leads = absurd (omega (arith, are.0.0))
reached_by version state (SeqLine name next ∷ lines) is late are leads = absurd (omega (arith, are.0.order.from))
reached_by version state (ServiceLine name rights ∷ lines) is late are leads = absurd (omega (arith, are.0.order.from))
reached_by version state (TableLine name ∷ lines) is late are leads = absurd (omega (arith, are.0.order.from))
reached_by version state (ColumnLine name kind not_null ∷ lines) is late are leads = absurd (omega (arith, are.0.order.from))
reached_by version state (RowLine row table values ∷ lines) is late are leads = absurd (omega (arith, are.0.fits.order.from))
reached_by version state (NextRow next ∷ lines) is late are leads = absurd (omega (arith, are.0.order.from))
reached_by version state (Sessions count ∷ lines) is late are leads = absurd (omega (arith, are.0.0))
reached_by version state (End ∷ lines) is late are leads = absurd (omega (arith, are.0))

pub reached_with : (version : ℕ) (state : State) → IsVersion version → 1 ≤ state.last → IsReached state → IsReached (with_version version state)
reached_with version state is late reached = reached_by version state reached.lines is late reached.are_lines reached.leads

pub sound_reached : (state : State) → IsReached state → IsSoundState state
sound_reached state reached = let P : State → Type 0 = IsSoundState in subst P reached.leads (sound_of reached.lines reached.are_lines)

-- ---- a start

all_have_columns : (sequences : ℕ) (tables : List Table) → AllByRecursion (IsSoundTable sequences) tables → AllByRecursion (λ table. 1 ≤ length table.columns) tables → AllByRecursion HasColumns tables
all_have_columns sequences [] sound whole = tt
all_have_columns sequences (table ∷ tables) sound whole = (record { least = whole.0; most = sound.0.most }, all_have_columns sequences tables sound.1 whole.1)

pub whole_schema : (state : State) → IsSoundState state → 1 ≤ state.last → (state.last ≡ 5 → ⊥) → IsSchema state.start.schema
whole_schema state is late whole = let schema = state.start.schema in record {
  version = is.order.version late;
  sequences = is.sound.sequences.most;
  services = is.sound.is_schema.services;
  tables = is.sound.is_schema.tables;
  columns = all_have_columns (length schema.sequences) schema.tables is.sound.is_schema.tables_sound (is.order.whole whole);
}

-- the lines up to the next row declare a start that keeps the rules
pub start_at : (state : State) → IsReached state → state.last ≡ 8 → IsStart state.start
start_at state is last =
    let lines : lines_of state.start ≡ is.lines = (let e : written state ≡ lines_of state.start = rw last refl in sym e ∙ ap written (sym is.leads) ∙ written_of is.lines is.are_lines) in
    let P : List StartLine → Type 0 = AreLines in
    record { lines = subst P (sym lines) is.are_lines; declared = ap (λ ls. (state_of ls).start) lines ∙ ap (λ (s : State). s.start) is.leads }

last_of_start : (start : StartView) → (state_of (lines_of start)).last ≡ 8
last_of_start start = ap (λ (s : State). s.last) (after_both (part_lines start) (NextRow start.next_row ∷ []))

pub sound_start : (start : StartView) → IsStart start → IsSoundStart start
sound_start start is =
    let state = state_of (lines_of start) in
    let sound = sound_of (lines_of start) is.lines in
    let last : state.last ≡ 8 = last_of_start start in
    let P : StartView → Type 0 = IsSoundStart in
    subst P is.declared (record { level = sound.order.level (omega arith); is_schema = whole_schema state sound (omega arith) (λ five. omega arith); sound = sound.sound; next_row = sound.next_row (omega arith) })

-- ---- files and starts, both ways

pub read_back : (lines : List StartLine) → IsFile lines → IsFileOf lines (state_of lines).start (state_of lines).sessions
read_back lines is =
    let state = state_of lines in
    let start = state.start in
    let tail = Sessions state.sessions ∷ End ∷ [] in
    let same : file_lines start state.sessions ≡ lines = (let e : written state ≡ file_lines start state.sessions = rw is.ended refl in sym e ∙ written_of lines is.are_lines) in
    let P : List StartLine → Type 0 = AreLines in
    record {
      is_start = record {
        lines = front_lines nothing (lines_of start) tail (subst P (sym same) is.are_lines);
        declared = sym (ap (λ (s : State). s.start) (after_both (lines_of start) tail)) ∙ ap (λ ls. (state_of ls).start) same;
      };
      limit = (sound_of lines is.are_lines).sessions;
      same = same;
    }

pub written_lines : (start : StartView) (sessions : ℕ) → IsStart start → sessions ≤ session_limit → IsFile (file_lines start sessions)
written_lines start sessions is limit =
    let counted = more_lines nothing (lines_of start) (Sessions sessions) is.lines (last_of_start start, limit) in
    let nine : (state_of (lines_of start ++ Sessions sessions ∷ [])).last ≡ 9 = ap (λ (s : State). s.last) (after_both (lines_of start) (Sessions sessions ∷ [])) in
    let P : List StartLine → Type 0 = AreLines in
    record {
      are_lines = subst P (append_assoc (lines_of start) (Sessions sessions ∷ []) (End ∷ [])) (more_lines nothing (lines_of start ++ Sessions sessions ∷ []) End counted nine);
      ended = ap (λ (s : State). s.last) (after_both (lines_of start) (Sessions sessions ∷ End ∷ []));
    }

pub read_start : (start : StartView) (sessions : ℕ) → IsStart start → (state_of (file_lines start sessions)).start ≡ start
read_start start sessions is = ap (λ (s : State). s.start) (after_both (lines_of start) (Sessions sessions ∷ End ∷ [])) ∙ is.declared

pub read_sessions : (start : StartView) (sessions : ℕ) → (state_of (file_lines start sessions)).sessions ≡ sessions
read_sessions start sessions = ap (λ (s : State). s.sessions) (after_both (lines_of start) (Sessions sessions ∷ End ∷ []))
