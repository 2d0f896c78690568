-- Start files and starts, both ways.
use Rattle.std.proofs.Common.{◌≡◌, ℕ, ◌≤◌, true, false, List, [], ◌∷◌, Result, Ok, Err, ap, sym, subst, ◌∙◌, arith}
use Rattle.std.specs.Prelude.{◌==◌}
use Rattle.std.proofs.lemmas.Bool.{eqb-true, ne_eqb}
use Rattle.desk_schema.specs.declared.line.StartLine.{StartLine}
use Rattle.desk_schema.specs.declared.line.StartLine.TheVariants as line
use Rattle.desk_schema.specs.Line.{lines_text}
use Rattle.desk_schema.specs.Start.{StartView, file_lines}
use Rattle.desk_schema.specs.State.{State, nothing, added, state_of}
use Rattle.desk_schema.specs.Rules.{MayFollow, AreLinesFrom}
use Rattle.desk_schema.specs.File.{IsStart}
use Rattle.desk_values.specs.Limits.{session_limit}
use Rattle.desk_schema.proofs.Files.{read_back, written_lines, read_start, read_sessions}
use Rattle.desk_schema.proofs.Steps.{sound_nothing}
use Rattle.file_lines.specs.declared.reader.FormErr.{FormErr}
use Rattle.file_lines.specs.declared.reader.FormErr.TheVariants.{Bad, Memory}
use Rattle.file_lines.specs.File.{IsFile, Says, ReadsFile}
use Rattle.file_lines.specs.Form.{Comes}
use Rattle.file_lines.proofs.Files.{once}
use Rattle.file_lines.proofs.Forms.{AreLines, IsSound, file_has_lines, lines_are_file, says_one}
use Rattle.capture_format.specs.declared.start.StartFile.{StartFile}
use Rattle.capture_format.specs.StartFile.{start_form, is_ended, IsBadStart, IsStartFile}
use Rattle.capture_format.proofs.StartReader.{start_lines}
use Rattle.capture_format.proofs.StartTexts.{line_lacks}
use Rattle.capture_format.proofs.StartFits.{all_fit}

-- nothing follows the last line
unended : (s : State) (l : StartLine) → MayFollow s l → is_ended s ≡ false
unended s l may = ne_eqb s.last 10 (λ last. before s l may last)
  where
    before : (s : State) (l : StartLine) → MayFollow s l → s.last ≡ 10 → ⊥
    before s (line.Head version) may last = let is = may.0 in omega (arith, is, last)
    before s (line.Level level) may last = let is = may.0 in omega (arith, is, last)
    before s (line.Seq name next) may last = let is = may.order.to in omega (arith, is, last)
    before s (line.Service name rights) may last = let is = may.order.to in omega (arith, is, last)
    before s (line.Table name) may last = let is = may.order.to in omega (arith, is, last)
    before s (line.Column name kind not_null) may last = let is = may.order.to in omega (arith, is, last)
    before s (line.Row row table values) may last = let is = may.fits.order.to in omega (arith, is, last)
    before s (line.NextRow row) may last = let is = may.order.to in omega (arith, is, last)
    before s (line.Sessions count) may last = let is = may.0 in omega (arith, is, last)
    before s line.End may last = omega (arith, may, last)

sound : IsSound start_form is_ended
sound = record { lacks = line_lacks; unended = unended }

keep_rules : (s : State) (lines : List StartLine) → AreLines start_form s lines → AreLinesFrom s lines
keep_rules s [] are = tt
keep_rules s (l ∷ lines) are = (are.1, keep_rules (added s l) lines are.2)

-- what was read is a start file
pub file_read : (bytes : List ℕ) (t : State) (file : StartFile) → file.start ≡ t.start → file.sessions ≡ t.sessions → IsFile (Comes start_form) is_ended nothing bytes t → IsStartFile bytes file
file_read bytes t file starts counts is =
    let has = file_has_lines start_form is_ended nothing bytes t is in
    let last : t.last ≡ 10 = eqb-true t.last 10 is.ended in
    let back = read_back has.lines (record { are_lines = keep_rules nothing has.lines has.are; ended = sym (ap (λ (s : State). s.last) has.leads) ∙ last }) in
    let start : (state_of has.lines).start ≡ file.start = sym (starts ∙ ap (λ (s : State). s.start) has.leads) in
    let count : (state_of has.lines).sessions ≡ file.sessions = sym (counts ∙ ap (λ (s : State). s.sessions) has.leads) in
    record {
      is_start = subst IsStart start back.is_start;
      sessions = subst (λ (n : ℕ). n ≤ session_limit) count back.limit;
      text = has.text ∙ ap lines_text (sym back.same ∙ ap (λ (v : StartView). file_lines v (state_of has.lines).sessions) start ∙ ap (file_lines file.start) count);
    }

-- and a start file is read so
pub read_file : (bytes : List ℕ) (file : StartFile) → IsStartFile bytes file → (t : State) × IsFile (Comes start_form) is_ended nothing bytes t × (t.start ≡ file.start) × (t.sessions ≡ file.sessions)
read_file bytes file is =
    let lines = file_lines file.start file.sessions in
    let written = written_lines file.start file.sessions is.is_start is.sessions in
    let ended : is_ended (state_of lines) ≡ true = ap (λ (n : ℕ). n == 10) written.ended in
    (state_of lines, subst (λ (b : List ℕ). IsFile (Comes start_form) is_ended nothing b (state_of lines)) (sym is.text) (lines_are_file start_form is_ended sound nothing lines (all_fit nothing lines sound_nothing written.are_lines) ended), read_start file.start file.sessions is.is_start, read_sessions file.start file.sessions)

abbrev Verdict : Type 0
Verdict = Result State ℕ

-- bytes are at most one start file
pub one_file : (bytes : List ℕ) (file other : StartFile) → IsStartFile bytes file → IsStartFile bytes other → file ≡ other
one_file bytes file other is also =
    let first = read_file bytes file is in
    let second = read_file bytes other also in
    let both : ◌≡◌ {A = Verdict} (Ok first.0) (Ok second.0) = once (Comes start_form) is_ended (says_one start_form start_lines) nothing 1 bytes (Ok first.0) (Ok second.0) first.1 second.1 in
    let same : first.0 ≡ second.0 = cc in
    ap (λ (v : StartView). record { start = v; sessions = file.sessions }) (sym first.2 ∙ ap (λ (s : State). s.start) same ∙ second.2)
    ∙ ap (λ (n : ℕ). record { start = other.start; sessions = n }) (sym first.3 ∙ ap (λ (s : State). s.sessions) same ∙ second.3)

-- bytes with a bad line are no start file
pub bad_file : (bytes : List ℕ) (n : ℕ) → IsBadStart bytes n → (file : StartFile) → ¬ IsStartFile bytes file
bad_file bytes n bad file is =
    let read = read_file bytes file is in
    let both : ◌≡◌ {A = Verdict} (Err n) (Ok read.0) = once (Comes start_form) is_ended (says_one start_form start_lines) nothing 1 bytes (Err n) (Ok read.0) bad read.1 in
    cc

-- and it is the first of one number alone
pub one_bad : (bytes : List ℕ) (line other : ℕ) → IsBadStart bytes line → IsBadStart bytes other → line ≡ other
one_bad bytes line other bad also =
    let both : ◌≡◌ {A = Verdict} (Err line) (Err other) = once (Comes start_form) is_ended (says_one start_form start_lines) nothing 1 bytes (Err line) (Err other) bad also in
    cc

pub error_read : (bytes : List ℕ) (error : FormErr) → Says {F = State} (Err error) (λ s. s) (Comes start_form) is_ended nothing bytes → ReadsFile (Err error) (IsStartFile bytes) (IsBadStart bytes)
error_read bytes (Bad n) bad = (bad, bad_file bytes n bad)
error_read bytes Memory says = tt
