-- The plain reads: what was read is the file of stamps, and it is read so.
use Rattle.std.proofs.Common.{◌≡◌, ℕ, true, false, List, [], ◌∷◌, ◌++◌, Result, Ok, Err, refl, ap, sym, subst, ◌∙◌, append_assoc, append-nil, arith}
use Rattle.std.specs.Prelude.{codes}
use Rattle.std.specs.List.{flat_map}
use Rattle.std.specs.Fmt.{decimal}
use Rattle.desk_values.specs.Fields.{Lacks}
use Rattle.file_lines.specs.declared.reader.FormErr.{FormErr}
use Rattle.file_lines.specs.declared.reader.FormErr.TheVariants.{Bad, Memory}
use Rattle.file_lines.specs.File.{Is, IsFile, ReadsFile, Says}
use Rattle.file_lines.specs.Form.{Comes, text_of}
use Rattle.file_lines.proofs.Files.{once}
use Rattle.file_lines.proofs.Forms.{AreLines, IsSound, state_after, file_has_lines, lines_are_file, says_one}
use Rattle.capture_format.proofs.Alphabet.{text_decimal, text_word}
use Rattle.capture_format.proofs.SessionTexts.{visible_all}
use Rattle.fence_law.specs.Text.{fence_text}
use Rattle.replay_history.specs.Texts.{line}
use Rattle.run_files.specs.declared.reads.Stage.{Stage}
use Rattle.run_files.specs.declared.reads.Stage.TheVariants.{Empty, Headed}
use Rattle.run_files.specs.declared.reads_line.ReadsLine.{ReadsLine}
use Rattle.run_files.specs.declared.reads_line.ReadsLine.TheVariants.{Head, Stamp, End}
use Rattle.run_files.specs.ReadsView.{ReadsView}
use Rattle.run_files.specs.ReadsFile.{AreReads, AreStampsFrom, IsBadReads, IsReadsLine, MayCome, is_ended, is_last, new_reads, reads_form, reads_line_text, with_line}
use Rattle.run_files.proofs.ReadsReader.{reads_lines}

-- ---- lines are whole, and nothing follows the last

lacks : (l : ReadsLine) → IsReadsLine l → Lacks 10 (reads_line_text l)
lacks Head fits = visible_all (codes "fence 1") (text_word (codes "fence 1") refl)
lacks (Stamp n) fits = visible_all (decimal n) (text_decimal n (omega (arith, fits)))
lacks End fits = visible_all (codes "end") (text_word (codes "end") refl)

unended : (s : ReadsView) (l : ReadsLine) → MayCome s l → is_ended s ≡ false
unended s Head may = ap is_last may
unended s (Stamp n) may = ap is_last may.0
unended s End may = ap is_last may

sound : IsSound reads_form is_ended
sound = record { lacks = lacks; unended = unended }

-- ---- the lines of stamps

-- lines of stamps, and the end
last_lines : List ℕ → List ReadsLine
last_lines [] = End ∷ []
last_lines (stamp ∷ stamps) = Stamp stamp ∷ last_lines stamps

last_text : (stamps : List ℕ) → text_of reads_form (last_lines stamps) ≡ flat_map (λ stamp. line (decimal stamp)) stamps ++ line (codes "end")
unfolding last_lines
last_text [] = refl
last_text (stamp ∷ stamps) = ap (λ (t : List ℕ). line (decimal stamp) ++ t) (last_text stamps) ∙ sym (append_assoc (line (decimal stamp)) (flat_map (λ other. line (decimal other)) stamps) (line (codes "end")))

all_lines : List ℕ → List ReadsLine
all_lines stamps = Head ∷ last_lines stamps

all_text : (stamps : List ℕ) → text_of reads_form (all_lines stamps) ≡ fence_text stamps
unfolding all_lines
all_text stamps = ap (λ (t : List ℕ). line (codes "fence 1") ++ t) (last_text stamps)

record Adds (s : ReadsView) (lines : List ReadsLine) (stamps : List ℕ) : Type 0 where
  lines_are : lines ≡ last_lines stamps
  rise : AreStampsFrom s.least stamps
  after : (state_after reads_form s lines).stamps ≡ s.stamps ++ stamps

nothing_after : (s : ReadsView) (lines : List ReadsLine) → is_ended s ≡ true → AreLines reads_form s lines → lines ≡ []
nothing_after s [] last are = refl
nothing_after s (l ∷ lines) last are = absurd (let never = sym (unended s l are.1) ∙ last in cc)

headed_is_not_last : (stage : Stage) → stage ≡ Headed → is_last stage ≡ false
headed_is_not_last stage is = ap is_last is

stamps_of : (s : ReadsView) (lines : List ReadsLine) → s.stage ≡ Headed → AreLines reads_form s lines → is_ended (state_after reads_form s lines) ≡ true → (stamps : List ℕ) × Adds s lines stamps
unfolding last_lines
stamps_of s [] headed are last = absurd (let never = sym (headed_is_not_last s.stage headed) ∙ last in cc)
stamps_of s (Head ∷ lines) headed are last = absurd (let never : Headed ≡ Empty = sym headed ∙ are.1 in cc)
stamps_of s (Stamp stamp ∷ lines) headed are last =
    let rest = stamps_of (with_line s (Stamp stamp)) lines headed are.2 last in
    (stamp ∷ rest.0, record { lines_are = ap (λ (ls : List ReadsLine). Stamp stamp ∷ ls) rest.1.lines_are; rise = (are.1.1, are.0, rest.1.rise); after = rest.1.after ∙ append_assoc s.stamps (stamp ∷ []) rest.0 })
stamps_of s (End ∷ lines) headed are last =
    let none = nothing_after (with_line s End) lines refl are.2 in
    ([], record { lines_are = ap (λ (ls : List ReadsLine). End ∷ ls) none; rise = tt; after = ap (λ (ls : List ReadsLine). (state_after reads_form (with_line s End) ls).stamps) none ∙ sym (append-nil s.stamps) })

record AreOf (lines : List ReadsLine) (stamps : List ℕ) : Type 0 where
  lines_are : lines ≡ all_lines stamps
  rise : AreStampsFrom 0 stamps
  after : (state_after reads_form new_reads lines).stamps ≡ stamps

all_of : (lines : List ReadsLine) → AreLines reads_form new_reads lines → is_ended (state_after reads_form new_reads lines) ≡ true → (stamps : List ℕ) × AreOf lines stamps
unfolding all_lines
all_of [] are last = absurd (let never : false ≡ true = last in cc)
all_of (Head ∷ lines) are last =
    let found = stamps_of (with_line new_reads Head) lines refl are.2 last in
    (found.0, record { lines_are = ap (λ (ls : List ReadsLine). Head ∷ ls) found.1.lines_are; rise = found.1.rise; after = found.1.after })
all_of (Stamp stamp ∷ lines) are last = absurd (let never : Empty ≡ Headed = are.1.0 in cc)
all_of (End ∷ lines) are last = absurd (let never : Empty ≡ Headed = are.1 in cc)

-- what was read is the file of the stamps
pub file_read : (bytes : List ℕ) (t : ReadsView) → IsFile (Comes reads_form) is_ended new_reads bytes t → AreReads bytes t.stamps
file_read bytes t is =
    let has = file_has_lines reads_form is_ended new_reads bytes t is in
    let found = all_of has.lines has.are (sym (ap is_ended has.leads) ∙ is.ended) in
    let stamps_are : found.0 ≡ t.stamps = sym found.1.after ∙ sym (ap (λ (s : ReadsView). s.stamps) has.leads) in
    record {
      rise = subst (AreStampsFrom 0) stamps_are found.1.rise;
      text = has.text ∙ ap (text_of reads_form) found.1.lines_are ∙ all_text found.0 ∙ ap fence_text stamps_are;
    }

-- ---- and back

record Leads (s : ReadsView) (stamps : List ℕ) : Type 0 where
  are : AreLines reads_form s (last_lines stamps)
  holds : (state_after reads_form s (last_lines stamps)).stamps ≡ s.stamps ++ stamps
  ended : is_ended (state_after reads_form s (last_lines stamps)) ≡ true

leads_to : (s : ReadsView) (stamps : List ℕ) → s.stage ≡ Headed → AreStampsFrom s.least stamps → Leads s stamps
unfolding last_lines
leads_to s [] headed rise = record { are = (tt, headed, tt); holds = sym (append-nil s.stamps); ended = refl }
leads_to s (stamp ∷ stamps) headed rise =
    let rest = leads_to (with_line s (Stamp stamp)) stamps headed rise.2 in
    record { are = (rise.1, (headed, rise.0), rest.are); holds = rest.holds ∙ append_assoc s.stamps (stamp ∷ []) stamps; ended = rest.ended }

-- the file of stamps is read so
pub read_file : (bytes : List ℕ) (stamps : List ℕ) → AreReads bytes stamps → (t : ReadsView) × IsFile (Comes reads_form) is_ended new_reads bytes t × (t.stamps ≡ stamps)
unfolding all_lines
read_file bytes stamps is =
    let lines = all_lines stamps in
    let led = leads_to (with_line new_reads Head) stamps refl is.rise in
    let t = state_after reads_form new_reads lines in
    (t, subst (λ (b : List ℕ). IsFile (Comes reads_form) is_ended new_reads b t) (all_text stamps ∙ sym is.text) (lines_are_file reads_form is_ended sound new_reads lines (tt, refl, led.are) led.ended), led.holds)

abbrev Verdict : Type 0
Verdict = Result ReadsView ℕ

-- bytes come to one thing alone
one : (bytes : List ℕ) (v w : Verdict) → Is (Comes reads_form) is_ended new_reads 1 bytes v → Is (Comes reads_form) is_ended new_reads 1 bytes w → v ≡ w
one bytes v w is also = once (Comes reads_form) is_ended (says_one reads_form reads_lines) new_reads 1 bytes v w is also

abbrev stamps_in : Verdict → List ℕ
stamps_in (Ok s) = s.stamps
stamps_in (Err n) = []

pub one_file : (bytes : List ℕ) (reads others : List ℕ) → AreReads bytes reads → AreReads bytes others → reads ≡ others
one_file bytes reads others is also =
    let first = read_file bytes reads is in
    let second = read_file bytes others also in
    sym first.2 ∙ ap stamps_in (one bytes (Ok first.0) (Ok second.0) first.1 second.1) ∙ second.2

-- bytes with a bad line are no such file
pub bad_file : (bytes : List ℕ) (n : ℕ) → IsBadReads bytes n → (stamps : List ℕ) → ¬ AreReads bytes stamps
bad_file bytes n bad stamps is = let read = read_file bytes stamps is in let both = one bytes (Err n) (Ok read.0) bad read.1 in cc

-- and it is the first of one number alone
pub one_bad : (bytes : List ℕ) (n other : ℕ) → IsBadReads bytes n → IsBadReads bytes other → n ≡ other
one_bad bytes n other bad also = let both = one bytes (Err n) (Err other) bad also in cc

pub error_read : (bytes : List ℕ) (error : FormErr) → Says {F = ReadsView} (Err error) (λ s. s) (Comes reads_form) is_ended new_reads bytes → ReadsFile {X = List ℕ} (Err error) (AreReads bytes) (IsBadReads bytes)
error_read bytes (Bad n) bad = (bad, bad_file bytes n bad)
error_read bytes Memory says = tt
