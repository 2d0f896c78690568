-- Journals: what was read is the journal of a mode and a history, and it is read so.
use Rattle.std.proofs.Common.{◌≡◌, ℕ, true, false, List, [], ◌∷◌, ◌++◌, Result, Ok, Err, refl, ap, sym, subst, ◌∙◌, append_assoc, append-nil, arith}
use Rattle.std.specs.Prelude.{MatchResult, codes}
use Rattle.std.specs.List.{AllByRecursion, flat_map}
use Rattle.std.specs.Fmt.{decimal}
use Rattle.desk_values.specs.declared.capture.Event.{Event as AnyEvent}
use Rattle.desk_values.specs.declared.capture.Event.TheVariants.{Start, Answer}
use Rattle.desk_values.specs.Fields.{Lacks}
use Rattle.desk_values.specs.Text.{reply_text}
use Rattle.file_lines.specs.declared.reader.FormErr.{FormErr}
use Rattle.file_lines.specs.declared.reader.FormErr.TheVariants.{Bad, Memory}
use Rattle.file_lines.specs.File.{Is, IsFile, ReadsFile, Says}
use Rattle.file_lines.specs.Form.{Comes, text_of}
use Rattle.file_lines.proofs.Files.{once}
use Rattle.file_lines.proofs.Forms.{AreLines, IsSound, state_after, file_has_lines, lines_are_file, says_one}
use Rattle.capture_format.proofs.Alphabet.{text_decimal, text_reply, text_then, text_word}
use Rattle.capture_format.proofs.SessionTexts.{visible_all}
use Rattle.replay_history.specs.declared.mode.Mode.{Mode}
use Rattle.replay_history.specs.declared.mode.Mode.TheVariants.{Off, Scn, Object, Order, Fence}
use Rattle.replay_history.specs.Texts.{event_text, journal_text, line}
use Rattle.replay_job.specs.Events.{IsEvent}
use Rattle.replay_report.specs.declared.journal.Journal.{Journal}
use Rattle.replay_report.specs.declared.journal.Stage.{Stage}
use Rattle.replay_report.specs.declared.journal.Stage.TheVariants.{Empty, Headed, Ended}
use Rattle.replay_report.specs.declared.journal_line.JournalLine.{JournalLine}
use Rattle.replay_report.specs.declared.journal_line.JournalLine.TheVariants.{Head, Event, End}
use Rattle.replay_report.specs.JournalView.{JournalView}
use Rattle.replay_report.specs.JournalFile.{IsBadJournal, IsJournal, IsJournalLine, MayCome, ended, is_ended, is_headed, is_last, journal_form, journal_line_text, new_view, with_line}
use Rattle.replay_report.proofs.JournalReader.{journal_lines}

-- ---- lines are whole, and nothing follows the last

lacks : (line : JournalLine) → IsJournalLine line → Lacks 10 (journal_line_text line)
lacks (Head Off) fits = visible_all (codes "journal 1 off") (text_word (codes "journal 1 off") refl)
lacks (Head Scn) fits = visible_all (codes "journal 1 scn") (text_word (codes "journal 1 scn") refl)
lacks (Head Object) fits = visible_all (codes "journal 1 object") (text_word (codes "journal 1 object") refl)
lacks (Head Order) fits = visible_all (codes "journal 1 order") (text_word (codes "journal 1 order") refl)
lacks (Head Fence) fits = visible_all (codes "journal 1 fence") (text_word (codes "journal 1 fence") refl)
lacks (Event (Start k pause)) fits = visible_all (codes "s " ++ (decimal k ++ 32 ∷ decimal pause)) (text_then (codes "s ") (decimal k ++ 32 ∷ decimal pause) (text_word (codes "s ") refl) (text_then (decimal k) (32 ∷ decimal pause) (text_decimal k (omega (arith, fits.0))) (refl, text_decimal pause fits.1)))
lacks (Event (Answer k reply)) fits = visible_all (codes "a " ++ (decimal k ++ 32 ∷ reply_text reply)) (text_then (codes "a ") (decimal k ++ 32 ∷ reply_text reply) (text_word (codes "a ") refl) (text_then (decimal k) (32 ∷ reply_text reply) (text_decimal k (omega (arith, fits.0))) (refl, text_reply reply fits.1)))
lacks End fits = visible_all (codes "end") (text_word (codes "end") refl)

headed_is_not_last : (stage : Stage) → is_headed stage ≡ true → is_last stage ≡ false
headed_is_not_last Empty e = refl
headed_is_not_last (Headed mode) e = refl
headed_is_not_last (Ended mode) e = absurd cc

unended : (s : JournalView) (line : JournalLine) → MayCome s line → is_ended s ≡ false
unended s (Head mode) may = ap is_last may
unended s (Event event) may = headed_is_not_last s.stage may
unended s End may = headed_is_not_last s.stage may

sound : IsSound journal_form is_ended
sound = record { lacks = lacks; unended = unended }

-- ---- the lines of a history

abbrev AllFit : List AnyEvent → Type 0
AllFit events = AllByRecursion IsEvent events

-- lines of events, and the end
last_lines : List AnyEvent → List JournalLine
last_lines [] = End ∷ []
last_lines (event ∷ events) = Event event ∷ last_lines events

last_text : (events : List AnyEvent) → text_of journal_form (last_lines events) ≡ flat_map (λ event. line (event_text event)) events ++ line (codes "end")
unfolding last_lines
last_text [] = refl
last_text (event ∷ events) = ap (λ (t : List ℕ). line (event_text event) ++ t) (last_text events) ∙ sym (append_assoc (line (event_text event)) (flat_map (λ other. line (event_text other)) events) (line (codes "end")))

all_lines : Mode → List AnyEvent → List JournalLine
all_lines mode events = Head mode ∷ last_lines events

all_text : (mode : Mode) (events : List AnyEvent) → text_of journal_form (all_lines mode events) ≡ journal_text mode events
unfolding all_lines
all_text mode events = ap (λ (t : List ℕ). line (journal_line_text (Head mode)) ++ t) (last_text events)

-- what the lines of these events lead to
abbrev further : JournalView → List AnyEvent → JournalView
further s events = record { stage = ended s.stage; events = s.events ++ events }

none_further : (s : JournalView) → with_line s End ≡ further s []
none_further s = ap (λ (es : List AnyEvent). record { stage = ended s.stage; events = es }) (sym (append-nil s.events))

one_further : (s : JournalView) (event : AnyEvent) (events : List AnyEvent) → further (with_line s (Event event)) events ≡ further s (event ∷ events)
one_further s event events = ap (λ (es : List AnyEvent). record { stage = ended s.stage; events = es }) (append_assoc s.events (event ∷ []) events)

record Adds (s : JournalView) (lines : List JournalLine) (events : List AnyEvent) : Type 0 where
  lines_are : lines ≡ last_lines events
  fit : AllFit events
  after : state_after journal_form s lines ≡ further s events

last_stage : (stage : Stage) → is_headed stage ≡ true → is_last (ended stage) ≡ true
last_stage Empty e = absurd cc
last_stage (Headed mode) e = refl
last_stage (Ended mode) e = absurd cc

nothing_after : (s : JournalView) (lines : List JournalLine) → is_ended s ≡ true → AreLines journal_form s lines → lines ≡ []
nothing_after s [] last are = refl
nothing_after s (line ∷ lines) last are = absurd (let never = sym (unended s line are.1) ∙ last in cc)

events_of : (s : JournalView) (lines : List JournalLine) → is_headed s.stage ≡ true → AreLines journal_form s lines → is_ended (state_after journal_form s lines) ≡ true → (events : List AnyEvent) × Adds s lines events
unfolding last_lines
events_of s [] headed are last = absurd (let never = sym (headed_is_not_last s.stage headed) ∙ last in cc)
events_of s (Head mode ∷ lines) headed are last = absurd (let never = sym headed ∙ ap is_headed are.1 in cc)
events_of s (Event event ∷ lines) headed are last =
    let rest = events_of (with_line s (Event event)) lines headed are.2 last in
    (event ∷ rest.0, record { lines_are = ap (λ (ls : List JournalLine). Event event ∷ ls) rest.1.lines_are; fit = (are.0, rest.1.fit); after = rest.1.after ∙ one_further s event rest.0 })
events_of s (End ∷ lines) headed are last =
    let none = nothing_after (with_line s End) lines (last_stage s.stage headed) are.2 in
    ([], record { lines_are = ap (λ (ls : List JournalLine). End ∷ ls) none; fit = tt; after = ap (state_after journal_form (with_line s End)) none ∙ none_further s })

-- behind a whole journal
abbrev whole_view : Mode → List AnyEvent → JournalView
whole_view mode events = record { stage = Ended mode; events = events }

record AreOf (lines : List JournalLine) (mode : Mode) (events : List AnyEvent) : Type 0 where
  lines_are : lines ≡ all_lines mode events
  fit : AllFit events
  after : state_after journal_form new_view lines ≡ whole_view mode events

all_of : (lines : List JournalLine) → AreLines journal_form new_view lines → is_ended (state_after journal_form new_view lines) ≡ true → (mode : Mode) × (events : List AnyEvent) × AreOf lines mode events
unfolding all_lines
all_of [] are last = absurd (let never = last in cc)
all_of (Head mode ∷ lines) are last =
    let found = events_of (with_line new_view (Head mode)) lines refl are.2 last in
    (mode, found.0, record { lines_are = ap (λ (ls : List JournalLine). Head mode ∷ ls) found.1.lines_are; fit = found.1.fit; after = found.1.after })
all_of (Event event ∷ lines) are last = absurd (let never : false ≡ true = are.1 in cc)
all_of (End ∷ lines) are last = absurd (let never : false ≡ true = are.1 in cc)

-- what was read is the journal of the mode and the events
pub file_read : (bytes : List ℕ) (t : JournalView) (mode : Mode) → IsFile (Comes journal_form) is_ended new_view bytes t → t.stage ≡ Ended mode → IsJournal bytes mode t.events
file_read bytes t mode is stage =
    let has = file_has_lines journal_form is_ended new_view bytes t is in
    let found = all_of has.lines has.are (sym (ap is_ended has.leads) ∙ is.ended) in
    let whole : t ≡ whole_view found.0 found.1 = has.leads ∙ found.2.after in
    let modes : Ended found.0 ≡ Ended mode = sym (ap (λ (s : JournalView). s.stage) whole) ∙ stage in
    let mode_is : found.0 ≡ mode = cc in
    let events_are : found.1 ≡ t.events = sym (ap (λ (s : JournalView). s.events) whole) in
    record {
      fit = subst AllFit events_are found.2.fit;
      text = has.text ∙ ap (text_of journal_form) found.2.lines_are ∙ all_text found.0 found.1 ∙ ap (λ (m : Mode). journal_text m found.1) mode_is ∙ ap (journal_text mode) events_are;
    }

-- ---- and back

leads_to : (s : JournalView) (events : List AnyEvent) → is_headed s.stage ≡ true → AllFit events → AreLines journal_form s (last_lines events) × (state_after journal_form s (last_lines events) ≡ further s events)
unfolding last_lines
leads_to s [] headed fit = ((tt, headed, tt), none_further s)
leads_to s (event ∷ events) headed fit =
    let rest = leads_to (with_line s (Event event)) events headed fit.1 in
    ((fit.0, headed, rest.0), rest.1 ∙ one_further s event events)

-- the journal of a mode and events is read so
pub read_file : (bytes : List ℕ) (mode : Mode) (events : List AnyEvent) → IsJournal bytes mode events → IsFile (Comes journal_form) is_ended new_view bytes (whole_view mode events)
unfolding all_lines
read_file bytes mode events is =
    let lines = all_lines mode events in
    let led = leads_to (with_line new_view (Head mode)) events refl is.fit in
    let after : state_after journal_form new_view lines ≡ whole_view mode events = led.1 in
    let file = lines_are_file journal_form is_ended sound new_view lines (tt, refl, led.0) (ap is_ended after) in
    subst (λ (b : List ℕ). IsFile (Comes journal_form) is_ended new_view b (whole_view mode events)) (all_text mode events ∙ sym is.text)
    (subst (λ (s : JournalView). IsFile (Comes journal_form) is_ended new_view (text_of journal_form lines) s) after file)

abbrev Verdict : Type 0
Verdict = Result JournalView ℕ

-- bytes come to one thing alone
one : (bytes : List ℕ) (v w : Verdict) → Is (Comes journal_form) is_ended new_view 1 bytes v → Is (Comes journal_form) is_ended new_view 1 bytes w → v ≡ w
one bytes v w is also = once (Comes journal_form) is_ended (says_one journal_form journal_lines) new_view 1 bytes v w is also

pub one_file : (bytes : List ℕ) (mode other : Mode) (events others : List AnyEvent) → IsJournal bytes mode events → IsJournal bytes other others → (mode ≡ other) × (events ≡ others)
one_file bytes mode other events others is also =
    let both = one bytes (Ok (whole_view mode events)) (Ok (whole_view other others)) (read_file bytes mode events is) (read_file bytes other others also) in
    let views : whole_view mode events ≡ whole_view other others = cc in
    let stages : Ended mode ≡ Ended other = ap (λ (s : JournalView). s.stage) views in
    ((cc), ap (λ (s : JournalView). s.events) views)

-- bytes with a bad line are no journal
pub bad_file : (bytes : List ℕ) (n : ℕ) → IsBadJournal bytes n → (mode : Mode) (events : List AnyEvent) → ¬ IsJournal bytes mode events
bad_file bytes n bad mode events is = let both = one bytes (Err n) (Ok (whole_view mode events)) bad (read_file bytes mode events is) in cc

-- and it is the first of one number alone
pub one_bad : (bytes : List ℕ) (n other : ℕ) → IsBadJournal bytes n → IsBadJournal bytes other → n ≡ other
one_bad bytes n other bad also = let both = one bytes (Err n) (Err other) bad also in cc

pub error_read : (bytes : List ℕ) (error : FormErr) → Says {F = JournalView} (Err error) (λ s. s) (Comes journal_form) is_ended new_view bytes → ReadsFile {X = Journal} (Err error) (λ journal. IsJournal bytes journal.mode journal.history.items) (IsBadJournal bytes)
error_read bytes (Bad n) bad = (bad, λ journal. bad_file bytes n bad journal.mode journal.history.items)
error_read bytes Memory says = tt

-- what was written is read
pub read_back : (mode : Mode) (events : List AnyEvent) → AllFit events → (result : Result Journal FormErr) → ReadsFile result (λ journal. IsJournal (journal_text mode events) journal.mode journal.history.items) (IsBadJournal (journal_text mode events)) → MatchResult result (λ journal. (journal.mode ≡ mode) × (journal.history.items ≡ events)) (λ error. error ≡ Memory)
read_back mode events fit (Ok journal) is = one_file (journal_text mode events) journal.mode mode journal.history.items events is (record { fit = fit; text = refl })
read_back mode events fit (Err (Bad n)) is = absurd (bad_file (journal_text mode events) n is.0 mode events (record { fit = fit; text = refl }))
read_back mode events fit (Err Memory) is = refl
