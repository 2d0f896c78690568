-- Session files and calls, both ways.
use Rattle.std.proofs.Common.{◌≡◌, ℕ, ◌+◌, ◌<◌, ◌≤◌, ◌^◌, true, false, List, [], ◌∷◌, ◌++◌, length, Result, Ok, Err, refl, ap, sym, subst, ◌∙◌, append_assoc, append-nil, length-append}
use Rattle.std.proofs.lemmas.List.{append_cancel_left}
use Rattle.std.specs.List.{AllByRecursion}
use Rattle.desk_values.specs.declared.capture.Captured.{Captured}
use Rattle.desk_values.specs.Good.{MayTell}
use Rattle.desk_values.specs.Room.{Room}
use Rattle.file_lines.specs.declared.reader.FormErr.{FormErr}
use Rattle.file_lines.specs.declared.reader.FormErr.TheVariants.{Bad, Memory}
use Rattle.file_lines.specs.File.{IsFile, Says, ReadsFile}
use Rattle.file_lines.specs.Form.{Comes, text_of}
use Rattle.file_lines.proofs.Files.{once}
use Rattle.file_lines.proofs.Forms.{AreLines, IsSound, state_after, file_has_lines, lines_are_file, says_one}
use Rattle.capture_format.specs.declared.session_line.CallLine.{CallLine}
use Rattle.capture_format.specs.declared.session_line.SessionLine.{SessionLine}
use Rattle.capture_format.specs.declared.session_line.SessionLine.TheVariants.{Head, Call, End}
use Rattle.capture_format.specs.declared.session.Stage.{Stage}
use Rattle.capture_format.specs.declared.session.Stage.TheVariants.{Empty, Headed, Ended}
use Rattle.capture_format.specs.SessionView.{SessionView}
use Rattle.capture_format.specs.SessionFile.{IsCallLine, captured_of, line_of, last_lines, MayCome, with_line, new_view, is_last, is_ended, session_form, session_line_text, IsCallAt, AreCallsFrom, MayTellAll, IsBadSession, IsSessionFile}
use Rattle.capture_format.proofs.SessionTexts.{lacks}
use Rattle.capture_format.proofs.Texts.{session_reader}

open_stage : (stage : Stage) (other : Stage) → is_last other ≡ false → stage ≡ other → is_last stage ≡ false
open_stage stage other is same = ap is_last same ∙ is

unended : (s : SessionView) (line : SessionLine) → MayCome s line → is_ended s ≡ false
unended s (Head version number) may = open_stage s.stage Empty refl may.0
unended s (Call line) may = open_stage s.stage Headed refl may.0
unended s End may = open_stage s.stage Headed refl may

sound : IsSound session_form is_ended
sound = record { lacks = lacks; unended = unended }

abbrev AllFit : List Captured → Type 0
AllFit calls = AllByRecursion (λ call. IsCallLine (line_of call)) calls

-- these calls are what lines add to a state
record Adds (s : SessionView) (lines : List SessionLine) (more : List Captured) : Type 0 where
  lines_are : lines ≡ last_lines more
  calls_are : AreCallsFrom s.session (length s.calls) s.least more
  told : MayTellAll s.version more
  fit : AllFit more
  calls : (state_after session_form s lines).calls ≡ s.calls ++ more

adds_call : (s : SessionView) (line : CallLine) (lines : List SessionLine) (more : List Captured) → IsCallLine line → s.least ≤ line.stamp → MayTell s.version line.reply → Adds (with_line s (Call line)) lines more → Adds s (Call line ∷ lines) (captured_of s.session (length s.calls) line ∷ more)
adds_call s line lines more fits over told rest =
    let call = captured_of s.session (length s.calls) line in
    let place : length (s.calls ++ call ∷ []) ≡ length s.calls + 1 = length-append s.calls (call ∷ []) in
    record {
      lines_are = ap (λ (ls : List SessionLine). Call line ∷ ls) rest.lines_are;
      calls_are = (record { session_is = refl; place_is = refl; stamp = over; began = fits.began; ended = fits.ended; reply = fits.reply }, subst (λ (n : ℕ). AreCallsFrom s.session n (line.stamp + 1) more) place rest.calls_are);
      told = (told, rest.told);
      fit = (fits, rest.fit);
      calls = rest.calls ∙ append_assoc s.calls (call ∷ []) more;
    }

nothing_after : (s : SessionView) (lines : List SessionLine) → s.stage ≡ Ended → AreLines session_form s lines → lines ≡ []
nothing_after s [] stage are = refl
nothing_after s (line ∷ lines) stage are = absurd (let never = sym (unended s line are.1) ∙ ap is_last stage in cc)

calls_of : (s : SessionView) (lines : List SessionLine) → s.stage ≡ Headed → AreLines session_form s lines → is_ended (state_after session_form s lines) ≡ true → (more : List Captured) × Adds s lines more
calls_of s [] stage are ended = absurd (let never = sym (ap is_last stage) ∙ ended in cc)
calls_of s (Head version number ∷ lines) stage are ended = absurd (let never : Headed ≡ Empty = sym stage ∙ are.1.0 in cc)
calls_of s (Call line ∷ lines) stage are ended =
    let rest = calls_of (with_line s (Call line)) lines stage are.2 ended in
    (captured_of s.session (length s.calls) line ∷ rest.0, adds_call s line lines rest.0 are.0 are.1.1 are.1.2 rest.1)
calls_of s (End ∷ lines) stage are ended =
    let none = nothing_after (with_line s End) lines refl are.2 in
    ([], record { lines_are = ap (λ (ls : List SessionLine). End ∷ ls) none; calls_are = tt; told = tt; fit = tt; calls = ap (λ (ls : List SessionLine). (state_after session_form (with_line s End) ls).calls) none ∙ sym (append-nil s.calls) })

all_of : (session version : ℕ) (lines : List SessionLine) → AreLines session_form (new_view session version) lines → is_ended (state_after session_form (new_view session version) lines) ≡ true → (more : List Captured) × (lines ≡ Head version session ∷ last_lines more) × AreCallsFrom session 0 0 more × MayTellAll version more × AllFit more × ((state_after session_form (new_view session version) lines).calls ≡ more)
all_of session version [] are ended = absurd (let never = ended in cc)
all_of session version (Head other number ∷ lines) are ended =
    let found = calls_of (with_line (new_view session version) (Head other number)) lines refl are.2 ended in
    (found.0, ap (λ (v : ℕ). Head v number ∷ lines) are.1.1 ∙ ap (λ (n : ℕ). Head version n ∷ lines) are.1.2 ∙ ap (λ (ls : List SessionLine). Head version session ∷ ls) found.1.lines_are, found.1.calls_are, found.1.told, found.1.fit, found.1.calls)
all_of session version (Call line ∷ lines) are ended = absurd (let never : Empty ≡ Headed = are.1.0 in cc)
all_of session version (End ∷ lines) are ended = absurd (let never : Empty ≡ Headed = are.1 in cc)

-- what was read is the file of the calls
pub file_read : (session version : ℕ) (bytes : List ℕ) (t : SessionView) → IsFile (Comes session_form) is_ended (new_view session version) bytes t → IsSessionFile session version bytes t.calls
file_read session version bytes t is =
    let has = file_has_lines session_form is_ended (new_view session version) bytes t is in
    let found = all_of session version has.lines has.are (sym (ap is_ended has.leads) ∙ is.ended) in
    subst (IsSessionFile session version bytes) (sym (ap (λ (s : SessionView). s.calls) has.leads ∙ found.5)) (record { calls_are = found.2; told = found.3; fit = found.4; text = has.text ∙ ap (text_of session_form) found.1 })

-- ---- and back

same_call : (session place least : ℕ) (call : Captured) → IsCallAt session place least call → captured_of session place (line_of call) ≡ call
same_call session place least call is = ap (λ (s : ℕ). captured_of s place (line_of call)) (sym is.session_is) ∙ ap (λ (p : ℕ). captured_of call.session p (line_of call)) (sym is.place_is)

record LeadsTo (s : SessionView) (calls : List Captured) : Type 0 where
  are : AreLines session_form s (last_lines calls)
  holds : (state_after session_form s (last_lines calls)).calls ≡ s.calls ++ calls
  ended : is_ended (state_after session_form s (last_lines calls)) ≡ true

leads_to : (s : SessionView) (calls : List Captured) → s.stage ≡ Headed → AreCallsFrom s.session (length s.calls) s.least calls → MayTellAll s.version calls → AllFit calls → LeadsTo s calls
leads_to s [] stage are told fit = record { are = (tt, stage, tt); holds = sym (append-nil s.calls); ended = refl }
leads_to s (call ∷ calls) stage are told fit =
    let next = with_line s (Call (line_of call)) in
    let made = captured_of s.session (length s.calls) (line_of call) in
    let same : made ≡ call = same_call s.session (length s.calls) s.least call are.0 in
    let rest = leads_to next calls stage (subst (λ (n : ℕ). AreCallsFrom s.session n (call.stamp + 1) calls) (sym (length-append s.calls (made ∷ []))) are.1) told.1 fit.1 in
    record { are = (fit.0, (stage, are.0.stamp, told.0), rest.are); holds = rest.holds ∙ append_assoc s.calls (made ∷ []) calls ∙ ap (λ (c : Captured). s.calls ++ c ∷ calls) same; ended = rest.ended }

-- the file of calls is read so
pub read_file : (session version : ℕ) (bytes : List ℕ) (calls : List Captured) → session < 2 ^ 32 → version < 2 ^ 32 → IsSessionFile session version bytes calls → (t : SessionView) × IsFile (Comes session_form) is_ended (new_view session version) bytes t × (t.calls ≡ calls)
read_file session version bytes calls small few is =
    let s = new_view session version in
    let lines = Head version session ∷ last_lines calls in
    let led = leads_to (with_line s (Head version session)) calls refl is.calls_are is.told is.fit in
    let t = state_after session_form s lines in
    (t, subst (λ (b : List ℕ). IsFile (Comes session_form) is_ended s b t) (sym is.text) (lines_are_file session_form is_ended sound s lines ((few, small), (refl, refl, refl), led.are) led.ended), led.holds)

abbrev Verdict : Type 0
Verdict = Result SessionView ℕ

abbrev calls_in : Verdict → List Captured
calls_in (Ok s) = s.calls
calls_in (Err n) = []

-- bytes are the file of at most one list of calls: behind the first line they lead to one state
pub one_file : (session version : ℕ) (bytes : List ℕ) (calls others : List Captured) → IsSessionFile session version bytes calls → IsSessionFile session version bytes others → calls ≡ others
one_file session version bytes calls others is also =
    let s = with_line (new_view session version) (Head version session) in
    let led = leads_to s calls refl is.calls_are is.told is.fit in
    let other = leads_to s others refl also.calls_are also.told also.fit in
    let same = append_cancel_left (session_line_text (Head version session) ++ 10 ∷ []) (text_of session_form (last_lines calls)) (text_of session_form (last_lines others)) (sym is.text ∙ also.text) in
    let first = lines_are_file session_form is_ended sound s (last_lines calls) led.are led.ended in
    let second = subst (λ (b : List ℕ). IsFile (Comes session_form) is_ended s b (state_after session_form s (last_lines others))) (sym same) (lines_are_file session_form is_ended sound s (last_lines others) other.are other.ended) in
    let both = once (Comes session_form) is_ended (says_one session_form session_reader) s 1 (text_of session_form (last_lines calls)) (Ok (state_after session_form s (last_lines calls))) (Ok (state_after session_form s (last_lines others))) first second in
    sym led.holds ∙ ap calls_in both ∙ other.holds

-- bytes with a bad line are no file of the session
pub bad_file : (session version : ℕ) (bytes : List ℕ) (n : ℕ) → session < 2 ^ 32 → version < 2 ^ 32 → IsBadSession session version bytes n → (calls : List Captured) → ¬ IsSessionFile session version bytes calls
bad_file session version bytes n small few bad calls is =
    let read = read_file session version bytes calls small few is in
    let both : ◌≡◌ {A = Verdict} (Err n) (Ok read.0) = once (Comes session_form) is_ended (says_one session_form session_reader) (new_view session version) 1 bytes (Err n) (Ok read.0) bad read.1 in
    cc

-- and it is the first of one number alone
pub one_bad : (session version : ℕ) (bytes : List ℕ) (line other : ℕ) → IsBadSession session version bytes line → IsBadSession session version bytes other → line ≡ other
one_bad session version bytes line other bad also =
    let both : ◌≡◌ {A = Verdict} (Err line) (Err other) = once (Comes session_form) is_ended (says_one session_form session_reader) (new_view session version) 1 bytes (Err line) (Err other) bad also in
    cc

pub error_read : (session version : ℕ) (bytes : List ℕ) (error : FormErr) → session < 2 ^ 32 → version < 2 ^ 32 → Says {F = SessionView} (Err error) (λ s. s) (Comes session_form) is_ended (new_view session version) bytes → ReadsFile {X = Room Captured} (Err error) (λ calls. IsSessionFile session version bytes calls.items) (IsBadSession session version bytes)
error_read session version bytes (Bad n) small few bad = (bad, λ calls. bad_file session version bytes n small few bad calls.items)
error_read session version bytes Memory small few says = tt
