-- The files of a capture and of a run have no byte but ASCII, and no `<`.
use Rattle.std.proofs.Common.{ℕ, zero, suc, ◌+◌, ◌<◌, ◌^◌, Bool, true, false, List, [], ◌∷◌, ◌++◌, refl, subst, sym, arith}
use Rattle.std.specs.Prelude.{codes}
use Rattle.std.specs.Fmt.{decimal, signed_decimal}
use Rattle.std.specs.List.{AllByRecursion, flat_map}
use Rattle.desk_values.specs.Text.{call_text, reply_text, values_text}
use Rattle.desk_values.specs.declared.capture.Captured.{Captured}
use Rattle.desk_values.specs.declared.capture.Event.{Event as AnyEvent}
use Rattle.desk_values.specs.declared.capture.Event.TheVariants.{Start, Answer}
use Rattle.desk_schema.specs.Line.{kind_text, line_text, nulls_text}
use Rattle.desk_schema.specs.Schema.{rights_word}
use Rattle.desk_schema.specs.declared.line.ColumnKind.{ColumnKind}
use Rattle.desk_schema.specs.declared.line.ColumnKind.TheVariants as kind
use Rattle.desk_schema.specs.declared.line.StartLine.{StartLine}
use Rattle.desk_schema.specs.declared.line.StartLine.TheVariants as line
use Rattle.desk_schema.specs.declared.schema.Rights.{Rights}
use Rattle.desk_schema.specs.declared.schema.Rights.TheVariants.{ReadWrite, ReadOnly}
use Rattle.file_lines.specs.File.{IsFile}
use Rattle.file_lines.specs.Form.{Comes, Form}
use Rattle.file_lines.proofs.Forms.{AreLines, file_has_lines}
use Rattle.capture_format.specs.SessionFile.{IsCallLine, IsSessionFile, IsSessionLine, call_line_text, number_text, session_form, session_line_text, is_ended, new_view}
use Rattle.capture_format.specs.StartFile.{IsColumnKind, IsStartFile, IsStartLine, start_form, is_ended as is_ended_start}
use Rattle.capture_format.specs.declared.session_line.CallLine.{CallLine}
use Rattle.capture_format.specs.declared.session_line.SessionLine.{SessionLine}
use Rattle.capture_format.specs.declared.session_line.SessionLine.TheVariants as session
use Rattle.capture_format.specs.declared.start.StartFile.{StartFile}
use Rattle.capture_format.proofs.Alphabet.{text_call, text_reply, text_signed, text_values}
use Rattle.capture_format.proofs.SessionFiles.{read_file as session_read}
use Rattle.capture_format.proofs.StartFiles.{read_file as start_read}
use Rattle.desk_schema.specs.State.{nothing}
use Rattle.replay_history.specs.declared.mode.Mode.{Mode}
use Rattle.replay_history.specs.declared.mode.Mode.TheVariants.{Off, Scn, Object, Order, Fence}
use Rattle.replay_history.specs.Texts.{line as whole_line, line_text as differing_text}
use Rattle.replay_history.specs.Class.{class_word}
use Rattle.replay_history.specs.declared.report.Class.{Class}
use Rattle.replay_history.specs.declared.report.Class.TheVariants.{Same, NewError, GoneError, MutatedError, RowsModified, RowsFetched, RowContents, Images, Shape}
use Rattle.replay_history.specs.declared.report.Line.{Line}
use Rattle.replay_history.specs.declared.report.Report.{Report}
use Rattle.replay_report.specs.JournalFile.{IsJournal, IsJournalLine, journal_form, journal_line_text, is_ended as is_ended_journal, new_view as new_journal}
use Rattle.replay_report.specs.declared.journal_line.JournalLine.{JournalLine}
use Rattle.replay_report.specs.declared.journal_line.JournalLine.TheVariants as journal
use Rattle.replay_report.proofs.JournalFiles.{read_file as journal_read}
use Rattle.report_format.specs.ReportFile.{IsReport, IsReportLine, is_ended_report, new_report, report_form, report_line_text}
use Rattle.report_format.specs.declared.line.ReportLine.{ReportLine}
use Rattle.report_format.specs.declared.line.ReportLine.TheVariants as report
use Rattle.report_format.proofs.Files.{read_bytes}
use Rattle.divergence_cause.specs.Cause.{cause_word}
use Rattle.divergence_cause.specs.Text.{cause_line}
use Rattle.divergence_cause.specs.declared.cause.Cause.{Cause}
use Rattle.divergence_cause.specs.declared.cause.Cause.TheVariants.{Timing, Upgrade}
use Rattle.divergence_cause.specs.declared.cause.CauseLine.{CauseLine}
use Rattle.run_files.specs.CausesFile.{AreCausesFor}
use Rattle.run_files.specs.ReadsFile.{AreReads, AreStampsFrom}
use Rattle.replay_page.specs.Quiet.{AreQuiet}
use Rattle.replay_page.proofs.Quiets.{quiet_decimal, quiet_lines, quiet_name, quiet_spaced, quiet_text, quiet_then, quiet_word}

-- ---- any file of lines

fits_of : {S L : Type 0} (form : Form S L) (s : S) (lines : List L) → AreLines form s lines → AllByRecursion form.Fits lines
fits_of form s [] are = tt
fits_of form s (l ∷ lines) are = (are.0, fits_of form (form.added s l) lines are.2)

-- where each line that has a text is so, a file of such lines is
quiet_file : {S L : Type 0} (form : Form S L) (done : S → Bool) → ((l : L) → form.Fits l → AreQuiet (form.text l)) → (s t : S) (bytes : List ℕ) → IsFile (Comes form) done s bytes t → AreQuiet bytes
quiet_file form done quiet s t bytes is =
    let has = file_has_lines form done s bytes t is in
    subst AreQuiet (sym has.text) (quiet_lines form.Fits form.text quiet has.lines (fits_of form s has.lines has.are))

small_number : (n : ℕ) → n < 2 ^ 32 → AreQuiet (decimal n)
small_number n small = quiet_decimal n (omega (arith, small))

-- ---- the start

quiet_rights : (rights : Rights) → AreQuiet (rights_word rights)
quiet_rights ReadWrite = quiet_word (codes "rw") refl
quiet_rights ReadOnly = quiet_word (codes "ro") refl

quiet_nulls : (not_null : Bool) → AreQuiet (nulls_text not_null)
quiet_nulls true = quiet_word (codes "notnull") refl
quiet_nulls false = quiet_word (codes "null") refl

quiet_kind : (k : ColumnKind) → IsColumnKind k → AreQuiet (kind_text k)
quiet_kind (kind.Int low high) fits = quiet_then (codes "int ") _ (quiet_word (codes "int ") refl) (quiet_spaced (signed_decimal low) (signed_decimal high) (quiet_text (signed_decimal low) (text_signed low fits.0)) (quiet_text (signed_decimal high) (text_signed high fits.1)))
quiet_kind (kind.Text most) fits = quiet_then (codes "text ") _ (quiet_word (codes "text ") refl) (small_number most fits)
quiet_kind (kind.Seq name) fits = quiet_then (codes "seq ") _ (quiet_word (codes "seq ") refl) (quiet_name name fits)

quiet_start_line : (l : StartLine) → IsStartLine l → AreQuiet (line_text l)
quiet_start_line (line.Head version) fits = quiet_then (codes "start ") _ (quiet_word (codes "start ") refl) (small_number version fits)
quiet_start_line (line.Level level) fits = quiet_then (codes "level ") _ (quiet_word (codes "level ") refl) (small_number level fits)
quiet_start_line (line.Seq name next) fits = quiet_then (codes "seq ") _ (quiet_word (codes "seq ") refl) (quiet_spaced name (decimal next) (quiet_name name fits.0) (quiet_decimal next fits.1))
quiet_start_line (line.Service name rights) fits = quiet_then (codes "svc ") _ (quiet_word (codes "svc ") refl) (quiet_spaced name (rights_word rights) (quiet_name name fits) (quiet_rights rights))
quiet_start_line (line.Table name) fits = quiet_then (codes "table ") _ (quiet_word (codes "table ") refl) (quiet_name name fits)
quiet_start_line (line.Column name k not_null) fits = quiet_then (codes "col ") _ (quiet_word (codes "col ") refl) (quiet_spaced name (kind_text k ++ 32 ∷ nulls_text not_null) (quiet_name name fits.0) (quiet_spaced (kind_text k) (nulls_text not_null) (quiet_kind k fits.1) (quiet_nulls not_null)))
quiet_start_line (line.Row row table values) fits = quiet_then (codes "row ") _ (quiet_word (codes "row ") refl) (quiet_spaced (decimal row) (decimal table ++ 32 ∷ values_text values) (quiet_decimal row fits.0) (quiet_spaced (decimal table) (values_text values) (small_number table fits.1) (quiet_text (values_text values) (text_values values fits.2))))
quiet_start_line (line.NextRow row) fits = quiet_then (codes "nextrow ") _ (quiet_word (codes "nextrow ") refl) (quiet_decimal row fits)
quiet_start_line (line.Sessions count) fits = quiet_then (codes "sessions ") _ (quiet_word (codes "sessions ") refl) (small_number count fits)
quiet_start_line line.End fits = quiet_word (codes "end") refl

pub quiet_start : (bytes : List ℕ) (file : StartFile) → IsStartFile bytes file → AreQuiet bytes
quiet_start bytes file is = let read = start_read bytes file is in quiet_file start_form is_ended_start quiet_start_line nothing read.0 bytes read.1

-- ---- a session

quiet_number : (n : ℕ) → n < 2 ^ 64 → AreQuiet (number_text n)
quiet_number zero small = quiet_word (45 ∷ []) refl
quiet_number (suc n) small = quiet_decimal (suc n) small

quiet_call_line : (l : CallLine) → IsCallLine l → AreQuiet (call_line_text l)
quiet_call_line l fits =
    let reply : AreQuiet (reply_text l.reply) = quiet_text (reply_text l.reply) (text_reply l.reply fits.reply) in
    let arrow : AreQuiet (62 ∷ 32 ∷ reply_text l.reply) = (record { ascii = omega arith; unmarked = omega arith }, (record { ascii = omega arith; unmarked = omega arith }, reply)) in
    let asked = quiet_spaced (call_text l.call) (62 ∷ 32 ∷ reply_text l.reply) (quiet_text (call_text l.call) (text_call l.call fits.call)) arrow in
    let number = quiet_spaced (number_text l.number) (call_text l.call ++ 32 ∷ 62 ∷ 32 ∷ reply_text l.reply) (quiet_number l.number fits.number) asked in
    quiet_spaced (decimal l.stamp) _ (small_number l.stamp fits.stamp) (quiet_spaced (decimal l.began) _ (quiet_decimal l.began (omega (arith, fits.began))) (quiet_spaced (decimal l.ended) _ (quiet_decimal l.ended (omega (arith, fits.ended))) (quiet_spaced (decimal l.seen) _ (quiet_decimal l.seen fits.seen) number)))

quiet_session_line : (l : SessionLine) → IsSessionLine l → AreQuiet (session_line_text l)
quiet_session_line (session.Head version n) fits = quiet_then (codes "session ") (decimal version ++ 32 ∷ decimal n) (quiet_word (codes "session ") refl) (quiet_spaced (decimal version) (decimal n) (small_number version fits.0) (small_number n fits.1))
quiet_session_line (session.Call l) fits = quiet_call_line l fits
quiet_session_line session.End fits = quiet_word (codes "end") refl

pub quiet_session : (n version : ℕ) (bytes : List ℕ) (calls : List Captured) → n < 2 ^ 32 → version < 2 ^ 32 → IsSessionFile n version bytes calls → AreQuiet bytes
quiet_session n version bytes calls small few is = let read = session_read n version bytes calls small few is in quiet_file session_form is_ended quiet_session_line (new_view n version) read.0 bytes read.1

-- ---- a journal

quiet_mode : (mode : Mode) → AreQuiet (journal_line_text (journal.Head mode))
quiet_mode Off = quiet_word (codes "journal 1 off") refl
quiet_mode Scn = quiet_word (codes "journal 1 scn") refl
quiet_mode Object = quiet_word (codes "journal 1 object") refl
quiet_mode Order = quiet_word (codes "journal 1 order") refl
quiet_mode Fence = quiet_word (codes "journal 1 fence") refl

quiet_journal_line : (l : JournalLine) → IsJournalLine l → AreQuiet (journal_line_text l)
quiet_journal_line (journal.Head mode) fits = quiet_mode mode
quiet_journal_line (journal.Event (Start k pause)) fits = quiet_then (codes "s ") (decimal k ++ 32 ∷ decimal pause) (quiet_word (codes "s ") refl) (quiet_spaced (decimal k) (decimal pause) (small_number k fits.0) (quiet_decimal pause fits.1))
quiet_journal_line (journal.Event (Answer k reply)) fits = quiet_then (codes "a ") (decimal k ++ 32 ∷ reply_text reply) (quiet_word (codes "a ") refl) (quiet_spaced (decimal k) (reply_text reply) (small_number k fits.0) (quiet_text (reply_text reply) (text_reply reply fits.1)))
quiet_journal_line journal.End fits = quiet_word (codes "end") refl

pub quiet_journal : (bytes : List ℕ) (mode : Mode) (events : List AnyEvent) → IsJournal bytes mode events → AreQuiet bytes
quiet_journal bytes mode events is = quiet_file journal_form is_ended_journal quiet_journal_line new_journal _ bytes (journal_read bytes mode events is)

-- ---- a report

quiet_class : (class : Class) → AreQuiet (class_word class)
quiet_class Same = quiet_word (codes "same") refl
quiet_class NewError = quiet_word (codes "new-error") refl
quiet_class GoneError = quiet_word (codes "gone-error") refl
quiet_class MutatedError = quiet_word (codes "mutated-error") refl
quiet_class RowsModified = quiet_word (codes "rows-modified") refl
quiet_class RowsFetched = quiet_word (codes "rows-fetched") refl
quiet_class RowContents = quiet_word (codes "row-contents") refl
quiet_class Images = quiet_word (codes "images") refl
quiet_class Shape = quiet_word (codes "shape") refl

quiet_differing : (l : Line) → IsReportLine (report.Call l) → AreQuiet (differing_text l)
quiet_differing l fits =
    let place = quiet_spaced (decimal l.session) (decimal l.place) (small_number l.session fits.1) (small_number l.place fits.2) in
    quiet_spaced (decimal l.stamp ++ 32 ∷ (decimal l.session ++ 32 ∷ decimal l.place)) (class_word l.class) (quiet_spaced (decimal l.stamp) (decimal l.session ++ 32 ∷ decimal l.place) (small_number l.stamp fits.0) place) (quiet_class l.class)

quiet_report_line : (l : ReportLine) → IsReportLine l → AreQuiet (report_line_text l)
quiet_report_line report.Head fits = quiet_word (codes "report 1") refl
quiet_report_line (report.Calls n) fits = quiet_spaced (codes "calls") (decimal n) (quiet_word (codes "calls") refl) (quiet_decimal n fits)
quiet_report_line (report.Count class n) fits = quiet_spaced (class_word class) (decimal n) (quiet_class class) (quiet_decimal n fits)
quiet_report_line (report.Call l) fits = quiet_differing l fits
quiet_report_line report.End fits = quiet_word (codes "end") refl

pub quiet_report : (bytes : List ℕ) (r : Report) → IsReport bytes r → AreQuiet bytes
quiet_report bytes r is = let read = read_bytes bytes r is in quiet_file report_form is_ended_report quiet_report_line new_report read.after bytes read.file

-- ---- causes and plain reads

quiet_cause : (cause : Cause) → AreQuiet (cause_word cause)
quiet_cause Timing = quiet_word (codes "timing") refl
quiet_cause Upgrade = quiet_word (codes "upgrade") refl

quiet_whole : (text : List ℕ) → AreQuiet text → AreQuiet (whole_line text)
quiet_whole text quiet = quiet_then text (10 ∷ []) quiet (record { ascii = omega arith; unmarked = omega arith }, tt)

quiet_cause_line : (l : CauseLine) → l.stamp < 2 ^ 32 → AreQuiet (cause_line l)
quiet_cause_line l small = quiet_whole (decimal l.stamp ++ 44 ∷ cause_word l.cause) (quiet_then (decimal l.stamp) (44 ∷ cause_word l.cause) (small_number l.stamp small) (record { ascii = omega arith; unmarked = omega arith }, quiet_cause l.cause))

quiet_cause_lines : (causes : List CauseLine) → AllByRecursion (λ (l : CauseLine). l.stamp < 2 ^ 32) causes → AreQuiet (flat_map cause_line causes)
quiet_cause_lines [] fit = tt
quiet_cause_lines (l ∷ causes) fit = quiet_then (cause_line l) (flat_map cause_line causes) (quiet_cause_line l fit.0) (quiet_cause_lines causes fit.1)

pub quiet_causes : (lines : List Line) (bytes : List ℕ) (causes : List CauseLine) → AreCausesFor lines bytes causes → AreQuiet bytes
quiet_causes lines bytes causes are = subst AreQuiet (sym are.text) (quiet_then (whole_line (codes "stamp,cause")) (flat_map cause_line causes) (quiet_whole (codes "stamp,cause") (quiet_word (codes "stamp,cause") refl)) (quiet_cause_lines causes are.fit))

quiet_stamps : (least : ℕ) (stamps : List ℕ) → AreStampsFrom least stamps → AreQuiet (flat_map (λ stamp. whole_line (decimal stamp)) stamps)
quiet_stamps least [] rise = tt
quiet_stamps least (stamp ∷ stamps) rise = quiet_then (whole_line (decimal stamp)) (flat_map (λ other. whole_line (decimal other)) stamps) (quiet_whole (decimal stamp) (small_number stamp rise.1)) (quiet_stamps (stamp + 1) stamps rise.2)

pub quiet_reads : (bytes : List ℕ) (stamps : List ℕ) → AreReads bytes stamps → AreQuiet bytes
quiet_reads bytes stamps are =
    let rest = flat_map (λ stamp. whole_line (decimal stamp)) stamps ++ whole_line (codes "end") in
    subst AreQuiet (sym are.text) (quiet_then (whole_line (codes "fence 1")) rest (quiet_whole (codes "fence 1") (quiet_word (codes "fence 1") refl))
    (quiet_then (flat_map (λ stamp. whole_line (decimal stamp)) stamps) (whole_line (codes "end")) (quiet_stamps 0 stamps are.rise) (quiet_whole (codes "end") (quiet_word (codes "end") refl))))
