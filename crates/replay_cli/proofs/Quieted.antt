-- What a run left has no byte that a page may not have, and what is shown has facts of each call.
use Rattle.std.proofs.Common.{◌≡◌, ◌∙◌, ℕ, List, [], ◌∷◌, ◌++◌, Option, None, Some, Err, refl, ap, append_assoc}
use Rattle.std.specs.Prelude.{IfSome, codes}
use Rattle.std.specs.List.{AllByRecursion}
use Rattle.desk_values.specs.declared.capture.Event.{Event}
use Rattle.capture_format.proofs.Cuts.{all_append}
use Rattle.divergence_cause.specs.declared.cause.CauseLine.{CauseLine}
use Rattle.file_lines.specs.File.{ReadsFile}
use Rattle.file_lines.specs.declared.reader.FormErr.TheVariants.{Bad}
use Rattle.replay_history.specs.declared.mode.Mode.{Mode}
use Rattle.replay_history.specs.declared.report.Report.{Report}
use Rattle.replay_report.specs.JournalFile.{IsBadJournal, IsJournal}
use Rattle.replay_report.specs.declared.journal.Journal.{Journal}
use Rattle.replay_page.specs.declared.page.NamedText.{NamedText}
use Rattle.replay_page.specs.Data.{IsQuietFile}
use Rattle.replay_page.specs.Quiet.{AreQuiet}
use Rattle.replay_page.proofs.Quiets.{quiet_word}
use Rattle.replay_cli.specs.declared.failure.Refusal.TheVariants.{Unshown}
use Rattle.replay_cli.specs.declared.unshown.Unshown.TheVariants as unshown
use Rattle.replay_cli.specs.Decision.{Filed, JournalOf, left_of, perhaps_named}

quiet_perhaps : {X : Type 0} (name : List ℕ) (filed : Option (Filed X)) → AreQuiet name → IfSome filed (λ (one : Filed X). AreQuiet one.0) → AllByRecursion IsQuietFile (perhaps_named name filed)
quiet_perhaps name None quiet is = tt
quiet_perhaps name (Some filed) quiet is = (record { name = quiet; bytes = is }, tt)

pub quiet_left : (journal : Filed (Mode × List Event)) (report : Filed Report) (causes : Option (Filed (List CauseLine))) (reads : Option (Filed (List ℕ)))
    → AreQuiet journal.0 → AreQuiet report.0 → IfSome causes (λ (one : Filed (List CauseLine)). AreQuiet one.0) → IfSome reads (λ (one : Filed (List ℕ)). AreQuiet one.0)
    → AllByRecursion IsQuietFile (left_of journal report causes reads).files
quiet_left journal report causes reads first second third fourth =
    let last : List NamedText = record { name = codes "journal.txt"; bytes = journal.0 } ∷ record { name = codes "report.txt"; bytes = report.0 } ∷ [] in
    all_append IsQuietFile (perhaps_named (codes "causes.csv") causes) (perhaps_named (codes "fence.txt") reads ++ last) (quiet_perhaps (codes "causes.csv") causes (quiet_word (codes "causes.csv") refl) third)
    (all_append IsQuietFile (perhaps_named (codes "fence.txt") reads) last (quiet_perhaps (codes "fence.txt") reads (quiet_word (codes "fence.txt") refl) fourth)
    (record { name = quiet_word (codes "journal.txt") refl; bytes = first }, (record { name = quiet_word (codes "report.txt") refl; bytes = second }, tt)))

-- the files one behind the other
pub files_told : (causes reads : List NamedText) (journal report : NamedText) → (((([] ++ causes) ++ reads) ++ journal ∷ []) ++ report ∷ []) ≡ causes ++ (reads ++ (journal ∷ report ∷ []))
files_told causes reads journal report = append_assoc (causes ++ reads) (journal ∷ []) (report ∷ []) ∙ append_assoc causes reads (journal ∷ report ∷ [])

pub four_added : (a0 a1 a2 a3 a4 causes reads : List NamedText) (journal report : NamedText) → a0 ≡ [] → a1 ≡ a0 ++ causes → a2 ≡ a1 ++ reads → a3 ≡ a2 ++ journal ∷ [] → a4 ≡ a3 ++ report ∷ []
    → a4 ≡ causes ++ (reads ++ (journal ∷ report ∷ []))
four_added a0 a1 a2 a3 a4 causes reads journal report none first second third fourth = rw (fourth, third, second, first, none) (files_told causes reads journal report)

-- the first bad line of a journal
pub bad_journal_file : (name copy bytes : List ℕ) (line : ℕ) → ReadsFile {X = Journal} (Err (Bad line)) (λ journal. IsJournal bytes journal.mode journal.history.items) (IsBadJournal bytes) → copy ≡ name → JournalOf name bytes (Err (Unshown (unshown.BadJournal copy line)))
bad_journal_file name copy bytes line reads same = (line, (reads.0, λ journal. reads.1 (record { mode = journal.0; history = record { items = journal.1; spare = 0 } })), ap (λ (n : List ℕ). Unshown (unshown.BadJournal n line)) same)
