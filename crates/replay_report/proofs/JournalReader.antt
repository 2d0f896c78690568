-- What is read of a line of a journal is spelled so, and what is spelled so is read.
use Rattle.std.proofs.Common.{◌≡◌, ℕ, ◌<◌, ◌^◌, List, ◌∷◌, ◌++◌, Some, None, refl, sym, arith, lit≤}
use Rattle.std.specs.Prelude.{codes}
use Rattle.std.specs.Fmt.{decimal}
use Rattle.desk_values.specs.declared.capture.Event.TheVariants.{Start, Answer}
use Rattle.desk_values.specs.Fields.{Lacks}
use Rattle.desk_values.specs.Reading.{number_below}
use Rattle.desk_values.proofs.Readers.{IsReader}
use Rattle.desk_values.proofs.Numbers.{numbers, numbers_below}
use Rattle.desk_values.proofs.Words.{member_with_word_law}
use Rattle.capture_format.proofs.Fields.{two_reader, by_word, one_text, no_word, worded}
use Rattle.capture_format.proofs.ReplyTexts.{reply_reader}
use Rattle.capture_format.proofs.StartReader.{small_space}
use Rattle.replay_history.specs.Mode.{mode_of, mode_word, all_modes, modes_have_own_words}
use Rattle.replay_report.specs.declared.journal_line.JournalLine.{JournalLine}
use Rattle.replay_report.specs.declared.journal_line.JournalLine.TheVariants.{Head, Event, End}
use Rattle.replay_report.specs.JournalFile.{IsJournalLine, journal_line_text}
use Rattle.replay_report.specs.Inside.JournalReading.{version_of, line_behind, worded_of, journal_line_of}

stamps : IsReader (number_below (2 ^ 32)) (λ n. n < 2 ^ 32) decimal
stamps = numbers_below (2 ^ 32) (lit≤ tt)

modes : IsReader mode_of (λ m. Unit {0}) mode_word
modes = record {
  takes = λ bytes m e. (tt, sym ((member_with_word_law mode_word all_modes modes_have_own_words bytes m).0 e));
  again = λ m fits. modes_have_own_words m;
}

abbrev version_text : Unit {0} → List ℕ
version_text one = codes "1"

versions : IsReader version_of (λ v. Unit {0}) version_text
unfolding version_of
versions = record {
  takes = λ bytes v e. (tt, one_text bytes (codes "1") tt None (λ x. bytes ≡ version_text x) v (λ is. is) (no_word (bytes ≡ codes "1") v) e);
  again = λ v fits. refl;
}

version_space : (v : Unit {0}) → Unit {0} → Lacks 32 (version_text v)
version_space v fits = (λ same. absurd (omega arith), tt)

line_taken : (word rest : List ℕ) (l : JournalLine) → line_behind word rest ≡ Some l → IsJournalLine l × (word ++ 32 ∷ rest ≡ journal_line_text l)
unfolding line_behind
line_taken word rest l =
    by_word IsJournalLine journal_line_text (codes "journal") (λ p. Head p.1) (two_reader 32 versions modes version_space) (λ p fits. (tt, refl)) word rest l _
    (by_word IsJournalLine journal_line_text (codes "s") (λ p. Event (Start p.0 p.1)) (two_reader 32 stamps numbers small_space) (λ p fits. (fits, refl)) word rest l _
    (by_word IsJournalLine journal_line_text (codes "a") (λ p. Event (Answer p.0 p.1)) (two_reader 32 stamps reply_reader small_space) (λ p fits. (fits, refl)) word rest l None (no_word _ l)))

takes : (bytes : List ℕ) (l : JournalLine) → journal_line_of bytes ≡ Some l → IsJournalLine l × (bytes ≡ journal_line_text l)
unfolding journal_line_of worded_of
takes bytes l = one_text bytes (codes "end") End _ (λ x. IsJournalLine x × (bytes ≡ journal_line_text x)) l (λ is. (tt, is)) (worded IsJournalLine journal_line_text line_behind line_taken bytes l)

again : (l : JournalLine) → IsJournalLine l → journal_line_of (journal_line_text l) ≡ Some l
unfolding journal_line_of worded_of line_behind
again (Head mode) fits = rw ((two_reader 32 versions modes version_space).again (tt, mode) (tt, tt)) refl
again (Event (Start k pause)) fits = rw ((two_reader 32 stamps numbers small_space).again (k, pause) fits) refl
again (Event (Answer k reply)) fits = rw ((two_reader 32 stamps reply_reader small_space).again (k, reply) fits) refl
again End fits = refl

pub journal_lines : IsReader journal_line_of IsJournalLine journal_line_text
journal_lines = record { takes = takes; again = again }
