-- What is judged of suspects. Words of private clauses; they need not be believed.
use Rattle.std.specs.Prelude.{◌≡◌, ◌⊎◌, ℕ, ◌+◌, ◌≤◌, true, nat_le, if◌then◌else◌, List, length, slice_get, take, Option, None, Some}
use Rattle.std.specs.List.{AllByRecursion}
use Rattle.desk_values.specs.declared.value.Image.{Image}
use Rattle.row_versions.specs.History.{Written}
use Rattle.id_pairs.specs.Pairs.{IdPair}
use Rattle.law_server.specs.Rows.Images.{IsRenamedImage}
use Rattle.law_server.specs.Renaming.Twins.{IsRenamedRow}
use Rattle.twin_tables.specs.declared.differences.Differences.{Differences}
use Rattle.twin_tables.specs.declared.judging.Suspect.{Suspect}
use Rattle.twin_tables.specs.declared.judging.Suspect.TheVariants.{Captured, Replayed}
use Rattle.twin_tables.specs.declared.judging.Verdict.{Verdict}
use Rattle.twin_tables.specs.declared.judging.Verdict.TheVariants.{Agrees, Covered, Apart}
use Rattle.twin_tables.specs.declared.ledger.Change.{Change}
use Rattle.twin_tables.specs.Differences.{AgreeBeside, Both, HasBegun, HasTwin, IsTwin, is_changed}

-- both are gone, or the second is the first but for ids
abbrev pub AreTwinImages : List IdPair → Option Image → Option Image → Type 0
AreTwinImages pairs None None = Unit {0}
AreTwinImages pairs (Some image) (Some other) = IsRenamedImage pairs image other
AreTwinImages pairs image other = ⊥

-- the captured row has its twin, and the one that stands for it is a twin
abbrev pub CapturedAgrees : Both → ℕ → Type 0
CapturedAgrees both row = HasTwin both row × ((other : ℕ) → IsRenamedRow both.pairs row other → IsTwin both other)

-- the replayed row is a twin, and the one for which it stands has it
abbrev pub ReplayedAgrees : Both → ℕ → Type 0
ReplayedAgrees both row = IsTwin both row × ((captured : ℕ) → IsRenamedRow both.pairs captured row → HasTwin both captured)

-- what a verdict on a row says
abbrev pub IsJudgedCaptured : Both → ℕ → List Image → List Image → ℕ → Verdict → Type 0
IsJudgedCaptured both table own others row Agrees = CapturedAgrees both row
IsJudgedCaptured both table own others row Covered = is_changed own table row ≡ true
IsJudgedCaptured both table own others row Apart = ¬ AgreeBeside both table own others

abbrev pub IsJudgedReplayed : Both → ℕ → List Image → List Image → ℕ → Verdict → Type 0
IsJudgedReplayed both table own others row Agrees = ReplayedAgrees both row
IsJudgedReplayed both table own others row Covered = is_changed others table row ≡ true
IsJudgedReplayed both table own others row Apart = ¬ AgreeBeside both table own others

abbrev pub IsJudged : Both → ℕ → List Image → List Image → Suspect → Verdict → Type 0
IsJudged both table own others (Captured row) verdict = IsJudgedCaptured both table own others row verdict
IsJudged both table own others (Replayed row) verdict = IsJudgedReplayed both table own others row verdict

-- a change of the session lies over the suspect
abbrev pub IsCovered : ℕ → List Image → List Image → Suspect → Type 0
IsCovered table own others (Captured row) = is_changed own table row ≡ true
IsCovered table own others (Replayed row) = is_changed others table row ≡ true

abbrev pub AreCovered : ℕ → List Image → List Image → List Suspect → Type 0
AreCovered table own others kept = AllByRecursion (IsCovered table own others) kept

-- ---- going on

-- it stands as it did, at no later commits than these, or it began anew
abbrev pub BeginsBefore : ℕ → ℕ → Differences → Differences → Type 0
BeginsBefore captured_at replayed_at old new = HasBegun 0 0 new ⊎ ((new ≡ old) × (old.captured_at ≤ captured_at) × (old.replayed_at ≤ replayed_at))

-- it stands at the same commits
pub record StandsAs (old new : Differences) : Type 0 where
  pub captured_at : new.captured_at ≡ old.captured_at
  pub replayed_at : new.replayed_at ≡ old.replayed_at

-- one that is kept at a place was judged and is not apart: the next stands at this place, and those before that are covered if those before it were
pub record IsJudgedOn (table : ℕ) (own others : List Image) (at place : ℕ) (old new : Differences) : Type 0 where
  pub covered : AreCovered table own others (take at old.kept.items) → AreCovered table own others (take place new.kept.items)
  pub within : place ≤ length new.kept.items
  pub nearer : length new.kept.items + at + 1 ≤ length old.kept.items + place

-- the row that a change wrote, where it is by a commit up to this one
abbrev pub row_due : ℕ → Change → Option ℕ
row_due number change = if nat_le change.number number then Some change.row else None

abbrev pub next_due : ℕ → Option Change → Option ℕ
next_due number None = None
next_due number (Some change) = row_due number change

-- at this place this row was written, by a commit up to this one
abbrev pub IsNextOf : List Written → ℕ → ℕ → ℕ → Type 0
IsNextOf list place number row = (w : Written) × (slice_get list place ≡ Some w) × (w.image.row ≡ row) × (w.number ≤ number)
