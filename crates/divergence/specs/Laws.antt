-- What a class tells, in words of its own.
use Rattle.std.specs.Prelude.{◌≡◌, ◌↔◌, ℕ, false, true, not, ◌==◌, List, ◌++◌, Some}
use Rattle.std.specs.List.{AllByRecursion, take_while}
use Rattle.std.specs.List.Sorted.{IsPermutation}
use Rattle.desk_values.specs.declared.value.Value.{Value}
use Rattle.desk_values.specs.declared.value.Image.{Image}
use Rattle.desk_values.specs.declared.fault.Fault.{Fault}
use Rattle.desk_values.specs.declared.call.Outcome.{Outcome}
use Rattle.desk_values.specs.declared.call.Outcome.TheVariants.{Rows, Count, Committed, RolledBack, Marked, Connected, Disconnected, Refused}
use Rattle.desk_values.specs.declared.call.Reply.{Reply}
use Rattle.id_pairs.specs.Pairs.{IdPair}
use Rattle.replay_history.specs.declared.report.Class.{Class}
use Rattle.replay_history.specs.declared.report.Class.TheVariants.{Same}
use Rattle.replay_history.specs.Class.{class_number}
use Rattle.id_pairs.specs.Carrying.Carried.{carried_images, carried_rows}
use Rattle.divergence.specs.Bags.Laws.{AreSameMaps}
use Rattle.divergence.specs.Class.{class_between, fits, lines}

-- equal outcomes, with each captured id replaced by its image: rows in whatever order, images as maps, counts and faults as
-- they are
pub data IsSameOutcome (pairs : List IdPair) : Outcome → Outcome → Type 0 where
  rows : (found carried others : List (List Value)) → carried_rows pairs found ≡ Some carried
      → IsPermutation carried others → IsSameOutcome pairs (Rows found) (Rows others)
  count : (n : ℕ) → IsSameOutcome pairs (Count n) (Count n)
  committed : (images carried others : List Image) → carried_images pairs images ≡ Some carried
      → AreSameMaps carried others → IsSameOutcome pairs (Committed images) (Committed others)
  rolled_back : IsSameOutcome pairs RolledBack RolledBack
  marked : IsSameOutcome pairs Marked Marked
  connected : IsSameOutcome pairs Connected Connected
  disconnected : IsSameOutcome pairs Disconnected Disconnected
  refused : (fault : Fault) → IsSameOutcome pairs (Refused fault) (Refused fault)

-- the class is Same exactly where the outcomes are equal
abbrev pub SameWhereEqual : Type 0
SameWhereEqual = (pairs : List IdPair) (captured replayed : Reply)
    → (class_between pairs captured replayed ≡ Same) ↔ IsSameOutcome pairs captured.outcome replayed.outcome

-- the lines above that of a class; all of them, for Same
abbrev pub lines_above : Class → List Class
lines_above class = take_while (λ line. not (class_number line == class_number class)) lines

-- the line of the class fits, and none above it
abbrev pub ClassesByPlace : Type 0
ClassesByPlace = (pairs : List IdPair) (captured replayed : Reply) → let class = class_between pairs captured replayed in
    (fits pairs captured.outcome replayed.outcome class ≡ true)
    × AllByRecursion (λ line. fits pairs captured.outcome replayed.outcome line ≡ false) (lines_above class)

-- pairs that are learnt later part nothing that was the same
abbrev pub LongerMapsKeepSame : Type 0
LongerMapsKeepSame = (pairs more : List IdPair) (captured replayed : Reply)
    → class_between pairs captured replayed ≡ Same → class_between (pairs ++ more) captured replayed ≡ Same
