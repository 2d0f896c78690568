-- The class of a call: how the replayed reply differs from the captured one, after the map of ids.
use Rattle.std.specs.Prelude.{ℕ, Bool, true, false, not, ◌&&◌, ◌||◌, ◌==◌, List, [], ◌∷◌, length, Option, None, Some}
use Rattle.std.specs.List.{find}
use Rattle.std.specs.Option.{unwrap_or}
use Rattle.desk_values.specs.declared.call.Outcome.{Outcome}
use Rattle.desk_values.specs.declared.call.Outcome.TheVariants.{Rows, Count, Committed, RolledBack, Marked, Connected, Disconnected, Refused}
use Rattle.desk_values.specs.declared.call.Reply.{Reply}
use Rattle.desk_values.specs.Fault.{fault_number}
use Rattle.id_pairs.specs.Pairs.{IdPair}
use Rattle.replay_history.specs.declared.report.Class.{Class}
use Rattle.replay_history.specs.declared.report.Class.TheVariants.{Same, NewError, GoneError, MutatedError, RowsModified, RowsFetched, RowContents, Images, Shape}
use Rattle.replay_history.specs.Class.{class_number}
use Rattle.id_pairs.specs.Carrying.Carried.{carried_images, carried_rows}
use Rattle.divergence.specs.Bags.Equality.{same_bag, same_map}

abbrev pub is_refused : Outcome → Bool
is_refused (Refused fault) = true
is_refused other = false

-- which of the variants it is
abbrev pub variant : Outcome → ℕ
variant (Rows rows) = 0
variant (Count n) = 1
variant (Committed images) = 2
variant RolledBack = 3
variant Marked = 4
variant Connected = 5
variant Disconnected = 6
variant (Refused fault) = 7

-- what holds an id without an image equals nothing
abbrev pub equal_carried : {A : Type 0} → (A → A → Bool) → Option A → A → Bool
equal_carried same None other = false
equal_carried same (Some carried) other = same carried other

-- whether a class's line fits: the captured outcome, then the replayed one
abbrev pub fits : List IdPair → Outcome → Outcome → Class → Bool
fits pairs captured replayed NewError = not (is_refused captured) && is_refused replayed
fits pairs captured replayed GoneError = is_refused captured && not (is_refused replayed)
fits pairs (Refused fault) (Refused other) MutatedError = not (fault_number fault == fault_number other)
fits pairs (Count n) (Count other) RowsModified = not (n == other)
fits pairs (Rows rows) (Rows others) RowsFetched = not (length rows == length others)
fits pairs (Rows rows) (Rows others) RowContents = not (equal_carried same_bag (carried_rows pairs rows) others)
fits pairs (Committed images) (Committed others) Images = not (equal_carried same_map (carried_images pairs images) others)
fits pairs captured replayed Shape = not (variant captured == variant replayed)
fits pairs captured replayed Same = true
fits pairs captured replayed class = false

-- the lines, of which the first that fits gives the class
abbrev pub lines : List Class
lines = NewError ∷ GoneError ∷ MutatedError ∷ RowsModified ∷ RowsFetched ∷ RowContents ∷ Images ∷ Shape ∷ []

-- where none fits, the outcomes are the same. Draws and made rows are not compared
abbrev pub class_between : List IdPair → Reply → Reply → Class
class_between pairs captured replayed = unwrap_or (find (fits pairs captured.outcome replayed.outcome) lines) Same

-- ---- what the class alone does not tell

-- it holds rows or images, whose comparison takes memory
abbrev pub holds_list : Outcome → Bool
holds_list (Rows rows) = true
holds_list (Committed images) = true
holds_list other = false

abbrev pub is_committed : Outcome → Bool
is_committed (Committed images) = true
is_committed other = false

-- a call that differs, and writes in the capture or in the replay
abbrev pub is_write_divergence : List IdPair → Reply → Reply → Bool
is_write_divergence pairs captured replayed = not (class_number (class_between pairs captured replayed) == class_number Same)
    && (is_committed captured.outcome || is_committed replayed.outcome)
