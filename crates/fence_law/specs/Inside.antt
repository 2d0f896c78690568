-- How plain reads are found, among the calls before which nothing stood. Words of private clauses; they need not be believed.
use Rattle.std.specs.Prelude.{◌≡◌, ℕ, ◌+◌, ◌<◌, Bool, true, false, ◌&&◌, List, [], ◌∷◌, length}
use Rattle.desk_values.specs.declared.capture.Captured.{Captured}
use Rattle.replay_history.specs.Gap.{IsCallAt}
use Rattle.replay_walk.specs.Walked.{marked_at}
use Rattle.fence_law.specs.Plain.{is_plain_select}

-- the places that are marked, of marks whose first has this place
abbrev pub stamps_in : ℕ → List Bool → List ℕ
stamps_in n [] = []
stamps_in n (true ∷ marks) = n ∷ stamps_in (n + 1) marks
stamps_in n (false ∷ marks) = stamps_in (n + 1) marks

-- of the first n calls those are marked before which nothing stood and whose texts spell plain SELECTs
pub record AreReadMarks (calls : List Captured) (open_calls : List Bool) (n : ℕ) (marks : List Bool) : Type 0 where
  pub count : length marks ≡ n
  pub each : (k : ℕ) (call : Captured) → k < n → IsCallAt calls k call → marked_at marks k ≡ (marked_at open_calls k && is_plain_select call.call)
