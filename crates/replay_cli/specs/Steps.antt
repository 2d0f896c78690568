-- The steps of a command: what each comes to by the files alone.
use Rattle.std.specs.Prelude.{◌≡◌, ℕ, ◌+◌, ◌-◌, ◌⊎◌, nat_lt, if◌then◌else◌, List, [], ◌∷◌, length, Option, None, Some, Result, Ok, Err}
use Rattle.std.specs.FinMap.{get}
use Rattle.desk_files.specs.Outside.{FileMap}
use Rattle.desk_files.specs.Limits.{file_limit}
use Rattle.replay_cli.specs.declared.failure.Refusal.{Refusal}
use Rattle.replay_cli.specs.declared.failure.Refusal.TheVariants.{Missing, TooLong}

-- ---- a decision list: the first step that refuses decides

-- just this answer
abbrev pub Is : {X : Type 0} → Result X Refusal → Result X Refusal → Type 0
Is answer other = answer ≡ other

-- one step and then the next, which sees what the first gave
abbrev pub Then : {X Y : Type 0} → (Result X Refusal → Type 0) → (X → Result Y Refusal → Type 0) → Result Y Refusal → Type 0
Then {X = X} first next (Ok y) = (x : X) × first (Ok x) × next x (Ok y)
Then {X = X} first next (Err refusal) = first (Err refusal) ⊎ ((x : X) × first (Ok x) × next x (Err refusal))

-- ---- reading

abbrev pub file_of : Option (List ℕ) → ℕ → List ℕ → Result (List ℕ) Refusal
file_of None room name = Err (Missing name)
file_of (Some bytes) room name = if nat_lt file_limit (length bytes) then Err (TooLong name) else if nat_lt room (length bytes) then Err (TooLong name) else Ok bytes

-- the bytes of a file, where at most `room` of them are taken
abbrev pub file_in : FileMap → ℕ → List ℕ → Result (List ℕ) Refusal
file_in files room name = file_of (get files name) room name

-- the files of these names, each as it is read at its place under its name, where they have at most `room` bytes together
abbrev pub Reading : {X : Type 0} → (ℕ → List ℕ → List ℕ → Result X Refusal → Type 0) → FileMap → ℕ → ℕ → List (List ℕ) → Result (List X) Refusal → Type 0
Reading parsed files room place [] answer = Is (Ok []) answer
Reading parsed files room place (name ∷ names) answer =
    Then (Is (file_in files room name)) (λ bytes. Then (parsed place name bytes) (λ item. Then (Reading parsed files (room - length bytes) (place + 1) names) (λ items. Is (Ok (item ∷ items))))) answer
