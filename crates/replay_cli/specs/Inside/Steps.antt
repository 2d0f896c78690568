-- What one step of a command answers, and what it leaves.
use Rattle.std.specs.Prelude.{◌≡◌, ℕ, ◌<◌, ◌≤◌, List, length, slice_index_or, Option, Result, Ok, Err, ⊤}
use Rattle.desk_files.specs.Outside.{FileMap, HasRisen, Told}
use Rattle.replay_cli.specs.declared.failure.Refusal.{Refusal}
use Rattle.replay_cli.specs.declared.failure.Failure.{Failure}
use Rattle.replay_cli.specs.declared.failure.Failure.TheVariants.{BadCommand, Refused, Differs, NotDone, NotSent, DeviceFault, OutOfMemory}
use Rattle.replay_cli.specs.declared.failure.Refusal.TheVariants.{Missing, TooLong, BadLine}
use Rattle.replay_cli.specs.Decision.{IsBadOfSome}

-- a failure of words that are a command: a refusal such as these, or a device failed or memory was short
abbrev pub MayFail : (Refusal → Type 0) → Failure → Type 0
MayFail may BadCommand = ⊥
MayFail may (Refused refusal) = may refusal
MayFail may (Differs finding) = ⊥
MayFail may (NotDone cause) = ⊥
MayFail may (NotSent cause) = ⊥
MayFail may DeviceFault = Unit {0}
MayFail may OutOfMemory = Unit {0}

-- the failure is this step's; a fault and want of memory say nothing of it
abbrev pub Stops : {X : Type 0} → (Result X Refusal → Type 0) → Failure → Type 0
Stops want BadCommand = ⊥
Stops want (Refused refusal) = want (Err refusal)
Stops want (Differs finding) = ⊥
Stops want (NotDone cause) = ⊥
Stops want (NotSent cause) = ⊥
Stops want DeviceFault = ⊤
Stops want OutOfMemory = ⊤

-- the answer is one of these, or a fault or want of memory
abbrev pub Answered : {X : Type 0} → (Result X Refusal → Type 0) → Result X Failure → Type 0
Answered want (Ok x) = want (Ok x)
Answered want (Err failure) = Stops want failure

-- the count rose at a fault, and stands otherwise
abbrev pub FailedAt : Failure → ℕ → ℕ → Type 0
FailedAt BadCommand before after = ⊥
FailedAt (Refused refusal) before after = after ≡ before
FailedAt (Differs finding) before after = ⊥
FailedAt (NotDone cause) before after = ⊥
FailedAt (NotSent cause) before after = ⊥
FailedAt DeviceFault before after = HasRisen before after × (before ≤ after)
FailedAt OutOfMemory before after = after ≡ before

abbrev pub Faults : {X : Type 0} → Result X Failure → ℕ → ℕ → Type 0
Faults (Ok x) before after = after ≡ before
Faults (Err failure) before after = FailedAt failure before after

-- no fault: what touches no device
abbrev pub FaultFree : {X : Type 0} → Result X Failure → Type 0
FaultFree (Ok x) = ⊤
FaultFree (Err BadCommand) = ⊥
FaultFree (Err (Refused refusal)) = ⊤
FaultFree (Err (Differs finding)) = ⊥
FaultFree (Err (NotDone cause)) = ⊥
FaultFree (Err (NotSent cause)) = ⊥
FaultFree (Err DeviceFault) = ⊥
FaultFree (Err OutOfMemory) = ⊤

-- an answer as contracts see its value
abbrev pub seen_as : {X R E : Type 0} → (X → R) → Result X E → Result R E
seen_as view (Ok x) = Ok (view x)
seen_as view (Err error) = Err error

-- a step that reads: its answer by the files, which stay as they are
pub record Step {X : Type 0} (want : FileMap → Result X Refusal → Type 0) (before after : Option FileMap) (faults_before faults_after : ℕ) (result : Result X Failure) : Type 0 where
  pub says : Told before (λ files. Answered (want files) result)
  pub content : after ≡ before
  pub faults : Faults result faults_before faults_after

-- the file of this name is not there or too long
abbrev pub IsUntaken : List ℕ → Refusal → Type 0
IsUntaken name (Missing other) = other ≡ name
IsUntaken name (TooLong other) = other ≡ name
IsUntaken name other = ⊥

-- that of one that is too long
abbrev pub IsOverlong : List ℕ → Refusal → Type 0
IsOverlong name (TooLong other) = other ≡ name
IsOverlong name other = ⊥

-- the name is one of these
abbrev pub IsAmong : List (List ℕ) → List ℕ → Type 0
IsAmong names name = (place : ℕ) × (place < length names) × (name ≡ slice_index_or names place name)

-- one of the files of these names is not there or too long, or has a first bad line as the file of a session
abbrev pub RefusesOne : List (List ℕ) → Refusal → Type 0
RefusesOne names (Missing name) = IsAmong names name
RefusesOne names (TooLong name) = IsAmong names name
RefusesOne names (BadLine name line) = IsAmong names name × IsBadOfSome line
RefusesOne names other = ⊥
