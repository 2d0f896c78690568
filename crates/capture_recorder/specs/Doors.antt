-- What a door notes of the calls that go through it.
use Rattle.std.specs.Prelude.{◌≡◌, ℕ, ◌⊎◌, Bool, true, false, nat_le, List, [], ◌∷◌, ◌++◌, length, Result, Ok, Err}
use Rattle.std.specs.List.{AllByRecursion, list_any}
use Rattle.desk_values.specs.declared.call.Call.{Call}
use Rattle.desk_values.specs.declared.call.Call.TheVariants.{Disconnect}
use Rattle.desk_values.specs.declared.call.Reply.{Reply}
use Rattle.desk_values.specs.declared.memory.Memory.{Memory as NoMemory}
use Rattle.desk_values.specs.Good.{IsGoodReply}
use Rattle.desk_values.specs.Ids.{is_id}
use Rattle.replay_history.specs.Capture.{binds_of}
use Rattle.capture_recorder.specs.Limits.{accepted_limit}
use Rattle.capture_recorder.specs.declared.door.Said.{Said}
use Rattle.capture_recorder.specs.declared.door.Turned.{Turned}
use Rattle.capture_recorder.specs.declared.refusal.CallErr.{CallErr}
use Rattle.capture_recorder.specs.declared.refusal.CallErr.TheVariants.{Stranger, Full, Memory}

-- each reply can be written
abbrev pub AreGood : List Said → Type 0
AreGood said = AllByRecursion (λ (one : Said). IsGoodReply one.reply) said

-- what contracts see of a door
pub record DoorView : Type 0 where
  pub session : ℕ
  pub said : List Said
  pub turned : List Turned
  -- no call went through it since the session was closed
  pub closed : Bool
  -- none did since it was asked to close the session, whatever came of that
  pub asked : Bool

-- one entry was added, for this call
pub record Turns (call : Call) (full : Bool) (said : ℕ) (before after : List Turned) : Type 0 where
  pub entry : Turned
  pub added : after ≡ before ++ entry ∷ []
  pub call_is : entry.call ≡ call
  -- as many calls were said before it
  pub place_is : entry.place ≡ said
  pub full_is : entry.full ≡ full
  -- it was for want of room just where the recorder held as many calls as it takes
  pub held_is : nat_le accepted_limit entry.held ≡ full
  -- else some bind is an id
  pub id : full ≡ false → list_any is_id (binds_of call) ≡ true

-- what stands in the two lists after a call
abbrev pub Notes : Call → Result Reply CallErr → List Said → List Said → List Turned → List Turned → Type 0
Notes call (Ok reply) said said' turned turned' = (said' ≡ said ++ record { call = call; reply = reply } ∷ []) × (turned' ≡ turned) × IsGoodReply reply
Notes call (Err Stranger) said said' turned turned' = (said' ≡ said) × Turns call false (length said) turned turned'
Notes call (Err Full) said said' turned turned' = (said' ≡ said) × Turns call true (length said) turned turned'
Notes call (Err Memory) said said' turned turned' = (said' ≡ said) × (turned' ≡ turned)

-- what was appended where a session was closed: one disconnect with a good reply, or nothing
abbrev pub IsClosing : List Said → Type 0
IsClosing more = (more ≡ []) ⊎ ((reply : Reply) × (more ≡ record { call = Disconnect; reply = reply } ∷ []) × IsGoodReply reply)

abbrev pub Closes : Result (Unit {0}) NoMemory → List Said → List Said → List Turned → List Turned → Type 0
Closes (Ok done) said said' turned turned' = ((more : List Said) × IsClosing more × (said' ≡ said ++ more)) × (turned' ≡ turned)
Closes (Err e) said said' turned turned' = (said' ≡ said) × (turned' ≡ turned)
