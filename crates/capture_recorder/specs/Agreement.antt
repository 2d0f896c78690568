-- When the recorder and the doors agree, said a second time and without the order of the tests.
use Rattle.std.specs.Prelude.{◌≡◌, ℕ, ◌+◌, ◌<◌, ◌≤◌, true, false, List, length, slice_get, Some, Result, Ok, Err}
use Rattle.std.specs.List.{Any}
use Rattle.desk_values.specs.Room.{Room}
use Rattle.desk_values.specs.declared.value.Value.{Value}
use Rattle.desk_values.specs.declared.value.Image.{Image}
use Rattle.desk_values.specs.declared.capture.Captured.{Captured}
use Rattle.desk_schema.specs.Start.{StartView}
use Rattle.replay_history.specs.Capture.{IsKnown, binds_of}
use Rattle.captured_calls.specs.Sessions.{calls_of}
use Rattle.capture_recorder.specs.Gathering.{kept_in, said_in}
use Rattle.capture_recorder.specs.Limits.{accepted_limit}
use Rattle.capture_recorder.specs.Recording.{Recording}
use Rattle.capture_recorder.specs.declared.door.Said.{Said}
use Rattle.capture_recorder.specs.declared.door.Turned.{Turned}
use Rattle.capture_recorder.specs.declared.gathering.GatherErr.{GatherErr}
use Rattle.capture_recorder.specs.declared.gathering.GatherErr.TheVariants.{Memory}

-- What a session's entry says is borne out by the calls that were recorded over these rows.
pub record IsBorneOut (rows : List Image) (calls : List Captured) (session : ℕ) (entry : Turned) : Type 0 where
  -- the session has as many calls, and the recorder had as many
  pub place : entry.place ≤ length (calls_of session calls)
  pub held : entry.held ≤ length calls
  -- among them the session's call just before it
  pub after : (k : ℕ) (call : Captured) → k + 1 ≡ entry.place → slice_get (calls_of session calls) k ≡ Some call → call.stamp < entry.held
  -- the recorder was full
  pub full : entry.full ≡ true → accepted_limit ≤ entry.held
  -- or it was not, and some bind is an id that nobody could know then
  pub stranger : entry.full ≡ false → (entry.held < accepted_limit) × Any (λ (bind : Value). IsKnown rows calls entry.held bind → ⊥) (binds_of entry.call)

-- The starts are equal, each session's door has said just what the recorder kept, and each entry is borne out.
pub record Agrees (start : StartView) (r : Recording) (lists : List (List Said)) (turned : List (List Turned)) : Type 0 where
  pub starts : r.start ≡ start
  pub said : (session : ℕ) → said_in lists session ≡ kept_in r.calls session
  pub refused : (session n : ℕ) (entries : List Turned) (entry : Turned) → slice_get turned session ≡ Some entries → slice_get entries n ≡ Some entry
      → IsBorneOut r.start.rows r.calls session entry

-- an answer is good just where this holds; want of memory tells nothing
abbrev pub IsOkJust : Type 0 → Result (List (Room Captured)) GatherErr → Type 0
IsOkJust P (Ok sessions) = P
IsOkJust P (Err Memory) = Unit {0}
IsOkJust P (Err other) = P → ⊥
