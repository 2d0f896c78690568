-- What a line tells of its calls.
use Rattle.std.specs.Prelude.{◌≡◌, ◌⊎◌, List, [], ◌∷◌, ◌++◌, Option, None, Some, IfSome, Result, Ok, Err}
use Rattle.std.specs.List.{AllByRecursion}
use Rattle.desk_values.specs.declared.call.Call.{Call}
use Rattle.desk_values.specs.declared.call.Reply.{Reply}
use Rattle.desk_values.specs.Good.{IsGoodReply}
use Rattle.desk_files.specs.Outside.{Ending, Answered, DeviceFailed, MemoryShort}
use Rattle.remote_link.specs.declared.heard.Heard.{Heard}
use Rattle.remote_link.specs.declared.link_err.LinkErr.{LinkErr}
use Rattle.remote_link.specs.declared.link_err.LinkErr.TheVariants.{Failed, Memory}

abbrev pub heard : Call → Option Reply → Heard
heard call reply = record { call = call; reply = reply }

-- each reply that came can be written
abbrev pub AreGood : List Heard → Type 0
AreGood list = AllByRecursion (λ (one : Heard). IfSome one.reply IsGoodReply) list

-- what a line has told behind what it told before: the call with its reply; or the call without one, or nothing
abbrev pub Adds : Call → Result Reply LinkErr → List Heard → Option (List Heard) → Type 0
Adds call (Ok reply) told after = after ≡ Some (told ++ heard call (Some reply) ∷ [])
Adds call (Err error) told after = (after ≡ Some told) ⊎ (after ≡ Some (told ++ heard call None ∷ []))

-- a line that tells its calls goes on to, and one that does not never does
abbrev pub Notes : Call → Result Reply LinkErr → Option (List Heard) → Option (List Heard) → Type 0
Notes call result None after = after ≡ None
Notes call result (Some told) after = Adds call result told after

abbrev pub link_ending : Result Reply LinkErr → Ending
link_ending (Ok reply) = Answered
link_ending (Err Failed) = DeviceFailed
link_ending (Err Memory) = MemoryShort
