-- What an answer says, and how its call ended.
use Rattle.std.specs.Prelude.{◌≡◌, ℕ, ◌<◌, List, length, Option, None, Some, IsSomeAnd, Result, Ok, Err, ⊤}
use Rattle.desk_files.specs.Limits.{file_limit}
use Rattle.desk_files.specs.declared.fault.Failed.{Failed}
use Rattle.desk_files.specs.declared.fault.FileErr.{FileErr}
use Rattle.desk_files.specs.declared.fault.FileErr.TheVariants as file_err
use Rattle.desk_files.specs.declared.fault.WriteErr.{WriteErr}
use Rattle.desk_files.specs.declared.fault.WriteErr.TheVariants as write_err
use Rattle.desk_files.specs.Outside.{Ending, Answered, DeviceFailed, MemoryShort}

-- what an answer of `read` says of the file of that name; a fault and want of memory say nothing
abbrev pub ReadSays : Option (List ℕ) → Result (List ℕ) FileErr → Type 0
ReadSays file (Ok bytes) = file ≡ Some bytes
ReadSays file (Err file_err.Missing) = file ≡ None
ReadSays file (Err file_err.TooLong) = IsSomeAnd file (λ bytes. file_limit < length bytes)
ReadSays file (Err file_err.Failed) = ⊤
ReadSays file (Err file_err.Memory) = ⊤

abbrev pub read_ending : Result (List ℕ) FileErr → Ending
read_ending (Ok bytes) = Answered
read_ending (Err file_err.Missing) = Answered
read_ending (Err file_err.TooLong) = Answered
read_ending (Err file_err.Failed) = DeviceFailed
read_ending (Err file_err.Memory) = MemoryShort

abbrev pub write_ending : Result (Unit {0}) WriteErr → Ending
write_ending (Ok done) = Answered
write_ending (Err write_err.Failed) = DeviceFailed
write_ending (Err write_err.Memory) = MemoryShort

abbrev pub print_ending : Result (Unit {0}) Failed → Ending
print_ending (Ok done) = Answered
print_ending (Err failed) = DeviceFailed
