-- What a list of writes leaves, one after the other.
use Rattle.std.specs.Prelude.{◌≡◌, ℕ, List, [], ◌∷◌, take, slice_get, Result, Ok, Err, Some}
use Rattle.std.specs.FinMap.{insert}
use Rattle.desk_files.specs.declared.fault.WriteErr.{WriteErr}
use Rattle.desk_files.specs.declared.fault.WriteErr.TheVariants.{Failed, Memory}
use Rattle.desk_files.specs.declared.writes.Write.{Write}
use Rattle.desk_files.specs.Outside.{FileMap, KeepsOthers}

-- the files with all of them written
abbrev pub with_all : List Write → FileMap → FileMap
with_all [] files = files
with_all (write ∷ writes) files = with_all writes (insert files write.name write.bytes)

-- the first few were written, or none or all
abbrev pub WrittenSoFar : List Write → FileMap → FileMap → Type 0
WrittenSoFar writes before after = (n : ℕ) × (after ≡ with_all (take n writes) before)

-- the first few were written, and the file of the next may hold anything
abbrev pub CutShort : List Write → FileMap → FileMap → Type 0
CutShort writes before after = (n : ℕ) × (write : Write) × (slice_get writes n ≡ Some write) × KeepsOthers write.name (with_all (take n writes) before) after

-- what is left where writing them gave this answer
abbrev pub LeavesOfWrites : List Write → FileMap → Result (Unit {0}) WriteErr → FileMap → Type 0
LeavesOfWrites writes before (Ok done) after = after ≡ with_all writes before
LeavesOfWrites writes before (Err Failed) after = CutShort writes before after
LeavesOfWrites writes before (Err Memory) after = WrittenSoFar writes before after
