-- What the clauses of the devices give of those of their traits.
use Rattle.std.proofs.Common.{◌≡◌, ℕ, ◌+◌, ◌≤◌, add-one, ◌++◌, List, length, refl, sym, ap, Option, Some, Result, Ok, Err, OnOk, OnErr, rules}
use Rattle.std.specs.Bool.{⊤}
use Rattle.std.proofs.Math.Seq.{take-length}
use Rattle.std.specs.FinMap.{insert}
use Rattle.desk_files.specs.declared.fault.WriteErr.{WriteErr}
use Rattle.desk_files.specs.declared.fault.Failed.{Failed}
use Rattle.desk_files.specs.Outside.{FileMap, HasRisen, KeepsOthers, AppendsPart, Ending, Answered, DeviceFailed, MemoryShort, Counts, Stands, Leaves, counted, raised, risen_by}
use Rattle.desk_files.specs.Answers.{print_ending, write_ending}
use Rattle.desk_files.proofs.FileLaws.{KeepsOthers-insert}

-- a count that is raised has risen
HasRisen-raised : (n : ℕ) → HasRisen n (raised n)
HasRisen-raised n = search rules

le-raised : (n : ℕ) → n ≤ raised n
le-raised n = search rules

pub risen_more : (k n : ℕ) → risen_by (k + 1) n ≡ raised (risen_by k n)
risen_more k n = rw add-one refl

-- a device that counts each of its calls that failed
pub Counts-counted : (ending : Ending) (n : ℕ) → Counts ending n (counted ending n)
Counts-counted Answered n = refl
Counts-counted DeviceFailed n = (HasRisen-raised n, le-raised n)
Counts-counted MemoryShort n = refl

-- one whose content stands whatever it answers
pub Leaves-counted : {T : Type 0} (ending : Ending) (before after : Option T) (fb fa : ℕ) → after ≡ before → fa ≡ counted ending fb → Leaves ending before after fb fa
Leaves-counted ending before after fb fa same count = record { content = stands ending; faults = rw count (Counts-counted ending fb) } where
  stands : (ending : Ending) → Stands ending before after
  stands Answered = tt
  stands DeviceFailed = tt
  stands MemoryShort = same

-- a write of files in memory
pub Leaves-write : (r : Result (Unit {0}) WriteErr) (old new : FileMap) (fb fa : ℕ) → OnErr r (new ≡ old) → fa ≡ counted (write_ending r) fb → Leaves (write_ending r) (Some old) (Some new) fb fa
Leaves-write (Ok u) old new fb fa err count = record { content = tt; faults = rw count (Counts-counted Answered fb) }
Leaves-write (Err e) old new fb fa err count = Leaves-counted (write_ending (Err e)) (Some old) (Some new) fb fa (ap (λ m. Some m) err) count

pub KeepsOthers-write : (r : Result (Unit {0}) WriteErr) (old new : FileMap) (name bytes : List ℕ) → OnOk r (new ≡ insert old name bytes) → OnErr r (new ≡ old) → KeepsOthers name old new
KeepsOthers-write (Ok u) old new name bytes ok err = rw ok (KeepsOthers-insert old name bytes)
KeepsOthers-write (Err e) old new name bytes ok err = rw err (λ q differs. refl)

-- a write to a sink, which takes no memory
pub Leaves-print : {T : Type 0} (r : Result (Unit {0}) Failed) (before after : Option T) (fb fa : ℕ) → fa ≡ counted (print_ending r) fb → Leaves (print_ending r) before after fb fa
Leaves-print (Ok u) before after fb fa count = record { content = tt; faults = rw count (Counts-counted Answered fb) }
Leaves-print (Err e) before after fb fa count = record { content = tt; faults = rw count (Counts-counted DeviceFailed fb) }

-- one to a sink in memory, which appends all bytes or none
pub AppendsPart-write : (r : Result (Unit {0}) Failed) (old new bytes : List ℕ) → OnOk r (new ≡ old ++ bytes) → OnErr r (new ≡ old) → AppendsPart bytes (Some old) (Some new)
AppendsPart-write (Ok u) old new bytes ok err = (length bytes, rw ok (ap (λ part. old ++ part) (sym (take-length bytes))))
AppendsPart-write (Err e) old new bytes ok err = (0, rw err (search rules))

-- where nothing is told
pub OnOk-any : {T E : Type 0} (r : Result T E) → OnOk r ⊤
OnOk-any (Ok x) = tt
OnOk-any (Err e) = tt

-- the count of a device that counts each of its calls that failed
pub Counts-of : (ending : Ending) (fb fa : ℕ) → fa ≡ counted ending fb → Counts ending fb fa
Counts-of ending fb fa count = rw count (Counts-counted ending fb)
