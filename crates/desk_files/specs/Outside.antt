-- What an object of the outside tells of itself, and what stands after a call of it.
use Rattle.std.specs.Prelude.{◌≡◌, ◌≢◌, ℕ, zero, suc, ◌+◌, ◌<◌, ◌≤◌, ◌==◌, if◌then◌else◌, Bool, true, false, List, ◌++◌, take, Option, Some, IfSome, IsSomeAnd, ⊤}
use Rattle.std.specs.Ordering.{nat_cmp}
use Rattle.std.specs.Cmp.Lexicographic.{slice_cmp}
use Rattle.std.specs.FinMap.{FinMap, get}

-- files by their names: the bytes of each
abbrev pub FileMap : Type 0
FileMap = FinMap (slice_cmp nat_cmp) (List ℕ)

-- what an object of the outside gives account of: its content, where it tells it, and how many of its calls failed. The count
-- stands still at the last value of its counter.
pub record Account (T : Type 0) : Type 0 where
  pub content : Option T
  pub faults : ℕ

-- a fact of what is told; where nothing is told it claims nothing
abbrev pub Told : {T : Type 0} → Option T → (T → Type 0) → Type 0
Told content Fact = IfSome content Fact

-- every file but the one of this name is as before
abbrev pub KeepsOthers : List ℕ → FileMap → FileMap → Type 0
KeepsOthers name before after = (other : List ℕ) → other ≢ name → get after other ≡ get before other

-- these bytes were added to those told, and nothing else
abbrev pub Appends : List ℕ → Option (List ℕ) → Option (List ℕ) → Type 0
Appends bytes before after = Told before (λ told. after ≡ Some (told ++ bytes))

-- the first few of these bytes were, or none or all of them
abbrev pub AppendsPart : List ℕ → Option (List ℕ) → Option (List ℕ) → Type 0
AppendsPart bytes before after = Told before (λ told. IsSomeAnd after (λ left. (n : ℕ) × (left ≡ told ++ take n bytes)))

-- ---- counts of faults

-- the last value of a count: there it stands still
abbrev pub last_count : ℕ
last_count = 18446744073709551615

-- one more, unless the count stands still
abbrev pub raised : ℕ → ℕ
raised n = if n == last_count then n else n + 1

-- a count that rose so often; at the last value of its counter it tells no more how often
abbrev pub risen_by : ℕ → ℕ → ℕ
risen_by zero n = n
risen_by (suc k) n = raised (risen_by k n)

-- a count rose in a call: it is greater than before, or stands at its last value
abbrev pub HasRisen : ℕ → ℕ → Type 0
HasRisen before after = after ≢ last_count → before < after

-- ---- how a call ends

-- it gave its answer, the device failed, or memory was short
pub data Ending : Type 0 where
  Answered : Ending
  DeviceFailed : Ending
  MemoryShort : Ending

abbrev pub is_failed : Ending → Bool
is_failed Answered = false
is_failed DeviceFailed = true
is_failed MemoryShort = false

-- a count of faults rises where the device failed, stands elsewhere, and never falls
abbrev pub Counts : Ending → ℕ → ℕ → Type 0
Counts Answered before after = after ≡ before
Counts DeviceFailed before after = HasRisen before after × (before ≤ after)
Counts MemoryShort before after = after ≡ before

-- where memory was short, all that is told is as before
abbrev pub Stands : {T : Type 0} → Ending → Option T → Option T → Type 0
Stands Answered before after = ⊤
Stands DeviceFailed before after = ⊤
Stands MemoryShort before after = after ≡ before

-- what stands after a call, of whatever object of the outside
pub record Leaves {T : Type 0} (ending : Ending) (before after : Option T) (faults_before faults_after : ℕ) : Type 0 where
  pub content : Stands ending before after
  pub faults : Counts ending faults_before faults_after

-- the count of a device that counts each of its calls that failed
abbrev pub counted : Ending → ℕ → ℕ
counted ending n = if is_failed ending then raised n else n
