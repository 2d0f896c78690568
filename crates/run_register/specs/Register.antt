-- Reports kept by the names of their runs, and the divergences that were accepted.
use Rattle.std.specs.Prelude.{◌≡◌, ◌≢◌, ℕ, if◌then◌else◌, List, map, Option, None, Some, Result, Ok, Err, ⊤}
use Rattle.std.specs.List.{filter, fold}
use Rattle.std.specs.Ordering.{eq_by_cmp, nat_cmp, ordering_then}
use Rattle.std.specs.Cmp.Lexicographic.{slice_cmp}
use Rattle.std.specs.declared.cmp.Ordering.{Ordering}
use Rattle.std.specs.FinMap.{FinMap, empty, contains_key, insert, keys}
use Rattle.std.specs.FinSet.{FinSet}
use Rattle.desk_files.specs.Outside.{Ending, Answered, DeviceFailed, MemoryShort, counted, raised}
use Rattle.run_register.specs.declared.kept.Kept.{Kept}
use Rattle.run_register.specs.declared.kept.Accept.{Accept}
use Rattle.run_register.specs.declared.kept.KeepErr.{KeepErr}
use Rattle.run_register.specs.declared.kept.KeepErr.TheVariants as keep_err
use Rattle.run_register.specs.declared.registering.RegErr.{RegErr}
use Rattle.run_register.specs.declared.registering.RegErr.TheVariants as reg_err
use Rattle.run_register.specs.declared.registering.Registered.{Registered}
use Rattle.run_register.specs.declared.registering.Registered.TheVariants.{New, Again}

-- names compare byte by byte
abbrev pub name_cmp : List ℕ → List ℕ → Ordering
name_cmp = slice_cmp nat_cmp

-- the bytes of each run's report, by the bytes of its name
abbrev pub RunMap : Type 0
RunMap = FinMap name_cmp (List ℕ)

-- the first report of a name stays
abbrev pub registered : RunMap → List ℕ × List ℕ → RunMap
registered runs pair = if contains_key runs pair.0 then runs else insert runs pair.0 pair.1

-- the register after a list of registrations
abbrev pub register_of : List (List ℕ × List ℕ) → RunMap
register_of pairs = fold registered empty pairs

abbrev pub entry_of : Kept → List ℕ × List ℕ
entry_of kept = (kept.name, kept.report)

-- ---- accepted divergences

-- a run's name, a stamp and the number of a class
abbrev pub Divergence : Type 0
Divergence = List ℕ × (ℕ × ℕ)

-- by name, then stamp, then class
abbrev pub divergence_cmp : Divergence → Divergence → Ordering
divergence_cmp a b = ordering_then (name_cmp a.0 b.0) (ordering_then (nat_cmp a.1.0 b.1.0) (nat_cmp a.1.1 b.1.1))

abbrev pub DivergenceSet : Type 0
DivergenceSet = FinSet divergence_cmp

abbrev pub accept_of : Divergence → Accept
accept_of divergence = record { stamp = divergence.1.0; class = divergence.1.1 }

-- a run's accepted divergences, by stamp, then class
abbrev pub accepts_of : List ℕ → DivergenceSet → List Accept
accepts_of name divergences = map accept_of (filter (λ (d : Divergence). eq_by_cmp name_cmp name d.0) (keys divergences))

-- what a keeper gives account of: the reports and the accepted divergences, where it tells them, how many of its calls failed, and
-- how often it was closed, whatever came of it. Each count stands still at the last value of its counter.
pub record KeeperAccount : Type 0 where
  pub runs : Option RunMap
  pub divergences : Option DivergenceSet
  pub faults : ℕ
  pub closes : ℕ

-- the counts of a keeper that tells nothing else
pub record KeeperCounts : Type 0 where
  pub faults : ℕ
  pub closes : ℕ

-- before any call
abbrev pub no_calls_kept : KeeperCounts
no_calls_kept = record { faults = 0; closes = 0 }

-- after a call that ended so
abbrev pub with_call : Ending → KeeperCounts → KeeperCounts
with_call ending counts = record counts { faults = counted ending counts.faults }

-- after a call that closes it
abbrev pub with_close : Ending → KeeperCounts → KeeperCounts
with_close ending counts = record { faults = counted ending counts.faults; closes = raised counts.closes }

-- ---- how a call of a keeper ends, and what it leaves

abbrev pub keeper_ending : {T : Type 0} → Result T KeepErr → Ending
keeper_ending (Ok x) = Answered
keeper_ending (Err keep_err.Failed) = DeviceFailed
keeper_ending (Err keep_err.Memory) = MemoryShort

abbrev pub register_ending : Result Registered RegErr → Ending
register_ending (Ok x) = Answered
register_ending (Err (reg_err.Other kept)) = Answered
register_ending (Err reg_err.Failed) = DeviceFailed
register_ending (Err reg_err.Memory) = MemoryShort

-- after a call that answers, one more pair is registered; after a refusal the runs are as before
abbrev pub after_adding : Ending → List ℕ × List ℕ → RunMap → RunMap
after_adding Answered pair runs = registered runs pair
after_adding DeviceFailed pair runs = runs
after_adding MemoryShort pair runs = runs

-- after a call that answers, one more divergence is accepted; after a refusal they are as before
abbrev pub after_accepting : Ending → Divergence → DivergenceSet → DivergenceSet
after_accepting Answered divergence divergences = insert divergences divergence tt
after_accepting DeviceFailed divergence divergences = divergences
after_accepting MemoryShort divergence divergences = divergences

-- what an answer says of the bytes that were kept under the name
abbrev pub RegisterSays : Option (List ℕ) → List ℕ → Result Registered RegErr → Type 0
RegisterSays found report (Ok New) = found ≡ None
RegisterSays found report (Ok Again) = found ≡ Some report
RegisterSays found report (Err (reg_err.Other kept)) = (found ≡ Some kept) × (kept ≢ report)
RegisterSays found report (Err reg_err.Failed) = ⊤
RegisterSays found report (Err reg_err.Memory) = ⊤
