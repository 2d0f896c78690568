-- What the clauses of the hosts give of those of their trait.
use Rattle.std.proofs.Common.{◌≡◌, ℕ, Bool, ◌<◌, List, [], ◌∷◌, ◌++◌, length, map, refl, sym, ap, Option, None, Some, Result, Ok, Err, OnOk, OnErr, rules, subst, arith}
use Rattle.std.specs.Prelude.{All, IfOk, IfSome, IsSome, option_to_list}
use Rattle.std.proofs.lemmas.List.{map-append}
use Rattle.std.proofs.lemmas.List.Elements.{All-map}
use Rattle.desk_values.specs.declared.memory.Memory.{Memory}
use Rattle.desk_files.specs.declared.fault.Failed.{Failed}
use Rattle.desk_files.specs.declared.mem_host.MemConn.{MemConn}
use Rattle.desk_files.specs.Memory.{MemorySource, MemorySink}
use Rattle.desk_files.specs.Hosts.{Accepts, GivesBack, after_back, either_failed}
use Rattle.desk_files.specs.MemoryHosts.{Pair, MemoryHost, TakesFirst, stated, IsFresh, connections_of}

-- ---- one in memory

-- the first of a queue that was taken from its front
-- the first of connections that nobody has used
first_fresh : (pair : Pair) (before after : List Pair) → before ≡ pair ∷ after → All IsFresh before → IsFresh pair
first_fresh pair before after is fresh = subst (λ (pairs : List Pair). All IsFresh pairs) is fresh 0 pair (omega arith)

pub TakesFirst-popped : (taken : Option Pair) (before after : List Pair) → before ≡ option_to_list taken ++ after → (0 < length before → IsSome taken) → All IsFresh before → TakesFirst (Ok taken) before after
TakesFirst-popped None [] after is some fresh = (refl, sym is)
TakesFirst-popped None (pair ∷ before) after is some fresh = search rules
TakesFirst-popped (Some pair) before after is some fresh = (is, first_fresh pair before after is fresh)

pub fresh_taken : (r : Result (Option Pair) Failed) (before after : List Pair) → TakesFirst r before after → IfOk r (λ taken. IfSome taken (λ pair. (pair.0.calls.faults ≡ 0) × (pair.1.calls.faults ≡ 0)))
fresh_taken (Ok (Some pair)) before after takes = (takes.1.0, takes.1.1)
fresh_taken (Ok None) before after takes = tt
fresh_taken (Err failed) before after takes = tt

-- those that are stated are such
pub All-stated : (conns : List MemConn) → All IsFresh (map stated conns)
All-stated conns = All-map IsFresh stated conns (λ k d within. (refl, refl, refl))

pub Accepts-first : (r : Result (Option Pair) Failed) (before after : MemoryHost) → TakesFirst r before.waiting after.waiting → after.returned ≡ before.returned → Accepts (λ (s : MemorySource). record { content = Some s.rest; faults = s.calls.faults }) (λ (s : MemorySink). record { content = Some s.held; faults = s.calls.faults }) r (Some (connections_of before)) (Some (connections_of after))
Accepts-first (Ok (Some pair)) before after takes same = record {
  first = pair.0.rest;
  others = map (λ (p : Pair). p.0.rest) after.waiting;
  waited = ap (map (λ (p : Pair). p.0.rest)) takes.0;
  input_is = refl;
  output_is = ap (λ held. Some held) takes.1.2;
  left = rw same refl;
}
Accepts-first (Ok None) before after takes same = (rw (takes.1, same) refl, rw takes.0 refl)
Accepts-first (Err failed) before after takes same = rw (takes, same) refl

pub GivesBack-last : (r : Result (Unit {0}) Memory) (before after : MemoryHost) (pair : Pair) → OnOk r (after ≡ record before { returned = before.returned ++ pair ∷ []; handed = after_back before.handed }) → OnErr r (after ≡ record before { handed = after_back before.handed }) → GivesBack (Some pair.0.rest) (Some pair.1.held) (either_failed pair.0.calls.faults pair.1.calls.faults) r (Some (connections_of before)) (Some (connections_of after))
GivesBack-last (Ok done) before after pair ok err = rw (ok, map-append) refl
GivesBack-last (Err memory) before after pair ok err = ap (λ host. Some (connections_of host)) err

pub back_faults : (r : Result (Unit {0}) Memory) (before after : MemoryHost) (pair : Pair) → OnOk r (after ≡ record before { returned = before.returned ++ pair ∷ []; handed = after_back before.handed }) → OnErr r (after ≡ record before { handed = after_back before.handed }) → after.calls.faults ≡ before.calls.faults
back_faults (Ok done) before after pair ok err = ap (λ (host : MemoryHost). host.calls.faults) ok
back_faults (Err memory) before after pair ok err = ap (λ (host : MemoryHost). host.calls.faults) err

pub back_handed : (r : Result (Unit {0}) Memory) (before after : MemoryHost) (pair : Pair) → OnOk r (after ≡ record before { returned = before.returned ++ pair ∷ []; handed = after_back before.handed }) → OnErr r (after ≡ record before { handed = after_back before.handed }) → after.handed ≡ after_back before.handed
back_handed (Ok done) before after pair ok err = ap (λ (host : MemoryHost). host.handed) ok
back_handed (Err memory) before after pair ok err = ap (λ (host : MemoryHost). host.handed) err

-- ---- one that does not tell

pub Accepts-untold : {In Out : Type 0} (f : In → ℕ) (g : Out → ℕ) (r : Result (Option (In × Out)) Failed) → Accepts (λ input. record { content = None; faults = f input }) (λ output. record { content = None; faults = g output }) r None None
Accepts-untold f g (Ok (Some pair)) = tt
Accepts-untold f g (Ok None) = (refl, tt)
Accepts-untold f g (Err failed) = refl

pub GivesBack-untold : (failed : Bool) (r : Result (Unit {0}) Memory) → GivesBack None None failed r None None
GivesBack-untold failed (Ok done) = tt
GivesBack-untold failed (Err memory) = refl
