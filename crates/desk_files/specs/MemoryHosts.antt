-- What contracts see of a host in memory.
use Rattle.std.specs.Prelude.{◌≡◌, ℕ, List, [], ◌∷◌, map, Option, None, Some, Result, Ok, Err, refl}
use Rattle.std.specs.Coded.{Coded, code_by, coded×, coded_list, coded_option, coded_ℕ}
use Rattle.desk_files.specs.declared.fault.Failed.{Failed}
use Rattle.desk_files.specs.declared.mem_host.MemConn.{MemConn}
use Rattle.desk_files.specs.Hosts.{Returned, Connections, Handed, either_failed}
use Rattle.desk_files.specs.Memory.{Calls, MemorySource, MemorySink, no_calls, calls_code, memory_source_code, memory_sink_code}

-- the two ends of a connection
abbrev pub Pair : Type 0
Pair = MemorySource × MemorySink

-- the connections that are left, those given back, the calls of the host, and what it handed out
pub record MemoryHost : Type 0 where
  pub waiting : List Pair
  pub returned : List Pair
  pub calls : Calls
  pub handed : Handed

-- the counts of a host of the network
pub record HostCounts : Type 0 where
  pub faults : ℕ
  pub handed : Handed

-- a connection as it is stated
abbrev pub stated : MemConn → Pair
stated conn = (record { rest = conn.input; calls = no_calls conn.input_fails }, record { held = []; room = conn.room; calls = no_calls conn.output_fails })

-- one that nobody has used
abbrev pub IsFresh : Pair → Type 0
IsFresh pair = (pair.0.calls.faults ≡ 0) × (pair.1.calls.faults ≡ 0) × (pair.1.held ≡ [])

-- what is told of one that is given back
abbrev pub returned_of : Pair → Returned
returned_of pair = record { rest = pair.0.rest; output = pair.1.held; failed = either_failed pair.0.calls.faults pair.1.calls.faults }

-- what is told of all
abbrev pub connections_of : MemoryHost → Connections
connections_of host = record { waiting = map (λ pair. pair.0.rest) host.waiting; returned = map returned_of host.returned }

-- which connection an answer of `accept` takes
abbrev pub TakesFirst : Result (Option Pair) Failed → List Pair → List Pair → Type 0
TakesFirst (Ok (Some pair)) before after = (before ≡ pair ∷ after) × IsFresh pair
TakesFirst (Ok None) before after = (before ≡ []) × (after ≡ before)
TakesFirst (Err failed) before after = after ≡ before

-- how it is stored
abbrev pub handed_code : Coded Handed
handed_code = code_by (Option ℕ × (ℕ × ℕ)) (coded× (coded_option coded_ℕ) (coded× coded_ℕ coded_ℕ))
    (λ h. (h.port, (h.taken, h.backs))) (λ p. record { port = p.0; taken = p.1.0; backs = p.1.1 }) (λ _. refl)

abbrev pub memory_host_code : Coded MemoryHost
memory_host_code = code_by (List Pair × (List Pair × (Calls × Handed))) (coded× (coded_list (coded× memory_source_code memory_sink_code)) (coded× (coded_list (coded× memory_source_code memory_sink_code)) (coded× calls_code handed_code)))
    (λ m. (m.waiting, (m.returned, (m.calls, m.handed)))) (λ p. record { waiting = p.0; returned = p.1.0; calls = p.1.1.0; handed = p.1.1.1 }) (λ _. refl)
