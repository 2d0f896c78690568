-- What contracts see of the devices in memory.
use Rattle.std.specs.Prelude.{ℕ, ◌+◌, Bool, ◌||◌, nat_lt, List, length, ◌==◌, if◌then◌else◌, refl}
use Rattle.std.specs.List.{list_any}
use Rattle.std.specs.Coded.{Coded, code_by, coded×, coded_ℕ, coded_list}
use Rattle.std.specs.FinMap.{code}
use Rattle.desk_files.specs.Outside.{FileMap, raised}

-- the calls of a device: the numbers of those that fail, how many there were, and how many of them failed
pub record Calls : Type 0 where
  pub fails : List ℕ
  pub made : ℕ
  pub faults : ℕ

-- no call so far
abbrev pub no_calls : List ℕ → Calls
no_calls fails = record { fails = fails; made = 0; faults = 0 }

-- whether the next call is one that is to fail
abbrev pub fails_now : Calls → Bool
fails_now calls = list_any (λ n. n == calls.made) calls.fails

-- after one more call, which failed or did not
abbrev pub after_call : Calls → Bool → Calls
after_call calls failed = record calls { made = raised calls.made; faults = if failed then raised calls.faults else calls.faults }

-- files in memory, and the calls of their device
pub record MemoryFiles : Type 0 where
  pub files : FileMap
  pub calls : Calls

-- the bytes written to a sink in memory, how many it has room for in all, and its calls
pub record MemorySink : Type 0 where
  pub held : List ℕ
  pub room : ℕ
  pub calls : Calls

-- a write of these bytes fails: it is one that is to fail, or they do not fit into what is left of the room
abbrev pub refuses : MemorySink → List ℕ → Bool
refuses sink bytes = fails_now sink.calls || nat_lt sink.room (length sink.held + length bytes)

-- the bytes left in a source in memory, and its calls
pub record MemorySource : Type 0 where
  pub rest : List ℕ
  pub calls : Calls

-- how the values above are stored
abbrev pub calls_code : Coded Calls
calls_code = code_by (List ℕ × (ℕ × ℕ)) (coded× (coded_list coded_ℕ) (coded× coded_ℕ coded_ℕ))
    (λ c. (c.fails, (c.made, c.faults))) (λ p. record { fails = p.0; made = p.1.0; faults = p.1.1 }) (λ _. refl)

abbrev pub memory_files_code : Coded MemoryFiles
memory_files_code = code_by (FileMap × Calls) (coded× (code (coded_list coded_ℕ) (coded_list coded_ℕ)) calls_code)
    (λ m. (m.files, m.calls)) (λ p. record { files = p.0; calls = p.1 }) (λ _. refl)

abbrev pub memory_sink_code : Coded MemorySink
memory_sink_code = code_by (List ℕ × (ℕ × Calls)) (coded× (coded_list coded_ℕ) (coded× coded_ℕ calls_code))
    (λ m. (m.held, (m.room, m.calls))) (λ p. record { held = p.0; room = p.1.0; calls = p.1.1 }) (λ _. refl)

abbrev pub memory_source_code : Coded MemorySource
memory_source_code = code_by (List ℕ × Calls) (coded× (coded_list coded_ℕ) calls_code)
    (λ m. (m.rest, m.calls)) (λ p. record { rest = p.0; calls = p.1 }) (λ _. refl)
