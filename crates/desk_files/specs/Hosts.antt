-- The connections of a host, and what each call does to them.
use Rattle.std.specs.Prelude.{◌≡◌, ℕ, Bool, ◌||◌, nat_lt, List, [], ◌∷◌, ◌++◌, Option, None, Some, IsSomeAnd, Result, Ok, Err}
use Rattle.desk_values.specs.declared.memory.Memory.{Memory}
use Rattle.desk_files.specs.Outside.{Account, Told, Ending, Answered, DeviceFailed, raised}
use Rattle.desk_files.specs.declared.fault.Failed.{Failed}

-- a connection that was given back: the bytes left in its input, those in its output, and whether either of them failed
pub record Returned : Type 0 where
  pub rest : List ℕ
  pub output : List ℕ
  pub failed : Bool

-- the bytes of each connection that is left, in order, and the connections given back
pub record Connections : Type 0 where
  pub waiting : List (List ℕ)
  pub returned : List Returned

-- ---- what is handed out

-- the port at which a host listens, how many connections were taken, and how many given back, whatever came of it. Each count
-- stands still at the last value of its counter.
pub record Handed : Type 0 where
  pub port : Option ℕ
  pub taken : ℕ
  pub backs : ℕ

-- before any call
abbrev pub none_handed : Handed
none_handed = record { port = None; taken = 0; backs = 0 }

abbrev pub after_listen : Result (Unit {0}) Failed → ℕ → Handed → Handed
after_listen (Ok done) port handed = record handed { port = Some port }
after_listen (Err failed) port handed = handed

abbrev pub after_accept : {T : Type 0} → Result (Option T) Failed → Handed → Handed
after_accept (Ok (Some pair)) handed = record handed { taken = raised handed.taken }
after_accept (Ok None) handed = handed
after_accept (Err failed) handed = handed

abbrev pub after_back : Handed → Handed
after_back handed = record handed { backs = raised handed.backs }

-- what a host gives account of: its connections, where it tells them, how many of its calls failed, and what it handed out
pub record HostAccount : Type 0 where
  pub content : Option Connections
  pub faults : ℕ
  pub handed : Handed

-- ---- accept

-- the first of those waiting was taken: the input tells its bytes, and the output that it has none yet
pub record Takes (input output : Option (List ℕ)) (before : Connections) (after : Option Connections) : Type 0 where
  pub first : List ℕ
  pub others : List (List ℕ)
  pub waited : before.waiting ≡ first ∷ others
  pub input_is : input ≡ Some first
  pub output_is : output ≡ Some []
  pub left : after ≡ Some (record before { waiting = others })

-- what an answer of `accept` says; `input` and `output` are what a pair's two ends give account of
abbrev pub Accepts : {In Out : Type 0} → (In → Account (List ℕ)) → (Out → Account (List ℕ)) → Result (Option (In × Out)) Failed → Option Connections → Option Connections → Type 0
Accepts input output (Ok (Some pair)) before after = Told before (λ connections. Takes (input pair.0).content (output pair.1).content connections after)
Accepts input output (Ok None) before after = (after ≡ before) × Told before (λ connections. connections.waiting ≡ [])
Accepts input output (Err failed) before after = after ≡ before

abbrev pub accept_ending : {T : Type 0} → Result T Failed → Ending
accept_ending (Ok taken) = Answered
accept_ending (Err failed) = DeviceFailed

-- ---- back

-- whether one of two counts of faults is above 0
abbrev pub either_failed : ℕ → ℕ → Bool
either_failed input output = nat_lt 0 input || nat_lt 0 output

-- this connection was added to those given back, and those waiting stay
abbrev pub Adds : Returned → Connections → Option Connections → Type 0
Adds connection before after = after ≡ Some (record before { returned = before.returned ++ connection ∷ [] })

-- what an answer of `back` says of a pair whose two ends tell this, and of which one failed or none
abbrev pub GivesBack : Option (List ℕ) → Option (List ℕ) → Bool → Result (Unit {0}) Memory → Option Connections → Option Connections → Type 0
GivesBack input output failed (Ok done) before after = Told before (λ connections. IsSomeAnd input (λ rest. IsSomeAnd output (λ written. Adds (record { rest = rest; output = written; failed = failed }) connections after)))
GivesBack input output failed (Err memory) before after = after ≡ before
