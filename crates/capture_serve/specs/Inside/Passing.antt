-- What is known of connections while they are served.
use Rattle.std.specs.Prelude.{◌≡◌, ℕ, ◌+◌, ◌<◌, ◌≤◌, Bool, not, true, min, count_by, if◌then◌else◌, List, [], ◌∷◌, ◌++◌, length, map, Option, Some, IsSomeAnd, Result, Ok, Err, ⊤}
use Rattle.std.specs.List.{AllByRecursion}
use Rattle.desk_schema.specs.Start.{StartView}
use Rattle.desk_files.specs.Outside.{Ending, Answered, DeviceFailed, Told}
use Rattle.desk_values.specs.declared.memory.Memory.{Memory as NoMemory}
use Rattle.desk_files.specs.Hosts.{Connections, GivesBack, Returned, either_failed}
use Rattle.desk_files.specs.declared.source.Source as Source
use Rattle.desk_files.specs.declared.sink.Sink as Sink
use Rattle.capture_recorder.specs.declared.door.Said.{Said}
use Rattle.capture_recorder.specs.declared.door.Turned.{Turned}
use Rattle.capture_recorder.specs.Agreement.{Agrees}
use Rattle.capture_recorder.specs.Gathering.{lists_of}
use Rattle.capture_recorder.specs.Recording.{Recording}
use Rattle.capture_recorder.specs.Doors.{IsClosing}
use Rattle.capture_http.specs.declared.conn_end.ConnEnd.{ConnEnd}
use Rattle.capture_http.specs.Ends.{Ends, Serves, ends_told}
use Rattle.capture_serve.specs.Connections.{comes, is_closed}
use Rattle.capture_serve.specs.Service.{CaptureView, IsCapture, is_short}
use Rattle.capture_serve.specs.declared.failing.ServeErr.{ServeErr}
use Rattle.capture_serve.specs.declared.failing.ServeErr.TheVariants as serve
use Rattle.capture_serve.specs.declared.returning.Notes.{Notes}
use Rattle.capture_serve.specs.declared.halt.Halt.{Halt}
use Rattle.capture_serve.specs.declared.halt.Halt.TheVariants.{Failed, Memory}
use Rattle.capture_serve.specs.declared.connection.Coming.{Coming}
use Rattle.capture_serve.specs.declared.connection.Served.{Served}
use Rattle.capture_serve.specs.declared.connection.Seat.{Seat}
use Rattle.capture_serve.specs.declared.connection.Seat.TheVariants.{Thread, Here}

-- a connection at a moment: its session, and what its three objects tell
pub record Moment : Type 0 where
  pub session : ℕ
  pub ends : Ends

-- a connection that was served, without its objects
pub record Passed : Type 0 where
  pub session : ℕ
  pub before : Ends
  pub after : Ends
  pub end : ConnEnd

abbrev pub IsPassed : Passed → Type 0
IsPassed p = Serves p.end p.session p.before p.after

abbrev pub moment_of : Passed → Moment
moment_of p = record { session = p.session; ends = p.before }

-- the connection that a seat serves, as it came
abbrev pub coming_of : {I O : Type 0} → Seat I O → Coming I O
coming_of (Thread handle) = handle.promise.0.value
coming_of (Here served) = served.was.value

module _ {I O : Type 0} (i : Source.Ghosts I) (o : Sink.Ghosts O) where
  abbrev pub told_by : I → O → List Said → List Turned → Ends
  told_by input output said turned = ends_told (i.account input) (o.account output) said turned

  -- how a connection comes
  abbrev pub arrival : Coming I O → Moment
  arrival c = record { session = c.session; ends = told_by c.input c.output [] [] }

  abbrev pub passed_of : Served I O → Passed
  passed_of s = record { session = s.was.value.session; before = told_by s.was.value.input s.was.value.output [] []; after = told_by s.input s.output s.said.items s.turned.items; end = s.end }

  -- an answer of the host to which these two are given back
  abbrev pub GivesOne : I → O → Result (Unit {0}) NoMemory → Option Connections → Option Connections → Type 0
  GivesOne input output given before after = GivesBack (i.account input).content (o.account output).content (either_failed (i.account input).faults (o.account output).faults) given before after

  -- what is known of a seat: where its connection was served here, that it was
  abbrev pub IsKept : Seat I O → Type 0
  IsKept (Thread handle) = ⊤
  IsKept (Here served) = IsPassed (passed_of served)

-- ---- coming

-- connections with these bytes, as they come: each the next session, from this one on
abbrev pub arrivals_from : ℕ → List (List ℕ) → List Moment
arrivals_from session [] = []
arrivals_from session (sent ∷ others) = record { session = session; ends = comes sent } ∷ arrivals_from (session + 1) others

-- the first of those waiting were taken, and came so
pub record Took (arrivals : List Moment) (sent : List (List ℕ)) (before after : Connections) : Type 0 where
  pub taken : before.waiting ≡ sent ++ after.waiting
  pub returned : after.returned ≡ before.returned
  pub arrive : arrivals ≡ arrivals_from 0 sent

-- how taking them ended: all that were to be taken or all that there were; or the host failed, or memory was short
abbrev pub Halts : Result (Unit {0}) Halt → ℕ → List (List ℕ) → Connections → Type 0
Halts (Ok done) most sent before = length sent ≡ min most (length before.waiting)
Halts (Err halt) most sent before = ⊤

abbrev pub halt_ending : Result (Unit {0}) Halt → Ending
halt_ending (Ok done) = Answered
halt_ending (Err Failed) = DeviceFailed
halt_ending (Err Memory) = Answered

-- connections came, at most so many
abbrev pub Came : Result (Unit {0}) Halt → ℕ → List Moment → Option Connections → Option Connections → Type 0
Came halted most arrivals before after = Told before (λ c. IsSomeAnd after (λ c'. (sent : List (List ℕ)) × Took arrivals sent c c' × Halts halted most sent c))

-- ---- going

-- each was given back as it then was
abbrev pub AreBack : List Passed → List Returned → Type 0
AreBack [] [] = ⊤
AreBack (p ∷ passes) (r ∷ back) = (p.after.input ≡ Some r.rest) × (p.after.output ≡ Some r.output) × (r.failed ≡ either_failed p.after.input_faults p.after.output_faults) × AreBack passes back
AreBack passes back = ⊥

-- they were given back in this order, and those waiting stay
pub record Gave (passes : List Passed) (before after : Connections) : Type 0 where
  pub back : List Returned
  pub waiting : after.waiting ≡ before.waiting
  pub returned : after.returned ≡ before.returned ++ back
  pub are_back : AreBack passes back

-- of so many, fewer are told as given back, and those waiting stay
pub record Lost (n : ℕ) (before after : Connections) : Type 0 where
  pub waiting : after.waiting ≡ before.waiting
  pub fewer : length after.returned < length before.returned + n

-- ---- what was noted

-- what was said and turned away in connections, by session, and how many were short of memory
pub record HasNoted (notes : Notes) (passes : List Passed) : Type 0 where
  pub said : lists_of notes.said ≡ map (λ (p : Passed). p.after.said) passes
  pub turned : lists_of notes.turned ≡ map (λ (p : Passed). p.after.turned) passes
  pub short : notes.short ≡ count_by (λ (p : Passed). is_short p.end) passes

-- that of one more connection was added
pub record AddsOne (said : List Said) (turned : List Turned) (end : ConnEnd) (before after : Notes) : Type 0 where
  pub said_is : lists_of after.said ≡ lists_of before.said ++ said ∷ []
  pub turned_is : lists_of after.turned ≡ lists_of before.turned ++ turned ∷ []
  pub short_is : after.short ≡ before.short + (if is_short end then 1 else 0)

-- ---- all of it

-- connections came, were served, and were given back
pub record PassedThrough (most : ℕ) (passes : List Passed) (before after : Connections) : Type 0 where
  pub sent : List (List ℕ)
  pub back : List Returned
  pub taken : before.waiting ≡ sent ++ after.waiting
  pub count : length sent ≡ min most (length before.waiting)
  pub arrive : map moment_of passes ≡ arrivals_from 0 sent
  pub returned : after.returned ≡ before.returned ++ back
  pub are_back : AreBack passes back

pub record Connected (most : ℕ) (notes : Notes) (before after : Option Connections) : Type 0 where
  pub passes : List Passed
  pub noted : HasNoted notes passes
  pub each : AllByRecursion IsPassed passes
  pub few : length passes ≤ most
  pub through : Told before (λ c. IsSomeAnd after (PassedThrough most passes c))

-- a failure that is a fault or want of memory
abbrev pub IsPlain : ServeErr → Type 0
IsPlain (serve.Failed short) = ⊤
IsPlain (serve.Differs finding) = ⊥
IsPlain serve.Memory = ⊤

-- why there are no notes of connections that came so and of which each is told as given back, or not each
abbrev pub IsOutcome : Result (Unit {0}) Halt → Bool → ServeErr → Type 0
IsOutcome halted told (serve.Failed short) = (halted ≡ Err Failed) × (short ≡ not told)
IsOutcome halted told (serve.Differs finding) = ⊥
IsOutcome halted told serve.Memory = ⊤

-- a failure that is no fault
abbrev pub IsFaultless : ServeErr → Type 0
IsFaultless (serve.Failed short) = ⊥
IsFaultless (serve.Differs finding) = ⊤
IsFaultless serve.Memory = ⊤

-- ---- closing

-- behind what was said in a session there may stand one disconnect more
abbrev pub IsClosedBy : List Said → List Said → Type 0
IsClosedBy said said' = (more : List Said) × IsClosing more × (is_closed said ≡ true → more ≡ []) × (said' ≡ said ++ more)

abbrev pub AreClosed : List (List Said) → List (List Said) → Type 0
AreClosed [] [] = ⊤
AreClosed (said ∷ lists) (said' ∷ lists') = IsClosedBy said said' × AreClosed lists lists'
AreClosed lists lists' = ⊥

-- ---- the capture

-- what was captured of connections with these notes
pub record IsCapturedOf (start : StartView) (notes : Notes) (c : CaptureView) : Type 0 where
  pub recording : Recording
  pub said : List (List Said)
  pub capture : IsCapture start c recording
  pub connections : c.connections ≡ length notes.said
  pub short : c.short ≡ notes.short
  pub closed : AreClosed (lists_of notes.said) said
  pub agrees : Agrees start recording said (lists_of notes.turned)
