-- Words of private clauses. They need not be believed.
use Rattle.std.specs.Prelude.{◌≡◌, ◌⊎◌, ℕ, ◌+◌, ◌*◌, ◌<◌, ◌≤◌, Bool, List, [], ◌++◌, length, map, take, slice_range, Option, None, Some, IsSomeAnd, IfSome, Result, Ok, Err, if◌then◌else◌}
use Rattle.desk_values.specs.declared.call.Call.{Call as Asked}
use Rattle.desk_values.specs.declared.memory.Memory.{Memory}
use Rattle.desk_files.specs.Outside.{Told as Where, Appends, AppendsPart, HasRisen}
use Rattle.capture_recorder.specs.declared.door.Said.{Said}
use Rattle.capture_recorder.specs.declared.door.Turned.{Turned}
use Rattle.http_requests.specs.declared.decision.Decision.{Decision}
use Rattle.http_requests.specs.declared.request.Request.{Request}
use Rattle.http_requests.specs.Requests.{Begins, IsUnfinished, IsWholeAt}
use Rattle.capture_http.specs.declared.answering.Reaction.{Reaction}
use Rattle.capture_http.specs.declared.conn_end.ConnEnd.{ConnEnd}
use Rattle.capture_http.specs.declared.conn_end.ConnEnd.TheVariants as ends
use Rattle.capture_http.specs.Answers.{shortage}
use Rattle.capture_http.specs.Conversation.{Answer, MayCome, Turn, IsTurn, AreOpen, answers, answer_text, entry_of, own_of, said_by, said_of, turned_by, turned_of}
use Rattle.capture_http.specs.Ends.{Course, Ends, Follows, InputStands, IsEnd, Noted, Wrote, WrotePart, listed}

-- ---- reading

-- how many bytes a request may have
abbrev pub request_bytes : ℕ
request_bytes = 73728

-- no byte was lost: what was held, and then what was left, is what is held, and then what is left
abbrev pub LosesNothing : List ℕ → Option (List ℕ) → List ℕ → Option (List ℕ) → Type 0
LosesNothing held before held' after = Where before (λ left. IsSomeAnd after (λ left'. held ++ left ≡ held' ++ left'))

-- why no whole request was read
abbrev pub Stops : ConnEnd → List ℕ → Option (List ℕ) → Option (List ℕ) → ℕ → ℕ → Type 0
Stops ends.Ended held before after faults faults' = IsUnfinished held × Where before (λ all. after ≡ Some []) × (faults' ≡ faults)
Stops ends.SourceFault held before after faults faults' = IsUnfinished held × HasRisen faults faults' × (faults ≤ faults')
Stops ends.Memory held before after faults faults' = faults' ≡ faults
Stops ends.Spent held before after faults faults' = ⊥
Stops ends.SinkFault held before after faults faults' = ⊥

-- some bytes came behind those that were held
abbrev pub MoreCame : Result (Unit {0}) ConnEnd → List ℕ → List ℕ → Option (List ℕ) → Option (List ℕ) → ℕ → ℕ → Type 0
MoreCame (Ok done) held held' before after faults faults' = ((more : List ℕ) × (0 < length more) × (held' ≡ held ++ more)) × (faults' ≡ faults)
MoreCame (Err end) held held' before after faults faults' = Stops end held' before after faults faults'

-- what is held begins with a request
abbrev pub HeadCame : Result Request ConnEnd → List ℕ → Option (List ℕ) → Option (List ℕ) → ℕ → ℕ → Type 0
HeadCame (Ok r) held' before after faults faults' = Begins held' r × (faults' ≡ faults)
HeadCame (Err end) held' before after faults faults' = Stops end held' before after faults faults'

-- all of that request is held
abbrev pub BodyCame : Result (Unit {0}) ConnEnd → Request → List ℕ → Option (List ℕ) → Option (List ℕ) → ℕ → ℕ → Type 0
BodyCame (Ok done) r held' before after faults faults' = IsWholeAt held' r × (faults' ≡ faults)
BodyCame (Err end) r held' before after faults faults' = Stops end held' before after faults faults'

abbrev pub RequestCame : Result Request ConnEnd → List ℕ → Option (List ℕ) → Option (List ℕ) → ℕ → ℕ → Type 0
RequestCame (Ok r) held' before after faults faults' = IsWholeAt held' r × (faults' ≡ faults)
RequestCame (Err end) held' before after faults faults' = Stops end held' before after faults faults'

-- ---- answering

abbrev pub EntriesOf : List (Asked × Bool) → List Turned → List Turned → Type 0
EntriesOf entries before after = (more : List Turned) × (after ≡ before ++ more) × (map entry_of more ≡ entries)

-- this came of a request, and the door noted it
pub record CameOf (decision : Decision) (body : List ℕ) (answer : Answer) (said said' : List Said) (turned turned' : List Turned) : Type 0 where
  pub may : MayCome decision.verdict body answer
  pub said_is : said' ≡ said ++ said_by answer
  pub turned_is : EntriesOf (turned_by answer) turned turned'

-- these bytes, and whether they carry the server's reply
abbrev pub IsAnswer : List ℕ → Bool → Reaction → Type 0
IsAnswer text replied r = (r.text ≡ text) × (r.replied ≡ replied)

-- and these are the bytes of its answer
pub record ReactsBy (session calls : ℕ) (decision : Decision) (body : List ℕ) (r : Reaction) (said said' : List Said) (turned turned' : List Turned) : Type 0 where
  pub answer : Answer
  pub came : CameOf decision body answer said said' turned turned'
  pub text : r.text ≡ answer_text session calls decision answer
  pub count : (if r.replied then 1 else 0) ≡ length (said_by answer)

abbrev pub Reacts : ℕ → ℕ → Decision → List ℕ → Result Reaction Memory → List Said → List Said → List Turned → List Turned → Type 0
Reacts session calls decision body (Ok r) said said' turned turned' = ReactsBy session calls decision body r said said' turned turned'
Reacts session calls decision body (Err e) said said' turned turned' =
    ((said' ≡ said) × (turned' ≡ turned)) ⊎ ((answer : Answer) × CameOf decision body answer said said' turned turned')

-- ---- one turn

-- the first request of what is held, of which this came
abbrev pub turn_of : List ℕ → Request → Answer → Turn
turn_of held r answer = record { request = record { own = take (r.head + r.decision.body) held; body = slice_range held r.head (r.head + r.decision.body); decision = r.decision }; answer = answer }

-- at most one turn was taken from what was held and what came, and the door noted its call
pub record Moves (last : Option Turn) (held rest : List ℕ) (before after : Ends) : Type 0 where
  pub is_turn : IfSome last IsTurn
  pub input : Where before.input (λ left. IsSomeAnd after.input (λ left'. held ++ left ≡ own_of (listed last) ++ (rest ++ left')))
  pub few : length (own_of (listed last)) + length rest ≤ request_bytes
  pub said : after.said ≡ before.said ++ said_of (listed last)
  pub turned : EntriesOf (turned_of (listed last)) before.turned after.turned

-- nothing was written
pub record Silent (before after : Ends) : Type 0 where
  pub output : after.output ≡ before.output
  pub stands : after.output_faults ≡ before.output_faults

-- a request was answered
pub record Answers (session calls calls' : ℕ) (closes : Bool) (held held' : List ℕ) (before after : Ends) : Type 0 where
  pub turn : Turn
  pub closes_is : turn.request.decision.closes ≡ closes
  pub count : calls' ≡ calls + length (said_by turn.answer)
  pub moves : Moves (Some turn) held held' before after
  pub wrote : Wrote (answer_text session calls turn.request.decision turn.answer) before after
  pub input : InputStands before after

-- why none was
abbrev pub Breaks : ConnEnd → ℕ → ℕ → Option Turn → List ℕ → Ends → Ends → Type 0
Breaks ends.SinkFault session calls last rest before after =
    IsSomeAnd last (λ t. WrotePart [] (answer_text session calls t.request.decision t.answer) before after) × InputStands before after
Breaks ends.Memory session calls last rest before after = Silent before after × InputStands before after
Breaks end session calls last rest before after =
    (last ≡ None) × Silent before after × Stops end rest before.input after.input before.input_faults after.input_faults

pub record Fails (end : ConnEnd) (session calls : ℕ) (held : List ℕ) (before after : Ends) : Type 0 where
  pub last : Option Turn
  pub rest : List ℕ
  pub moves : Moves last held rest before after
  pub breaks : Breaks end session calls last rest before after

abbrev pub TurnEnds : Result Bool ConnEnd → ℕ → ℕ → ℕ → List ℕ → List ℕ → Ends → Ends → Type 0
TurnEnds (Ok closes) session calls calls' held held' before after = Answers session calls calls' closes held held' before after
TurnEnds (Err end) session calls calls' held held' before after = Fails end session calls held before after

-- ---- one turn after another

-- turns were taken after each of which the connection goes on
pub record GoesOn (session n count : ℕ) (held : List ℕ) (before after : Ends) : Type 0 where
  pub turns : List Turn
  pub are_open : AreOpen turns
  pub noted : Noted turns held before after
  pub wrote : Wrote (answers session turns) before after
  pub input : InputStands before after
  pub count_is : count ≡ length (said_of turns)
  pub many : length turns ≡ n
  pub own_few : length (own_of turns) ≤ n * request_bytes
  pub held_few : length held ≤ request_bytes

-- the answer where memory is short was written, or the output failed at it
abbrev pub Refuses : Option (List ℕ) → Option (List ℕ) → ℕ → ℕ → Type 0
Refuses output output' faults faults' =
    (Appends shortage output output' × (faults' ≡ faults))
    ⊎ (AppendsPart shortage output output' × HasRisen faults faults' × (faults ≤ faults'))

-- what stands where the answer where memory is short is not written yet
abbrev pub Halted : ConnEnd → ℕ → Course → Ends → Ends → Type 0
Halted ends.Memory session course before after = Wrote (answers session course.earlier) before after × InputStands before after
Halted end session course before after = IsEnd end session course before after

pub record Halts (end : ConnEnd) (session : ℕ) (before after : Ends) : Type 0 where
  pub course : Course
  pub follows : Follows course before after
  pub is_end : Halted end session course before after
