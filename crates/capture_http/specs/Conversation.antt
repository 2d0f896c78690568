-- What comes of a request, and of requests one after another.
use Rattle.std.specs.Prelude.{◌≡◌, ℕ, ◌+◌, Bool, true, false, List, [], ◌∷◌, ◌++◌, length, flat_map, ⊤}
use Rattle.std.specs.List.{AllByRecursion}
use Rattle.desk_values.specs.declared.call.Call.{Call as Asked}
use Rattle.desk_values.specs.declared.call.Reply.{Reply}
use Rattle.capture_recorder.specs.declared.door.Said.{Said}
use Rattle.capture_recorder.specs.declared.door.Turned.{Turned}
use Rattle.call_json.specs.Forms.{reply_text}
use Rattle.call_json.specs.Spellings.{IsCallJson}
use Rattle.http_requests.specs.declared.decision.Decision.{Decision}
use Rattle.http_requests.specs.declared.decision.Verdict.{Verdict}
use Rattle.http_requests.specs.declared.decision.Verdict.TheVariants.{Refused, Session, Call}
use Rattle.http_requests.specs.Requests.{Cut, IsOne}
use Rattle.capture_http.specs.Answers.{response, session_text}

-- what came of a request
pub data Answer : Type 0 where
  -- its head decided its answer
  Decided : Answer
  -- its body is no call
  NoCall : Answer
  -- the server replied to its call
  Replied : Asked → Reply → Answer
  -- the server turned its call away: an id was never given, or there is no more room
  Strange : Asked → Answer
  Full : Asked → Answer

-- a request and what came of it
pub record Turn : Type 0 where
  pub request : Cut
  pub answer : Answer

-- this may come of a request of this verdict and body
abbrev pub MayCome : Verdict → List ℕ → Answer → Type 0
MayCome (Refused status) body Decided = ⊤
MayCome Session body Decided = ⊤
MayCome Call body NoCall = (call : Asked) → ¬ IsCallJson body call
MayCome Call body (Replied call reply) = IsCallJson body call
MayCome Call body (Strange call) = IsCallJson body call
MayCome Call body (Full call) = IsCallJson body call
MayCome verdict body answer = ⊥

pub record IsTurn (t : Turn) : Type 0 where
  pub request : IsOne t.request
  pub answer : MayCome t.request.decision.verdict t.request.body t.answer

-- the call that was answered 200, with its reply
abbrev pub said_by : Answer → List Said
said_by Decided = []
said_by NoCall = []
said_by (Replied call reply) = record { call = call; reply = reply } ∷ []
said_by (Strange call) = []
said_by (Full call) = []

-- the call that was turned away, with whether it was for want of room
abbrev pub turned_by : Answer → List (Asked × Bool)
turned_by Decided = []
turned_by NoCall = []
turned_by (Replied call reply) = []
turned_by (Strange call) = (call, false) ∷ []
turned_by (Full call) = (call, true) ∷ []

-- the bytes of the answer where the body was to be a call
abbrev pub call_answer : Bool → Answer → List ℕ
call_answer closes Decided = []
call_answer closes NoCall = response 400 closes []
call_answer closes (Replied call reply) = response 200 closes (reply_text reply)
call_answer closes (Strange call) = response 400 closes []
call_answer closes (Full call) = response 409 closes []

abbrev pub text_by : ℕ → ℕ → Bool → Verdict → Answer → List ℕ
text_by session calls closes (Refused status) answer = response status closes []
text_by session calls closes Session answer = response 200 closes (session_text calls session)
text_by session calls closes Call answer = call_answer closes answer

-- the bytes of the answer in this session, after so many calls that were answered 200
abbrev pub answer_text : ℕ → ℕ → Decision → Answer → List ℕ
answer_text session calls decision answer = text_by session calls decision.closes decision.verdict answer

-- ---- one turn after another

abbrev pub own_of : List Turn → List ℕ
own_of turns = flat_map (λ (t : Turn). t.request.own) turns

abbrev pub said_of : List Turn → List Said
said_of turns = flat_map (λ (t : Turn). said_by t.answer) turns

abbrev pub turned_of : List Turn → List (Asked × Bool)
turned_of turns = flat_map (λ (t : Turn). turned_by t.answer) turns

abbrev pub answers_from : ℕ → ℕ → List Turn → List ℕ
answers_from session calls [] = []
answers_from session calls (t ∷ turns) = answer_text session calls t.request.decision t.answer ++ answers_from session (calls + length (said_by t.answer)) turns

-- the answers of a whole conversation
abbrev pub answers : ℕ → List Turn → List ℕ
answers session turns = answers_from session 0 turns

-- the connection goes on after this turn
pub record IsOpen (t : Turn) : Type 0 where
  pub turn : IsTurn t
  pub goes_on : t.request.decision.closes ≡ false

-- turns after each of which the connection goes on
abbrev pub AreOpen : List Turn → Type 0
AreOpen turns = AllByRecursion IsOpen turns

-- what an entry of the door says
abbrev pub entry_of : Turned → Asked × Bool
entry_of entry = (entry.call, entry.full)
