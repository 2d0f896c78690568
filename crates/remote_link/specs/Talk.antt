-- The bytes that are sent for a call, and the bytes that give its reply.
use Rattle.std.specs.Prelude.{◌≡◌, ◌⊎◌, ℕ, List, [], ◌++◌, length, codes, decimal, Option, None, Some, option_map}
use Rattle.desk_values.specs.declared.call.Call.{Call}
use Rattle.desk_values.specs.declared.call.Outcome.TheVariants.{Refused}
use Rattle.desk_values.specs.declared.call.Reply.{Reply}
use Rattle.desk_values.specs.declared.fault.Fault.TheVariants.{BindMissing}
use Rattle.desk_files.specs.Outside.{Appends, Told}
use Rattle.call_json.specs.Forms.{call_text}
use Rattle.call_json.specs.Spellings.{IsReplyJson}
use Rattle.http_answers.specs.Answers.{IsAnswer}

-- ---- a call

unfoldable pub request_head : ℕ → List ℕ
request_head n = codes "POST /call HTTP/1.1\r\nHost: 127.0.0.1\r\nContent-Length: " ++ decimal n ++ codes "\r\n\r\n"

-- a request whose body is the call's JSON text
abbrev pub request_text : Call → List ℕ
request_text call = request_head (length (call_text call)) ++ call_text call

-- ---- its reply

-- A call whose JSON text is well formed is answered 400 only for an id that the server never gave: it is read as this refusal.
abbrev pub never_given : Reply
never_given = record { outcome = Refused BindMissing; draws = []; made = None }

-- an answer with this status and this body gives this reply
abbrev pub Gives : ℕ → List ℕ → Reply → Type 0
Gives status body reply = ((status ≡ 200) × IsReplyJson body reply) ⊎ ((status ≡ 400) × (reply ≡ never_given))

-- just these bytes are an answer that gives this reply
pub record IsReplied (own : List ℕ) (reply : Reply) : Type 0 where
  pub status : ℕ
  pub body : List ℕ
  pub answer : IsAnswer own status body
  pub gives : Gives status body reply

-- the bytes begin with no answer that gives a reply
abbrev pub GivesNone : List ℕ → Type 0
GivesNone bytes = (own rest : List ℕ) (reply : Reply) → IsReplied own reply → bytes ≡ own ++ rest → ⊥

-- ---- one call after another

-- the bytes that came and were not taken, and then those that are left, where they are told
abbrev pub left_of : List ℕ → Option (List ℕ) → Option (List ℕ)
left_of held input = option_map (λ rest. held ++ rest) input

-- just the answer was taken with which the bytes began, and it gives this reply
abbrev pub Takes : Reply → List ℕ → Option (List ℕ) → Type 0
Takes reply bytes after = (own : List ℕ) × (rest : List ℕ) × IsReplied own reply × (bytes ≡ own ++ rest) × (after ≡ Some rest)

-- just the call's request was sent, and just its answer taken
pub record Converses (call : Call) (reply : Reply) (left left' written written' : Option (List ℕ)) : Type 0 where
  pub sent : Appends (request_text call) written written'
  pub taken : Told left (λ bytes. Takes reply bytes left')
