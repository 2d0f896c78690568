-- What comes of a call.
use Rattle.std.proofs.Common.{◌≡◌, ℕ, Bool, true, false, List, [], ◌∷◌, length, Result, Ok, Err, IfOk, if◌then◌else◌, refl, sym, ◌∙◌, inr}
use Rattle.std.proofs.lemmas.List.{append-nil}
use Rattle.desk_values.specs.declared.call.Call.{Call as Asked}
use Rattle.desk_values.specs.declared.call.Reply.{Reply}
use Rattle.desk_values.specs.declared.memory.Memory.{Memory}
use Rattle.capture_recorder.specs.declared.door.Said.{Said}
use Rattle.capture_recorder.specs.declared.door.Turned.{Turned}
use Rattle.capture_recorder.specs.declared.refusal.CallErr.TheVariants.{Stranger, Full as NoRoom}
use Rattle.capture_recorder.specs.Doors.{Notes}
use Rattle.call_json.specs.Forms.{reply_text}
use Rattle.call_json.specs.Spellings.{IsCallJson}
use Rattle.http_requests.specs.declared.decision.Decision.{Decision}
use Rattle.http_requests.specs.declared.decision.Verdict.TheVariants.{Call}
use Rattle.capture_http.specs.declared.answering.Reaction.{Reaction}
use Rattle.capture_http.specs.Answers.{response}
use Rattle.capture_http.specs.Conversation.{Answer, NoCall, Replied, Strange, Full, answer_text, said_by}
use Rattle.capture_http.specs.Inside.{CameOf, IsAnswer, Reacts}

-- the answer was made, or memory was short for it
answered : (session count : ℕ) (decision : Decision) (body : List ℕ) (answer : Answer) (text : List ℕ) (replied : Bool) (r : Result Reaction Memory) (said said' : List Said) (turned turned' : List Turned) → CameOf decision body answer said said' turned turned' → (if replied then 1 else 0) ≡ length (said_by answer) → text ≡ answer_text session count decision answer → IfOk r (IsAnswer text replied) → Reacts session count decision body r said said' turned turned'
answered session count decision body answer text replied (Ok r) said said' turned turned' came counted is made = record {
  answer = answer;
  came = came;
  text = made.0 ∙ is;
  count = rw made.1 counted;
}
answered session count decision body answer text replied (Err e) said said' turned turned' came counted is made = inr (answer, came)

pub no_call : (session count : ℕ) (decision : Decision) (body : List ℕ) (r : Result Reaction Memory) (said : List Said) (turned : List Turned) → decision.verdict ≡ Call → ((call : Asked) → ¬ IsCallJson body call) → IfOk r (IsAnswer (response 400 decision.closes []) false) → Reacts session count decision body r said said turned turned
no_call session count decision body r said turned asks none made = answered session count decision body NoCall (response 400 decision.closes []) false r said said turned turned (record {
  may = rw asks none;
  said_is = sym (append-nil said);
  turned_is = ([], sym (append-nil turned), refl);
}) refl (rw asks refl) made

pub replied : (session count : ℕ) (decision : Decision) (body : List ℕ) (call : Asked) (reply : Reply) (r : Result Reaction Memory) (said said' : List Said) (turned turned' : List Turned) → decision.verdict ≡ Call → IsCallJson body call → Notes call (Ok reply) said said' turned turned' → IfOk r (IsAnswer (response 200 decision.closes (reply_text reply)) true) → Reacts session count decision body r said said' turned turned'
replied session count decision body call reply r said said' turned turned' asks is notes made = answered session count decision body (Replied call reply) (response 200 decision.closes (reply_text reply)) true r said said' turned turned' (record {
  may = rw asks is;
  said_is = notes.0;
  turned_is = ([], notes.1 ∙ sym (append-nil turned), refl);
}) refl (rw asks refl) made

pub strange : (session count : ℕ) (decision : Decision) (body : List ℕ) (call : Asked) (r : Result Reaction Memory) (said said' : List Said) (turned turned' : List Turned) → decision.verdict ≡ Call → IsCallJson body call → Notes call (Err Stranger) said said' turned turned' → IfOk r (IsAnswer (response 400 decision.closes []) false) → Reacts session count decision body r said said' turned turned'
strange session count decision body call r said said' turned turned' asks is notes made = answered session count decision body (Strange call) (response 400 decision.closes []) false r said said' turned turned' (record {
  may = rw asks is;
  said_is = notes.0 ∙ sym (append-nil said);
  turned_is = (notes.1.entry ∷ [], notes.1.added, rw (notes.1.call_is, notes.1.full_is) refl);
}) refl (rw asks refl) made

pub full : (session count : ℕ) (decision : Decision) (body : List ℕ) (call : Asked) (r : Result Reaction Memory) (said said' : List Said) (turned turned' : List Turned) → decision.verdict ≡ Call → IsCallJson body call → Notes call (Err NoRoom) said said' turned turned' → IfOk r (IsAnswer (response 409 decision.closes []) false) → Reacts session count decision body r said said' turned turned'
full session count decision body call r said said' turned turned' asks is notes made = answered session count decision body (Full call) (response 409 decision.closes []) false r said said' turned turned' (record {
  may = rw asks is;
  said_is = notes.0 ∙ sym (append-nil said);
  turned_is = (notes.1.entry ∷ [], notes.1.added, rw (notes.1.call_is, notes.1.full_is) refl);
}) refl (rw asks refl) made
