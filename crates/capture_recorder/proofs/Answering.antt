-- What an answer to a door says of its call.
use Rattle.std.proofs.Common.{◌≡◌, ◌∙◌, ℕ, Bool, true, false, ◌||◌, List, [], ◌∷◌, length, cond, refl, sym, ap, inl, inr}
use Rattle.std.specs.Prelude.{not, nat_le, Option, None, Some, Result, Ok, Err, IfOk, IfSome}
use Rattle.std.specs.List.{list_any}
use Rattle.std.proofs.lemmas.Bool.{cases_Bool, false≢true}
use Rattle.desk_values.specs.Good.{IsGoodReply}
use Rattle.desk_values.specs.Ids.{is_id}
use Rattle.desk_values.specs.declared.value.Value.{Value}
use Rattle.desk_values.specs.declared.value.Value.TheVariants.{Null, Int, Text, Row, Draw}
use Rattle.desk_values.specs.declared.call.Call.{Call}
use Rattle.desk_values.specs.declared.call.Reply.{Reply}
use Rattle.replay_history.specs.Capture.{binds_of}
use Rattle.server_words.specs.State.{State, is_given}
use Rattle.capture_recorder.specs.Doors.{IsClosing}
use Rattle.capture_recorder.specs.Inside.Answered.{IsAnswer, closing}
use Rattle.capture_recorder.specs.Limits.{accepted_limit}
use Rattle.capture_recorder.specs.Recording.{Recording, Turns, is_stranger, turned_away}
use Rattle.capture_recorder.specs.declared.recorder.Twice.{Twice}
use Rattle.capture_recorder.specs.declared.refusal.CallErr.{CallErr}
use Rattle.capture_recorder.specs.declared.refusal.CallErr.TheVariants.{Stranger, Full, Memory}

-- only an id may be a stranger
id_or_given : (state : State) (value : Value) → not (is_given state value) ≡ true → is_id value ≡ true
id_or_given state (Row n) is = refl
id_or_given state (Draw q n) is = refl
id_or_given state Null is = absurd (false≢true is)
id_or_given state (Int n) is = absurd (false≢true is)
id_or_given state (Text text) is = absurd (false≢true is)

some_id : (state : State) (values : List Value) → list_any (λ bind. not (is_given state bind)) values ≡ true → list_any is_id values ≡ true
some_id state [] is = is
some_id state (value ∷ values) is = elim (cases_Bool (not (is_given state value))) [
  | inl stranger ↦ ap (λ (b : Bool). b || list_any is_id values) (id_or_given state value stranger)
  | inr given ↦ later (is_id value) (some_id state values (sym (ap (λ (b : Bool). b || list_any (λ bind. not (is_given state bind)) values) given) ∙ is))
]
  where
    later : (b : Bool) → list_any is_id values ≡ true → (b || list_any is_id values) ≡ true
    later true rest = refl
    later false rest = rest

-- ---- a closing

pub is_closing : (reply : Option Reply) → IfSome reply (λ r. IsGoodReply r) → IsClosing (closing reply)
is_closing None good = inl refl
is_closing (Some reply) good = inr (reply, refl, good)

-- ---- why a call is turned away

abbrev chosen : Bool → Bool → Option CallErr
chosen full stranger = cond full (Some Full) (cond stranger (Some Stranger) None)

full_then : (full stranger : Bool) → chosen full stranger ≡ Some Full → full ≡ true
full_then true stranger is = refl
full_then false true is = cc
full_then false false is = cc

stranger_then : (full stranger : Bool) → chosen full stranger ≡ Some Stranger → (full ≡ false) × (stranger ≡ true)
stranger_then true stranger is = cc
stranger_then false true is = (refl, refl)
stranger_then false false is = cc

module _ (r : Recording) (call : Call) (held : ℕ) (is : held ≡ length r.calls) where
  pub answer_is : (result : Result Twice CallErr) → Turns result (turned_away r call) → IfOk result (λ twice. IsGoodReply twice.reply) → IfOk result (λ twice. twice.same ≡ twice.reply) → IsAnswer call held result
  answer_is (Ok twice) turns good same = (good, same)
  answer_is (Err Full) turns good same = ap (nat_le accepted_limit) is ∙ full_then (nat_le accepted_limit (length r.calls)) (is_stranger r.state call) turns
  answer_is (Err Stranger) turns good same =
      let two = stranger_then (nat_le accepted_limit (length r.calls)) (is_stranger r.state call) turns in
      (ap (nat_le accepted_limit) is ∙ two.0, some_id r.state (binds_of call) two.1)
  answer_is (Err Memory) turns good same = tt
