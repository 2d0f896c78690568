-- The tests of numbers, moments and replies at one call.
use Rattle.std.proofs.Common.{◌≡◌, ◌≢◌, ℕ, ◌<◌, Bool, true, false, ◌&&◌, List, [], ◌∷◌, ◌++◌, length, get_or, set, refl, sym, ap, subst, ◌∙◌, ◌+◌, take}
use Rattle.std.specs.Prelude.{None, Some, nat_eq, if◌then◌else◌, nat_le, slice_index}
use Rattle.std.proofs.lemmas.Bool.{eq-eqb, eqb-true, ne_eqb, true≢false}
use Rattle.std.proofs.lemmas.List.{get_or-set_same, get_or-set_other, map-append}
use Rattle.desk_values.specs.declared.capture.Captured.{Captured}
use Rattle.captured_calls.specs.Moments.{ended_in}
use Rattle.captured_calls.proofs.Following.{ended_more}
use Rattle.captured_calls.specs.declared.refusal.Refusal.TheVariants.{Number, Times, Reply as OtherReply}
use Rattle.captured_calls.specs.Tests.{unless, bad_number, bad_times, right_number, asked, bad_reply, right_reply}
use Rattle.desk_values.specs.declared.call.Reply.{Reply}
use Rattle.desk_schema.specs.Start.{StartView}
use Rattle.server_words.specs.State.{State, opening}
use Rattle.server_words.specs.Step.{reply_in, run, step}
use Rattle.captured_calls.specs.Same.{same_reply}
use Rattle.captured_calls.proofs.Scanning.{taken}
use Rattle.captured_calls.proofs.Legality.{run_more}

pub number_fails : (before : List Captured) (call : Captured) (right : ℕ) → right ≡ right_number before call → call.number ≢ right → bad_number before call ≡ Some (Number call.stamp call.number right)
number_fails before call right is wrong = rw (is, ne_eqb call.number (right_number before call) (λ same. wrong (same ∙ sym is))) refl

pub number_passes : (before : List Captured) (call : Captured) (right : ℕ) → right ≡ right_number before call → call.number ≡ right → bad_number before call ≡ None
number_passes before call right is same = rw (eq-eqb call.number (right_number before call) (same ∙ is)) refl

-- ---- moments

pub ended_after : (ended : List ℕ) (before : List Captured) (call : Captured) (session : ℕ) → call.session < length ended → slice_index ended session ≡ ended_in session before → slice_index (set ended call.session call.ended) session ≡ ended_in session (before ++ call ∷ [])
ended_after ended before call session within was = at (nat_eq call.session session) refl ∙ sym (ended_more session before call)
  where
    at : (b : Bool) → nat_eq call.session session ≡ b → slice_index (set ended call.session call.ended) session ≡ (if b then call.ended else ended_in session before)
    at true same = let is = eqb-true call.session session same in subst (λ (s : ℕ). get_or (set ended call.session call.ended) s 0 ≡ call.ended) is (get_or-set_same ended call.session call.ended 0 within)
    at false other = get_or-set_other ended call.session session call.ended 0 (λ same. absurd (true≢false (sym (eq-eqb call.session session (sym same)) ∙ other))) ∙ was

pub times_pass : (before : List Captured) (call : Captured) (earliest : ℕ) → earliest ≡ ended_in call.session before → (nat_le call.began call.ended && nat_le earliest call.began) ≡ true → bad_times before call ≡ None
times_pass before call earliest is good = ap (λ (b : Bool). unless b (Times call.stamp)) (ap (λ (e : ℕ). nat_le call.began call.ended && nat_le e call.began) (sym is) ∙ good)

pub run_next : (start : StartView) (calls : List Captured) (i : ℕ) (call : Captured) (state next : State) → i < length calls → call ≡ get_or calls i call → state ≡ run (opening start) (asked (take i calls)) → next ≡ step state call.session call.call
    → next ≡ run (opening start) (asked (take (i + 1) calls))
run_next start calls i call state next within read was steps =
    steps ∙ ap (λ (s : State). step s call.session call.call) was
    ∙ sym (ap (λ (l : List Captured). run (opening start) (asked l)) (taken calls i call within read) ∙ ap (run (opening start)) (map-append (λ (c : Captured). (c.session, c.call)) (take i calls) (call ∷ [])) ∙ run_more (opening start) (asked (take i calls)) call.session call.call)

module _ (start : StartView) (before : List Captured) (call : Captured) (state : State) (right : Reply) (was : state ≡ run (opening start) (asked before)) (given : right ≡ reply_in state call.session call.call) where
  right_is : right ≡ right_reply start before call
  right_is = given ∙ ap (λ (s : State). reply_in s call.session call.call) was

  pub reply_passes : same_reply call.reply right ≡ true → bad_reply start before call ≡ None
  reply_passes same = ap (λ (r : Reply). unless (same_reply call.reply r) (OtherReply call.stamp call.reply r)) (sym right_is) ∙ ap (λ (b : Bool). unless b (OtherReply call.stamp call.reply right)) same
