-- Calls that are a legal capture pass each test.
use Rattle.std.proofs.Common.{◌≡◌, ℕ, Bool, true, false, ◌&&◌, ◌||◌, List, [], ◌∷◌, ◌++◌, take, refl, sym, ap, subst, ◌∙◌}
use Rattle.std.specs.Prelude.{Option, None, Some, nat_le, not, slice_get}
use Rattle.std.specs.Option.{option_or}
use Rattle.std.specs.List.{AllByRecursion, list_any}
use Rattle.std.proofs.lemmas.Bool.{eq-eqb, le-leb}
use Rattle.std.proofs.lemmas.List.{map-append}
use Rattle.desk_values.specs.declared.value.Value.{Value}
use Rattle.desk_values.specs.declared.value.Image.{Image}
use Rattle.desk_values.specs.declared.capture.Captured.{Captured}
use Rattle.desk_schema.specs.Start.{StartView}
use Rattle.server_words.specs.State.{State, opening}
use Rattle.server_words.specs.Step.{Gives, run, step}
use Rattle.replay_history.specs.Capture.{IsKnown, IsRun, binds_of, commits_in}
use Rattle.captured_calls.specs.Known.{ids_known, is_stranger}
use Rattle.captured_calls.specs.Moments.{ended_in}
use Rattle.captured_calls.specs.Same.{same_reply}
use Rattle.captured_calls.proofs.Following.{waits}
use Rattle.captured_calls.proofs.Sameness.{reply_decided}
use Rattle.captured_calls.proofs.Strangers.{not_stranger}
use Rattle.captured_calls.specs.declared.refusal.Refusal.{Refusal}
use Rattle.captured_calls.specs.declared.refusal.Refusal.TheVariants.{Reply as OtherReply}
use Rattle.captured_calls.specs.Tests.{asked, bad_ids, bad_number, bad_reply, bad_seen, bad_times, first_refused, right_number, right_reply, unless}
use Rattle.captured_calls.specs.Verdict.{IsLegal, fault_of}
use Rattle.captured_calls.proofs.Legality.{run_more}
use Rattle.law_commands.proofs.Legality.Walks.{none_refused}

pub unless_true : (b : Bool) (refusal : Refusal) → b ≡ true → unless b refusal ≡ None
unless_true b refusal e = ap (λ (t : Bool). unless t refusal) e

-- ---- replies

pub run_passes : (start : StartView) (before calls : List Captured) (last : State) → IsRun Gives (run (opening start) (asked before)) calls last → first_refused (bad_reply start) before calls ≡ None
run_passes start before [] last is = refl
run_passes start before (call ∷ calls) last is =
    let state = run (opening start) (asked before) in
    let right = right_reply start before call in
    let head : bad_reply start before call ≡ None = unless_true (same_reply call.reply right) (OtherReply call.stamp call.reply right) ((reply_decided call.reply right).1 is.1.0) in
    let more : run (opening start) (asked (before ++ call ∷ [])) ≡ step state call.session call.call = ap (run (opening start)) (map-append (λ (c : Captured). (c.session, c.call)) before (call ∷ [])) ∙ run_more (opening start) (asked before) call.session call.call in
    ap (λ (o : Option Refusal). option_or o (first_refused (bad_reply start) (before ++ call ∷ []) calls)) head
    ∙ run_passes start (before ++ call ∷ []) calls last (subst (λ (s : State). IsRun Gives s calls last) (is.1.1 ∙ sym more) is.2)

-- ---- ids

no_strangers : (rows : List Image) (calls : List Captured) (k : ℕ) (values : List Value) → AllByRecursion (IsKnown rows calls k) values → list_any (is_stranger (ids_known rows (take k calls))) values ≡ false
no_strangers rows calls k [] all = refl
no_strangers rows calls k (v ∷ values) all = ap (λ (b : Bool). b || list_any (is_stranger (ids_known rows (take k calls))) values) (not_stranger rows calls k v all.0) ∙ no_strangers rows calls k values all.1

-- ---- all of it

module _ (start : StartView) (calls : List Captured) (legal : IsLegal start calls) where
  numbers : (k : ℕ) (call : Captured) → slice_get calls k ≡ Some call → bad_number (take k calls) call ≡ None
  numbers k call there = unless_true _ _ (eq-eqb call.number (right_number (take k calls) call) (legal.each k call there).number)

  seen : (k : ℕ) (call : Captured) → slice_get calls k ≡ Some call → bad_seen (take k calls) call ≡ None
  seen k call there = unless_true _ _ (eq-eqb call.seen (commits_in (take k calls)) (legal.each k call there).seen)

  times : (k : ℕ) (call : Captured) → slice_get calls k ≡ Some call → bad_times (take k calls) call ≡ None
  times k call there =
      let early = nat_le (ended_in call.session (take k calls)) call.began in
      unless_true _ _ (ap (λ (b : Bool). b && early) (le-leb call.began call.ended (legal.each k call there).ends) ∙ le-leb (ended_in call.session (take k calls)) call.began (waits calls k call (λ j other at. (legal.each j other at).place) (legal.each k call there).place (legal.each k call there).follows))

  ids : (k : ℕ) (call : Captured) → slice_get calls k ≡ Some call → bad_ids start.rows (take k calls) call ≡ None
  ids k call there = unless_true _ _ (ap not (no_strangers start.rows calls k (binds_of call.call) (legal.each k call there).known))

  pub no_fault : fault_of start calls ≡ None
  no_fault = ap (λ (o : Option Refusal). option_or o (option_or (first_refused bad_seen [] calls) (option_or (first_refused bad_times [] calls) (option_or (first_refused (bad_ids start.rows) [] calls) (first_refused (bad_reply start) [] calls))))) (none_refused bad_number [] calls numbers)
      ∙ ap (λ (o : Option Refusal). option_or o (option_or (first_refused bad_times [] calls) (option_or (first_refused (bad_ids start.rows) [] calls) (first_refused (bad_reply start) [] calls)))) (none_refused bad_seen [] calls seen)
      ∙ ap (λ (o : Option Refusal). option_or o (option_or (first_refused (bad_ids start.rows) [] calls) (first_refused (bad_reply start) [] calls))) (none_refused bad_times [] calls times)
      ∙ ap (λ (o : Option Refusal). option_or o (first_refused (bad_reply start) [] calls)) (none_refused (bad_ids start.rows) [] calls ids)
      ∙ run_passes start [] calls legal.replies.0 legal.replies.1
