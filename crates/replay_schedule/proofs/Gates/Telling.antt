-- What a gate tells of lanes and of the first open call is what the history says.
use Rattle.std.proofs.Common.{◌≡◌, ℕ, ◌<◌, ◌⊎◌, inl, inr, Bool, true, List, length, sym, ap, ◌∙◌, arith}
use Rattle.std.specs.Prelude.{◌↔◌, EachIndex, MatchOption, IfSome, Option, None, Some, slice_index}
use Rattle.std.proofs.lemmas.Option.{slice_get_within}
use Rattle.desk_values.specs.declared.capture.Captured.{Captured}
use Rattle.desk_values.specs.declared.capture.Event.{Event}
use Rattle.replay_history.specs.Gap.{IsCallAt}
use Rattle.replay_history.specs.History.{AnswersAll, IsWaiting}
use Rattle.object_depends.specs.Facts.{fact_at}
use Rattle.commit_gate.specs.Gates.{AreAllAnswered, GateView, IsDoneOf, IsFirstOpen as IsFirstOpenIn, IsPick as IsPickIn, IsReady, NoneReady, is_in}
use Rattle.replay_job.specs.Job.{JobView}
use Rattle.replay_job.specs.Runs.{IsCallOf, IsSessionDone, IsFirstOpen, IsPick, MayStart, NoneMayStart}
use Rattle.law_histories.proofs.Items.{item_there}
use Rattle.replay_schedule.specs.Gates.Following.{IsGateOf}
use Rattle.replay_schedule.proofs.Gates.Gates.{few, ready_tells}

module _ {job : JobView} {history : List Event} {gate : GateView} {waiting : List Bool} (is : IsGateOf job history gate waiting) where
  session_is : (k : ℕ) (call : Captured) → IsCallAt job.calls k call → (fact_at gate.facts k).session ≡ call.session
  session_is k call at = ap (λ facts. (fact_at facts k).session) is.facts ∙ (is.replayable.known.each k call at).session

  call_of : (session k : ℕ) → k < length gate.facts → (fact_at gate.facts k).session ≡ session → IsCallOf job session k
  call_of session k lt own =
      let call = item_there job.calls k (omega (arith, lt, few is)) in
      (call.0, call.1, sym (session_is k call.0 call.1) ∙ own)

  none_may : (session : ℕ) → NoneReady gate session → NoneMayStart job history session
  none_may session nobody k call may = nobody k ((ready_tells is k).1 may, session_is k call.0 call.1 ∙ call.2)

  pub pick_tells : (lane : List ℕ) (found : Option ℕ) → MatchOption found (EachIndex lane (λ i. NoneReady gate (slice_index lane i))) (IsPickIn gate lane) → MatchOption found (EachIndex lane (λ i. NoneMayStart job history (slice_index lane i))) (IsPick job history lane)
  pick_tells lane None nobody = λ i lt. none_may (slice_index lane i) (nobody i lt)
  pick_tells lane (Some k) pick = ((ready_tells is k).0 pick.2.0, (pick.0, pick.1, call_of (slice_index lane pick.0) k pick.2.0.stamp pick.2.1, λ j less. none_may (slice_index lane j) (pick.3 j less)))

  pub done_tells : (lane : List ℕ) → EachIndex lane (λ i. IsDoneOf gate (slice_index lane i)) ↔ EachIndex lane (λ i. IsSessionDone job history (slice_index lane i))
  done_tells lane = (
    λ all i lt k call. (is.answered k).0 (all i lt k (let within = slice_get_within job.calls k call.0 call.1 in omega (arith, within, few is)) (session_is k call.0 call.1 ∙ call.2)),
    λ all i lt k stamp own. (is.answered k).1 (all i lt k (call_of (slice_index lane i) k stamp own)),
  )

  pub first_open_tells : (found : Option ℕ) → MatchOption found (AreAllAnswered gate) (IsFirstOpenIn gate) → MatchOption found (AnswersAll job.calls history) (IsFirstOpen job history)
  first_open_tells None all = λ k lt. (is.answered k).0 (all k (omega (arith, lt, few is)))
  first_open_tells (Some k) first = record {
    stamp = omega (arith, first.stamp, few is);
    unanswered = λ done. absurd (cc (first.unanswered, (is.answered k).1 done));
    least = λ j less. (is.answered j).0 (first.least j less);
  }

  pub first_is_free : (found : Option ℕ) → MatchOption found (AreAllAnswered gate) (IsFirstOpenIn gate) → IfSome found (λ k. (is_in gate.started k ≡ true) ⊎ IsReady gate k) → IfSome found (λ k. IsWaiting history k ⊎ MayStart job history k)
  first_is_free None all free = tt
  first_is_free (Some k) first (inl begun) = inl ((is.started k).0 begun, λ done. absurd (cc (first.unanswered, (is.answered k).1 done)))
  first_is_free (Some k) first (inr ready) = inr ((ready_tells is k).0 ready)
