-- The gate of a history: what it says is what the history says, and both stay together.
use Rattle.std.proofs.Common.{◌≡◌, ℕ, ◌+◌, ◌<◌, ◌⊎◌, inl, inr, Bool, true, false, cond, List, [], ◌∷◌, ◌++◌, length, length-append, get_or, set, replicate, refl, sym, ap, subst, ◌∙◌, arith, slice_set}
use Rattle.std.specs.Prelude.{◌↔◌, ◌&&◌, not}
use Rattle.std.proofs.lemmas.Bool.{cases_Bool, cases_eq, cases_lt, both_ways}
use Rattle.std.proofs.lemmas.List.{get_or-replicate, get_or_past, get_or-set_same, get_or-set_other, length-replicate, length-set}
use Rattle.std.proofs.lemmas.List.Folds.{sum_by-replicate}
use Rattle.std.proofs.lemmas.List.Sums.{count_by-le-length, sum_by-set}
use Rattle.std.proofs.lemmas.Option.{slice_get_within, slice_get-get_or}
use Rattle.desk_values.specs.declared.call.Reply.{Reply}
use Rattle.desk_values.specs.declared.capture.Captured.{Captured}
use Rattle.desk_values.specs.declared.capture.Event.{Event}
use Rattle.desk_values.specs.declared.capture.Event.TheVariants.{Start, Answer}
use Rattle.object_depends.specs.Required.{is_required}
use Rattle.commit_gate.specs.Gates.{GateView, IsBefore, IsReady, is_in, new_gate}
use Rattle.commit_gate.proofs.Keeping.{in_more, in_other, in_within}
use Rattle.replay_history.specs.Gap.{IsCallAt, pause_before}
use Rattle.law_histories.specs.Going.{MayGo}
use Rattle.law_histories.specs.Places.{AreInPlace}
use Rattle.law_histories.proofs.Extended.{answer_is, answered_in, answered_kept, legal_answer, legal_none, legal_start, none_answered, none_started, start_is, start_legal, started_in, started_kept}
use Rattle.law_histories.proofs.Items.{item_there, last_at, some}
use Rattle.replay_job.specs.Job.{IsReplayable, JobView}
use Rattle.replay_job.specs.Runs.{IsLegalFor, IsPauseIn, MayStart, Requires}
use Rattle.replay_history.specs.History.{IsWaiting}
use Rattle.replay_schedule.specs.Gates.Following.{IsGateOf, size}
use Rattle.replay_schedule.proofs.Gates.Turns.{before_is_just, just_is_before}

-- ---- of a job

pub in_place : (job : JobView) → IsReplayable job → AreInPlace job.calls
in_place job replayable k call at = let fits = replayable.legal.each k call at in record { session = fits.session; place = fits.place }

-- ---- sets of stamps

both : (a b : Bool) → (a && not b) ≡ true → (a ≡ true) × (b ≡ false)
both true true e = absurd (cc)
both true false e = (refl, refl)
both false b e = absurd (cc)

pub none_in : (n k : ℕ) → is_in (replicate n false) k ≡ false
none_in n k = elim (cases_lt k n) [
  | inl lt ↦ get_or-replicate n k false false lt
  | inr past ↦ get_or_past (replicate n false) k false (omega (arith, length-replicate n false))
]

abbrev tell : Bool → ℕ
tell there = cond there 1 0

pub size_more : (stamps : List Bool) (k : ℕ) → k < length stamps → is_in stamps k ≡ false → size (set stamps k true) ≡ size stamps + 1
size_more stamps k lt unanswered =
    let sum = sum_by-set tell stamps k true false lt in
    let nothing = ap tell unanswered in
    omega (arith, sum, nothing)

pub size_less : (stamps : List Bool) (k : ℕ) → k < length stamps → is_in stamps k ≡ false → size stamps < length stamps
size_less stamps k lt unanswered =
    let more = size_more stamps k lt unanswered in
    let most = count_by-le-length (λ (there : Bool). there) (set stamps k true) in
    let long = length-set stamps k true in
    omega (arith, more, most, long)

pub size_none : (n : ℕ) → size (replicate n false) ≡ 0
size_none n = sum_by-replicate tell n false ∙ omega arith

module _ {job : JobView} {history : List Event} {gate : GateView} {waiting : List Bool} (is : IsGateOf job history gate waiting) where
  abbrev Goes : ℕ → ℕ → Type 0
  Goes = MayGo job.calls (Requires job) (IsPauseIn job) history

  same_requires : (k j : ℕ) → is_required gate.mode gate.facts k j ≡ is_required job.mode job.facts k j
  same_requires k j = λ i. is_required (is.mode i) (is.facts i) k j

  pub few : length gate.facts ≡ length job.calls
  few = ap length is.facts ∙ is.replayable.known.count

  -- a ready call may go, with each of its pauses
  ready_goes : (k pause : ℕ) (call : Captured) → IsCallAt job.calls k call → IsPauseIn job call pause → IsReady gate k → Goes k pause
  ready_goes k pause call at paused ready = record {
    is_call = (call, at, paused);
    fresh = λ started. both_ways (is_in gate.started k) ready.fresh ((is.started k).1 started);
    turn = λ other before j ot bt just.
        let before_it = just_is_before job.calls job.facts (in_place job is.replayable) is.replayable.known j k before other bt ot just in
        (is.answered j).0 (ready.turn j (subst (λ facts. IsBefore facts k j) (sym is.facts) before_it));
    needs = λ j needs. (is.answered j).0 (ready.required j (same_requires k j ∙ needs));
  }

  -- a call that may go is ready
  goes_ready : (k pause : ℕ) → Goes k pause → IsReady gate k
  goes_ready k pause go =
      let call = go.is_call.0 in
      let at = go.is_call.1 in
      let within = slice_get_within job.calls k call at in
      record {
        stamp = omega (arith, within, few);
        fresh = elim (cases_Bool (is_in gate.started k)) [ inl there ↦ absurd (go.fresh ((is.started k).0 there)) | inr unanswered ↦ unanswered ];
        turn = λ j before.
            let before_it = subst (λ facts. IsBefore facts k j) is.facts before in
            let it = get_or job.calls j call in
            let bt = slice_get-get_or job.calls j call (omega (arith, before_it.below, within)) in
            (is.answered j).1 (go.turn call it j at bt (before_is_just job.calls job.facts (in_place job is.replayable) is.replayable.known j k it call bt at before_it));
        required = λ j needs. (is.answered j).1 (go.needs j (sym (same_requires k j) ∙ needs));
      }

  call_there : (k : ℕ) → IsReady gate k → (call : Captured) × IsCallAt job.calls k call
  call_there k ready = item_there job.calls k (omega (arith, ready.stamp, few))

  pub ready_tells : (k : ℕ) → IsReady gate k ↔ MayStart job history k
  ready_tells k = (
    λ ready.
        let call = call_there k ready in
        let pause = pause_before job.calls job.connect job.think call.0 in
        (pause, legal_start job.calls (Requires job) (IsPauseIn job) history k pause is.legal (ready_goes k pause call.0 call.1 refl ready)),
    λ may. goes_ready k may.0 (start_legal job.calls (Requires job) (IsPauseIn job) history k may.0 may.1),
  )

  -- ---- waiting calls

  pub open_in_gate : (k : ℕ) → IsWaiting history k → (is_in gate.started k ≡ true) × (is_in gate.answered k ≡ false)
  open_in_gate k waits = ((is.started k).1 waits.0, elim (cases_Bool (is_in gate.answered k)) [ inl done ↦ absurd (waits.1 ((is.answered k).0 done)) | inr unanswered ↦ unanswered ])

  pub waiting_tells : (k : ℕ) → (is_in waiting k ≡ true) ↔ IsWaiting history k
  waiting_tells k = (
    λ there.
        let parts = both (is_in gate.started k) (is_in gate.answered k) (sym (is.between k) ∙ there) in
        ((is.started k).0 parts.0, λ answered. both_ways (is_in gate.answered k) parts.1 ((is.answered k).1 answered)),
    λ waits. let parts = open_in_gate k waits in is.between k ∙ rw (parts.0, parts.1) refl,
  )

  -- ---- a start and an answer

  gate_started : (k pause : ℕ) → k < length job.calls → is_in gate.started k ≡ false → is_in gate.answered k ≡ false → IsLegalFor job (history ++ Start k pause ∷ []) → IsGateOf job (history ++ Start k pause ∷ []) (record gate { started = slice_set gate.started k true }) (slice_set waiting k true)
  gate_started k pause within fresh unanswered legal = record {
    replayable = is.replayable;
    legal = legal;
    facts = is.facts;
    mode = is.mode;
    started_len = length-set gate.started k true ∙ is.started_len;
    answered_len = is.answered_len;
    waiting_len = length-set waiting k true ∙ is.waiting_len;
    started = λ j. (
      λ there. elim (cases_eq j k) [
        | inl same ↦ (length history, pause, last_at history (Start k pause) ∙ ap (λ n. some (Start n pause)) (sym same))
        | inr other ↦ started_kept history (Start k pause) j ((is.started j).0 (in_other gate.started k j other there))
      ],
      λ there. elim (started_in history (Start k pause) j there) [
        | inl before ↦ in_more gate.started k j ((is.started j).1 before)
        | inr new ↦ ap (λ n. is_in (set gate.started k true) n) (sym (start_is k pause j new.0 new.1).0) ∙ get_or-set_same gate.started k true false (omega (arith, within, is.started_len))
      ],
    );
    answered = λ j. (
      λ there. answered_kept history (Start k pause) j ((is.answered j).0 there),
      λ there. elim (answered_in history (Start k pause) j there) [
        | inl before ↦ (is.answered j).1 before
        | inr new ↦ absurd (cc (new.1))
      ],
    );
    between = λ j. elim (cases_eq j k) [
      | inl same ↦ subst (λ n. is_in (set waiting k true) n ≡ (is_in (set gate.started k true) n && not (is_in gate.answered n))) (sym same) here
      | inr other ↦ get_or-set_other waiting k j true false other ∙ is.between j ∙ ap (λ b. b && not (is_in gate.answered j)) (sym (get_or-set_other gate.started k j true false other))
    ];
    events = let more = size_more gate.started k (omega (arith, within, is.started_len)) fresh in omega (arith, more, is.events, length-append history (Start k pause ∷ []));
  } where
    here : is_in (set waiting k true) k ≡ (is_in (set gate.started k true) k && not (is_in gate.answered k))
    here =
        let now = get_or-set_same gate.started k true false (omega (arith, within, is.started_len)) in
        let waits_now = get_or-set_same waiting k true false (omega (arith, within, is.waiting_len)) in
        rw (waits_now, now, unanswered) refl

  gate_answered : (k : ℕ) (reply : Reply) → is_in gate.started k ≡ true → is_in gate.answered k ≡ false → IsLegalFor job (history ++ Answer k reply ∷ []) → IsGateOf job (history ++ Answer k reply ∷ []) (record gate { answered = slice_set gate.answered k true }) (slice_set waiting k false)
  gate_answered k reply begun unanswered legal = record {
    replayable = is.replayable;
    legal = legal;
    facts = is.facts;
    mode = is.mode;
    started_len = is.started_len;
    answered_len = length-set gate.answered k true ∙ is.answered_len;
    waiting_len = length-set waiting k false ∙ is.waiting_len;
    started = λ j. (
      λ there. started_kept history (Answer k reply) j ((is.started j).0 there),
      λ there. elim (started_in history (Answer k reply) j there) [
        | inl before ↦ (is.started j).1 before
        | inr new ↦ absurd (cc (new.1))
      ],
    );
    answered = λ j. (
      λ there. elim (cases_eq j k) [
        | inl same ↦ (length history, reply, last_at history (Answer k reply) ∙ ap (λ n. some (Answer n reply)) (sym same))
        | inr other ↦ answered_kept history (Answer k reply) j ((is.answered j).0 (in_other gate.answered k j other there))
      ],
      λ there. elim (answered_in history (Answer k reply) j there) [
        | inl before ↦ in_more gate.answered k j ((is.answered j).1 before)
        | inr new ↦ ap (λ n. is_in (set gate.answered k true) n) (sym (answer_is k j reply new.0 new.1)) ∙ get_or-set_same gate.answered k true false (omega (arith, within, is.answered_len, is.started_len))
      ],
    );
    between = λ j. elim (cases_eq j k) [
      | inl same ↦ subst (λ n. is_in (set waiting k false) n ≡ (is_in gate.started n && not (is_in (set gate.answered k true) n))) (sym same) here
      | inr other ↦ get_or-set_other waiting k j false false other ∙ is.between j ∙ ap (λ b. is_in gate.started j && not b) (sym (get_or-set_other gate.answered k j true false other))
    ];
    events = let more = size_more gate.answered k (omega (arith, within, is.answered_len, is.started_len)) unanswered in omega (arith, more, is.events, length-append history (Answer k reply ∷ []));
  } where
    within : k < length gate.started
    within = in_within gate.started k begun

    here : is_in (set waiting k false) k ≡ (is_in gate.started k && not (is_in (set gate.answered k true) k))
    here =
        let now = get_or-set_same gate.answered k true false (omega (arith, within, is.answered_len, is.started_len)) in
        let waits_no_more = get_or-set_same waiting k false false (omega (arith, within, is.waiting_len, is.started_len)) in
        rw (waits_no_more, begun, now) refl

  -- a call that is not started is not answered
  still : (k : ℕ) → IsReady gate k → is_in gate.answered k ≡ false
  still k ready = elim (cases_Bool (is_in gate.answered k)) [
    | inl done ↦
        let at = (is.answered k).0 done in
        let begun = is.legal.answer_started at.0 k at.1 at.2 in
        absurd (both_ways (is_in gate.started k) ready.fresh ((is.started k).1 (begun.0, begun.1, begun.3)))
    | inr unanswered ↦ unanswered
  ]

  pub start_follows : (k pause : ℕ) → MayStart job history k → ((call : Captured) → IsCallAt job.calls k call → IsPauseIn job call pause) → IsGateOf job (history ++ Start k pause ∷ []) (record gate { started = slice_set gate.started k true }) (slice_set waiting k true)
  start_follows k pause may paused =
      let ready = (ready_tells k).1 may in
      let call = call_there k ready in
      gate_started k pause (omega (arith, ready.stamp, few)) ready.fresh (still k ready) (legal_start job.calls (Requires job) (IsPauseIn job) history k pause is.legal (ready_goes k pause call.0 call.1 (paused call.0 call.1) ready))

  pub start_waits : (k pause : ℕ) → MayStart job history k → IsWaiting (history ++ Start k pause ∷ []) k
  start_waits k pause may = (
    (length history, pause, last_at history (Start k pause)),
    λ done. elim (answered_in history (Start k pause) k done) [
      | inl before ↦ both_ways (is_in gate.answered k) (still k ((ready_tells k).1 may)) ((is.answered k).1 before)
      | inr new ↦ absurd (cc (new.1))
    ],
  )

  pub answer_follows : (k : ℕ) (reply : Reply) → IsWaiting history k → IsGateOf job (history ++ Answer k reply ∷ []) (record gate { answered = slice_set gate.answered k true }) (slice_set waiting k false)
  answer_follows k reply waits =
      let parts = open_in_gate k waits in
      gate_answered k reply parts.0 parts.1 (legal_answer job.calls (Requires job) (IsPauseIn job) history k reply is.legal waits.0 waits.1)

  -- ---- room

  room_within : (k : ℕ) → k < length job.calls → is_in gate.answered k ≡ false → (k < length job.calls) × (is_in gate.answered k ≡ false) × (length history < length job.calls + length job.calls)
  room_within k within unanswered =
      let less = size_less gate.answered k (omega (arith, within, is.answered_len)) unanswered in
      let most = count_by-le-length (λ (there : Bool). there) gate.started in
      (within, unanswered, omega (arith, is.events, less, most, is.started_len, is.answered_len))

  pub open_room : (k : ℕ) → MayStart job history k ⊎ IsWaiting history k → (k < length job.calls) × (is_in gate.answered k ≡ false) × (length history < length job.calls + length job.calls)
  open_room k (inl may) = let ready = (ready_tells k).1 may in room_within k (omega (arith, ready.stamp, few)) (still k ready)
  open_room k (inr waits) = let parts = open_in_gate k waits in room_within k (let within = in_within gate.started k parts.0 in omega (arith, within, is.started_len)) parts.1

-- before the first event
pub new_follows : (job : JobView) → IsReplayable job → IsGateOf job [] (new_gate job.facts job.mode) (replicate (length job.calls) false)
new_follows job replayable = record {
  replayable = replayable;
  legal = legal_none job.calls (Requires job) (IsPauseIn job) [];
  facts = refl;
  mode = refl;
  started_len = length-replicate (length job.facts) false ∙ replayable.known.count;
  answered_len = length-replicate (length job.facts) false ∙ replayable.known.count;
  waiting_len = length-replicate (length job.calls) false;
  started = λ k. (λ there. absurd (both_ways (is_in (replicate (length job.facts) false) k) (none_in (length job.facts) k) there), λ there. absurd (none_started k there));
  answered = λ k. (λ there. absurd (both_ways (is_in (replicate (length job.facts) false) k) (none_in (length job.facts) k) there), λ there. absurd (none_answered k there));
  between = λ k. rw (none_in (length job.calls) k, none_in (length job.facts) k) refl;
  events = let none = size_none (length job.facts) in omega (arith, none);
}
