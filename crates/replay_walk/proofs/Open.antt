-- Which answers nothing stood before: where no commit differed so far, as events are passed.
use Rattle.std.proofs.Common.{◌≡◌, ◌∙◌, ℕ, suc, ◌+◌, ◌<◌, Bool, true, false, List, length, set, take, sym, ap, subst, ⊎_elim, arith}
use Rattle.std.specs.Prelude.{◌↔◌, ◌&&◌, not}
use Rattle.std.proofs.lemmas.Bool.{and_from, and_parts, cases_eq, cases_order, not_from_false, not-true}
use Rattle.std.proofs.lemmas.List.{get_or-set_other, get_or-set_same, take-take}
use Rattle.desk_values.specs.declared.call.Reply.{Reply}
use Rattle.desk_values.specs.declared.capture.Captured.{Captured}
use Rattle.desk_values.specs.declared.capture.Event.{Event}
use Rattle.server_words.specs.Clean.{is_clean}
use Rattle.server_words.specs.State.{State, opening}
use Rattle.replay_history.specs.Gap.{IsCallAt}
use Rattle.replay_history.specs.History.{AnswersAt}
use Rattle.divergence.specs.Class.{is_write_divergence}
use Rattle.replay_job.specs.Job.{JobView}
use Rattle.replay_job.specs.Runs.{IsTruthfulFor, Stage, first_stage}
use Rattle.law_replays.specs.End.Answers.{HasNoWriteDivergence, IsAnsweredAt}
use Rattle.law_replays.specs.End.Twins.{CameBefore}
use Rattle.law_replays.proofs.End.Ends.{at_taken, taken_at, within_taken}
use Rattle.law_replays.proofs.End.Stages.{one_call, one_end, one_run}
use Rattle.law_replays.proofs.End.Truth.{one_answer}
use Rattle.replay_walk.specs.Walked.{IsOpenAnswer, marked_at}
use Rattle.replay_walk.specs.Inside.Walking.{IsOpenBefore, IsQuietBefore, is_open_now}

abbrev unmarked : Bool
unmarked = false

-- ---- an answer at a place

module _ (job : JobView) (history : List Event) where
  more_quiet : (n : ℕ) → IsQuietBefore job history n → HasNoWriteDivergence job (take n history)
  more_quiet n quiet i k call reply before after there =
      let less = within_taken history n i _ there.answers in
      quiet i k call reply before after less (record {
        is_call = there.is_call;
        answers = taken_at history n i _ there.answers;
        stood = subst (λ (events : List Event). IsTruthfulFor job events before) (take-take i n history (omega (arith, less))) there.stood;
        stands = subst (λ (events : List Event). IsTruthfulFor job events after) (take-take (suc i) n history (omega (arith, less))) there.stands;
      })

  so_quiet : (n : ℕ) → HasNoWriteDivergence job (take n history) → IsQuietBefore job history n
  so_quiet n quiet i k call reply before after less there = quiet i k call reply before after (record {
    is_call = there.is_call;
    answers = at_taken history n i _ less there.answers;
    stood = subst (λ (events : List Event). IsTruthfulFor job events before) (sym (take-take i n history (omega (arith, less)))) there.stood;
    stands = subst (λ (events : List Event). IsTruthfulFor job events after) (sym (take-take (suc i) n history (omega (arith, less)))) there.stands;
  })

  -- where no call is answered at a place
  module _ (n : ℕ) (none : (k : ℕ) (reply : Reply) → ¬ AnswersAt history n k reply) where
    not_there : (i k : ℕ) (reply : Reply) → i < n + 1 → AnswersAt history i k reply → i < n
    not_there i k reply less e = ⊎_elim
        (λ same. absurd (none k reply (subst (λ (m : ℕ). AnswersAt history m k reply) same e)))
        (λ apart. ⊎_elim (λ before. before) (λ behind. absurd (omega (arith, less, behind))) apart)
        (cases_order i n)

    pub quiet_still : IsQuietBefore job history n ↔ IsQuietBefore job history (n + 1)
    quiet_still = (
      λ quiet i k call reply before after less there. quiet i k call reply before after (not_there i k reply less there.answers) there,
      λ quiet i k call reply before after less there. quiet i k call reply before after (omega (arith, less)) there,
    )

    pub open_still : (k : ℕ) → IsOpenBefore job history n k ↔ IsOpenBefore job history (n + 1) k
    open_still k = (
      λ read. record { place = read.place; call = read.call; reply = read.reply; before = read.before; after = read.after; captured = read.captured; within = (let less = read.within in omega (arith, less)); open_calls = read.open_calls },
      λ read. record { place = read.place; call = read.call; reply = read.reply; before = read.before; after = read.after; captured = read.captured; within = not_there read.place k read.reply read.within read.open_calls.there.answers; open_calls = read.open_calls },
    )

  module _ (n k : ℕ) (call : Captured) (reply : Reply) (before after : Stage) (there : IsAnsweredAt job history n k call reply before after) where
    -- what is answered at this place is this alone
    record IsThis (j : ℕ) (other : Captured) (answer : Reply) (b a : Stage) : Type 0 where
      stamp : j ≡ k
      call_is : other ≡ call
      reply_is : answer ≡ reply
      before_is : b ≡ before
      after_is : a ≡ after

    this : (i j : ℕ) (other : Captured) (answer : Reply) (b a : Stage) → i ≡ n → IsAnsweredAt job history i j other answer b a → IsThis j other answer b a
    this i j other answer b a same is =
        let here = subst (λ (m : ℕ). IsAnsweredAt job history m j other answer b a) same is in
        let one = one_answer k j reply answer (sym there.answers ∙ here.answers) in
        record {
          stamp = one.0;
          call_is = one_call job.calls k call other there.is_call (subst (λ (m : ℕ). IsCallAt job.calls m other) one.0 here.is_call);
          reply_is = one.1;
          before_is = one_end job (first_stage job) (take n history) b before here.stood there.stood;
          after_is = one_end job (first_stage job) (take (suc n) history) a after here.stands there.stands;
        }

    pub quiet_more : (quiet : Bool) → ((quiet ≡ true) ↔ IsQuietBefore job history n) → ((quiet && not (is_write_divergence after.pairs call.reply reply)) ≡ true) ↔ IsQuietBefore job history (n + 1)
    quiet_more quiet was = (
      λ is i j other answer b a less at.
          let parts = and_parts quiet (not (is_write_divergence after.pairs call.reply reply)) is in
          ⊎_elim
          (λ same. let t = this i j other answer b a same at in (λ x. is_write_divergence (t.after_is x).pairs (t.call_is x).reply (t.reply_is x)) ∙ not-true _ parts.1)
          (λ apart. ⊎_elim (λ earlier. was.0 parts.0 i j other answer b a earlier at) (λ behind. absurd (omega (arith, less, behind))) apart)
          (cases_order i n),
      λ now. and_from quiet (not (is_write_divergence after.pairs call.reply reply))
          (was.1 (λ i j other answer b a less at. now i j other answer b a (omega (arith, less)) at))
          (not_from_false _ (now n k call reply before after (omega arith) there)),
    )

    -- ---- before which calls nothing stood then

    module _ (once : (i j m : ℕ) (one other : Reply) → AnswersAt history i m one → AnswersAt history j m other → i ≡ j) where
      other_stamp : (j : ℕ) → (j ≡ k → ⊥) → IsOpenBefore job history n j ↔ IsOpenBefore job history (n + 1) j
      other_stamp j apart = (
        λ read. record { place = read.place; call = read.call; reply = read.reply; before = read.before; after = read.after; captured = read.captured; within = (let less = read.within in omega (arith, less)); open_calls = read.open_calls },
        λ read. record {
          place = read.place;
          call = read.call;
          reply = read.reply;
          before = read.before;
          after = read.after;
          captured = read.captured;
          open_calls = read.open_calls;
          within = ⊎_elim
              (λ same. absurd (apart (this read.place j read.call read.reply read.before read.after same read.open_calls.there).stamp))
              (λ elsewhere. ⊎_elim (λ earlier. earlier) (λ behind. absurd (let less = read.within in omega (arith, less, behind))) elsewhere)
              (cases_order read.place n);
        },
      )

      -- the call of this stamp is answered here
      here_alone : (m : ℕ) → (read : IsOpenBefore job history m k) → IsOpenAnswer job history k n call reply before after read.captured
      here_alone m read =
          let same = once read.place n k read.reply reply read.open_calls.there.answers there.answers in
          let t = this read.place k read.call read.reply read.before read.after same read.open_calls.there in
          let s = read.captured in
          subst (λ (a : Stage). IsOpenAnswer job history k n call reply before a s) t.after_is
          (subst (λ (b : Stage). IsOpenAnswer job history k n call reply b read.after s) t.before_is
          (subst (λ (r : Reply). IsOpenAnswer job history k n call r read.before read.after s) t.reply_is
          (subst (λ (c : Captured). IsOpenAnswer job history k n c read.reply read.before read.after s) t.call_is
          (subst (λ (i : ℕ). IsOpenAnswer job history k i read.call read.reply read.before read.after s) same read.open_calls))))

      same_stamp : (quiet clean : Bool) → ((quiet ≡ true) ↔ IsQuietBefore job history n) → (captured : State) → CameBefore job k captured → clean ≡ is_clean captured call.session
          → ((quiet && (clean && is_open_now before call)) ≡ true) ↔ IsOpenBefore job history (n + 1) k
      same_stamp quiet clean was captured came clean_is = (
        λ is.
            let one = and_parts _ _ is in
            let two = and_parts _ _ one.1 in
            let three = and_parts _ _ two.1 in
            record {
              place = n;
              call = call;
              reply = reply;
              before = before;
              after = after;
              captured = captured;
              within = omega arith;
              open_calls = record { there = there; came = came; clean = sym clean_is ∙ two.0; still_clean = three.0; images = three.1; quiet = more_quiet n (was.0 one.0) };
            },
        λ read.
            let p = here_alone (n + 1) read in
            let state_is = one_run (opening job.start) (take k job.calls) captured read.captured came p.came in
            let first : clean ≡ true = clean_is ∙ ap (λ (s : State). is_clean s call.session) state_is ∙ p.clean in
            and_from _ _ (was.1 (so_quiet n p.quiet)) (and_from _ _ first (and_from _ _ p.still_clean p.images)),
      )

      pub open_more : (marks : List Bool) (quiet clean : Bool) → ((quiet ≡ true) ↔ IsQuietBefore job history n) → (captured : State) → CameBefore job k captured → clean ≡ is_clean captured call.session
          → k < length marks → ((j : ℕ) → (marked_at marks j ≡ true) ↔ IsOpenBefore job history n j)
          → (j : ℕ) → (marked_at (set marks k (quiet && (clean && is_open_now before call))) j ≡ true) ↔ IsOpenBefore job history (n + 1) j
      open_more marks quiet clean was captured came clean_is within are j =
          let mark = quiet && (clean && is_open_now before call) in
          ⊎_elim
          (λ same.
          let here = get_or-set_same marks k mark unmarked within in
          let both = same_stamp quiet clean was captured came clean_is in
          subst (λ (m : ℕ). (marked_at (set marks k mark) m ≡ true) ↔ IsOpenBefore job history (n + 1) m) (sym same) (λ is. both.0 (sym here ∙ is), λ read. here ∙ both.1 read))
          (λ apart.
          let there_still = get_or-set_other marks k j mark unmarked apart in
          let both = other_stamp j apart in
          (λ is. both.0 ((are j).0 (sym there_still ∙ is)), λ read. there_still ∙ (are j).1 (both.1 read)))
          (cases_eq j k)
