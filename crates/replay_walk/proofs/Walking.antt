-- Going past the events of a whole replay, with what is told of its answers.
use Rattle.std.proofs.Common.{◌≡◌, ◌∙◌, ℕ, zero, suc, ◌+◌, ◌<◌, ◌≤◌, inl, inr, Bool, true, false, List, [], ◌∷◌, length, get_or, replicate, set, take, refl, sym, ap, subst, ⊎_elim, arith}
use Rattle.std.specs.Prelude.{◌↔◌, ◌⊎◌, ◌&&◌, IsTrue, slice_get, Some}
use Rattle.std.specs.List.{list_any}
use Rattle.std.proofs.lemmas.Bool.{cases_eq, cases_lt, cases_order, true≢false}
use Rattle.std.proofs.lemmas.List.{get_or-set_other, get_or-set_same, get_or_past, length-replicate, length-set}
use Rattle.std.proofs.lemmas.List.Folds.{list_any_at}
use Rattle.std.proofs.lemmas.Option.{slice_get_within}
use Rattle.desk_values.specs.declared.call.Reply.{Reply}
use Rattle.desk_values.specs.declared.capture.Captured.{Captured}
use Rattle.desk_values.specs.declared.capture.Event.{Event}
use Rattle.desk_values.specs.declared.capture.Event.TheVariants.{Start, Answer}
use Rattle.server_words.specs.State.{State, opening}
use Rattle.replay_history.specs.Gap.{IsCallAt}
use Rattle.replay_history.specs.History.{AnswersAt, IsAnsweredBefore}
use Rattle.id_pairs.specs.Pairs.{IdPair}
use Rattle.replay_job.specs.Job.{JobView}
use Rattle.replay_job.specs.Runs.{IsTruthfulFor, Stage, first_stage}
use Rattle.law_replays.specs.End.Answers.{IsAnsweredAt, IsReplay}
use Rattle.law_replays.specs.End.Twins.{CameBefore, IsTwinCall}
use Rattle.law_replays.proofs.End.Stages.{one_call, one_end, one_run}
use Rattle.law_replays.proofs.End.Truth.{one_answer}
use Rattle.replay_walk.specs.declared.along.Asks.{Asks}
use Rattle.replay_walk.specs.declared.along.Progress.{Progress}
use Rattle.replay_walk.specs.Walked.{AreOpen, AreTold, IsOpen, MeetsTheSame, marked_at}
use Rattle.replay_walk.specs.Walks.{IsNextAnswer, answers_in}
use Rattle.replay_walk.specs.Inside.Passing.{HasAside, stage_of}
use Rattle.replay_walk.specs.Inside.Walking.{HasBegun, HasPassed, IsOpenBefore, IsQuietBefore, IsWalkedTo, MayAnswer, MayPass, is_open_now, tables_asked}
use Rattle.replay_walk.proofs.Answers.{next_answer, no_answer}
use Rattle.replay_walk.proofs.Behinds.{call_there}
use Rattle.replay_walk.proofs.Captures.{came_to}
use Rattle.replay_walk.proofs.Open.{open_more, open_still, quiet_more, quiet_still}

abbrev unmarked : Bool
unmarked = false

-- the call that stands at an index is the one whose answer can be passed
pub this_call : {job : JobView} {asks : Asks} {k : ℕ} {reply : Reply} {walk : Progress} {items : List Captured} {call : Captured} → (one : Captured) × MayAnswer job asks k reply one walk
    → items ≡ job.calls → call ≡ get_or items k call → MayAnswer job asks k reply call walk
this_call {job} {asks} {k} {reply} {walk} {items} {call} may e is =
    let at = call_there job.calls items k call e (slice_get_within job.calls k may.0 may.1.at) is in
    subst (λ (c : Captured). MayAnswer job asks k reply c walk) (one_call job.calls k call may.0 at may.1.at) may.1

-- where a call is asked for all tables are looked at
pub all_tables : (job : JobView) (twins : List Bool) (k : ℕ) → marked_at twins k ≡ true → tables_asked job twins ≡ length job.start.schema.tables
all_tables job twins k marked = ⊎_elim
    (λ within. rw (list_any_at (λ (asked : Bool). asked) twins k unmarked within marked) refl)
    (λ past. absurd (true≢false (sym marked ∙ get_or_past twins k unmarked past)))
    (cases_lt k (length twins))

module _ (job : JobView) (asks : Asks) (history : List Event) (last : Stage) (replay : IsReplay job history last) where
  once : (i j m : ℕ) (one other : Reply) → AnswersAt history i m one → AnswersAt history j m other → i ≡ j
  once i j m one other e f = replay.complete.legal.answers_once i j m one other e f

  no_mark : (n k : ℕ) → get_or (replicate n unmarked) k unmarked ≡ false
  no_mark zero k = refl
  no_mark (suc n) zero = refl
  no_mark (suc n) (suc k) = no_mark n k

  pub begins : (walk : Progress) → HasBegun job (tables_asked job asks.twins.now) walk → IsWalkedTo job asks history 0 walk
  begins walk is = record {
    stands = sym is.stage;
    steps = is.steps;
    both = is.both replay.sound;
    tables = λ k marked. is.count ∙ all_tables job asks.twins.now k marked;
    aside = λ k less marked unanswered. absurd (let first = is.first in omega (arith, less, first));
    quiet = (λ same i k call reply before after less there. absurd (omega (arith, less)), λ quiet. is.quiet);
    open_count = ap length is.open_calls ∙ length-replicate (length job.calls) unmarked;
    open_calls = λ reads k. (
      λ marked. absurd (true≢false (sym marked ∙ ap (λ (marks : List Bool). marked_at marks k) is.open_calls ∙ no_mark (length job.calls) k)),
      λ open_calls. absurd (let less = open_calls.within in omega (arith, less)),
    );
    twins_count = ap length is.twins ∙ length-replicate (length job.calls) unmarked;
    twins = λ k marked before. absurd (let less = before.2 in omega (arith, less));
  }

  -- ---- a call that is answered at a place

  module _ (n k : ℕ) (call : Captured) (reply : Reply) (before after : Stage) (there : IsAnsweredAt job history n k call reply before after) (captured : State) (came : CameBefore job k captured) where
    meets_here : MeetsTheSame job history k → IsTwinCall job call captured before
    meets_here meets =
        let same = once meets.place n k meets.reply reply meets.there.answers there.answers in
        let here = subst (λ (i : ℕ). IsAnsweredAt job history i k meets.call meets.reply meets.before meets.after) same meets.there in
        let call_is = one_call job.calls k call meets.call there.is_call here.is_call in
        let before_is = one_end job (first_stage job) (take n history) meets.before before here.stood there.stood in
        let state_is = one_run (opening job.start) (take k job.calls) meets.captured captured meets.came came in
        subst (λ (s : Stage). IsTwinCall job call captured s) before_is
        (subst (λ (s : State). IsTwinCall job call s meets.before) state_is
        (subst (λ (c : Captured). IsTwinCall job c meets.captured meets.before) call_is meets.twin))

    told_is : (twin : Bool) → IsTrue twin ↔ IsTwinCall job call captured before → (twin ≡ true) ↔ MeetsTheSame job history k
    told_is twin told = (
      λ is. record { place = n; call = call; reply = reply; before = before; after = after; captured = captured; there = there; came = came; twin = told.0 is },
      λ meets. told.1 (meets_here meets),
    )

  -- ---- one event

  -- what is answered before the next place is answered before this one, or here
  earlier : (n k j : ℕ) (reply : Reply) → AnswersAt history n k reply → (j ≡ k → ⊥) → IsAnsweredBefore history (n + 1) j → IsAnsweredBefore history n j
  earlier n k j reply e apart before =
      let less : before.0 < n = ⊎_elim
      (λ same. absurd (apart (one_answer k j reply before.1 (sym e ∙ subst (λ (i : ℕ). AnswersAt history i j before.1) same before.3)).0))
      (λ elsewhere. ⊎_elim (λ first. first) (λ behind. absurd (let within = before.2 in omega (arith, within, behind))) elsewhere)
      (cases_order before.0 n) in
      (before.0, before.1, less, before.3)

  later : (n j : ℕ) → IsAnsweredBefore history n j → IsAnsweredBefore history (n + 1) j
  later n j before = (before.0, before.1, (let less = before.2 in omega (arith, less)), before.3)

  module _ (n : ℕ) (walk : Progress) (is : IsWalkedTo job asks history n walk) where
    unasked : (k : ℕ) (reply : Reply) → AnswersAt history n k reply → marked_at asks.twins.now k ≡ true → HasAside walk.servers.behind k ⊎ (walk.servers.behind.at ≤ k)
    unasked k reply at marked = ⊎_elim
        (λ less. inl (is.aside k less marked (λ before. absurd (let same = once before.0 n k before.1 reply before.3 at in let within = before.2 in omega (arith, same, within)))))
        (λ behind. inr behind)
        (cases_lt k walk.servers.behind.at)

    pub may_pass : (event : Event) → slice_get history n ≡ Some event → MayPass job asks event walk
    may_pass (Start k pause) at = tt
    may_pass (Answer k reply) at =
        let next = next_answer job history last replay n k reply (stage_of walk.servers) at is.stands in
        let call = next.0 in (
          call,
          record {
            ask = record { sound = replay.sound; both = is.both; within = slice_get_within job.calls k call next.1.at };
            at = next.1.at;
            stamp = (replay.sound.replayable.legal.each k call next.1.at).stamp;
            session = next.1.session;
            low = next.1.low;
            new_ids = next.1.new_ids;
            room = (let few = next.1.few in let steps = is.steps in omega (arith, few, steps));
            open_calls = is.open_count;
            twins = is.twins_count;
            tables = is.tables k;
            once = unasked k reply at;
          },
        )

    pub passed : (event : Event) → slice_get history n ≡ Some event → (new : Progress) → HasPassed job asks event walk new → IsWalkedTo job asks history (n + 1) new
    passed (Start k pause) at new same =
        let none = no_answer job history n k pause (stage_of walk.servers) at is.stands in
        let place : suc n ≡ n + 1 = omega arith in
        let on : IsWalkedTo job asks history (n + 1) walk = record {
          stands = subst (λ (m : ℕ). IsTruthfulFor job (take m history) (stage_of walk.servers)) place none.stands;
          steps = is.steps ∙ sym none.as_many ∙ ap (λ (m : ℕ). answers_in (take m history)) place;
          both = is.both;
          tables = is.tables;
          aside = λ j less marked unanswered. is.aside j less marked (λ before. unanswered (later n j before));
          quiet = (λ quiet. (quiet_still job history n none.none).0 (is.quiet.0 quiet), λ quiet. is.quiet.1 ((quiet_still job history n none.none).1 quiet));
          open_count = is.open_count;
          open_calls = λ reads j. (λ marked. (open_still job history n none.none j).0 ((is.open_calls reads j).0 marked), λ open_calls. (is.open_calls reads j).1 ((open_still job history n none.none j).1 open_calls));
          twins_count = is.twins_count;
          twins = λ j marked before. is.twins j marked (
              let less : before.0 < n = ⊎_elim
              (λ here. absurd (none.none j before.1 (subst (λ (i : ℕ). AnswersAt history i j before.1) here before.3)))
              (λ elsewhere. ⊎_elim (λ first. first) (λ behind. absurd (let within = before.2 in omega (arith, within, behind))) elsewhere)
              (cases_order before.0 n) in
              (before.0, before.1, less, before.3));
        } in
        subst (IsWalkedTo job asks history (n + 1)) (sym same) on
    passed (Answer k reply) at new pass =
        let answer = pass.1 in
        let call = pass.0 in
        let before = stage_of walk.servers in
        let after = stage_of new.servers in
        let next = next_answer job history last replay n k reply before at is.stands in
        let same = one_call job.calls k next.0 call next.1.at answer.at in
        let step : IsNextAnswer job history n k reply before call = subst (IsNextAnswer job history n k reply before) (sym same) next.1 in
        let there = subst (λ (pairs : List IdPair). IsAnsweredAt job history n k call reply before (record { state = new.servers.replay.engine.state; pairs = pairs })) (sym answer.pairs) (step.next answer.given new.servers.replay.engine.state answer.gives) in
        let stamp = (replay.sound.replayable.legal.each k call answer.at).stamp in
        let came = came_to job replay.sound.replayable k in
        let within = slice_get_within job.calls k call answer.at in
        let place : suc n ≡ n + 1 = omega arith in
        let one = λ (i j m : ℕ) (a b : Reply) (e : AnswersAt history i m a) (f : AnswersAt history j m b). once i j m a b e f in
        record {
          stands = subst (λ (m : ℕ). IsTruthfulFor job (take m history) after) place there.stands;
          steps = answer.steps ∙ ap (λ (m : ℕ). m + 1) is.steps ∙ sym step.more ∙ ap (λ (m : ℕ). answers_in (take m history)) place;
          both = answer.both;
          tables = λ j marked. answer.count ∙ is.tables j marked;
          aside = λ j less marked unanswered.
              answer.kept j
              (λ here. unanswered (subst (λ (m : ℕ). IsAnsweredBefore history (n + 1) m) (sym here) (n, reply, omega arith, at)))
              less marked (λ first. is.aside j first marked (λ before. unanswered (later n j before)));
          quiet = subst (λ (b : Bool). (b ≡ true) ↔ IsQuietBefore job history (n + 1)) (sym answer.quiet) (quiet_more job history n k call reply before after there walk.quiet is.quiet);
          open_count = answer.open_count ∙ is.open_count;
          open_calls = λ reads. subst (λ (ms : List Bool). (j : ℕ) → (marked_at ms j ≡ true) ↔ IsOpenBefore job history (n + 1) j) (sym (answer.open_calls reads))
              (open_more job history n k call reply before after there one walk.open_calls.items walk.quiet answer.clean is.quiet came.0 came.1 (answer.was_clean reads came.0 came.1) (let count = is.open_count in omega (arith, within, count)) (is.open_calls reads));
          twins_count = ap length answer.twins ∙ length-set walk.twins.items k answer.twin ∙ is.twins_count;
          twins = λ j marked before_next. ⊎_elim
              (λ here.
              let told = answer.told (subst (λ (m : ℕ). marked_at asks.twins.now m ≡ true) here marked) came.0 (subst (λ (m : ℕ). CameBefore job m came.0) (sym stamp) came.1) in
              let is_told = told_is n k call reply before after there came.0 came.1 answer.twin told in
              let read : marked_at new.twins.items k ≡ answer.twin = ap (λ (ms : List Bool). marked_at ms k) answer.twins ∙ get_or-set_same walk.twins.items k answer.twin unmarked (let count = is.twins_count in omega (arith, within, count)) in
              subst (λ (m : ℕ). (marked_at new.twins.items m ≡ true) ↔ MeetsTheSame job history m) (sym here) (subst (λ (b : Bool). (b ≡ true) ↔ MeetsTheSame job history k) (sym read) is_told))
              (λ apart.
              let read : marked_at new.twins.items j ≡ marked_at walk.twins.items j = ap (λ (ms : List Bool). marked_at ms j) answer.twins ∙ get_or-set_other walk.twins.items k j answer.twin unmarked apart in
              subst (λ (b : Bool). (b ≡ true) ↔ MeetsTheSame job history j) (sym read) (is.twins j marked (earlier n k j reply at apart before_next)))
              (cases_eq j k);
        }

  -- ---- behind the last event

  module _ (walk : Progress) (is : IsWalkedTo job asks history (length history) walk) where
    pub are_open : asks.reads ≡ true → AreOpen job history walk.open_calls.items
    are_open reads = record {
      count = is.open_count;
      each = λ k. (
        λ marked. let open_calls = (is.open_calls reads k).0 marked in (open_calls.place, open_calls.call, open_calls.reply, open_calls.before, open_calls.after, open_calls.captured, open_calls.open_calls),
        λ open_calls. (is.open_calls reads k).1 (record { place = open_calls.0; call = open_calls.1; reply = open_calls.2; before = open_calls.3; after = open_calls.4; captured = open_calls.5; within = slice_get_within history open_calls.0 _ open_calls.6.there.answers; open_calls = open_calls.6 }),
      );
    }

    pub are_told : AreTold job history asks.twins.now walk.twins.items
    are_told = record {
      count = is.twins_count;
      each = λ k within marked.
          let there = replay.complete.whole k within in
          is.twins k marked (there.0, there.1, slice_get_within history there.0 _ there.2, there.2);
    }
