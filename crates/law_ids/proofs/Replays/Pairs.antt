-- In a replay no id comes to stand twice on one side of the pairs.
use Rattle.std.proofs.Common.{◌≡◌, ℕ, zero, suc, true, false, ◌==◌, if◌then◌else◌, length, List, [], ◌∷◌, Option, Some, refl, sym, ap, subst, arith, ◌⊎◌, inl, inr, ⊎_elim}
use Rattle.std.specs.Prelude.{◌<◌, ◌≤◌, slice_index}
use Rattle.std.specs.List.{AllByRecursion, AllZip}
use Rattle.std.proofs.lemmas.Bool.{cases_lt, eqb-true}
use Rattle.std.proofs.lemmas.List.{get_or_past}
use Rattle.desk_values.specs.declared.value.Value.{Value}
use Rattle.desk_values.specs.declared.value.Value.TheVariants.{Null, Int, Text, Row, Draw}
use Rattle.desk_values.specs.declared.call.Reply.{Reply}
use Rattle.desk_values.specs.declared.capture.Captured.{Captured}
use Rattle.desk_values.specs.declared.capture.Event.{Event}
use Rattle.desk_values.specs.declared.capture.Event.TheVariants.{Start, Answer}
use Rattle.server_words.specs.State.{opening}
use Rattle.server_words.proofs.Members.{each_joined, each_weaker}
use Rattle.replay_history.specs.Capture.{IsGivenBy, StandsIn}
use Rattle.replay_history.specs.Gap.{IsCallAt}
use Rattle.replay_history.specs.History.{AnswersAt, IsAnswered, IsTruthfulHistory}
use Rattle.id_pairs.specs.declared.Id.{Id}
use Rattle.id_pairs.specs.declared.Id.TheVariants as id
use Rattle.id_pairs.specs.Ids.{id_value}
use Rattle.id_pairs.specs.Pairs.{AreLike, IdPair, IsIdMap, drawn_pair, drawn_pairs, learnt, made_pair}
use Rattle.remap_ids.specs.IdMap.{start_pairs}
use Rattle.remap_ids.specs.Sent.{sent}
use Rattle.law_ids.specs.Counters.{IsPassed}
use Rattle.law_ids.specs.Pairs.{IsGivenElsewhere}
use Rattle.law_ids.proofs.Apart.{learnt_given, learnt_new}
use Rattle.law_ids.proofs.Starts.{standing_old}
use Rattle.law_ids.proofs.Steps.{step_kept, step_passed}
use Rattle.replay_job.specs.Runs.{Executes, Stage, first_stage}
use Rattle.replay_job.specs.Job.{IsReplayable, JobView}
use Rattle.law_ids.specs.Replays.Laws.{PairsStayOneToOne}
use Rattle.law_ids.proofs.Replays.Starts.{IsOfStart, start_each, start_once}

-- ---- what is learnt is of one kind

drawn_like : (v w : Value) → AllByRecursion (λ (p : IdPair). AreLike p.0 p.1) (drawn_pair v w)
drawn_like (Draw p m) (Draw q n) = elim (p == q) as (λ b. p == q ≡ b → AllByRecursion (λ (r : IdPair). AreLike r.0 r.1) (if b then (id.Draw p m, id.Draw q n) ∷ [] else [])) [ true ↦ λ same. (eqb-true p q same, tt) | false ↦ λ apart. tt ] refl
drawn_like v w = tt

draws_like : (draws others : List Value) → AllByRecursion (λ (p : IdPair). AreLike p.0 p.1) (drawn_pairs draws others)
draws_like (v ∷ draws) (w ∷ others) = each_joined _ (drawn_pair v w) (drawn_pairs draws others) (drawn_like v w) (draws_like draws others)
draws_like draws others = tt

made_like : (m n : Option ℕ) → AllByRecursion (λ (p : IdPair). AreLike p.0 p.1) (made_pair m n)
made_like (Some m) (Some n) = (tt, tt)
made_like m n = tt

-- ---- a replay

-- each call is answered once
abbrev AreOnce : List Event → Type 0
AreOnce events = (i j k : ℕ) (reply other : Reply) → AnswersAt events i k reply → AnswersAt events j k other → i ≡ j

later_once : (event : Event) (events : List Event) → AreOnce (event ∷ events) → AreOnce events
later_once event events once i j k reply other e f = let g : suc i ≡ suc j = once (suc i) (suc j) k reply other e f in omega (arith, g)

own_like : (x y : Id) → x ≡ y → AreLike x y
own_like x y e = subst (AreLike x) e (by x)
  where
    by : (z : Id) → AreLike z z
    by (id.Row n) = tt
    by (id.Draw q n) = refl

-- no next value is lower
each_up : (olds nexts : List ℕ) → AllZip (λ old next. old ≤ next) olds nexts → (q : ℕ) → q < length olds → slice_index olds q ≤ slice_index nexts q
each_up [] nexts up q below = omega (arith, below)
each_up (o ∷ os) (n ∷ ns) up zero below = up.0
each_up (o ∷ os) (n ∷ ns) up (suc q) below = each_up os ns up.1 q (omega (arith, below))
each_up (o ∷ os) [] up q below = absurd up

module _ (job : JobView) (replayable : IsReplayable job) where
  -- the id stands in the rows, or a call gave it that these events do not answer
  abbrev IsBefore : List Event → Value → Type 0
  IsBefore events id = StandsIn job.start.rows id ⊎ ((j : ℕ) × (call : Captured) × (IsAnswered events j → ⊥) × IsCallAt job.calls j call × IsGivenBy id call.reply)

  later_before : (event : Event) (events : List Event) (id : Value) → IsBefore (event ∷ events) id → IsBefore events id
  later_before event events id before = ⊎_elim inl (λ given. inr (given.0, given.1, (λ there. given.2 (suc there.0, there.1, there.2)), given.3, given.4)) before

  elsewhere : (k : ℕ) (reply : Reply) (events : List Event) (id : Value) → IsBefore (Answer k reply ∷ events) id → IsGivenElsewhere job.start.rows job.calls k id
  elsewhere k reply events id before = ⊎_elim inl (λ given. inr (given.0, given.1, (λ same. given.2 (0, reply, ap (λ (n : ℕ). Some (Answer n reply)) (sym same))), given.3, given.4)) before

  record IsOneToOne (events : List Event) (stage : Stage) : Type 0 where
    is_map : IsIdMap stage.pairs
    captured : AllByRecursion (λ p. IsBefore events (id_value p.0)) stage.pairs
    replayed : AllByRecursion (λ p. IsPassed stage.state (id_value p.1)) stage.pairs

  one_answer : (k : ℕ) (reply : Reply) (events : List Event) (first next : Stage) → Executes job first k reply next → AreOnce (Answer k reply ∷ events) → IsOneToOne (Answer k reply ∷ events) first → IsOneToOne events next
  one_answer k reply events first next done once is =
      let call = done.0 in
      let run = replayable.legal.replies in
      let sent_call = sent first.pairs job.remap call.call in
      let more = learnt call.reply reply in
      let given = learnt_given call.reply reply in
      let later : IsAnswered events k → ⊥ = λ there. (let e : zero ≡ suc there.0 = once 0 (suc there.0) k reply there.1 refl there.2 in omega (arith, e)) in
      let new_once = learnt_new job.start job.calls run.0 k call replayable.sound run.1 done.1 first.state next.state call.session sent_call reply first.pairs done.2 is.is_map.once (record { captured = each_weaker _ _ (λ p before. elsewhere k reply events (id_value p.0) before) first.pairs is.captured; replayed = is.replayed }) in
      subst (λ (ps : List IdPair). IsOneToOne events (record { state = next.state; pairs = ps })) (sym done.3) (record {
        is_map = record { once = new_once; like = each_joined _ first.pairs more is.is_map.like (each_joined _ (drawn_pairs call.reply.draws reply.draws) (made_pair call.reply.made reply.made) (draws_like call.reply.draws reply.draws) (made_like call.reply.made reply.made)) };
        captured = each_joined _ first.pairs more
            (each_weaker _ _ (λ p before. later_before (Answer k reply) events (id_value p.0) before) first.pairs is.captured)
            (each_weaker _ _ (λ p both. inr (k, call, later, done.1, both.0)) more given);
        replayed = each_joined _ first.pairs more
            (each_weaker _ _ (λ p passed. step_kept first.state next.state call.session sent_call reply done.2 (id_value p.1) passed) first.pairs is.replayed)
            (each_weaker _ _ (λ p both. step_passed first.state next.state call.session sent_call reply done.2 (id_value p.1) both.1) more given);
      })

  all_answers : (events : List Event) (first end : Stage) → IsTruthfulHistory (Executes job) first events end → AreOnce events → IsOneToOne events first → IsIdMap end.pairs
  all_answers [] first end h once is = subst (λ (s : Stage). IsIdMap s.pairs) h is.is_map
  all_answers (Start k pause ∷ events) first end h once is = all_answers events first end h (later_once (Start k pause) events once) (record {
    is_map = is.is_map;
    captured = each_weaker _ _ (λ p before. later_before (Start k pause) events (id_value p.0) before) first.pairs is.captured;
    replayed = is.replayed;
  })
  all_answers (Answer k reply ∷ events) first end h once is = all_answers events h.0 end h.2 (later_once (Answer k reply) events once) (one_answer k reply events first h.0 h.1 once is)

  -- what the start has passed the target has passed
  target_passes : (v : Value) → IsPassed (opening job.start) v → IsPassed (opening job.target) v
  target_passes (Row n) passed = omega (arith, replayable.target.next_row, passed)
  target_passes (Draw q n) passed = ⊎_elim
      (λ within. omega (arith, each_up job.start.next_values job.target.next_values replayable.target.next_values q within, passed))
      (λ past. absurd (omega (arith, get_or_past job.start.next_values q 0 past, passed)))
      (cases_lt q (length job.start.next_values))
  target_passes Null passed = tt
  target_passes (Int n) passed = tt
  target_passes (Text t) passed = tt

  first_one_to_one : (history : List Event) → IsOneToOne history (first_stage job)
  first_one_to_one history =
      let each = start_each job.start in
      let passed : (p : IdPair) → IsOfStart job.start p → IsPassed (opening job.target) (id_value p.1) = λ p of. target_passes (id_value p.1) (standing_old job.start (id_value p.1) replayable.sound (subst (λ (x : Id). StandsIn job.start.rows (id_value x)) of.own of.stands)) in
      record {
        is_map = record { once = start_once job.start; like = each_weaker _ _ (λ p of. own_like p.0 p.1 of.own) (start_pairs job.start) each };
        captured = each_weaker _ _ (λ p of. inl of.stands) (start_pairs job.start) each;
        replayed = each_weaker _ _ passed (start_pairs job.start) each;
      }

pub one_to_one : PairsStayOneToOne
one_to_one job history last replayable legal truthful = all_answers job replayable history (first_stage job) last truthful (λ i j k r s e f. legal.answers_once i j k r s e f) (first_one_to_one job replayable history)
