-- A replay in the captured order, from the captured start: each call is sent as it was, and answered so.
use Rattle.std.proofs.Common.{◌≡◌, ℕ, suc, ◌+◌, ◌<◌, List, [], ◌∷◌, ◌++◌, map, refl, sym, ap, subst, ◌∙◌, arith, ◌⊎◌, inl, inr, ⊎_elim}
use Rattle.std.specs.List.{AllByRecursion}
use Rattle.std.proofs.lemmas.Bool.{cases_eq}
use Rattle.desk_values.specs.declared.value.Value.{Value}
use Rattle.desk_values.specs.declared.value.Value.TheVariants.{Null, Int, Text, Row, Draw}
use Rattle.desk_values.specs.declared.value.Image.{Image}
use Rattle.desk_values.specs.declared.call.Call.{Call}
use Rattle.desk_values.specs.declared.call.Call.TheVariants.{Connect, Sql, Disconnect}
use Rattle.desk_values.specs.declared.call.Reply.{Reply}
use Rattle.desk_values.specs.declared.capture.Captured.{Captured}
use Rattle.desk_values.specs.declared.capture.Event.{Event}
use Rattle.desk_values.specs.declared.capture.Event.TheVariants.{Start, Answer}
use Rattle.server_words.specs.declared.session.Session.{Session}
use Rattle.server_words.specs.State.{State, disconnected, opening}
use Rattle.server_words.specs.Step.{Gives, reply_in}
use Rattle.server_words.proofs.Members.{each_repeated, each_weaker}
use Rattle.replay_history.specs.Capture.{IsGivenBy, IsKnown, IsLegalCapture, IsRun, StandsIn, binds_of}
use Rattle.replay_history.specs.Gap.{IsCallAt}
use Rattle.replay_history.specs.History.{IsTruthfulHistory}
use Rattle.id_pairs.specs.declared.Id.TheVariants as id
use Rattle.id_pairs.specs.Pairs.{HasNoIdTwice, IdPair, learnt}
use Rattle.id_pairs.specs.Renaming.{AreRenamed, IsRenamed}
use Rattle.remap_ids.specs.IdMap.{start_pairs}
use Rattle.remap_ids.specs.Sent.{sent, sent_service, sent_value}
use Rattle.law_server.proofs.Rows.Members.{image_is}
use Rattle.law_server.specs.Renaming.Replies.{IsRenamedOutcome}
use Rattle.replay_job.specs.Job.{JobView}
use Rattle.replay_job.specs.Runs.{Executes, Stage}
use Rattle.law_replays.specs.End.Answers.{KeepsServices}
use Rattle.law_replays.proofs.End.Truth.{Both}
use Rattle.law_replays.proofs.End.Longer.{image_longer, many_longer, once_before, value_longer}
use Rattle.law_replays.proofs.End.Stages.{more_pairs, one_call}
use Rattle.law_replays.proofs.End.Order.{answered, recorded}
use Rattle.law_replays.proofs.End.Own.{own_given, own_rows}
use Rattle.law_ids.proofs.Replays.Starts.{own_stands}
use Rattle.law_replays.specs.Told.Own.{AreOwn, GivesOwn, HasOwnIds, IsOwn, KeepsOwn}
use Rattle.law_replays.proofs.Told.Told.{own_outcome, own_step}

-- ---- what is sent

module _ (pairs : List IdPair) (once : HasNoIdTwice pairs) where
  -- a value that stands for itself is sent as it is
  own_sent : (v : Value) → IsRenamed pairs v v → sent_value pairs v ≡ v
  own_sent Null t = refl
  own_sent (Int n) t = refl
  own_sent (Text text) t = refl
  own_sent (Row n) t = let e = (image_is pairs (id.Row n) (id.Row n) once).0 t in rw e refl
  own_sent (Draw q n) t = let e = (image_is pairs (id.Draw q n) (id.Draw q n) once).0 t in rw e refl

  own_all_sent : (values : List Value) → AreRenamed pairs values values → map (sent_value pairs) values ≡ values
  own_all_sent [] t = refl
  own_all_sent (v ∷ values) t = ap (λ w. w ∷ map (sent_value pairs) values) (own_sent v t.0) ∙ ap (λ l. v ∷ l) (own_all_sent values t.1)

  sent_again : (job : JobView) (call : Call) → ((service : List ℕ) → call ≡ Connect service → sent_service job.remap service ≡ service) → AreRenamed pairs (binds_of call) (binds_of call) → sent pairs job.remap call ≡ call
  sent_again job (Connect service) kept t = ap Connect (kept service refl)
  sent_again job (Sql text binds) kept t = ap (Sql text) (own_all_sent binds t)
  sent_again job Disconnect kept t = refl

-- ---- what stands for itself

own_longer : (pairs more : List IdPair) (state : State) → HasOwnIds pairs state → HasOwnIds (pairs ++ more) state
own_longer pairs more state own =
    let one = image_longer pairs more in
    let all : (images : List Image) → AreOwn pairs images → AreOwn (pairs ++ more) images = λ images h. each_weaker (IsOwn pairs) (IsOwn (pairs ++ more)) (λ image t. one image image t) images h in
    record {
      start = all state.start.rows own.start;
      commits = each_weaker (AreOwn pairs) (AreOwn (pairs ++ more)) all state.commits own.commits;
      sessions = each_weaker (λ (s : Session). AreOwn pairs s.own.changes) (λ (s : Session). AreOwn (pairs ++ more) s.own.changes) (λ s h. all s.own.changes h) state.sessions own.sessions;
      kept = each_weaker (λ (s : Session). AllByRecursion (KeepsOwn pairs) s.savepoints) (λ (s : Session). AllByRecursion (KeepsOwn (pairs ++ more)) s.savepoints)
          (λ s h. each_weaker (KeepsOwn pairs) (KeepsOwn (pairs ++ more)) (λ savepoint t. all savepoint.own.changes t) s.savepoints h) state.sessions own.kept;
    }

module _ (job : JobView) where
  -- every id that is known to the call with this stamp, and that the server has in rows, stands for itself
  pub record StandsOwn (k : ℕ) (stage : Stage) : Type 0 where
    pub known : (v : Value) → IsKnown job.start.rows job.calls k v → IsRenamed stage.pairs v v
    pub own : HasOwnIds stage.pairs stage.state

  -- the answer is the captured one, and its ids stand for themselves
  abbrev pub IsAsWas : Stage → ℕ → Reply → Stage → Type 0
  IsAsWas before k reply after = (call : Captured) → IsCallAt job.calls k call → (reply ≡ call.reply) × IsRenamedOutcome after.pairs call.reply.outcome reply.outcome

  known_binds : (k : ℕ) (stage : Stage) → StandsOwn k stage → (binds : List Value) → AllByRecursion (IsKnown job.start.rows job.calls k) binds → AreRenamed stage.pairs binds binds
  known_binds k stage stands [] all = tt
  known_binds k stage stands (v ∷ binds) all = (stands.known v all.0, known_binds k stage stands binds all.1)

  module _ (k : ℕ) (pairs : List IdPair) (known : (v : Value) → IsKnown job.start.rows job.calls k v → IsRenamed pairs v v) (c : Captured) (at : IsCallAt job.calls k c) where
    abbrev longer : List IdPair
    longer = pairs ++ learnt c.reply c.reply

    one_more : (v : Value) → StandsIn job.start.rows v ⊎ ((j : ℕ) × (call : Captured) × (j < suc k) × IsCallAt job.calls j call × IsGivenBy v call.reply) → IsRenamed longer v v
    one_more v before = ⊎_elim
        (λ stands. value_longer pairs (learnt c.reply c.reply) v v (known v (λ _. inl stands)))
        (λ given. ⊎_elim
        (λ same. own_given pairs c.reply v (subst (λ (d : Captured). IsGivenBy v d.reply) (sym (one_call job.calls k given.1 c (subst (λ (j : ℕ). IsCallAt job.calls j given.1) same given.3) at)) given.4))
        (λ apart. value_longer pairs (learnt c.reply c.reply) v v (known v (λ _. inr (given.0, given.1, omega (arith, apart, given.2), given.3, given.4))))
        (cases_eq given.0 k))
        before

    known_more : (v : Value) → IsKnown job.start.rows job.calls (suc k) v → IsRenamed longer v v
    known_more Null f = tt
    known_more (Int n) f = refl
    known_more (Text t) f = refl
    known_more (Row n) f = one_more (Row n) (f refl)
    known_more (Draw q n) f = one_more (Draw q n) (f refl)

  module _ (legal : IsLegalCapture job.start.rows Gives (opening job.start) job.calls) (services : KeepsServices job) where
    -- one call
    record IsAgain (k : ℕ) (first next : Stage) (c : Captured) (reply : Reply) (mid : State) : Type 0 where
      reply_is : reply ≡ c.reply
      state_is : mid ≡ next.state
      outcome : IsRenamedOutcome next.pairs c.reply.outcome reply.outcome
      stands : StandsOwn (suc k) next

    call_again : (k : ℕ) (first next : Stage) (c : Captured) (reply : Reply) (mid : State) → IsCallAt job.calls k c → Executes job first k reply next → Gives first.state c.session c.call c.reply mid → StandsOwn k first → HasNoIdTwice next.pairs → HasNoIdTwice first.pairs → IsAgain k first next c reply mid
    call_again k first next c reply mid at done run stands once before =
        let is = one_call job.calls k c done.0 at done.1 in
        let binds = known_binds k first stands (binds_of c.call) (legal.each k c at).known in
        let sent_is = sent_again first.pairs before job c.call (λ service e. services k c service at e) binds in
        let given = subst (λ (call : Call). Gives first.state c.session call reply next.state) sent_is (subst (λ (d : Captured). Gives first.state d.session (sent first.pairs job.remap d.call) reply next.state) is done.2) in
        let reply_is : reply ≡ c.reply = given.0 ∙ sym run.0 in
        let pairs_are : next.pairs ≡ first.pairs ++ learnt c.reply c.reply = done.3 ∙ ap (λ (d : Captured). first.pairs ++ learnt d.reply reply) is ∙ ap (λ (r : Reply). first.pairs ++ learnt c.reply r) reply_is in
        let pairs = first.pairs ++ learnt c.reply c.reply in
        let here = subst HasNoIdTwice pairs_are once in
        let own = own_longer first.pairs (learnt c.reply c.reply) first.state stands.own in
        let known = many_longer first.pairs (learnt c.reply c.reply) (binds_of c.call) binds in
        let gives : GivesOwn pairs (reply_in first.state c.session c.call) = subst (GivesOwn pairs) run.0 (λ v g. own_given first.pairs c.reply v g) in
        let outcome = subst (λ (r : Reply). IsRenamedOutcome pairs r.outcome r.outcome) (sym run.0) (own_outcome pairs here first.state own c.session c.call known gives) in
        let state = subst (HasOwnIds pairs) (sym given.1) (own_step pairs here first.state own c.session c.call known gives) in
        record {
          reply_is = reply_is;
          state_is = run.1 ∙ sym given.1;
          outcome = subst (λ (ps : List IdPair). IsRenamedOutcome ps c.reply.outcome reply.outcome) (sym pairs_are) (subst (λ (r : Reply). IsRenamedOutcome pairs c.reply.outcome r.outcome) (sym reply_is) outcome);
          stands = record {
            known = λ v f. subst (λ (ps : List IdPair). IsRenamed ps v v) (sym pairs_are) (known_more k first.pairs stands.known c at v f);
            own = subst (λ (ps : List IdPair). HasOwnIds ps next.state) (sym pairs_are) state;
          };
        }

    -- all calls
    pub all_again : (events : List Event) (k : ℕ) (rest : List Captured) (first last : Stage) (end : State) → answered events ≡ answered (recorded k rest)
        → ((i j : ℕ) (c : Captured) → j ≡ k + i → IsCallAt rest i c → IsCallAt job.calls j c) → IsTruthfulHistory (Executes job) first events last → IsRun Gives first.state rest end → StandsOwn k first → HasNoIdTwice last.pairs
        → IsTruthfulHistory (Both (Executes job) IsAsWas) first events last × (last.state ≡ end)
    all_again [] k [] first last end e at h run stands once = (h, ap (λ (s : Stage). s.state) (sym h) ∙ run)
    all_again [] k (c ∷ rest) first last end e at h run stands once = absurd cc
    all_again (Start j pause ∷ events) k rest first last end e at h run stands once = all_again events k rest first last end e at h run stands once
    all_again (Answer j reply ∷ events) k [] first last end e at h run stands once = absurd cc
    all_again (Answer j reply ∷ events) k (c ∷ rest) first last end e at h run stands once =
        let same : j ≡ k = cc in
        let others : answered events ≡ answered (recorded (suc k) rest) = cc in
        let here = at 0 k c (omega arith) refl in
        let after = more_pairs job h.0 events last h.2 in
        let next_once = once_before h.0.pairs after.0 (subst HasNoIdTwice after.1 once) in
        let now_once = once_before first.pairs (learnt h.1.0.reply reply) (subst HasNoIdTwice h.1.3 next_once) in
        let one = call_again k first h.0 c reply run.0 here (subst (λ (n : ℕ). Executes job first n reply h.0) same h.1) run.1 stands next_once now_once in
        let was : IsAsWas first j reply h.0 = λ call there.
        let is = one_call job.calls k c call here (subst (λ (n : ℕ). IsCallAt job.calls n call) same there) in
        subst (λ (d : Captured). (reply ≡ d.reply) × IsRenamedOutcome h.0.pairs d.reply.outcome reply.outcome) (sym is) (one.reply_is, one.outcome) in
        let rest_is = all_again events (suc k) rest h.0 last end others (λ i n d f there. at (suc i) n d (omega (arith, f)) there) h.2 (subst (λ (s : State). IsRun Gives s rest end) one.state_is run.2) one.stands once in
        ((h.0, (h.1, was), rest_is.0), rest_is.1)

  -- at first
  pub first_own : StandsOwn 0 (record { state = opening job.start; pairs = start_pairs job.start })
  first_own = record {
    known = λ v f. known_first v f;
    own = record { start = own_rows job.start; commits = tt; sessions = each_repeated (λ (s : Session). AreOwn (start_pairs job.start) s.own.changes) 64 disconnected tt; kept = each_repeated (λ (s : Session). AllByRecursion (KeepsOwn (start_pairs job.start)) s.savepoints) 64 disconnected tt };
  }
    where
      first_known : (v : Value) → StandsIn job.start.rows v ⊎ ((j : ℕ) × (call : Captured) × (j < 0) × IsCallAt job.calls j call × IsGivenBy v call.reply) → IsRenamed (start_pairs job.start) v v
      first_known v before = ⊎_elim (λ stands. own_stands job.start v stands) (λ given. absurd (omega (arith, given.2))) before

      known_first : (v : Value) → IsKnown job.start.rows job.calls 0 v → IsRenamed (start_pairs job.start) v v
      known_first Null f = tt
      known_first (Int n) f = refl
      known_first (Text t) f = refl
      known_first (Row n) f = first_known (Row n) (f refl)
      known_first (Draw q n) f = first_known (Draw q n) (f refl)
