-- A recorder keeps what it promises when a call is recorded.
use Rattle.std.proofs.Common.{◌≡◌, ◌∙◌, ◌<◌, ◌≤◌, ℕ, ◌+◌, true, false, cond, List, [], ◌∷◌, ◌++◌, get_or, length, replicate, set, refl, sym, ap, subst, inl, inr, arith, length-set}
use Rattle.std.specs.Prelude.{is_some, if◌then◌else◌, nat_eq, not, ◌||◌, max}
use Rattle.std.specs.List.{AllByRecursion, list_any}
use Rattle.std.proofs.lemmas.Bool.{cases_Bool, eqb-true, eq-eqb, false≢true}
use Rattle.std.proofs.lemmas.List.{get_or-replicate, get_or-set_other, get_or-set_same, length-replicate, length_push, take_all}
use Rattle.std.proofs.lemmas.List.Sums.{count_by-le-length}
use Rattle.desk_values.specs.declared.value.Value.{Value}
use Rattle.desk_values.specs.declared.call.Call.{Call}
use Rattle.desk_values.specs.declared.capture.Captured.{Captured}
use Rattle.desk_values.specs.Good.{IsGoodReply}
use Rattle.desk_schema.specs.Start.{StartView}
use Rattle.desk_values.specs.Limits.{last_moment}
use Rattle.replay_history.specs.Capture.{FitsIn, IsKnown, binds_of, commits, commits_before, session_calls_before}
use Rattle.captured_calls.specs.Moments.{ended_in}
use Rattle.captured_calls.specs.Sessions.{is_of}
use Rattle.captured_calls.specs.Stamped.{HasText}
use Rattle.captured_calls.proofs.Counts.{count_more}
use Rattle.captured_calls.proofs.Following.{ended_more, ended_most, follows}
use Rattle.captured_calls.proofs.Growing.{legal_longer, run_more}
use Rattle.law_ids.proofs.Known.{known_after}
use Rattle.server_words.specs.Machine.{Running}
use Rattle.server_words.specs.declared.session.Session.{Session}
use Rattle.server_words.specs.State.{State, disconnected, is_given, opening}
use Rattle.server_words.specs.Step.{Gives, reply_in, step}
use Rattle.known_ids.specs.Knowing.{KnowsCalls}
use Rattle.known_ids.specs.declared.known.KnownIds.{KnownIds}
use Rattle.capture_recorder.specs.declared.counters.Counters.{Counters}
use Rattle.capture_recorder.specs.declared.progress.Progress.{Progress}
use Rattle.capture_recorder.specs.Recording.{IsRecording, Recording, captured, connected_count, cut, is_stranger, kept_began, kept_ended, opened, recorded}
use Rattle.capture_recorder.specs.Inside.Keeping.{Keeps, progress_of}
use Rattle.capture_format.proofs.Cuts.{all_append, all_weaker}

abbrev pub progress : ℕ → ℕ → Progress
progress calls ended = record { calls = calls; ended = ended }

-- ---- the new call

each_given : (state : State) (binds : List Value) → list_any (λ bind. not (is_given state bind)) binds ≡ false → AllByRecursion (λ bind. is_given state bind ≡ true) binds
each_given state [] none = tt
each_given state (bind ∷ binds) none = elim (cases_Bool (is_given state bind)) [
  | inl given ↦ (given, each_given state binds (ap (λ b. not b || list_any (λ other. not (is_given state other)) binds) (sym given) ∙ none))
  | inr stranger ↦ absurd (false≢true (sym none ∙ ap (λ b. not b || list_any (λ other. not (is_given state other)) binds) stranger))
]

ordered : (began ended : ℕ) → cut began ≤ kept_ended (cut began) ended
ordered began ended = omega arith

after_last : (last began : ℕ) → last ≤ last_moment → last ≤ cut (max began last)
after_last last began limit = omega (arith, limit)

module _ (r : Recording) (engine : Running) (numbered : ℕ) (sessions : List Progress) (known : KnownIds) (counters : Counters) (keeps : Keeps r engine numbered sessions known counters) (session : ℕ) (within : session < 64) (call : Call) (began ended : ℕ) (given : is_stranger r.state call ≡ false) where
  abbrev new : Captured
  new = captured r session call began ended

  limit : (other : ℕ) → ended_in other r.calls ≤ last_moment
  limit other = ended_most other last_moment r.calls (all_weaker HasText (λ (c : Captured). c.ended ≤ last_moment) (λ c text. text.ended) r.calls keeps.recording.texts)

  fits_new : FitsIn r.start.rows r.calls (length r.calls) new
  fits_new = record {
    stamp = refl;
    session = within;
    place = refl;
    number = refl;
    seen = refl;
    ends = ordered (max began (ended_in session r.calls)) ended;
    follows = follows r.calls (length r.calls) new (λ k other at. (keeps.recording.legal.each k other at).place) refl (subst (λ (cs : List Captured). ended_in session cs ≤ new.began) (sym (take_all (length r.calls) r.calls (omega arith))) (after_last (ended_in session r.calls) began (limit session)));
    known = all_weaker (λ bind. is_given r.state bind ≡ true) (IsKnown r.start.rows r.calls (length r.calls)) (λ bind is. known_after r.start r.calls r.state bind keeps.recording.reached is) (binds_of call) (each_given r.state (binds_of call) given);
  }

  recording_longer : length r.calls + connected_count (step r.state session call) < 100000 → IsGoodReply (reply_in r.state session call) → IsRecording (recorded r session call began ended)
  recording_longer room good = record {
    legal = legal_longer r.start.rows r.calls new fits_new Gives (opening r.start) r.state (step r.state session call) keeps.recording.legal keeps.recording.reached (refl, refl) (omega (arith, room));
    reached = run_more Gives (opening r.start) r.state (step r.state session call) r.calls new keeps.recording.reached (refl, refl);
    room = omega (arith, room, length_push r.calls new);
    texts = all_append HasText r.calls (new ∷ []) keeps.recording.texts (record { began = omega arith; ended = omega arith; reply = good }, tt);
  }

  -- ---- what is kept beside the calls

  progress_longer : (other : ℕ) (d : Progress) → other < 64 → get_or (set sessions session (progress (session_calls_before r.calls session (length r.calls) + 1) new.ended)) other d ≡ progress_of (r.calls ++ new ∷ []) other
  progress_longer other d below =
      let count = count_more (is_of other) r.calls new in
      let moment = ended_more other r.calls new in
      elim (cases_Bool (nat_eq session other)) [
        | inl here ↦ (
            let same : session ≡ other = eqb-true session other here in
            let one = ap (λ b. cond {A = ℕ} b 1 0) here in
            let from = ap (λ s. session_calls_before r.calls s (length r.calls)) same in
            let calls : session_calls_before r.calls session (length r.calls) + 1 ≡ session_calls_before (r.calls ++ new ∷ []) other (length (r.calls ++ new ∷ [])) = omega (arith, count, one, from) in
            let end : new.ended ≡ ended_in other (r.calls ++ new ∷ []) = sym (moment ∙ ap (λ b. if b then new.ended else ended_in other r.calls) here) in
            let got = get_or-set_same sessions session (progress (session_calls_before r.calls session (length r.calls) + 1) new.ended) d (omega (arith, within, keeps.count)) in
            ap (λ (s : ℕ). get_or (set sessions session (progress (session_calls_before r.calls session (length r.calls) + 1) new.ended)) s d) (sym same) ∙ got ∙ (λ i. progress (calls i) (end i)))
        | inr there ↦ (
            let none = ap (λ b. cond {A = ℕ} b 1 0) there in
            let calls : session_calls_before r.calls other (length r.calls) ≡ session_calls_before (r.calls ++ new ∷ []) other (length (r.calls ++ new ∷ [])) = omega (arith, count, none) in
            let end : ended_in other r.calls ≡ ended_in other (r.calls ++ new ∷ []) = sym (moment ∙ ap (λ b. if b then new.ended else ended_in other r.calls) there) in
            get_or-set_other sessions session other _ d (λ same. false≢true (sym there ∙ eq-eqb session other (sym same))) ∙ keeps.progress other d below ∙ (λ i. progress (calls i) (end i)))
      ]

  abbrev AreAfter : Counters → Type 0
  AreAfter after = (after.next_row ≡ (step r.state session call).next_row) × (after.next_values.items ≡ (step r.state session call).next_values)

  pub keeps_longer : (next : Running) (after : Counters) → length r.calls + connected_count (step r.state session call) < 100000 → IsGoodReply (reply_in r.state session call) → next.state ≡ step r.state session call → next.steps ≡ engine.steps + 1 → AreAfter after
      → Keeps (recorded r session call began ended) next (numbered + cond (commits (reply_in r.state session call).outcome) 1 0) (set sessions session (progress (session_calls_before r.calls session (length r.calls) + 1) new.ended)) known after
  keeps_longer next after room good state steps are_after = record {
    recording = recording_longer room good;
    state = state;
    steps = omega (arith, steps, keeps.steps, length_push r.calls new);
    numbered_is = omega (arith, keeps.numbered_is, count_more (λ (c : Captured). commits c.reply.outcome) r.calls new);
    count = length-set sessions session _ ∙ keeps.count;
    progress = progress_longer;
    ids = keeps.ids;
    next_row = are_after.0;
    next_values = are_after.1;
  }

  -- ---- as the code puts it

  pub captured_is : (c : Captured) → c.session ≡ session → c.place ≡ session_calls_before r.calls session (length r.calls) → c.stamp ≡ length r.calls → c.seen ≡ commits_before r.calls (length r.calls)
      → c.number ≡ cond (commits (reply_in r.state session call).outcome) (c.seen + 1) 0 → c.began ≡ kept_began r.calls session began → c.ended ≡ kept_ended c.began ended → c.call ≡ call → c.reply ≡ reply_in r.state session call → c ≡ new
  captured_is c e0 e1 e2 e3 e4 e5 e6 e7 e8 =
      let number : c.number ≡ new.number = e4 ∙ ap (λ (n : ℕ). cond (commits (reply_in r.state session call).outcome) (n + 1) 0) e3 in
      let end : c.ended ≡ new.ended = e6 ∙ ap (λ (b : ℕ). kept_ended b ended) e5 in
      λ i. record { session = e0 i; place = e1 i; stamp = e2 i; seen = e3 i; number = number i; began = e5 i; ended = end i; call = e7 i; reply = e8 i }

  pub keeps_added : (calls : List Captured) (next : Running) (count : ℕ) (p : Progress) (after : Counters) → length r.calls + connected_count (step r.state session call) < 100000 → IsGoodReply (reply_in r.state session call)
      → next.state ≡ step r.state session call → next.steps ≡ engine.steps + 1 → calls ≡ r.calls ++ new ∷ [] → count ≡ numbered + cond (commits (reply_in r.state session call).outcome) 1 0
      → p ≡ progress (session_calls_before r.calls session (length r.calls) + 1) new.ended → AreAfter after
      → Keeps (record { start = r.start; calls = calls; state = next.state }) next count (set sessions session p) known after
  keeps_added calls next count p after room good state steps calls_are count_is p_is are_after =
      let kept = keeps_longer next after room good state steps are_after in
      let longer : Recording = record { start = r.start; calls = calls; state = next.state } in
      let now : longer ≡ recorded r session call began ended = λ i. record { start = r.start; calls = calls_are i; state = state i } in
      subst (λ (x : Recording). Keeps x next count (set sessions session p) known after) (sym now)
      (subst (λ (x : ℕ). Keeps (recorded r session call began ended) next x (set sessions session p) known after) (sym count_is)
      (subst (λ (x : Progress). Keeps (recorded r session call began ended) next (numbered + cond (commits (reply_in r.state session call).outcome) 1 0) (set sessions session x) known after) (sym p_is) kept))

-- ---- nothing is recorded yet

module _ (start : StartView) (known : KnownIds) (counters : Counters) (knows : KnowsCalls known start.rows []) (row : counters.next_row ≡ start.next_row) (values : counters.next_values.items ≡ start.next_values) where
  keeps_none : (engine : Running) (sessions : List Progress) → engine.state ≡ opening start → engine.steps ≡ 0 → sessions ≡ replicate 64 (progress 0 0) → Keeps (opened start) engine 0 sessions known counters
  keeps_none engine sessions state steps are = record {
    recording = record {
      legal = record { count = omega arith; each = λ k call at. absurd cc; replies = (opening start, refl) };
      reached = refl;
      room = omega (arith, count_by-le-length (λ (s : Session). is_some s.rights) (replicate 64 disconnected), length-replicate 64 disconnected);
      texts = tt;
    };
    state = state;
    steps = steps;
    numbered_is = refl;
    count = ap length are;
    progress = λ session other below. ap (λ (ps : List Progress). get_or ps session other) are ∙ get_or-replicate 64 session (progress 0 0) other below;
    ids = knows;
    next_row = row;
    next_values = values;
  }

  pub keeps_loaded : (calls : List Captured) (engine : Running) (sessions : List Progress) → calls ≡ [] → engine ≡ record { state = opening start; steps = 0 } → sessions ≡ replicate 64 (progress 0 0) → Keeps (record { start = start; calls = calls; state = engine.state }) engine 0 sessions known counters
  keeps_loaded calls engine sessions none first are =
      let loaded = keeps_none (record { state = opening start; steps = 0 }) sessions refl refl are in
      subst (λ (cs : List Captured). Keeps (record { start = start; calls = cs; state = engine.state }) engine 0 sessions known counters) (sym none)
      (subst (λ (e : Running). Keeps (record { start = start; calls = []; state = e.state }) e 0 sessions known counters) (sym first) loaded)
