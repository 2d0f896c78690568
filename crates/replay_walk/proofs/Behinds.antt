-- The captured server beside a replay: it goes past calls, and notes what they met.
use Rattle.std.proofs.Common.{◌≡◌, ◌∙◌, ◌≢◌, ℕ, suc, ◌+◌, ◌<◌, ◌≤◌, Bool, true, false, List, [], ◌∷◌, ◌++◌, length, get_or, take, Option, None, Some, refl, sym, ap, subst, ⊎_elim, arith}
use Rattle.std.specs.Prelude.{IsSome}
use Rattle.std.specs.BTreeMap.{get, is_at}
use Rattle.std.specs.Map.{lookup}
use Rattle.std.specs.Ordering.{nat_cmp}
use Rattle.std.proofs.lemmas.Bool.{cases_eq, cases_lt, cases_order}
use Rattle.std.proofs.lemmas.List.{get_or_append_left, get_or_push, length_push}
use Rattle.std.proofs.lemmas.Option.{same_Some, slice_get_read, slice_get_within}
use Rattle.desk_values.specs.declared.call.Reply.{Reply}
use Rattle.desk_values.specs.declared.capture.Captured.{Captured}
use Rattle.desk_values.specs.declared.value.Image.{Image}
use Rattle.server_words.specs.Clean.{is_clean}
use Rattle.server_words.specs.Machine.{Running}
use Rattle.server_words.specs.State.{State, opening, session_at}
use Rattle.server_words.specs.Step.{Gives}
use Rattle.server_words.specs.View.{commits_seen}
use Rattle.machine_stores.specs.Tables.{AreTold}
use Rattle.row_versions.specs.History.{History}
use Rattle.replay_history.specs.Gap.{IsCallAt}
use Rattle.replay_job.specs.Job.{IsReplayable, JobView}
use Rattle.law_replays.specs.End.Twins.{CameBefore}
use Rattle.law_replays.proofs.End.Stages.{one_call, one_run}
use Rattle.replay_walk.specs.declared.behind.Behind.{Behind}
use Rattle.replay_walk.specs.declared.behind.Met.{Met}
use Rattle.replay_walk.specs.declared.server.Server.{Server}
use Rattle.replay_walk.specs.Walked.{marked_at}
use Rattle.replay_walk.specs.Inside.Passing.{AreCleanMarks, HasAside, HasBegunBehind, HasTaken, IsBehind, IsMet, IsMetBy, KeepsAside}
use Rattle.replay_walk.specs.Inside.Serving.{GoesOn, IsTelling}
use Rattle.replay_walk.proofs.Captures.{next_call}

-- the call that stands at an index
pub call_there : (calls items : List Captured) (k : ℕ) (call : Captured) → items ≡ calls → k < length calls → call ≡ get_or items k call → IsCallAt calls k call
call_there calls items k call e within is = subst (λ (all : List Captured). IsCallAt all k call) e (slice_get_read items (length items) k call refl (omega (arith, within, ap length e)) is)

pub none_there : (o : Option Met) → None ≡ o → IsSome o → ⊥
none_there o e has = let f : IsSome (let none : Option Met = None in none) = subst (λ (p : Option Met). IsSome p) (sym e) has in absurd cc

abbrev aside_at : Behind → ℕ → Option Met
aside_at behind k = get nat_cmp behind.aside k

abbrev unmarked : Bool
unmarked = false

module _ (job : JobView) where
  -- ---- whose sessions are clean

  clean_more : (n : ℕ) (marks : List Bool) (call : Captured) (state : State) → IsCallAt job.calls n call → CameBefore job n state → AreCleanMarks job n marks
      → AreCleanMarks job (n + 1) (marks ++ is_clean state call.session ∷ [])
  clean_more n marks call state at came are =
      let mark = is_clean state call.session in
      record {
        count = let grown = length_push marks mark in omega (arith, grown, are.count);
        each = λ k other captured less there stood. ⊎_elim
            (λ same.
            let is = one_call job.calls n call other at (subst (λ (m : ℕ). IsCallAt job.calls m other) same there) in
            let state_is = one_run (opening job.start) (take n job.calls) captured state (subst (λ (m : ℕ). CameBefore job m captured) same stood) came in
            get_or_push marks mark unmarked k (are.count ∙ sym same) ∙ (λ i. is_clean (sym state_is i) (sym is i).session))
            (λ apart. ⊎_elim
            (λ before. get_or_append_left marks (mark ∷ []) unmarked k (omega (arith, before, are.count)) ∙ are.each k other captured before there stood)
            (λ behind. absurd (omega (arith, less, behind)))
            apart)
            (cases_order k n);
      }

  -- ---- what calls met

  -- what a call meets that comes next
  met_next : (behind : Behind) → IsBehind job behind → (call : Captured) → IsCallAt job.calls behind.at call → (met : Met) → IsMet job behind.server.engine.state call met → IsMetBy job behind.server.engine.state behind.at met
  met_next behind is call at met here = record {
    met = λ other captured there came.
        let state = one_run (opening job.start) _ behind.server.engine.state captured is.came came in
        let same = one_call job.calls behind.at other call there at in
        subst (λ (s : State). IsMet job s other met) state (subst (λ (c : Captured). IsMet job behind.server.engine.state c met) same here);
    commits = λ other captured there came.
        let state = one_run (opening job.start) _ behind.server.engine.state captured is.came came in
        let same = one_call job.calls behind.at other call there at in
        subst (λ (s : State). take met.footing.commits behind.server.engine.state.commits ≡ commits_seen (session_at s other.session).snapshot s.commits) state
        (subst (λ (c : Captured). take met.footing.commits behind.server.engine.state.commits ≡ commits_seen (session_at behind.server.engine.state c.session).snapshot behind.server.engine.state.commits) same here.footing.commits);
    within = here.footing.within;
  }

  -- the server went on since
  met_since : (old new : Server) → GoesOn old new → (k : ℕ) (met : Met) → IsMetBy job old.engine.state k met → IsMetBy job new.engine.state k met
  met_since old new on k met is = record {
    met = is.met;
    commits = λ call captured at came. on.front met.footing.commits is.within ∙ is.commits call captured at came;
    within = (let within = is.within in let more = on.more in omega (arith, within, more));
  }

  -- ---- past the next call

  module _ (replayable : IsReplayable job) (old mid new : Behind) (is : IsBehind job old) (call : Captured) (at : IsCallAt job.calls old.at call) (differs : Bool)
      (still : mid.server ≡ old.server) (stands : mid.at ≡ old.at)
      (clean : mid.clean.items ≡ old.clean.items ++ is_clean old.server.engine.state call.session ∷ [])
      (others : (k : ℕ) → k ≢ call.stamp → aside_at mid k ≡ aside_at old k)
      (none : differs ≡ false → (k : ℕ) → aside_at mid k ≡ aside_at old k)
      (here : differs ≡ true → (met : Met) × IsMet job old.server.engine.state call met × (aside_at mid call.stamp ≡ Some met))
      (on : GoesOn mid.server new.server) (telling : IsTelling new.server) (given : Reply) (gives : Gives mid.server.engine.state call.session call.call given new.server.engine.state)
      (steps : new.server.engine.steps ≡ mid.server.engine.steps + 1) (next : new.at ≡ old.at + 1) (marks_are : new.clean ≡ mid.clean) (aside : new.aside ≡ mid.aside) where
    pub goes : GoesOn old.server new.server
    goes = subst (λ (s : Server). GoesOn s new.server) still on

    stamp : call.stamp ≡ old.at
    stamp = (replayable.legal.each old.at call at).stamp

    met_set : (b : Bool) → differs ≡ b → (k : ℕ) (met : Met) → aside_at mid k ≡ Some met → IsMetBy job old.server.engine.state k met
    met_set false same k met e = is.aside k met (sym (none same k) ∙ e)
    met_set true marked k met e = ⊎_elim
        (λ same.
        let h = here marked in
        let met_is : h.0 ≡ met = same_Some h.0 met (sym h.2 ∙ ap (aside_at mid) (sym same) ∙ e) in
        let by = met_next old is call at h.0 h.1 in
        subst (λ (m : Met). IsMetBy job old.server.engine.state k m) met_is (subst (λ (n : ℕ). IsMetBy job old.server.engine.state n h.0) (sym stamp ∙ sym same) by))
        (λ apart. is.aside k met (sym (others k apart) ∙ e))
        (cases_eq k call.stamp)

    pub past_next : IsBehind job new
    past_next = record {
      came = (let same : suc old.at ≡ new.at = omega (arith, next) in
          let from = subst (λ (s : Server). Gives s.engine.state call.session call.call given new.server.engine.state) still gives in
          subst (λ (n : ℕ). CameBefore job n new.server.engine.state) same ((next_call job old.at call old.server.engine.state replayable at is.came).next given new.server.engine.state from));
      steps = steps ∙ ap (λ (s : Server). s.engine.steps + 1) still ∙ ap (λ (n : ℕ). n + 1) is.steps ∙ sym next;
      within = (let within = slice_get_within job.calls old.at call at in omega (arith, next, within));
      telling = telling;
      clean = subst (λ (n : ℕ). AreCleanMarks job n new.clean.items) (sym next)
          (subst (λ v. AreCleanMarks job (old.at + 1) v) (sym (ap (λ v. v.items) marks_are ∙ clean)) (clean_more old.at old.clean.items call old.server.engine.state at is.came is.clean));
      aside = λ k met e. met_since old.server new.server goes k met (met_set differs refl k met (ap (λ m. get nat_cmp m k) (sym aside) ∙ e));
    }

    -- and what it met is kept
    pub kept_next : (marks : List Bool) → differs ≡ marked_at marks old.at → (k : ℕ) → KeepsAside marks old new k
    kept_next marks is_mark k less marked was =
        subst (λ m. IsSome (get nat_cmp m k)) (sym aside) (⊎_elim
        (λ same.
        let h = here (is_mark ∙ ap (marked_at marks) (sym same) ∙ marked) in
        subst (λ (o : Option Met). IsSome o) (sym (ap (aside_at mid) (same ∙ sym stamp) ∙ h.2)) refl)
        (λ apart.
        let before : k < old.at = ⊎_elim (λ first. first) (λ behind. absurd (omega (arith, less, next, behind))) apart in
        let away : k ≢ call.stamp = λ same. omega (arith, before, stamp, same) in
        subst (λ (o : Option Met). IsSome o) (sym (others k away)) (was before))
        (cases_order k old.at))

  -- ---- what is taken

  pub behind_taken : (stamp : ℕ) (old new : Behind) → HasTaken stamp old new → IsBehind job old → IsBehind job new
  behind_taken stamp old new taken is = record {
    came = subst (λ (s : Server). CameBefore job new.at s.engine.state) (sym taken.server) (subst (λ (n : ℕ). CameBefore job n old.server.engine.state) (sym taken.at) is.came);
    steps = ap (λ (s : Server). s.engine.steps) taken.server ∙ is.steps ∙ sym taken.at;
    within = (let within = is.within in let at = taken.at in omega (arith, at, within));
    telling = subst IsTelling (sym taken.server) is.telling;
    clean = subst (λ (n : ℕ). AreCleanMarks job n new.clean.items) (sym taken.at) (subst (λ v. AreCleanMarks job old.at v.items) (sym taken.clean) is.clean);
    aside = λ k met e. subst (λ (s : Server). IsMetBy job s.engine.state k met) (sym taken.server) (⊎_elim
        (λ same. absurd (let f : None ≡ Some met = sym taken.gone ∙ ap (aside_at new) (sym same) ∙ e in cc))
        (λ apart. is.aside k met (sym (taken.others k apart) ∙ e))
        (cases_eq k stamp));
  }

  -- ---- before the first call

  pub begun : (tables : ℕ) (behind : Behind) → behind.server.engine ≡ record { state = opening job.start; steps = 0 } → AreTold 0 job.start.rows [] behind.server.ledgers.items → length behind.server.ledgers.items ≡ tables
      → behind.at ≡ 0 → behind.clean.items ≡ [] → behind.aside.entries ≡ [] → HasBegunBehind job tables behind
  begun tables behind engine told count at marks empty = record {
    behind = record {
      came = subst (λ (n : ℕ). CameBefore job n behind.server.engine.state) (sym at) (sym (ap (λ (m : Running). m.state) engine));
      steps = ap (λ (m : Running). m.steps) engine ∙ sym at;
      within = omega (arith, at);
      telling = subst (λ (m : Running). AreTold 0 m.state.start.rows m.state.commits behind.server.ledgers.items) (sym engine) told;
      clean = record { count = ap length marks ∙ sym at; each = λ k call captured less. absurd (omega (arith, less, at)) };
      aside = λ k met e. absurd (let f : None ≡ Some met = sym (ap (λ (es : List (ℕ × Met)). lookup (is_at (nat_cmp k)) es) empty) ∙ e in cc);
    };
    first = at;
    engine = engine;
    count = count;
  }

  -- ---- several calls

  pub kept_none : (marks : List Bool) (behind : Behind) (k : ℕ) → KeepsAside marks behind behind k
  kept_none marks behind k less marked was = was less

  pub kept_on : (marks : List Bool) (first mid new : Behind) (k : ℕ) → KeepsAside marks first mid k → KeepsAside marks mid new k → KeepsAside marks first new k
  kept_on marks first mid new k one other less marked was = other less marked (λ before. one before marked was)
