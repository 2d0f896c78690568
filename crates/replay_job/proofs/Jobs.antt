-- What is known of the calls of a job.
use Rattle.std.proofs.Common.{◌≡◌, ℕ, zero, suc, ◌+◌, ◌<◌, ◌≤◌, Bool, true, false, cond, List, [], ◌∷◌, length, take, map, refl, sym, ap, subst, ◌∙◌, arith, rules}
use Rattle.std.specs.Prelude.{None, Ok, nat_lt, slice_get, if◌then◌else◌, count_by}
use Rattle.std.specs.List.{AllByRecursion}
use Rattle.std.proofs.lemmas.List.{length-map}
use Rattle.std.proofs.lemmas.List.Elements.{recursion_from_All, All-from_recursion}
use Rattle.std.proofs.lemmas.List.Sorted.{All-permutation}
use Rattle.std.proofs.lemmas.List.Sums.{sum_by-cons}
use Rattle.std.proofs.lemmas.Option.{same_Some}
use Rattle.desk_values.specs.declared.value.Image.{Image}
use Rattle.desk_values.specs.declared.capture.Captured.{Captured}
use Rattle.replay_history.specs.Capture.{FitsIn, commits, commits_before}
use Rattle.replay_history.specs.Gap.{IsCallAt}
use Rattle.object_depends.specs.declared.fact.Fact.{Fact}
use Rattle.object_depends.specs.Facts.{AreSound, commits_below, fact_at, is_commit}
use Rattle.desk_schema.specs.Start.{StartView}
use Rattle.desk_values.specs.Limits.{last_moment}
use Rattle.capture_format.specs.SessionFile.{AreCallsFrom}
use Rattle.captured_calls.specs.Sessions.{AreSessionsFrom}
use Rattle.captured_calls.specs.Stamps.{all_calls, by_stamp}
use Rattle.captured_calls.proofs.Members.{get_there, each_get}
use Rattle.captured_calls.proofs.Permuted.{stamped_are_all}
use Rattle.captured_calls.specs.Facts.{fact_of, facts_of}
use Rattle.captured_calls.specs.Tests.{bad_stamp, too_many}
use Rattle.captured_calls.specs.Verdict.{IsLegal, Preparation, fault_of, verdict, verdict_of}
use Rattle.captured_calls.proofs.Legality.{all_stamped, plan_legal, plan_sound, ok_is, passed}
use Rattle.desk_schema.specs.File.{IsStart}
use Rattle.desk_schema.specs.Sound.{IsSoundStart}
use Rattle.desk_schema.proofs.Files.{sound_start}
use Rattle.desk_schema.proofs.Targets.{target_itself}
use Rattle.desk_schema.specs.Target.{IsTarget}
use Rattle.remap_ids.specs.Services.{ServicePair}
use Rattle.replay_history.specs.declared.mode.Mode.{Mode}
use Rattle.replay_history.specs.declared.mode.Mode.TheVariants.{Order}
use Rattle.replay_job.specs.Job.{AreKnownOf, HasMoments, IsKnownOf, JobView}
use Rattle.replay_job.specs.Replays.{IsSoundJob}
use Rattle.replay_job.specs.Jobs.{IsTrial, job_of, plain_fact}
use Rattle.capture_format.proofs.Cuts.{all_append}

count_cons : {X : Type 0} (p : X → Bool) (x : X) (xs : List X) → count_by p (x ∷ xs) ≡ cond (p x) 1 0 + count_by p xs
count_cons p x xs = sum_by-cons _ x xs

-- facts that are made call by call
module _ (fact_of : Captured → Fact) (known : (call : Captured) → IsKnownOf call (fact_of call)) where
  fact_is : (calls : List Captured) (k : ℕ) (call : Captured) → IsCallAt calls k call → fact_at (map fact_of calls) k ≡ fact_of call
  fact_is [] k call at = cc
  fact_is (first ∷ calls) zero call at = ap fact_of (same_Some first call at)
  fact_is (first ∷ calls) (suc k) call at = fact_is calls k call at

  each_known : (calls : List Captured) (k : ℕ) (call : Captured) → IsCallAt calls k call → IsKnownOf call (fact_at (map fact_of calls) k)
  each_known calls k call at = subst (IsKnownOf call) (sym (fact_is calls k call at)) (known call)

  pub are_known : (calls : List Captured) (facts : List Fact) → facts ≡ map fact_of calls → AreSound facts → AreKnownOf calls facts
  are_known calls facts is sound = record {
    count = ap (λ (fs : List Fact). length fs) is ∙ length-map calls fact_of;
    each = λ k call at. subst (λ (fs : List Fact). IsKnownOf call (fact_at fs k)) (sym is) (each_known calls k call at);
    sound = sound;
  }

  -- the numbered commits among the first calls are those of the facts
  abbrev Tells : List Captured → Type 0
  Tells calls = (k : ℕ) (call : Captured) → IsCallAt calls k call → nat_lt 0 call.number ≡ commits call.reply.outcome

  counts : (calls : List Captured) (k : ℕ) → Tells calls → commits_below (map fact_of calls) k ≡ commits_before calls k
  counts calls zero tells = refl
  counts [] (suc k) tells = refl
  counts (call ∷ calls) (suc k) tells =
      let one : is_commit (fact_of call) ≡ commits call.reply.outcome = ap (nat_lt 0) (known call).number ∙ tells 0 call refl in
      let rest = counts calls k (λ j c at. tells (suc j) c at) in
      count_cons is_commit (fact_of call) (take k (map fact_of calls)) ∙ ap (λ (b : Bool). cond b 1 0 + commits_below (map fact_of calls) k) one ∙ ap (λ (n : ℕ). cond (commits call.reply.outcome) 1 0 + n) rest
      ∙ sym (count_cons (λ (c : Captured). commits c.reply.outcome) call (take k calls))

  numbered : (n m : ℕ) (b : Bool) → n ≡ (if b then m + 1 else 0) → nat_lt 0 n ≡ b
  numbered n m true is = rw is (search (arith, rules))
  numbered n m false is = rw is refl

  next_number : (n m : ℕ) (b : Bool) → n ≡ (if b then m + 1 else 0) → 0 < n → n ≡ m + 1
  next_number n m true is some = is
  next_number n m false is some = absurd (omega (arith, is, some))

  -- those of a legal capture are sound
  pub are_sound : (rows : List Image) (calls : List Captured) → ((k : ℕ) (call : Captured) → IsCallAt calls k call → FitsIn rows calls k call) → AreSound (map fact_of calls)
  are_sound rows calls each k within =
      let there = get_there calls k (omega (arith, within, length-map calls fact_of)) in
      let call = there.0 in
      let fits = each k call there.1 in
      let is = fact_is calls k call there.1 in
      let same = counts calls k (λ j c at. numbered c.number (commits_before calls j) (commits c.reply.outcome) (each j c at).number) in
      record {
        seen = ap (λ (f : Fact). f.seen) is ∙ (known call).seen ∙ fits.seen ∙ sym same;
        number = λ some.
            let number : (fact_at (map fact_of calls) k).number ≡ call.number = ap (λ (f : Fact). f.number) is ∙ (known call).number in
            number ∙ next_number call.number (commits_before calls k) (commits call.reply.outcome) fits.number (subst (λ (n : ℕ). 0 < n) number some) ∙ ap (λ (n : ℕ). n + 1) (sym same);
      }

-- ---- what a verdict gives

abbrev IsInTime : Captured → Type 0
IsInTime call = call.began ≤ last_moment

calls_in_time : (session place least : ℕ) (calls : List Captured) → AreCallsFrom session place least calls → AllByRecursion IsInTime calls
calls_in_time session place least [] are = tt
calls_in_time session place least (call ∷ calls) are = (are.0.began, calls_in_time session (place + 1) (call.stamp + 1) calls are.1)

lists_in_time : (session : ℕ) (lists : List (List Captured)) → AreSessionsFrom session lists → AllByRecursion IsInTime (all_calls lists)
lists_in_time session [] are = tt
lists_in_time session (calls ∷ lists) are = all_append IsInTime calls (all_calls lists) (calls_in_time session 0 0 calls are.0) (lists_in_time (session + 1) lists are.1)

known_fact : (start : StartView) (call : Captured) → IsKnownOf call (fact_of start.schema call)
known_fact start call = record { session = refl; seen = refl; number = refl }

each_fact : (start : StartView) (calls : List Captured) → facts_of start.schema calls ≡ map (fact_of start.schema) calls
unfolding facts_of
each_fact start calls = refl

module _ (start : StartView) (lists : List (List Captured)) (plan : Preparation) (is : verdict start lists ≡ Ok plan) where
  abbrev ordered : List Captured
  ordered = by_stamp (all_calls lists)

  stamps : (bad_stamp (all_calls lists) ≡ None) × (verdict_of start ordered ≡ Ok plan)
  unfolding verdict
  stamps = passed (bad_stamp (all_calls lists)) (verdict_of start ordered) plan (passed (too_many (all_calls lists)) _ plan is).1

  plan_is : plan ≡ record { calls = ordered; facts = facts_of start.schema ordered }
  plan_is = ok_is _ plan (passed (fault_of start ordered) _ plan stamps.1).1

  -- what is known of the calls agrees with them
  pub plan_known : AreSound plan.facts → AreKnownOf plan.calls plan.facts
  plan_known sound = are_known (fact_of start.schema) (known_fact start) plan.calls plan.facts (ap (λ (p : Preparation). p.facts) plan_is ∙ each_fact start ordered ∙ ap (map (fact_of start.schema)) (sym (ap (λ (p : Preparation). p.calls) plan_is))) sound

  -- and they begin in time
  pub plan_moments : AreSessionsFrom 0 lists → HasMoments plan.calls
  plan_moments are k call at =
      let all : AllByRecursion IsInTime ordered = recursion_from_All IsInTime ordered (All-permutation IsInTime (all_calls lists) ordered (stamped_are_all (all_calls lists) (all_stamped (all_calls lists) stamps.0)) (All-from_recursion IsInTime (all_calls lists) (lists_in_time 0 lists are))) in
      each_get IsInTime ordered k call all (ap (λ (cs : List Captured). slice_get cs k) (sym (ap (λ (p : Preparation). p.calls) plan_is)) ∙ at)

-- ---- jobs

-- a job on a start that it may be replayed on
pub sound_on : (start target : StartView) (calls : List Captured) (facts : List Fact) (remap : List ServicePair) (mode : Mode) (think connect : ℕ)
    → IsSoundStart start → IsSoundStart target → IsTarget start target → IsLegal start calls → AreKnownOf calls facts → HasMoments calls → think ≤ 1000 → connect ≤ 1000
    → IsSoundJob (record { start = start; target = target; calls = calls; facts = facts; remap = remap; mode = mode; think = think; connect = connect })
sound_on start target calls facts remap mode think connect sound target_sound may legal known moments few_think few_connect = record {
  replayable = record { sound = sound; legal = legal; known = known; moments = moments; target = may; think = few_think; connect = few_connect };
  target = target_sound;
}

-- that of a plan can be replayed
pub plan_sound_job : (start target : StartView) (lists : List (List Captured)) (plan : Preparation) (remap : List ServicePair) (mode : Mode) (think connect : ℕ) → AreSessionsFrom 0 lists → length lists ≤ 64 → verdict start lists ≡ Ok plan
    → IsSoundStart start → IsSoundStart target → IsTarget start target → think ≤ 1000 → connect ≤ 1000 → IsSoundJob (job_of start target plan remap mode think connect)
plan_sound_job start target lists plan remap mode think connect are count is sound target_sound may few_think few_connect =
    sound_on start target plan.calls plan.facts remap mode think connect sound target_sound may (plan_legal start lists plan is are count) (plan_known start lists plan is (plan_sound start lists plan is)) (plan_moments start lists plan is are) few_think few_connect

-- a job on its own start can be replayed
pub sound_job : (start target : StartView) (calls : List Captured) (facts : List Fact) (remap : List ServicePair) (mode : Mode) (think connect : ℕ)
    → IsStart start → target ≡ start → IsLegal start calls → AreKnownOf calls facts → HasMoments calls → think ≤ 1000 → connect ≤ 1000
    → IsSoundJob (record { start = start; target = target; calls = calls; facts = facts; remap = remap; mode = mode; think = think; connect = connect })
sound_job start target calls facts remap mode think connect is same legal known moments few_think few_connect =
    let sound = sound_start start is in
    sound_on start target calls facts remap mode think connect sound (subst IsSoundStart (sym same) sound) (subst (IsTarget start) (sym same) (target_itself start)) legal known moments few_think few_connect

plain_known : (call : Captured) → IsKnownOf call (plain_fact call)
plain_known call = record { session = refl; seen = refl; number = refl }

-- what a trial knows of legal calls is sound
known_plainly : (start : StartView) (recorded : List Captured) → IsLegal start recorded → AreKnownOf recorded (map plain_fact recorded)
known_plainly start recorded legal = are_known plain_fact plain_known recorded (map plain_fact recorded) refl (are_sound plain_fact plain_known start.rows recorded legal.each)

-- so can that of a trial
pub trial_sound : (captured begins target : StartView) (recorded copies : List Captured) (facts : List Fact) (remap : List ServicePair) → IsStart captured → begins ≡ captured → target ≡ captured → copies ≡ recorded → facts ≡ map plain_fact recorded → IsLegal captured recorded → HasMoments recorded
    → IsSoundJob (record { start = begins; target = target; calls = copies; facts = facts; remap = remap; mode = Order; think = 0; connect = 0 })
trial_sound captured begins target recorded copies facts remap is begins_is target_is copies_are facts_are legal moments =
    rw (begins_is, target_is, copies_are, facts_are) (sound_job captured captured recorded (map plain_fact recorded) remap Order 0 0 is refl legal (known_plainly captured recorded legal) moments (omega arith) (omega arith))

pub trial_sound_job : (captured : StartView) (recorded : List Captured) (job : JobView) → IsSoundStart captured → IsLegal captured recorded → HasMoments recorded → IsTrial captured recorded job → job.facts ≡ map plain_fact recorded → IsSoundJob job
trial_sound_job captured recorded job sound legal moments is facts_are = record {
  replayable = record {
    sound = subst IsSoundStart (sym is.start) sound;
    legal = rw (is.start, is.calls) legal;
    known = rw (is.calls, facts_are) (known_plainly captured recorded legal);
    moments = rw is.calls moments;
    target = rw (is.start, is.target) (target_itself captured);
    think = omega (arith, is.think);
    connect = omega (arith, is.connect);
  };
  target = subst IsSoundStart (sym is.target) sound;
}
