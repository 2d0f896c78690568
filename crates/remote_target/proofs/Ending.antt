-- How a replay ends, by what came of it and by the lines that were given back.
use Rattle.std.proofs.Common.{◌≡◌, ℕ, ◌≤◌, List, [], inl, inr, length, map, take, Option, None, Some, Result, Ok, Err, IfOk, OnOk, is_ok, true, refl, sym, ap, subst, ◌∙◌, append-nil, arith}
use Rattle.std.specs.Prelude.{IfErr}
use Rattle.std.specs.List.{AllByRecursion}
use Rattle.std.proofs.lemmas.List.{length-map, length-take}
use Rattle.desk_files.specs.Outside.{HasRisen}
use Rattle.desk_files.proofs.WriteLaws.{told}
use Rattle.desk_values.specs.declared.memory.Memory.{Memory as NoMemory}
use Rattle.replay_job.specs.Job.{JobView}
use Rattle.replay_lanes.specs.Sessions.{sessions}
use Rattle.remote_link.specs.declared.heard.Heard.{Heard}
use Rattle.replay_history.specs.History.{AnswersAll}
use Rattle.remote_desk.specs.Desk.{IsKept, RemoteView}
use Rattle.remote_desk.specs.History.{plain}
use Rattle.remote_desk.specs.Said.{said_in}
use Rattle.remote_target.specs.declared.line.Line.{Line}
use Rattle.remote_target.specs.declared.remote_err.RemoteErr.{RemoteErr}
use Rattle.remote_target.specs.declared.remote_err.RemoteErr.TheVariants.{Link, OtherJob, Mismatch, Memory}
use Rattle.remote_target.specs.Agreement.{Compares, heard_on, kept_of}
use Rattle.remote_target.specs.Ends.{EndsSo, GaveAs, GaveBack, HasGoodReplies, IsDifference}
use Rattle.remote_target.specs.Inside.{AreAgreed, AreSentInOrder, AreToldOf, CountsLines, GivesLines, IsBroken, IsEnded, IsFresh, IsOutcome, IsRefused, IsReturned, refusal_on, said_on, session_on}
use Rattle.remote_target.specs.Lines.{AreLinesInOrder}
use Rattle.remote_target.proofs.Agreeing.{all_same, same_agreed}
use Rattle.remote_target.proofs.Compared.{not_one_on}
use Rattle.remote_target.proofs.Found.{found, found_in}
use Rattle.remote_target.proofs.Ordered.{all_in_order}
use Rattle.remote_target.proofs.Giving.{all_unbroken, as_many, fresh_empty, fresh_fair, fresh_in_order, in_order_of, told_in_order, told_same}

module _ {L : Type 0} (job : JobView) (lines : List (Line L)) (lists : List (List Heard)) (are : AreToldOf (map said_on lines) lists) where
  -- as many as there are lines
  many : length lists ≡ length lines
  many = as_many (map said_on lines) lists are ∙ length-map lines said_on

  module _ (its : map session_on lines ≡ sessions job.calls) where
    each : length lists ≡ length (sessions job.calls)
    each = many ∙ sym (length-map lines session_on) ∙ ap length its

    ended : (desk : RemoteView) → IsEnded job (map heard_on lines) (map refusal_on lines) desk → lists ≡ map (said_in job.calls desk.events) (sessions job.calls)
    ended desk is =
        told_same (kept_of desk) lines lists are is.fair is.lines_are ∙ ap (map (kept_of desk)) its
        ∙ ap (λ (other : JobView). map (said_in other.calls desk.events) (sessions job.calls)) is.job_is

    ended_in_order : (desk : RemoteView) → IsEnded job (map heard_on lines) (map refusal_on lines) desk → AreLinesInOrder job.calls (sessions job.calls) lists
    ended_in_order desk is =
        let agreed = same_agreed desk (map heard_on lines) is.lines_are in
        let order = subst (λ (j : JobView). AreSentInOrder j (map heard_on lines)) is.job_is (all_in_order desk (map heard_on lines) is.kept agreed) in
        subst (λ (of : List ℕ). AreLinesInOrder job.calls of lists) its (told_in_order job lines lists are order)

    gave : (outcome : Result RemoteView RemoteErr) → IsOutcome job (map heard_on lines) (map refusal_on lines) outcome → GaveAs job outcome lists
    gave (Ok desk) is = (ended desk is, ended_in_order desk is)
    gave (Err Link) is = (subst (λ (of : List ℕ). AreLinesInOrder job.calls of lists) its (told_in_order job lines lists are is.0), all_unbroken (map said_on lines) lists are, inl each)
    gave (Err (OtherJob kept)) is = each
    gave (Err (Mismatch session place kept answered)) is = (each, found_in job lines lists session place kept answered its are is.0)
    gave (Err Memory) is = let same = each in omega (arith, same)

  -- where a dial failed
  gave_fresh : AllByRecursion IsFresh (map said_on lines) → map session_on lines ≡ take (length lines) (sessions job.calls) → GaveAs job (Err Link) lists
  gave_fresh fresh first =
      (in_order_of job.calls (length lines) (sessions job.calls) lists (subst (λ (of : List ℕ). AreLinesInOrder job.calls of lists) first (told_in_order job lines lists are (fresh_in_order job lines fresh))), all_unbroken (map said_on lines) lists are, inr (fresh_empty lines lists are fresh))

module _ {L : Type 0} (job : JobView) (lines : List (Line L)) (before after : Option (List (List Heard))) where
  pub all_given : (outcome : Result RemoteView RemoteErr) → map session_on lines ≡ sessions job.calls → IsOutcome job (map heard_on lines) (map refusal_on lines) outcome → GivesLines (map said_on lines) (Ok tt) before after
      → GaveBack job outcome before after
  all_given outcome its is gives = told before (λ lists g. (g.0, gave job lines g.0 g.1 its outcome is, g.2)) gives

  pub first_given : AllByRecursion IsFresh (map said_on lines) → map session_on lines ≡ take (length lines) (sessions job.calls) → GivesLines (map said_on lines) (Ok tt) before after → GaveBack job (Err Link) before after
  first_given fresh first gives = told before (λ lists g. (g.0, gave_fresh job lines g.0 g.1 fresh first, g.2)) gives

  pub short_given : (memory : NoMemory) → length lines ≤ length (sessions job.calls) → GivesLines (map said_on lines) (Err memory) before after → GaveBack job (Err Memory) before after
  short_given memory few gives = told before (λ lists g. (g.0, (let same = length-map lines said_on in let most = g.1 in omega (arith, same, most, few)), g.2)) gives

-- ---- the count of the dial

module _ {L : Type 0} (job : JobView) (lines : List (Line L)) (f0 f1 f2 : ℕ) (counts : CountsLines (map refusal_on lines) f1 f2) where
  pub counted : (outcome : Result RemoteView RemoteErr) → f1 ≡ f0 → IsOutcome job (map heard_on lines) (map refusal_on lines) outcome → EndsSo outcome f0 f2
  counted (Ok desk) same is = counts.stays is.fair ∙ same
  counted (Err Link) same is = (subst (λ (f : ℕ). HasRisen f f2) same (counts.rises is.1), (let grows = counts.never_falls in omega (arith, grows, same)))
  counted (Err (OtherJob kept)) same is = let grows = counts.never_falls in omega (arith, grows, same)
  counted (Err (Mismatch session place kept answered)) same is = let grows = counts.never_falls in omega (arith, grows, same)
  counted (Err Memory) same is = let grows = counts.never_falls in omega (arith, grows, same)

  -- where a dial failed
  pub counted_fresh : AllByRecursion IsFresh (map said_on lines) → HasRisen f0 f1 → f0 ≤ f1 → EndsSo (Err Link) f0 f2
  counted_fresh fresh risen grows = let same = counts.stays (fresh_fair lines fresh) in (subst (HasRisen f0) (sym same) risen, omega (arith, grows, same))

  -- and where memory was short
  pub counted_short : f0 ≤ f1 → EndsSo (Err Memory) f0 f2
  counted_short more = let grows = counts.never_falls in omega (arith, more, grows)

-- ---- what differs

pub difference : {L : Type 0} (job : JobView) (lines : List (Line L)) (error : RemoteErr) → map session_on lines ≡ sessions job.calls → IsBroken job (map heard_on lines) (map refusal_on lines) error → IsDifference job error
difference job lines Link its is = tt
difference job lines (OtherJob kept) its is = is
difference job lines (Mismatch session place kept answered) its is =
    (not_one_on is.0.desk (map heard_on lines) session place kept answered is.0.differs, is.1.0, is.1.1, found job lines session place kept answered its is.0)
difference job lines Memory its is = tt

-- ---- what the lanes left

-- the comparison found it
pub compared_broken : {L : Type 0} (job : JobView) (desk : RemoteView) (lines : List (Line L)) (error : RemoteErr) → desk.job ≡ job → IsKept desk → Compares desk (map heard_on lines) (Err error) → HasGoodReplies error → IsBroken job (map heard_on lines) (map refusal_on lines) error
compared_broken job desk lines Link same kept is good = absurd is
compared_broken job desk lines (OtherJob other) same kept is good = absurd is
compared_broken job desk lines (Mismatch session place one other) same kept is good = (record { desk = desk; job_is = same; is_kept = kept; differs = is }, good)
compared_broken job desk lines Memory same kept is good = tt

-- a line refused a call
pub refused_broken : {L : Type 0} (job : JobView) (desk : RemoteView) (lines : List (Line L)) (error : RemoteErr) → desk.job ≡ job → IsKept desk → AreAgreed desk (map heard_on lines) → IsRefused (map refusal_on lines) (Err error)
    → IsBroken job (map heard_on lines) (map refusal_on lines) error
refused_broken job desk lines Link same kept agreed is = (subst (λ (j : JobView). AreSentInOrder j (map heard_on lines)) same (all_in_order desk (map heard_on lines) kept agreed), is.1 refl)
refused_broken job desk lines (OtherJob other) same kept agreed is = absurd (elim is.0 [ inl e ↦ cc | inr e ↦ cc ])
refused_broken job desk lines (Mismatch session place one other) same kept agreed is = absurd (elim is.0 [ inl e ↦ cc | inr e ↦ cc ])
refused_broken job desk lines Memory same kept agreed is = tt

-- ---- the end

-- every call is answered, so the lines heard just what the desk keeps
pub ended_whole : {L : Type 0} (desk : RemoteView) (lines : List (Line L)) → IsKept desk → AreAgreed desk (map heard_on lines) → IsRefused (map refusal_on lines) (Ok tt) → AnswersAll desk.job.calls (plain desk.events) → IsEnded desk.job (map heard_on lines) (map refusal_on lines) desk
ended_whole desk lines kept agreed fair whole = record {
  job_is = refl;
  kept = kept;
  whole = whole;
  lines_are = all_same desk (map heard_on lines) whole agreed;
  fair = fair;
}

-- ---- behind the lines that were given back

abbrev pub Replayed : Type 0
Replayed = Result RemoteView RemoteErr

module _ {L : Type 0} (job : JobView) (lines : List (Line L)) (result : Replayed) (before after : Option (List (List Heard))) where
  abbrev back : Replayed → Type 0
  back r = GaveBack job r before after

  module _ (its : map session_on lines ≡ sessions job.calls) (outcome : Replayed) (is : IsOutcome job (map heard_on lines) (map refusal_on lines) outcome) where
    as_many_lines : length lines ≡ length (sessions job.calls)
    as_many_lines = sym (length-map lines session_on) ∙ ap length its

    pub all_returned : IsReturned outcome (map said_on lines) result before after → GaveBack job result before after
    all_returned (inl whole) = subst back (sym whole.0) (all_given job lines before after outcome its is whole.1)
    all_returned (inr short) = subst back (sym short.0) (short_given job lines before after short.1.0 (let same = as_many_lines in omega (arith, same)) short.1.1)

    pub all_counted : (f0 f1 f2 : ℕ) → f1 ≡ f0 → CountsLines (map refusal_on lines) f1 f2 → IsReturned outcome (map said_on lines) result before after → EndsSo result f0 f2
    all_counted f0 f1 f2 same counts (inl whole) = subst (λ (r : Replayed). EndsSo r f0 f2) (sym whole.0) (counted job lines f0 f1 f2 counts outcome same is)
    all_counted f0 f1 f2 same counts (inr short) = subst (λ (r : Replayed). EndsSo r f0 f2) (sym short.0) (counted_short job lines f0 f1 f2 counts (omega (arith, same)))

    broken_differs : (r : Replayed) → IsOutcome job (map heard_on lines) (map refusal_on lines) r → IfErr r (IsDifference job)
    broken_differs (Ok desk) ended = tt
    broken_differs (Err error) broken = difference job lines error its broken

    pub all_differ : IsReturned outcome (map said_on lines) result before after → IfErr result (IsDifference job)
    all_differ (inl whole) = subst (λ (r : Replayed). IfErr r (IsDifference job)) (sym whole.0) (broken_differs outcome is)
    all_differ (inr short) = subst (λ (r : Replayed). IfErr r (IsDifference job)) (sym short.0) tt

    ended_job : (r : Replayed) → IsOutcome job (map heard_on lines) (map refusal_on lines) r → IfOk r (λ (desk : RemoteView). desk.job ≡ job)
    ended_job (Ok desk) ended = ended.job_is
    ended_job (Err error) broken = tt

    pub all_jobs : IsReturned outcome (map said_on lines) result before after → IfOk result (λ (desk : RemoteView). desk.job ≡ job)
    all_jobs (inl whole) = subst (λ (r : Replayed). IfOk r (λ (desk : RemoteView). desk.job ≡ job)) (sym whole.0) (ended_job outcome is)
    all_jobs (inr short) = subst (λ (r : Replayed). IfOk r (λ (desk : RemoteView). desk.job ≡ job)) (sym short.0) tt

    ended_answers : (r : Replayed) → IsOutcome job (map heard_on lines) (map refusal_on lines) r → IfOk r (λ (desk : RemoteView). AnswersAll desk.job.calls (plain desk.events))
    ended_answers (Ok desk) ended = subst (λ (j : JobView). AnswersAll j.calls (plain desk.events)) (sym ended.job_is) ended.whole
    ended_answers (Err error) broken = tt

    pub all_answer : IsReturned outcome (map said_on lines) result before after → IfOk result (λ (desk : RemoteView). AnswersAll desk.job.calls (plain desk.events))
    all_answer (inl whole) = subst (λ (r : Replayed). IfOk r (λ (desk : RemoteView). AnswersAll desk.job.calls (plain desk.events))) (sym whole.0) (ended_answers outcome is)
    all_answer (inr short) = subst (λ (r : Replayed). IfOk r (λ (desk : RemoteView). AnswersAll desk.job.calls (plain desk.events))) (sym short.0) tt

  -- where a dial failed
  module _ (fresh : AllByRecursion IsFresh (map said_on lines)) (first : map session_on lines ≡ take (length lines) (sessions job.calls)) where
    few_lines : length lines ≤ length (sessions job.calls)
    few_lines = let same = length-map lines session_on in let cut = ap length first in let most = length-take (length lines) (sessions job.calls) in omega (arith, same, cut, most)

    pub first_returned : IsReturned (Err Link) (map said_on lines) result before after → GaveBack job result before after
    first_returned (inl whole) = subst back (sym whole.0) (first_given job lines before after fresh first whole.1)
    first_returned (inr short) = subst back (sym short.0) (short_given job lines before after short.1.0 few_lines short.1.1)

    pub first_counted : (f0 f1 f2 : ℕ) → HasRisen f0 f1 → f0 ≤ f1 → CountsLines (map refusal_on lines) f1 f2 → IsReturned (Err Link) (map said_on lines) result before after → EndsSo result f0 f2
    first_counted f0 f1 f2 risen grows counts (inl whole) = subst (λ (r : Replayed). EndsSo r f0 f2) (sym whole.0) (counted_fresh job lines f0 f1 f2 counts fresh risen grows)
    first_counted f0 f1 f2 risen grows counts (inr short) = subst (λ (r : Replayed). EndsSo r f0 f2) (sym short.0) (counted_short job lines f0 f1 f2 counts grows)

  -- it is none that says anything of a desk, or of a difference
  pub link_says : (P : RemoteView → Type 0) → IsReturned (Err Link) (map said_on lines) result before after → IfOk result P × IfErr result (IsDifference job)
  link_says P (inl whole) = (subst (λ (r : Replayed). IfOk r P) (sym whole.0) tt, subst (λ (r : Replayed). IfErr r (IsDifference job)) (sym whole.0) tt)
  link_says P (inr short) = (subst (λ (r : Replayed). IfOk r P) (sym short.0) tt, subst (λ (r : Replayed). IfErr r (IsDifference job)) (sym short.0) tt)

-- no line was dialled
pub none_returned : (job : JobView) (before : Option (List (List Heard))) → GaveBack job (Err Memory) before before
none_returned job None = tt
none_returned job (Some lists) = ([], omega arith, ap (λ (all : List (List Heard)). Some all) (sym (append-nil lists)))

-- what holds where a call succeeded
pub succeeded : {T E P : Type 0} (result : Result T E) → OnOk result P → is_ok result ≡ true → P
succeeded (Ok value) holds is = holds
succeeded (Err error) holds is = absurd cc
