-- The report of a replay is whole, so its text is that of a report, which can be registered.
use Rattle.std.proofs.Common.{◌≡◌, ◌≢◌, ◌⊎◌, inl, inr, ℕ, zero, suc, ◌+◌, ◌-◌, ◌≤◌, ◌<◌, Bool, true, false, cond, eqb, List, [], ◌∷◌, ◌++◌, map, length, take, Option, None, Some, Ok, refl, sym, ap, subst, ◌∙◌, arith}
use Rattle.std.specs.Prelude.{◌^◌, count_by, slice_get}
use Rattle.std.specs.FinMap.{get}
use Rattle.std.specs.List.{flat_map}
use Rattle.std.specs.Option.{option_or}
use Rattle.std.proofs.lemmas.Bool.{eq-eqb, eqb-true, ne_eqb}
use Rattle.std.proofs.lemmas.List.{length-append, length-take}
use Rattle.std.proofs.lemmas.List.Sums.{count_by-le-length, sum_by-append}
use Rattle.std.proofs.lemmas.Option.{same_Some, slice_get_within}
use Rattle.desk_values.specs.declared.capture.Captured.{Captured}
use Rattle.desk_values.specs.declared.call.Reply.{Reply}
use Rattle.desk_values.specs.declared.capture.Event.{Event}
use Rattle.desk_values.specs.declared.capture.Event.TheVariants.{Answer}
use Rattle.desk_files.specs.Outside.{FileMap}
use Rattle.desk_words.specs.declared.words.Command.TheVariants.{Register}
use Rattle.desk_words.specs.Command.{command_of}
use Rattle.id_pairs.specs.Pairs.{IdPair, all_new}
use Rattle.remap_ids.specs.IdMap.{start_pairs}
use Rattle.replay_history.specs.Class.{class_number}
use Rattle.replay_history.specs.Gap.{IsCallAt}
use Rattle.replay_history.specs.History.{AnswersAt}
use Rattle.replay_history.specs.Texts.{report_text}
use Rattle.replay_history.specs.declared.report.Class.{Class}
use Rattle.replay_history.specs.declared.report.Class.TheVariants.{Same, NewError, GoneError, MutatedError, RowsModified, RowsFetched, RowContents, Images, Shape}
use Rattle.replay_history.specs.declared.report.Line.{Line}
use Rattle.replay_history.specs.declared.report.Report.{Report}
use Rattle.replay_job.specs.Job.{JobView}
use Rattle.replay_job.specs.Replays.{IsSoundJob}
use Rattle.replay_job.specs.Runs.{IsCompleteFor, Stage, gained}
use Rattle.divergence.specs.Class.{class_between}
use Rattle.replay_report.specs.Last.{last_of}
use Rattle.replay_report.specs.Report.{Growth, class_at, class_by, class_of, counts_of, difference, heard_class_of, heard_report_in, is_class, marked_by, pairs_after, report_by, report_in}
use Rattle.replay_report.proofs.Reports.{by_own_answer}
use Rattle.report_format.specs.ReportFile.{AreLinesFrom, IsWhole, count_in, counts_in}
use Rattle.remote_desk.specs.History.{plain}
use Rattle.register_work.specs.declared.errand.Errand.TheVariants as errand
use Rattle.replay_cli.specs.declared.plan.Plan.{Plan}
use Rattle.replay_cli.specs.Decision.{ToKeep, Verdict}
use Rattle.replay_cli.specs.Done.{IsSent}
use Rattle.replay_cli.specs.FileNames.{report_name}
use Rattle.replay_cli.specs.Hosting.{Dialling}
use Rattle.law_commands.specs.Commands.Reports.{ReportsAreWhole, WrittenReportsAreRegistered}
use Rattle.law_commands.proofs.Commands.Complete.{registered}
use Rattle.law_commands.proofs.Commands.Small.{reports_small}

-- ---- the line of one call

abbrev line_for : Captured → Class → Line
line_for call class = record { stamp = call.stamp; session = call.session; place = call.place; class = class }

-- none, or one of a class that is not `Same`
one_or_none : (call : Captured) (x : Option Class) → (difference call x ≡ []) ⊎ ((class : Class) × (class ≢ Same) × (difference call x ≡ line_for call class ∷ []))
one_or_none call None = inl refl
one_or_none call (Some Same) = inl refl
one_or_none call (Some NewError) = inr (NewError, (λ e. absurd cc), refl)
one_or_none call (Some GoneError) = inr (GoneError, (λ e. absurd cc), refl)
one_or_none call (Some MutatedError) = inr (MutatedError, (λ e. absurd cc), refl)
one_or_none call (Some RowsModified) = inr (RowsModified, (λ e. absurd cc), refl)
one_or_none call (Some RowsFetched) = inr (RowsFetched, (λ e. absurd cc), refl)
one_or_none call (Some RowContents) = inr (RowContents, (λ e. absurd cc), refl)
one_or_none call (Some Images) = inr (Images, (λ e. absurd cc), refl)
one_or_none call (Some Shape) = inr (Shape, (λ e. absurd cc), refl)

-- no class of number 0 is one of another number
apart : (class other : Class) → 1 ≤ class_number class → class_number other ≡ 0 → eqb (class_number other) (class_number class) ≡ false
apart class other least zero_is = ne_eqb (class_number other) (class_number class) (λ same. omega (arith, least, zero_is, same))

-- a class that is not `Same` is counted of the call as of its lines
counted_so : (call : Captured) (class : Class) (x : Option Class) → 1 ≤ class_number class → count_by (is_class class) (x ∷ []) ≡ count_in (difference call x) class
counted_so call class None least = refl
counted_so call class (Some other) least = go (eqb (class_number other) 0) refl
  where
    go : (b : Bool) → eqb (class_number other) 0 ≡ b → count_by (is_class class) (Some other ∷ []) ≡ count_in (difference call (Some other)) class
    go true e = rw (e, apart class other least (eqb-true (class_number other) 0 e)) refl
    go false e = rw e refl

-- a call that has a class is the same, or has one line
same_or_line : (call : Captured) (class : Class) → count_by (is_class Same) (Some class ∷ []) + length (difference call (Some class)) ≡ 1
same_or_line call Same = refl
same_or_line call NewError = refl
same_or_line call GoneError = refl
same_or_line call MutatedError = refl
same_or_line call RowsModified = refl
same_or_line call RowsFetched = refl
same_or_line call RowContents = refl
same_or_line call Images = refl
same_or_line call Shape = refl

-- ---- the lines of calls, each of the class that f gives

module _ (f : Captured → Option Class) where
  abbrev lines_from : List Captured → List Line
  lines_from calls = flat_map (λ call. difference call (f call)) calls

  counted : (class : Class) → 1 ≤ class_number class → (calls : List Captured) → count_by (is_class class) (map f calls) ≡ count_in (lines_from calls) class
  counted class least [] = refl
  counted class least (call ∷ calls) =
      let first = sum_by-append (λ x. cond (is_class class x) 1 0) (f call ∷ []) (map f calls) in
      let both = sum_by-append (λ (l : Line). cond (eqb (class_number l.class) (class_number class)) 1 0) (difference call (f call)) (lines_from calls) in
      omega (arith, first, both, counted_so call class (f call) least, counted class least calls)

  -- each call has a class
  abbrev AreClassed : List Captured → Type 0
  AreClassed calls = (k : ℕ) (call : Captured) → IsCallAt calls k call → (class : Class) × (f call ≡ Some class)

  the_same : (calls : List Captured) → AreClassed calls → count_by (is_class Same) (map f calls) + length (lines_from calls) ≡ length calls
  the_same [] each = refl
  the_same (call ∷ calls) each =
      let here = each 0 call refl in
      let first = sum_by-append (λ x. cond (is_class Same x) 1 0) (f call ∷ []) (map f calls) in
      let long = length-append (difference call (f call)) (lines_from calls) in
      let one = subst (λ x. count_by (is_class Same) (x ∷ []) + length (difference call x) ≡ 1) (sym here.1) (same_or_line call here.0) in
      omega (arith, first, long, one, the_same calls (λ k. each (suc k)))

  counts : (calls : List Captured) → AreClassed calls → counts_of (map f calls) ≡ counts_in (length calls) (lines_from calls)
  counts calls each =
      let same : count_by (is_class Same) (map f calls) ≡ length calls - length (lines_from calls) = omega (arith, the_same calls each) in
      let so = λ (class : Class) (least : 1 ≤ class_number class). counted class least calls in
      λ i. same i ∷ so NewError (omega arith) i ∷ so GoneError (omega arith) i ∷ so MutatedError (omega arith) i ∷ so RowsModified (omega arith) i
      ∷ so RowsFetched (omega arith) i ∷ so RowContents (omega arith) i ∷ so Images (omega arith) i ∷ so Shape (omega arith) i ∷ []

  -- numbers within their types
  abbrev IsSmall : ℕ → Captured → Type 0
  IsSmall n call = (call.stamp < n) × (call.session < 2 ^ 32) × (call.place < 2 ^ 32)

  rising : (total : ℕ) (calls : List Captured) (n least : ℕ) → ((k : ℕ) (call : Captured) → IsCallAt calls k call → (call.stamp ≡ n + k) × IsSmall total call) → least ≤ n → AreLinesFrom total least (lines_from calls)
  rising total [] n least each le = tt
  rising total (call ∷ calls) n least each le =
      let here = each 0 call refl in
      let rest = lines_from calls in
      let later : (m : ℕ) → m ≤ suc n → AreLinesFrom total m rest = λ m small. rising total calls (suc n) m (λ k other at. (let next = each (suc k) other at in (next.0 ∙ omega arith, next.1))) small in
      elim (one_or_none call (f call)) [
        | inl none ↦ subst (λ (ls : List Line). AreLinesFrom total least (ls ++ rest)) (sym none) (later least (omega arith))
        | inr one ↦ subst (λ (ls : List Line). AreLinesFrom total least (ls ++ rest)) (sym one.2)
            ((let stamp = here.0 in omega arith), record { below = here.1.0; session = here.1.1; place = here.1.2; differs = one.1 }, (let stamp = here.0 in later (call.stamp + 1) (omega arith)))
      ]

-- ---- the report of a replay

-- where each call of a job has a class, its report is whole
whole_by : (job : JobView) (f : Captured → Option Class) → IsSoundJob job → AreClassed f job.calls → IsWhole (report_by job f)
whole_by job f sound classed =
    let legal = sound.replayable.legal in
    let small : (k : ℕ) (call : Captured) → IsCallAt job.calls k call → (call.stamp ≡ 0 + k) × IsSmall f (length job.calls) call =
    λ k call at.
    let fits = legal.each k call at in
    let within = slice_get_within job.calls k call at in
    let few = count_by-le-length (λ (other : Captured). eqb other.session call.session) (take k job.calls) in
    let took = length-take k job.calls in
    let stamp = fits.stamp in let place = fits.place in let session = fits.session in let count = legal.count in
    (stamp ∙ omega arith, (omega arith, omega arith, omega arith)) in
    record {
      limit = legal.count;
      lines = rising f (length job.calls) job.calls 0 0 small (omega arith);
      counts = counts f job.calls classed;
    }

pub whole : (job : JobView) (history : List Event) (last : Stage) → IsSoundJob job → IsCompleteFor job history last → IsWhole (report_in job history)
whole job history last sound complete =
    whole_by job (class_of job history) sound (λ k call at.
    let fits = sound.replayable.legal.each k call at in
    let answer = complete.whole k (slice_get_within job.calls k call at) in
    let own : AnswersAt history answer.0 call.stamp answer.1 = subst (λ (m : ℕ). AnswersAt history answer.0 m answer.1) (sym fits.stamp) answer.2 in
    (class_between (pairs_after job (take (answer.0 + 1) history)) call.reply answer.1, by_own_answer job history answer.0 call answer.1 complete.legal own))

pub reports_whole : ReportsAreWhole
reports_whole job history last sound replay = record { whole = whole job history last sound replay.0; text = refl }

-- wherever a whole report stands as it is written, it is to be registered
pub whole_registered : (words : List (List ℕ)) (files : FileMap) (out run : List ℕ) (report : Report) → command_of words ≡ Some (Register out run) → IsWhole report → get files (report_name out) ≡ Some (report_text report)
    → Verdict words files (Ok (ToKeep (errand.Register run (report_text report) report)))
whole_registered words files out run report command is there =
    registered words files out run (report_text report) report command (there, reports_small report is) (record { whole = is; text = refl })

pub written_registered : WrittenReportsAreRegistered
written_registered words files out run job history last command sound replay there =
    whole_registered words files out run (report_in job history) command (whole job history last sound replay.0) there

-- ---- the report of a replay against another server

by_own : (call : Captured) (reply : Reply) (pairs : List IdPair) → class_by call (Answer call.stamp reply) pairs ≡ Some (class_between pairs call.reply reply)
by_own call reply pairs = ap (λ (b : Bool). cond b (Some (class_between pairs call.reply reply)) None) (eq-eqb call.stamp call.stamp refl)

some_of : (later own : Option Class) (class : Class) → own ≡ Some class → (found : Class) × (option_or later own ≡ Some found)
some_of None own class is = (class, is)
some_of (Some found) own class is = (found, refl)

-- a call that is answered has a class, however the pairs grow
classed_in : (grow : Growth) (calls : List Captured) (call : Captured) (pairs : List IdPair) (xs : List Event) (i : ℕ) (reply : Reply) → slice_get xs i ≡ Some (Answer call.stamp reply)
    → (class : Class) × (last_of (class_at call) (marked_by grow calls pairs xs) ≡ Some class)
classed_in grow calls call pairs [] i reply at = absurd cc
classed_in grow calls call pairs (first ∷ xs) zero reply at =
    let known = grow pairs (gained calls first) in
    let is : class_by call first known ≡ Some (class_between known call.reply reply) = ap (λ (e : Event). class_by call e known) (same_Some first (Answer call.stamp reply) at) ∙ by_own call reply known in
    some_of (last_of (class_at call) (marked_by grow calls known xs)) (class_by call first known) (class_between known call.reply reply) is
classed_in grow calls call pairs (first ∷ xs) (suc i) reply at =
    let known = grow pairs (gained calls first) in
    let rest = classed_in grow calls call known xs i reply at in
    (rest.0, ap (λ (o : Option Class). option_or o (class_by call first known)) rest.1)

pub sent_whole : (out : List ℕ) (job : JobView) (plan : Plan) (dial : Dialling) (sent : IsSent out job plan dial) → IsSoundJob job → IsWhole (heard_report_in job (plain sent.events))
sent_whole out job plan dial sent sound =
    let history = plain sent.events in
    whole_by job (heard_class_of job history) sound (λ k call at.
    let fits = sound.replayable.legal.each k call at in
    let answer = sent.whole k (slice_get_within job.calls k call at) in
    let own : AnswersAt history answer.0 call.stamp answer.1 = subst (λ (m : ℕ). AnswersAt history answer.0 m answer.1) (sym fits.stamp) answer.2 in
    classed_in all_new job.calls call (start_pairs job.start) history answer.0 answer.1 own)
