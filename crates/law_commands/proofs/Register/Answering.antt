-- What is answered is one thing, and a register of reports stays one.
use Rattle.std.proofs.Common.{◌≡◌, ℕ, ◌+◌, ◌≤◌, inl, inr, Bool, true, false, cond, List, [], ◌∷◌, Option, None, Some, refl, sym, ap, subst, ◌∙◌, arith}
use Rattle.std.specs.List.{list_any}
use Rattle.std.specs.Cmp.{IsTotalOrder, nat_cmp_total, on_total, then_total}
use Rattle.std.specs.Cmp.Lexicographic.{nat_list_cmp_total}
use Rattle.std.specs.FinMap.{contains_key, get, get-insert, insert, same_map}
use Rattle.std.specs.Option.{option_map}
use Rattle.std.specs.Ordering.{eq_by_cmp, nat_cmp}
use Rattle.std.proofs.lemmas.Map.Lookups.{CmpEqualImpliesEq, exact_bytes, exact_pairs, exact_unsigned}
use Rattle.desk_files.specs.Outside.{Answered, Told}
use Rattle.replay_history.specs.Class.{class_number}
use Rattle.replay_history.specs.declared.report.Class.{Class}
use Rattle.replay_history.specs.declared.report.Line.{Line}
use Rattle.replay_history.specs.declared.report.Report.{Report}
use Rattle.report_format.specs.ReportFile.{AreLinesFrom, IsReport}
use Rattle.report_format.proofs.Files.{one_file}
use Rattle.run_register.specs.declared.kept.Accept.{Accept}
use Rattle.run_register.specs.Comparison.{RiseFrom}
use Rattle.run_register.specs.Register.{Divergence, DivergenceSet, RunMap, accepts_of, after_accepting, after_adding, divergence_cmp, name_cmp, registered}
use Rattle.register_work.specs.declared.errand.Answer.{Answer}
use Rattle.register_work.specs.declared.errand.Errand.{Errand}
use Rattle.register_work.specs.declared.errand.Errand.TheVariants.{Register, Runs, Accept as Accepting, Compare}
use Rattle.register_work.specs.declared.unkept.Unkept.{Unkept}
use Rattle.register_work.specs.declared.unkept.Unkept.TheVariants.{BadRun}
use Rattle.register_work.specs.Errand.{AreGood, AreRead, IsAnswered, IsCause, IsCompared, IsListed, TellsDifferences, is_news}
use Rattle.register_work.specs.Keeping.{Keeping}
use Rattle.register_work.specs.Lines.{comparison_text, runs_text}
use Rattle.law_commands.proofs.Register.OneEnd.{IsTold, answered_alone, run_one, runs_one}
use Rattle.law_commands.proofs.Register.OneList.{one_comparison}

-- ---- one answer

same_answer : (answer other : Answer) → answer.text ≡ other.text → answer.news ≡ other.news → answer ≡ other
same_answer answer other text news = λ i. record { text = text i; news = news i }

one_reading : (all : List (List ℕ × List ℕ)) (reads others : List (List ℕ × Report)) → AreRead all reads → AreRead all others → reads ≡ others
one_reading [] [] [] are also = refl
one_reading [] [] (other ∷ others) are also = absurd also
one_reading [] (read ∷ reads) others are also = absurd are
one_reading (run ∷ all) [] others are also = absurd are
one_reading (run ∷ all) (read ∷ reads) [] are also = absurd also
one_reading (run ∷ all) (read ∷ reads) (other ∷ others) are also =
    let name : read.0 ≡ other.0 = are.0 ∙ sym also.0 in
    let report : read.1 ≡ other.1 = one_file run.1 read.1 other.1 are.1 also.1 in
    λ i. (name i, report i) ∷ one_reading all reads others are.2 also.2 i

-- what was before as in the first of two, and what is left as in the second
abbrev beside : Keeping → Keeping → Keeping
beside k m = record m { runs_before = k.runs_before; divergences_before = k.divergences_before }

placed : (k m : Keeping) → m.runs_before ≡ k.runs_before → m.divergences_before ≡ k.divergences_before → m ≡ beside k m
placed k m runs divergences = λ i. record m { runs_before = runs i; divergences_before = divergences i }

list_one : (k m : Keeping) → IsTold k.runs_before → (answer other : Answer) → IsListed k answer → IsListed (beside k m) other → answer ≡ other
list_one k m told answer other is also =
    let all = runs_one k.runs_before told is.all also.all is.are_runs also.are_runs in
    let reads = one_reading also.all is.reads also.reads (subst (λ (rs : List (List ℕ × List ℕ)). AreRead rs is.reads) all is.are_read) also.are_read in
    same_answer answer other (is.text ∙ ap runs_text reads ∙ sym also.text) (is.news ∙ sym also.news)

-- the stamps of a report rise
rising : (calls least : ℕ) (lines : List Line) → AreLinesFrom calls least lines → RiseFrom least lines
rising calls least [] are = tt
rising calls least (l ∷ lines) are = (are.0, rising calls (l.stamp + 1) lines are.2)

report_rises : (bytes : List ℕ) (report : Report) → IsReport bytes report → RiseFrom 0 report.lines
report_rises bytes report is = rising report.calls 0 report.lines is.whole.lines

tells_one : (a b : List ℕ) (first second : List Line) (accepted : List Accept) (answer other : Answer) → RiseFrom 0 first → RiseFrom 0 second → TellsDifferences a b first second accepted answer → TellsDifferences a b first second accepted other → answer ≡ other
tells_one a b first second accepted answer other up also_up is also =
    let found = one_comparison first second accepted is.found also.found up also_up is.differences also.differences in
    same_answer answer other (is.text ∙ ap (comparison_text a b) found ∙ sym also.text) (is.news ∙ ap (list_any is_news) found ∙ sym also.news)

accepted_one : (divergences : Option DivergenceSet) (told : DivergenceSet) → divergences ≡ Some told → (of : DivergenceSet → List Accept) (accepted other : List Accept) → Told divergences (λ d. accepted ≡ of d) → Told divergences (λ d. other ≡ of d) → accepted ≡ other
accepted_one None told e of accepted other is also = absurd (cc e)
accepted_one (Some divergences) told e of accepted other is also = is ∙ sym also

compare_one : (a b : List ℕ) (k m : Keeping) (divergences : DivergenceSet) → IsTold k.runs_before → k.divergences_before ≡ Some divergences → (answer other : Answer) → IsCompared a b k answer → IsCompared a b (beside k m) other → answer ≡ other
compare_one a b k m divergences told e answer other is also =
    let first = run_one k.runs_before told a also.first is.first also.first_run is.first_run in
    let second = run_one k.runs_before told b also.second is.second also.second_run is.second_run in
    let accepted = accepted_one k.divergences_before divergences e (accepts_of a) also.accepted is.accepted also.are_accepted is.are_accepted in
    let tells : TellsDifferences a b is.first.lines is.second.lines is.accepted other =
    subst (λ (x : List Line × List Line × List Accept). TellsDifferences a b x.0 x.1 x.2 other) (λ i. ((first i).lines, (second i).lines, accepted i)) also.tells in
    tells_one a b is.first.lines is.second.lines is.accepted answer other (report_rises is.first_run.bytes is.first is.first_run.text) (report_rises is.second_run.bytes is.second is.second_run.text) is.tells tells

beside_alone : (errand : Errand) (k m : Keeping) (divergences : DivergenceSet) (answer other : Answer) → IsTold k.runs_before → k.divergences_before ≡ Some divergences → IsAnswered errand k answer → IsAnswered errand (beside k m) other → answer ≡ other
beside_alone (Register name bytes report) k m divergences answer other told e is also = same_answer answer other (is.text ∙ sym also.text) (is.news ∙ sym also.news)
beside_alone Runs k m divergences answer other told e is also = list_one k m told answer other is also
beside_alone (Accepting name stamp class) k m divergences answer other told e is also = same_answer answer other (is.text ∙ sym also.text) (is.news ∙ sym also.news)
beside_alone (Compare a b) k m divergences answer other told e is also = compare_one a b k m divergences told e answer other is also

pub answer_alone : (errand : Errand) (k m : Keeping) (divergences : DivergenceSet) (answer other : Answer) → IsTold k.runs_before → k.divergences_before ≡ Some divergences → m.runs_before ≡ k.runs_before → m.divergences_before ≡ k.divergences_before → IsAnswered errand k answer → IsAnswered errand m other → answer ≡ other
answer_alone errand k m divergences answer other told e runs accepted is also =
    beside_alone errand k m divergences answer other told e is (subst (λ (n : Keeping). IsAnswered errand n other) (placed k m runs accepted) also)

-- ---- one thing is left

pub left_alone : (errand : Errand) (k m : Keeping) (answer other : Answer) → m.runs_before ≡ k.runs_before → m.divergences_before ≡ k.divergences_before → IsAnswered errand k answer → IsAnswered errand m other → (m.runs_after ≡ k.runs_after) × (m.divergences_after ≡ k.divergences_after)
left_alone (Register name bytes report) k m answer other runs divergences is also =
    (also.runs ∙ ap (option_map (after_adding Answered (name, bytes))) runs ∙ sym is.runs, also.divergences ∙ divergences ∙ sym is.divergences)
left_alone Runs k m answer other runs divergences is also =
    (also.keeps.runs ∙ runs ∙ sym is.keeps.runs, also.keeps.divergences ∙ divergences ∙ sym is.keeps.divergences)
left_alone (Accepting name stamp class) k m answer other runs divergences is also =
    (also.runs ∙ runs ∙ sym is.runs, also.divergences ∙ ap (option_map (after_accepting Answered (name, (stamp, class_number class)))) divergences ∙ sym is.divergences)
left_alone (Compare a b) k m answer other runs divergences is also =
    (also.keeps.runs ∙ runs ∙ sym is.keeps.runs, also.keeps.divergences ∙ divergences ∙ sym is.keeps.divergences)

-- ---- an acceptance twice

divergences_total : IsTotalOrder divergence_cmp
divergences_total = then_total (on_total (λ (d : Divergence). d.0) nat_list_cmp_total) (then_total (on_total (λ (d : Divergence). d.1.0) nat_cmp_total) (on_total (λ (d : Divergence). d.1.1) nat_cmp_total))

divergences_apart : CmpEqualImpliesEq divergence_cmp
divergences_apart = exact_pairs name_cmp _ exact_bytes (exact_pairs nat_cmp nat_cmp exact_unsigned exact_unsigned)

twice : {X : Type 0} (b : Bool) (x y : X) → cond b x (cond b x y) ≡ cond b x y
twice true x y = refl
twice false x y = refl

once_more : (divergences : DivergenceSet) (d : Divergence) → insert (insert divergences d tt) d tt ≡ insert divergences d tt
once_more divergences d = same_map divergences_total divergences_apart _ _ (λ q.
    let known = get-insert divergences_total divergences d tt q in
    get-insert divergences_total (insert divergences d tt) d tt q
    ∙ ap (cond (eq_by_cmp divergence_cmp q d) (Some tt)) known
    ∙ twice (eq_by_cmp divergence_cmp q d) (Some tt) (get divergences q)
    ∙ sym known)

-- the set that is kept of one divergence accepted twice
kept_twice : (divergences : Option DivergenceSet) (d : Divergence) → option_map (after_accepting Answered d) (option_map (after_accepting Answered d) divergences) ≡ option_map (after_accepting Answered d) divergences
kept_twice None d = refl
kept_twice (Some divergences) d = ap (λ (told : DivergenceSet). Some told) (once_more divergences d)

pub accepted_same : (name : List ℕ) (stamp : ℕ) (class : Class) (k next : Keeping) (answer other : Answer) → next.runs_before ≡ k.runs_after → next.divergences_before ≡ k.divergences_after → IsAnswered (Accepting name stamp class) k answer → IsAnswered (Accepting name stamp class) next other → (other ≡ answer) × (next.runs_after ≡ k.runs_after) × (next.divergences_after ≡ k.divergences_after)
accepted_same name stamp class k next answer other runs divergences is also =
    let d : Divergence = (name, (stamp, class_number class)) in
    let again : next.divergences_after ≡ option_map (after_accepting Answered d) (option_map (after_accepting Answered d) k.divergences_before) =
    also.divergences ∙ ap (option_map (after_accepting Answered d)) (divergences ∙ is.divergences) in
    (same_answer other answer (also.text ∙ sym is.text) (also.news ∙ sym is.news), also.runs ∙ runs, again ∙ kept_twice k.divergences_before d ∙ sym is.divergences)

pub accepted_taken : (name : List ℕ) (stamp : ℕ) (class : Class) (k : Keeping) (answer : Answer) (cause : Unkept) (runs : RunMap) → k.runs_after ≡ Some runs → IsAnswered (Accepting name stamp class) k answer → IsCause (Accepting name stamp class) (Some runs) cause → ⊥
accepted_taken name stamp class k answer cause runs left is caused =
    let told : k.runs_before ≡ Some runs = sym is.runs ∙ left in
    answered_alone (Accepting name stamp class) answer k cause (subst IsTold (sym told) tt) is (subst (λ (rs : Option RunMap). IsCause (Accepting name stamp class) rs cause) (sym told) caused)

-- ---- bad lines

pub from_one : (errand : Errand) (runs : Option RunMap) (name : List ℕ) (line : ℕ) → IsCause errand runs (BadRun name line) → 1 ≤ line
from_one (Register run bytes report) runs name line caused = absurd caused
from_one Runs runs name line caused = let number = caused.2.bad.number in omega (arith, number)
from_one (Accepting run stamp class) runs name line caused = let number = caused.1.bad.number in omega (arith, number)
from_one (Compare a b) runs name line (inl first) = let number = first.1.bad.number in omega (arith, number)
from_one (Compare a b) runs name line (inr second) = let number = second.2.bad.number in omega (arith, number)

-- ---- a register stays good

pub kept_good : (runs : RunMap) (name bytes : List ℕ) (report : Report) → AreGood runs → IsReport bytes report → AreGood (registered runs (name, bytes))
kept_good runs name bytes report good is = test (contains_key runs name) where
  new : (b : Bool) (found : Option (List ℕ)) (kept : List ℕ) → (found ≡ Some kept → (report : Report) × IsReport kept report) → cond b (Some bytes) found ≡ Some kept → (report : Report) × IsReport kept report
  new true found kept old e = let same : bytes ≡ kept = cc e in (report, subst (λ (bs : List ℕ). IsReport bs report) same is)
  new false found kept old e = old e

  test : (b : Bool) → AreGood (cond b runs (insert runs name bytes))
  test true = good
  test false = λ other kept at. new (eq_by_cmp name_cmp other name) (get runs other) kept (good other kept) (sym (get-insert nat_list_cmp_total runs name bytes other) ∙ at)

pub stay_good : (name bytes : List ℕ) (report : Report) (k : Keeping) (answer : Answer) (runs after : RunMap) → AreGood runs → IsReport bytes report → k.runs_before ≡ Some runs → k.runs_after ≡ Some after → IsAnswered (Register name bytes report) k answer → AreGood after
stay_good name bytes report k answer runs after good is before then answered =
    let e : Some (registered runs (name, bytes)) ≡ Some after = sym (answered.runs ∙ ap (option_map (after_adding Answered (name, bytes))) before) ∙ then in
    let same : registered runs (name, bytes) ≡ after = cc e in
    subst AreGood same (kept_good runs name bytes report good is)
