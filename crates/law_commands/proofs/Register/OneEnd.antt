-- An errand has one cause at most, and none where it is answered.
use Rattle.std.proofs.Common.{◌≡◌, ◌≢◌, ℕ, ◌⊎◌, inl, inr, Bool, true, false, cond, ◌&&◌, T, List, [], ◌∷◌, ◌++◌, Option, None, Some, refl, sym, ap, subst, ◌∙◌, arith}
use Rattle.std.specs.Cmp.Lexicographic.{nat_list_cmp_total}
use Rattle.std.specs.FinMap.{entries, entries_sorted, find, get, get-entries, is_sorted}
use Rattle.std.specs.FinMap.Entries.{below_all}
use Rattle.std.specs.Ordering.{is_eq, is_lt, ordering_reverse}
use Rattle.std.specs.declared.cmp.Ordering.{Ordering}
use Rattle.std.specs.declared.cmp.Ordering.TheVariants.{Less, Equal, Greater}
use Rattle.std.proofs.lemmas.Cmp.{tied_itself}
use Rattle.desk_files.specs.Outside.{Told}
use Rattle.replay_history.specs.declared.report.Class.{Class}
use Rattle.replay_history.specs.declared.report.Report.{Report}
use Rattle.report_format.specs.ReportFile.{IsBadReport, IsReport}
use Rattle.report_format.proofs.Files.{bad_file, one_bad, one_file}
use Rattle.run_register.specs.Register.{RunMap, name_cmp}
use Rattle.register_work.specs.declared.errand.Answer.{Answer}
use Rattle.register_work.specs.declared.errand.Errand.{Errand}
use Rattle.register_work.specs.declared.errand.Errand.TheVariants.{Register, Runs, Accept, Compare}
use Rattle.register_work.specs.declared.unkept.Unkept.{Unkept}
use Rattle.register_work.specs.declared.unkept.Unkept.TheVariants.{NoRun, OtherRun, BadRun, NoCall, OtherCapture}
use Rattle.register_work.specs.Errand.{AreGood, AreRead, AreRuns, Finds, IsAnswered, IsBadRun, IsCause, IsFirstBad, IsRun}
use Rattle.register_work.specs.Keeping.{Keeping}

-- ---- what stands under a name

-- the runs are told
abbrev pub IsTold : Option RunMap → Type 0
IsTold None = ⊥
IsTold (Some runs) = Unit {0}

found_one : (runs : Option RunMap) → IsTold runs → (name : List ℕ) (x y : Option (List ℕ)) → Finds runs name x → Finds runs name y → x ≡ y
found_one None told name x y first second = absurd told
found_one (Some runs) told name x y first second = sym first ∙ second

pub runs_one : (runs : Option RunMap) → IsTold runs → (all others : List (List ℕ × List ℕ)) → AreRuns runs all → AreRuns runs others → all ≡ others
runs_one None told all others first second = absurd told
runs_one (Some runs) told all others first second = first ∙ sym second

other_or_free : (runs : Option RunMap) → IsTold runs → (name bytes : List ℕ) → Told runs (λ told. (get told name ≡ None) ⊎ (get told name ≡ Some bytes)) → Told runs (λ told. (kept : List ℕ) × (get told name ≡ Some kept) × (kept ≢ bytes)) → ⊥
other_or_free None told name bytes free other = told
other_or_free (Some runs) told name bytes (inl none) (kept, has, differs) = let never = sym none ∙ has in absurd (cc never)
other_or_free (Some runs) told name bytes (inr some) (kept, has, differs) = let both = sym has ∙ some in differs (cc both)

module _ (runs : Option RunMap) (told : IsTold runs) (name : List ℕ) where
  there_or_missing : {P : Type 0} (bytes : List ℕ) → Finds runs name (Some bytes) → Finds runs name None → P
  there_or_missing bytes there missing = let never = found_one runs told name (Some bytes) None there missing in absurd (cc never)

  bytes_one : (bytes others : List ℕ) → Finds runs name (Some bytes) → Finds runs name (Some others) → others ≡ bytes
  bytes_one bytes others first second = let both = found_one runs told name (Some others) (Some bytes) second first in cc both

  pub run_one : (report other : Report) → IsRun runs name report → IsRun runs name other → report ≡ other
  run_one report other is also = one_file is.bytes report other is.text (subst (λ (b : List ℕ). IsReport b other) (bytes_one is.bytes also.bytes is.kept also.kept) also.text)

  run_or_bad : {P : Type 0} (report : Report) (line : ℕ) → IsRun runs name report → IsBadRun runs name line → P
  run_or_bad report line is bad = absurd (bad_file is.bytes line (subst (λ (b : List ℕ). IsBadReport b line) (bytes_one is.bytes bad.bytes is.kept bad.kept) bad.bad) report is.text)

  bad_one : (line other : ℕ) → IsBadRun runs name line → IsBadRun runs name other → line ≡ other
  bad_one line other is also = one_bad is.bytes line other is.bad (subst (λ (b : List ℕ). IsBadReport b other) (bytes_one is.bytes also.bytes is.kept also.kept) also.bad)

-- ---- all runs, one after the other

read_there : (front rest : List (List ℕ × List ℕ)) (run : List ℕ × List ℕ) (reads : List (List ℕ × Report)) → AreRead (front ++ run ∷ rest) reads → (report : Report) × IsReport run.1 report
read_there [] rest run [] are = absurd are
read_there [] rest run (read ∷ reads) are = (read.1, are.1)
read_there (first ∷ front) rest run [] are = absurd are
read_there (first ∷ front) rest run (read ∷ reads) are = read_there front rest run reads are.2

read_or_bad : (all : List (List ℕ × List ℕ)) (reads : List (List ℕ × Report)) (name : List ℕ) (line : ℕ) → AreRead all reads → IsFirstBad all name line → ⊥
read_or_bad all reads name line are bad =
    let there = read_there bad.front bad.rest (name, bad.bytes) reads (subst (λ (rs : List (List ℕ × List ℕ)). AreRead rs reads) bad.parts are) in
    bad_file bad.bytes line bad.bad there.0 there.1

-- ---- what is answered has no cause

pub answered_alone : (errand : Errand) (answer : Answer) (k : Keeping) (cause : Unkept) → IsTold k.runs_before → IsAnswered errand k answer → IsCause errand k.runs_before cause → ⊥
answered_alone (Register name bytes report) answer k (OtherRun other) told is caused = other_or_free k.runs_before told name bytes is.before caused.1
answered_alone (Register name bytes report) answer k (NoRun other) told is caused = caused
answered_alone (Register name bytes report) answer k (BadRun other line) told is caused = caused
answered_alone (Register name bytes report) answer k (NoCall other) told is caused = caused
answered_alone (Register name bytes report) answer k (OtherCapture one n other m) told is caused = caused
answered_alone Runs answer k (BadRun name line) told is caused = read_or_bad is.all is.reads name line is.are_read (subst (λ (rs : List (List ℕ × List ℕ)). IsFirstBad rs name line) (runs_one k.runs_before told caused.0 is.all caused.1 is.are_runs) caused.2)
answered_alone Runs answer k (NoRun other) told is caused = caused
answered_alone Runs answer k (OtherRun other) told is caused = caused
answered_alone Runs answer k (NoCall other) told is caused = caused
answered_alone Runs answer k (OtherCapture one n other m) told is caused = caused
answered_alone (Accept name stamp class) answer k (NoRun other) told is caused = there_or_missing k.runs_before told name is.run.bytes is.run.kept caused.1
answered_alone (Accept name stamp class) answer k (BadRun other line) told is caused = run_or_bad k.runs_before told name is.report line is.run caused.1
answered_alone (Accept name stamp class) answer k (NoCall other) told is (same, (report, run, past)) = let e = ap (λ (r : Report). r.calls) (run_one k.runs_before told name is.report report is.run run) in let below = is.call in absurd (omega (arith, e, below, past))
answered_alone (Accept name stamp class) answer k (OtherRun other) told is caused = caused
answered_alone (Accept name stamp class) answer k (OtherCapture one n other m) told is caused = caused
answered_alone (Compare a b) answer k (NoRun other) told is (inl first) = there_or_missing k.runs_before told a is.first_run.bytes is.first_run.kept first.1
answered_alone (Compare a b) answer k (NoRun other) told is (inr second) = there_or_missing k.runs_before told b is.second_run.bytes is.second_run.kept second.2
answered_alone (Compare a b) answer k (BadRun other line) told is (inl first) = run_or_bad k.runs_before told a is.first line is.first_run first.1
answered_alone (Compare a b) answer k (BadRun other line) told is (inr second) = run_or_bad k.runs_before told b is.second line is.second_run second.2
answered_alone (Compare a b) answer k (OtherCapture one n other m) told is (same_a, same_b, (first, second, run_a, run_b, first_calls, second_calls, differ)) =
    let e = ap (λ (r : Report). r.calls) (run_one k.runs_before told a is.first first is.first_run run_a) in
    let f = ap (λ (r : Report). r.calls) (run_one k.runs_before told b is.second second is.second_run run_b) in
    differ (first_calls ∙ sym e ∙ is.calls ∙ f ∙ sym second_calls)
answered_alone (Compare a b) answer k (OtherRun other) told is caused = caused
answered_alone (Compare a b) answer k (NoCall other) told is caused = caused

-- ---- there is one cause at most

first_bad_one : (front others rest more : List (List ℕ × List ℕ)) (run other : List ℕ × List ℕ) (reads also : List (List ℕ × Report)) (line second : ℕ) → front ++ run ∷ rest ≡ others ++ other ∷ more → AreRead front reads → AreRead others also → IsBadReport run.1 line → IsBadReport other.1 second → run ≡ other
first_bad_one [] [] rest more run other reads also line second same good fine bad worse = cc same
first_bad_one [] (first ∷ others) rest more run other reads [] line second same good fine bad worse = absurd fine
first_bad_one [] (first ∷ others) rest more run other reads (read ∷ also) line second same good fine bad worse =
    let e : run ≡ first = cc same in absurd (bad_file first.1 line (subst (λ (r : List ℕ × List ℕ). IsBadReport r.1 line) e bad) read.1 fine.1)
first_bad_one (first ∷ front) others rest more run other [] also line second same good fine bad worse = absurd good
first_bad_one (first ∷ front) [] rest more run other (read ∷ reads) also line second same good fine bad worse =
    let e : other ≡ first = cc same in absurd (bad_file first.1 second (subst (λ (r : List ℕ × List ℕ). IsBadReport r.1 second) e worse) read.1 good.1)
first_bad_one (first ∷ front) (next ∷ others) rest more run other (read ∷ reads) [] line second same good fine bad worse = absurd fine
first_bad_one (first ∷ front) (next ∷ others) rest more run other (read ∷ reads) (last ∷ also) line second same good fine bad worse =
    let e : front ++ run ∷ rest ≡ others ++ other ∷ more = cc same in first_bad_one front others rest more run other reads also line second e good.2 fine.2 bad worse

bad_in_one : (all : List (List ℕ × List ℕ)) (name other : List ℕ) (line second : ℕ) → IsFirstBad all name line → IsFirstBad all other second → BadRun name line ≡ BadRun other second
bad_in_one all name other line second is also =
    let run = first_bad_one is.front also.front is.rest also.rest (name, is.bytes) (other, also.bytes) is.reads also.reads line second (sym is.parts ∙ also.parts) is.good also.good is.bad also.bad in
    let number = one_bad is.bytes line second is.bad (subst (λ (b : List ℕ). IsBadReport b second) (sym (ap (λ (r : List ℕ × List ℕ). r.1) run)) also.bad) in
    ap (λ (n : List ℕ). BadRun n line) (ap (λ (r : List ℕ × List ℕ). r.0) run) ∙ ap (BadRun other) number

-- the causes of an acceptance, with what they are
AcceptCause : Option RunMap → List ℕ → ℕ → Unkept → Type 0
AcceptCause runs name stamp cause =
    ((cause ≡ NoRun name) × Finds runs name None)
    ⊎ (((line : ℕ) × (cause ≡ BadRun name line) × IsBadRun runs name line)
    ⊎ ((cause ≡ NoCall stamp) × ((report : Report) × IsRun runs name report)))

accept_cause : (runs : Option RunMap) (name : List ℕ) (stamp : ℕ) (class : Class) (cause : Unkept) → IsCause (Accept name stamp class) runs cause → AcceptCause runs name stamp cause
unfolding AcceptCause
accept_cause runs name stamp class (NoRun other) h = inl (ap NoRun h.0, h.1)
accept_cause runs name stamp class (BadRun other line) h = inr (inl (line, ap (λ (n : List ℕ). BadRun n line) h.0, h.1))
accept_cause runs name stamp class (NoCall other) h = inr (inr (ap NoCall h.0, (h.1.0, h.1.1)))
accept_cause runs name stamp class (OtherRun other) h = absurd h
accept_cause runs name stamp class (OtherCapture one n other m) h = absurd h

accept_one : (runs : Option RunMap) → IsTold runs → (name : List ℕ) (stamp : ℕ) (c d : Unkept) → AcceptCause runs name stamp c → AcceptCause runs name stamp d → c ≡ d
unfolding AcceptCause
accept_one runs told name stamp c d (inl (e, none)) (inl (f, also)) = e ∙ sym f
accept_one runs told name stamp c d (inl (e, none)) (inr (inl (line, f, bad))) = there_or_missing runs told name bad.bytes bad.kept none
accept_one runs told name stamp c d (inl (e, none)) (inr (inr (f, (report, run)))) = there_or_missing runs told name run.bytes run.kept none
accept_one runs told name stamp c d (inr (inl (line, e, bad))) (inl (f, none)) = there_or_missing runs told name bad.bytes bad.kept none
accept_one runs told name stamp c d (inr (inl (line, e, bad))) (inr (inl (other, f, also))) = e ∙ ap (BadRun name) (bad_one runs told name line other bad also) ∙ sym f
accept_one runs told name stamp c d (inr (inl (line, e, bad))) (inr (inr (f, (report, run)))) = run_or_bad runs told name report line run bad
accept_one runs told name stamp c d (inr (inr (e, (report, run)))) (inl (f, none)) = there_or_missing runs told name run.bytes run.kept none
accept_one runs told name stamp c d (inr (inr (e, (report, run)))) (inr (inl (line, f, bad))) = run_or_bad runs told name report line run bad
accept_one runs told name stamp c d (inr (inr (e, (report, run)))) (inr (inr (f, (other, also)))) = e ∙ sym f

-- those of a comparison, of which a run that is there stands for one whose bytes are there
IsThere : Option RunMap → List ℕ → Type 0
IsThere runs name = (bytes : List ℕ) × Finds runs name (Some bytes)

CompareCause : Option RunMap → List ℕ → List ℕ → Unkept → Type 0
CompareCause runs a b cause =
    ((cause ≡ NoRun a) × Finds runs a None)
    ⊎ (((cause ≡ NoRun b) × IsThere runs a × Finds runs b None)
    ⊎ (((line : ℕ) × (cause ≡ BadRun a line) × IsBadRun runs a line × IsThere runs b)
    ⊎ (((line : ℕ) × (cause ≡ BadRun b line) × ((first : Report) × IsRun runs a first) × IsBadRun runs b line)
    ⊎ ((first : Report) × (second : Report) × (cause ≡ OtherCapture a first.calls b second.calls) × IsRun runs a first × IsRun runs b second))))

compare_cause : (runs : Option RunMap) (a b : List ℕ) (cause : Unkept) → IsCause (Compare a b) runs cause → CompareCause runs a b cause
unfolding CompareCause IsThere
compare_cause runs a b (NoRun other) (inl h) = inl (ap NoRun h.0, h.1)
compare_cause runs a b (NoRun other) (inr h) = inr (inl (ap NoRun h.0, h.1, h.2))
compare_cause runs a b (BadRun other line) (inl h) = inr (inr (inl (line, ap (λ (n : List ℕ). BadRun n line) h.0, h.1, h.2)))
compare_cause runs a b (BadRun other line) (inr h) = inr (inr (inr (inl (line, ap (λ (n : List ℕ). BadRun n line) h.0, h.1, h.2))))
compare_cause runs a b (OtherCapture one n other m) (same_a, same_b, (first, second, run_a, run_b, first_calls, second_calls, differ)) =
    inr (inr (inr (inr (first, second, (λ i. OtherCapture (same_a i) (first_calls i) (same_b i) (second_calls i)), run_a, run_b))))
compare_cause runs a b (OtherRun other) h = absurd h
compare_cause runs a b (NoCall other) h = absurd h

module _ (runs : Option RunMap) (told : IsTold runs) (a b : List ℕ) where
  compare_one : (c d : Unkept) → CompareCause runs a b c → CompareCause runs a b d → c ≡ d
  unfolding CompareCause IsThere
  compare_one c d (inl (e, none)) (inl (f, also)) = e ∙ sym f
  compare_one c d (inl (e, none)) (inr (inl (f, there, also))) = there_or_missing runs told a there.0 there.1 none
  compare_one c d (inl (e, none)) (inr (inr (inl (line, f, bad, there)))) = there_or_missing runs told a bad.bytes bad.kept none
  compare_one c d (inl (e, none)) (inr (inr (inr (inl (line, f, run, bad))))) = there_or_missing runs told a run.1.bytes run.1.kept none
  compare_one c d (inl (e, none)) (inr (inr (inr (inr (first, second, f, run, other))))) = there_or_missing runs told a run.bytes run.kept none
  compare_one c d (inr (inl (e, there, none))) (inl (f, missing)) = there_or_missing runs told a there.0 there.1 missing
  compare_one c d (inr (inl (e, there, none))) (inr (inl (f, also, missing))) = e ∙ sym f
  compare_one c d (inr (inl (e, there, none))) (inr (inr (inl (line, f, bad, held)))) = there_or_missing runs told b held.0 held.1 none
  compare_one c d (inr (inl (e, there, none))) (inr (inr (inr (inl (line, f, run, bad))))) = there_or_missing runs told b bad.bytes bad.kept none
  compare_one c d (inr (inl (e, there, none))) (inr (inr (inr (inr (first, second, f, run, other))))) = there_or_missing runs told b other.bytes other.kept none
  compare_one c d (inr (inr (inl (line, e, bad, there)))) (inl (f, none)) = there_or_missing runs told a bad.bytes bad.kept none
  compare_one c d (inr (inr (inl (line, e, bad, there)))) (inr (inl (f, held, none))) = there_or_missing runs told b there.0 there.1 none
  compare_one c d (inr (inr (inl (line, e, bad, there)))) (inr (inr (inl (other, f, also, held)))) = e ∙ ap (BadRun a) (bad_one runs told a line other bad also) ∙ sym f
  compare_one c d (inr (inr (inl (line, e, bad, there)))) (inr (inr (inr (inl (other, f, run, also))))) = run_or_bad runs told a run.0 line run.1 bad
  compare_one c d (inr (inr (inl (line, e, bad, there)))) (inr (inr (inr (inr (first, second, f, run, other))))) = run_or_bad runs told a first line run bad
  compare_one c d (inr (inr (inr (inl (line, e, run, bad))))) (inl (f, none)) = there_or_missing runs told a run.1.bytes run.1.kept none
  compare_one c d (inr (inr (inr (inl (line, e, run, bad))))) (inr (inl (f, there, none))) = there_or_missing runs told b bad.bytes bad.kept none
  compare_one c d (inr (inr (inr (inl (line, e, run, bad))))) (inr (inr (inl (other, f, also, there)))) = run_or_bad runs told a run.0 other run.1 also
  compare_one c d (inr (inr (inr (inl (line, e, run, bad))))) (inr (inr (inr (inl (other, f, also, worse))))) = e ∙ ap (BadRun b) (bad_one runs told b line other bad worse) ∙ sym f
  compare_one c d (inr (inr (inr (inl (line, e, run, bad))))) (inr (inr (inr (inr (first, second, f, also, other))))) = run_or_bad runs told b second line other bad
  compare_one c d (inr (inr (inr (inr (first, second, e, run, other))))) (inl (f, none)) = there_or_missing runs told a run.bytes run.kept none
  compare_one c d (inr (inr (inr (inr (first, second, e, run, other))))) (inr (inl (f, there, none))) = there_or_missing runs told b other.bytes other.kept none
  compare_one c d (inr (inr (inr (inr (first, second, e, run, other))))) (inr (inr (inl (line, f, bad, there)))) = run_or_bad runs told a first line run bad
  compare_one c d (inr (inr (inr (inr (first, second, e, run, other))))) (inr (inr (inr (inl (line, f, also, bad))))) = run_or_bad runs told b second line other bad
  compare_one c d (inr (inr (inr (inr (first, second, e, run, other))))) (inr (inr (inr (inr (third, fourth, f, also, last))))) =
      e ∙ (λ i. OtherCapture a (run_one runs told a first third run also i).calls b (run_one runs told b second fourth other last i).calls) ∙ sym f

pub cause_alone : (errand : Errand) (runs : Option RunMap) (c d : Unkept) → IsTold runs → IsCause errand runs c → IsCause errand runs d → c ≡ d
cause_alone (Register name bytes report) runs (OtherRun one) (OtherRun other) told h k = ap OtherRun (h.0 ∙ sym k.0)
cause_alone (Register name bytes report) runs (OtherRun one) (NoRun other) told h k = absurd k
cause_alone (Register name bytes report) runs (OtherRun one) (BadRun other line) told h k = absurd k
cause_alone (Register name bytes report) runs (OtherRun one) (NoCall other) told h k = absurd k
cause_alone (Register name bytes report) runs (OtherRun one) (OtherCapture a n b m) told h k = absurd k
cause_alone (Register name bytes report) runs (NoRun one) d told h k = absurd h
cause_alone (Register name bytes report) runs (BadRun one line) d told h k = absurd h
cause_alone (Register name bytes report) runs (NoCall one) d told h k = absurd h
cause_alone (Register name bytes report) runs (OtherCapture a n b m) d told h k = absurd h
cause_alone Runs runs (BadRun name line) (BadRun other second) told h k = bad_in_one h.0 name other line second h.2 (subst (λ (rs : List (List ℕ × List ℕ)). IsFirstBad rs other second) (runs_one runs told k.0 h.0 k.1 h.1) k.2)
cause_alone Runs runs (BadRun name line) (NoRun other) told h k = absurd k
cause_alone Runs runs (BadRun name line) (OtherRun other) told h k = absurd k
cause_alone Runs runs (BadRun name line) (NoCall other) told h k = absurd k
cause_alone Runs runs (BadRun name line) (OtherCapture a n b m) told h k = absurd k
cause_alone Runs runs (NoRun one) d told h k = absurd h
cause_alone Runs runs (OtherRun one) d told h k = absurd h
cause_alone Runs runs (NoCall one) d told h k = absurd h
cause_alone Runs runs (OtherCapture a n b m) d told h k = absurd h
cause_alone (Accept name stamp class) runs c d told h k = accept_one runs told name stamp c d (accept_cause runs name stamp class c h) (accept_cause runs name stamp class d k)
cause_alone (Compare a b) runs c d told h k = compare_one runs told a b c d (compare_cause runs a b c h) (compare_cause runs a b d k)

-- ---- an entry is found under its name

in_front : (a b : Bool) → T (a && b) → T a
in_front true b h = tt
in_front false b h = absurd h

behind_it : (a b : Bool) → T (a && b) → T b
behind_it true b h = h
behind_it false b h = absurd h

not_level : (r : Ordering) → T (is_lt r) → is_eq (ordering_reverse r) ≡ false
not_level Less h = refl
not_level Equal h = absurd h
not_level Greater h = absurd h

below_it : (least name bytes : List ℕ) (front rest : List (List ℕ × List ℕ)) → T (below_all name_cmp least (front ++ (name, bytes) ∷ rest)) → T (is_lt (name_cmp least name))
below_it least name bytes [] rest h = in_front _ (below_all name_cmp least rest) h
below_it least name bytes (first ∷ front) rest h = below_it least name bytes front rest (behind_it (is_lt (name_cmp least first.0)) _ h)

is_found : (front rest : List (List ℕ × List ℕ)) (name bytes : List ℕ) → T (is_sorted name_cmp (front ++ (name, bytes) ∷ rest)) → find name_cmp name (front ++ (name, bytes) ∷ rest) ≡ Some bytes
is_found [] rest name bytes rise = ap (λ (r : Ordering). cond (is_eq r) (Some bytes) (find name_cmp name rest)) (tied_itself nat_list_cmp_total name)
is_found (first ∷ front) rest name bytes rise =
    let all = front ++ (name, bytes) ∷ rest in
    let less = below_it first.0 name bytes front rest (in_front (below_all name_cmp first.0 all) (is_sorted name_cmp all) rise) in
    ap (λ (b : Bool). cond b (Some first.1) (find name_cmp name all)) (ap is_eq (nat_list_cmp_total.antisymm name first.0) ∙ not_level (name_cmp first.0 name) less)
    ∙ is_found front rest name bytes (behind_it (below_all name_cmp first.0 all) (is_sorted name_cmp all) rise)

-- ---- what is kept as reports is not told as bad

not_bad : (runs : RunMap) (name : List ℕ) (line : ℕ) → AreGood runs → IsBadRun (Some runs) name line → ⊥
not_bad runs name line good bad = let is = good name bad.bytes bad.kept in bad_file bad.bytes line bad.bad is.0 is.1

none_bad : (runs : RunMap) (name : List ℕ) (line : ℕ) (all : List (List ℕ × List ℕ)) → AreGood runs → all ≡ entries runs → IsFirstBad all name line → ⊥
none_bad runs name line all good are bad =
    let parts : bad.front ++ (name, bad.bytes) ∷ bad.rest ≡ entries runs = sym bad.parts ∙ are in
    let rise = subst (λ (es : List (List ℕ × List ℕ)). T (is_sorted name_cmp es)) (sym parts) (entries_sorted runs) in
    let found = get-entries runs name ∙ ap (find name_cmp name) (sym parts) ∙ is_found bad.front bad.rest name bad.bytes rise in
    let is = good name bad.bytes found in
    bad_file bad.bytes line bad.bad is.0 is.1

pub good_alone : (errand : Errand) (runs : RunMap) (name : List ℕ) (line : ℕ) → AreGood runs → IsCause errand (Some runs) (BadRun name line) → ⊥
good_alone (Register run bytes report) runs name line good caused = caused
good_alone Runs runs name line good (all, are, bad) = none_bad runs name line all good are bad
good_alone (Accept run stamp class) runs name line good caused = not_bad runs run line good caused.1
good_alone (Compare a b) runs name line good (inl first) = not_bad runs a line good first.1
good_alone (Compare a b) runs name line good (inr second) = not_bad runs b line good second.2
