-- Runs that are kept, and their reports that are read one after the other.
use Rattle.std.proofs.Common.{◌≡◌, ◌≢◌, ℕ, suc, ◌+◌, ◌<◌, List, [], ◌∷◌, ◌++◌, length, map, take, drop, get_or, Option, None, Some, Err, refl, sym, ap, subst, ◌∙◌, append_assoc}
use Rattle.std.specs.Prelude.{codes, if◌then◌else◌, is_some}
use Rattle.std.specs.FinMap.{get, insert}
use Rattle.std.specs.Fmt.{decimal}
use Rattle.std.specs.List.{flat_map}
use Rattle.std.specs.Option.{option_map}
use Rattle.std.proofs.lemmas.List.{at_drop_more, flat_map_more, map-append, take-append-drop, take_more}
use Rattle.desk_files.specs.Outside.{Told}
use Rattle.replay_history.specs.declared.report.Report.{Report}
use Rattle.report_format.specs.ReportFile.{IsBadReport, IsReport}
use Rattle.run_register.specs.declared.kept.Kept.{Kept}
use Rattle.run_register.specs.declared.registering.RegErr.TheVariants.{Other}
use Rattle.run_register.specs.Register.{RegisterSays, RunMap, entry_of, registered}
use Rattle.register_work.specs.declared.errand.ErrandErr.{ErrandErr}
use Rattle.register_work.specs.declared.errand.ErrandErr.TheVariants.{NotDone, Failed, Memory}
use Rattle.register_work.specs.declared.unkept.Unkept.TheVariants.{NoRun, OtherRun, BadRun, NoCall, OtherCapture}
use Rattle.register_work.specs.Errand.{AreRead, IsFirstBad}
use Rattle.register_work.specs.Inside.{AreListedBy, GotRuns, IsBadIn, IsBadText, Refuses}
use Rattle.register_work.specs.Lines.{run_line}

-- ---- a name that another report has

-- it is another one
pub other_kept : (runs : Option RunMap) (name bytes kept : List ℕ) → Told runs (λ told. RegisterSays (get told name) bytes (Err (Other kept))) → Told runs (λ told. (kept : List ℕ) × (get told name ≡ Some kept) × (kept ≢ bytes))
other_kept None name bytes kept says = tt
other_kept (Some told) name bytes kept says = (kept, says.0, says.1)

-- and all stays as it is
pub other_stays : (runs : Option RunMap) (name bytes kept : List ℕ) → Told runs (λ told. RegisterSays (get told name) bytes (Err (Other kept))) → option_map (λ told. registered told (name, bytes)) runs ≡ runs
other_stays None name bytes kept says = refl
other_stays (Some told) name bytes kept says = ap (λ (o : Option (List ℕ)). Some (if is_some o then told else insert told name bytes)) says.0

-- ---- one more report behind those that were read

read_more : (runs : List (List ℕ × List ℕ)) (reads : List (List ℕ × Report)) (run : List ℕ × List ℕ) (report : Report) → AreRead runs reads → IsReport run.1 report → AreRead (runs ++ run ∷ []) (reads ++ (run.0, report) ∷ [])
read_more [] [] run report are is = (refl, is, tt)
read_more [] (read ∷ reads) run report are is = absurd are
read_more (first ∷ runs) [] run report are is = absurd are
read_more (first ∷ runs) (read ∷ reads) run report are is = (are.0, are.1, read_more runs reads run report are.2 is)

pub count_read : (runs : List (List ℕ × List ℕ)) (reads : List (List ℕ × Report)) → AreRead runs reads → length reads ≡ length runs
count_read [] [] are = refl
count_read [] (read ∷ reads) are = absurd are
count_read (run ∷ runs) [] are = absurd are
count_read (run ∷ runs) (read ∷ reads) are = ap suc (count_read runs reads are.2)

-- and what is printed of all
pub listed : (runs : List (List ℕ × List ℕ)) (before after : List ℕ) (n : ℕ) → GotRuns runs before after → before ≡ codes "runs " ++ (decimal n ++ 10 ∷ []) → n ≡ length runs → AreListedBy runs after
listed runs before after n got is count =
    let lines = flat_map (λ (read : List ℕ × Report). run_line read.0 read.1) got.reads in
    record {
      reads = got.reads;
      are_read = got.are_read;
      text =
          got.text
          ∙ ap (λ (t : List ℕ). t ++ lines) is
          ∙ ap (λ (t : List ℕ). codes "runs " ++ t) (append_assoc (decimal n) (10 ∷ []) lines)
          ∙ ap (λ (m : ℕ). codes "runs " ++ (decimal m ++ 10 ∷ lines)) (count ∙ sym (count_read runs got.reads got.are_read));
    }

module _ (runs : List Kept) (i : ℕ) (run : Kept) (within : i < length runs) (is : run ≡ get_or runs i run) where
  entries_more : map entry_of (take (i + 1) runs) ≡ map entry_of (take i runs) ++ entry_of run ∷ []
  entries_more = ap (map entry_of) (take_more runs i run within ∙ ap (λ (k : Kept). take i runs ++ k ∷ []) (sym is)) ∙ map-append entry_of (take i runs) (run ∷ [])

  pub got_more : (before mid after : List ℕ) (report : Report) → GotRuns (map entry_of (take i runs)) before mid → IsReport run.report report → after ≡ mid ++ run_line run.name report → GotRuns (map entry_of (take (i + 1) runs)) before after
  got_more before mid after report got is_report next = subst (λ (rs : List (List ℕ × List ℕ)). GotRuns rs before after) (sym entries_more) (record {
    reads = got.reads ++ (run.name, report) ∷ [];
    are_read = read_more (map entry_of (take i runs)) got.reads (entry_of run) report got.are_read is_report;
    text = next ∙ ap (λ (t : List ℕ). t ++ run_line run.name report) got.text ∙ flat_map_more (λ (read : List ℕ × Report). run_line read.0 read.1) before got.reads (run.name, report);
  })

  -- the next one is no report
  pub bad_next : (before mid : List ℕ) (line : ℕ) → GotRuns (map entry_of (take i runs)) before mid → IsBadReport run.report line → IsFirstBad (map entry_of runs) run.name line
  bad_next before mid line got bad = record {
    front = map entry_of (take i runs);
    bytes = run.report;
    rest = map entry_of (drop (i + 1) runs);
    parts =
        ap (map entry_of) (sym (take-append-drop i runs))
        ∙ at_drop_more (λ (ks : List Kept). map entry_of (take i runs ++ ks)) runs i run within
        ∙ ap (λ (k : Kept). map entry_of (take i runs ++ k ∷ drop (i + 1) runs)) (sym is)
        ∙ map-append entry_of (take i runs) (run ∷ drop (i + 1) runs);
    reads = got.reads;
    good = got.are_read;
    bad = bad;
  }

  pub bad_stops : (before mid : List ℕ) (error : ErrandErr) → GotRuns (map entry_of (take i runs)) before mid → Refuses (IsBadText run.name run.report) error → Refuses (IsBadIn (map entry_of runs)) error
  bad_stops before mid (NotDone (BadRun name line)) got bad = subst (λ (n : List ℕ). IsFirstBad (map entry_of runs) n line) (sym bad.0) (bad_next before mid line got bad.1)
  bad_stops before mid (NotDone (NoRun name)) got bad = absurd bad
  bad_stops before mid (NotDone (OtherRun name)) got bad = absurd bad
  bad_stops before mid (NotDone (NoCall stamp)) got bad = absurd bad
  bad_stops before mid (NotDone (OtherCapture a n b m)) got bad = absurd bad
  bad_stops before mid Failed got bad = absurd bad
  bad_stops before mid Memory got bad = tt
