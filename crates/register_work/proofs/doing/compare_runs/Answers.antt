use Rattle.std.proofs.Common.{◌∙◌, refl}
use Rattle.desk_files.specs.Outside.{Answered}
use Rattle.register_work.proofs.Kept.{found_before, is_run, keeps_on, told_before}
use Rattle.register_work.proofs.doing.compare_runs.Goals as goal

pub returns-then-first-second-clause-fails : goal.returns-then-first-second-clause-fails
returns-then-first-second-clause-fails g c =
    let keeps = c.in_ok-first_bytes.ensures.keeps in
    let first = is_run _ c.args.a.now c.in_ok-first_bytes.first_bytes c.as_slice.result.now c.in_ok-first.first c.in_ok-first_bytes.ensures.found c.as_slice.ensures c.in_ok-first.ensures.report in
    let second = is_run _ c.args.b.now c.in_ok-second_bytes.second_bytes c.as_slice-2.result.now c.in_ok-second.second (found_before _ _ c.args.b.now c.in_ok-second_bytes.second_bytes keeps.runs c.in_ok-second_bytes.ensures.found) c.as_slice-2.ensures c.in_ok-second.ensures.report in
    rw c.in_ok-other_capture.ensures ((refl, refl, (c.in_ok-first.first, c.in_ok-second.second, first, second, refl, refl, c.if-first-second.true)), keeps_on _ _ _ _ _ _ _ _ _ keeps Answered c.in_ok-second_bytes.ensures.keeps)

pub returns-clause-done : goal.returns-clause-done
returns-clause-done g c =
    let keeps = c.in_ok-first_bytes.ensures.keeps in
    let later = c.in_ok-second_bytes.ensures.keeps in
    let accepted = c.in_ok-accepted.ensures in
    record {
      first = c.in_ok-first.first;
      second = c.in_ok-second.second;
      first_run = is_run _ c.args.a.now c.in_ok-first_bytes.first_bytes c.as_slice.result.now c.in_ok-first.first c.in_ok-first_bytes.ensures.found c.as_slice.ensures c.in_ok-first.ensures.report;
      second_run = is_run _ c.args.b.now c.in_ok-second_bytes.second_bytes c.as_slice-2.result.now c.in_ok-second.second (found_before _ _ c.args.b.now c.in_ok-second_bytes.second_bytes keeps.runs c.in_ok-second_bytes.ensures.found) c.as_slice-2.ensures c.in_ok-second.ensures.report;
      calls = c.if-first-second.false;
      accepted = c.in_ok-accepted.accepted;
      are_accepted = told_before _ _ _ (later.divergences ∙ keeps.divergences) accepted.says;
      tells = c.in_ok-compared.ensures;
      keeps = record {
        runs = accepted.runs ∙ later.runs ∙ keeps.runs;
        divergences = accepted.divergences ∙ later.divergences ∙ keeps.divergences;
        faults = accepted.faults ∙ later.faults ∙ keeps.faults;
      };
    }
