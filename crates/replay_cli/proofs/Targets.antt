-- What a replay may run on is a target of the captured start.
use Rattle.std.proofs.Common.{◌≡◌, ℕ, List, Option, None, Some, Result, Ok, Err, ap, sym, subst}
use Rattle.desk_files.specs.Outside.{FileMap}
use Rattle.desk_schema.specs.File.{IsStart}
use Rattle.desk_schema.specs.Start.{StartView}
use Rattle.desk_schema.specs.Target.{IsTarget}
use Rattle.desk_schema.proofs.Targets.{keeps, targets, target_itself}
use Rattle.captured_calls.specs.Verdict.{Preparation}
use Rattle.captured_calls.specs.declared.refusal.Refusal.{Refusal as Illegal}
use Rattle.replay_cli.specs.Decision.{Legal, MayRunOn, TargetIn, legal_from}

pub target_of : (named : Option (List ℕ)) (start target : StartView) → MayRunOn named start target → IsTarget start target
target_of None start target same = subst (IsTarget start) (sym same) (target_itself start)
target_of (Some name) start target (bytes, to) = targets start target _ to

pub start_of : (named : Option (List ℕ)) (start target : StartView) → IsStart start → MayRunOn named start target → IsStart target
start_of None start target is same = subst IsStart (sym same) is
start_of (Some name) start target is (bytes, to) = keeps start target _ is to

pub target_in : (files : FileMap) (named : Option (List ℕ)) (start target : StartView) → TargetIn files start named (Ok target) → MayRunOn named start target
target_in files None start target is = cc (is)
target_in files (Some name) start target is = (is.0, is.2)

-- the test of a capture leaves its start
pub start_stays : (start : StartView) (answer : Result Preparation Illegal) (legal : Legal) → legal_from start answer ≡ Ok legal → legal.start ≡ start
start_stays start (Ok p) legal is = let e : record { start = start; calls = p.calls; facts = p.facts } ≡ legal = cc in ap (λ (l : Legal). l.start) (sym e)
start_stays start (Err cause) legal is = absurd (cc is)
