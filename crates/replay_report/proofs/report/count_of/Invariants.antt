use Rattle.std.proofs.Common.{◌≡◌, ◌≤◌, take}
use Rattle.std.specs.Prelude.{count_by}
use Rattle.replay_report.specs.Report.{is_class}
use Rattle.replay_report.proofs.report.count_of.Given as goal

abbrev pub invariant-loop-other : goal.invariant-loop-other
invariant-loop-other l = record { counted : l.count ≡ count_by (is_class l.class) (take l.other-index l.classes); within : l.count ≤ l.other-index }
