use Rattle.std.proofs.Common.{◌≡◌, ◌≤◌, take}
use Rattle.report_format.specs.ReportFile.{count_in}
use Rattle.report_format.proofs.draft.count_of.Given as goal

abbrev pub invariant-loop-line : goal.invariant-loop-line
invariant-loop-line l = record { counted : l.count ≡ count_in (take l.line-index l.lines) l.class; within : l.count ≤ l.line-index }
