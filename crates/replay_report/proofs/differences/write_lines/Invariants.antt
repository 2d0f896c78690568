use Rattle.std.proofs.Common.{◌≡◌, ◌++◌, take}
use Rattle.std.specs.List.{flat_map}
use Rattle.replay_report.specs.Inside.Written.{IsBetween, slot_record, written}
use Rattle.replay_report.proofs.differences.write_lines.Given as goal

abbrev pub invariant-loop-line : goal.invariant-loop-line
invariant-loop-line l = record { between : IsBetween l.writer; written : written l.writer ≡ written l.fn.writer ++ flat_map (slot_record l.calls l.replies) (take l.line-index l.lines) }
