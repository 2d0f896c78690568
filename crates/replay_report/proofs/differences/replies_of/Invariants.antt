use Rattle.std.proofs.Common.{◌≡◌, map, None, replicate, take}
use Rattle.std.specs.List.{fold}
use Rattle.std.specs.Prelude.{option_copied}
use Rattle.replay_report.specs.Inside.Written.{with_answer}
use Rattle.replay_report.proofs.differences.replies_of.Given as goal

abbrev pub invariant-loop-event : goal.invariant-loop-event
invariant-loop-event l = map option_copied l.replies.items ≡ fold with_answer (replicate l.count None) (take l.event-index l.events)
