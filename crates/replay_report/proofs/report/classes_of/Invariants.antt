use Rattle.std.proofs.Common.{◌≡◌, None, drop, length, replicate}
use Rattle.remap_ids.specs.IdMap.{start_pairs}
use Rattle.replay_report.specs.Inside.Written.{walked}
use Rattle.replay_report.proofs.report.classes_of.Given as goal

abbrev pub invariant-loop-event : goal.invariant-loop-event
invariant-loop-event l = record {
  count : length l.classes.items ≡ length l.calls;
  walked : walked l.calls l.map.pairs (drop l.event-index l.events) l.classes.items ≡ walked l.calls (start_pairs l.start) l.events (replicate (length l.calls) None);
}
