use Rattle.std.proofs.Common.{◌≡◌, ◌++◌, take}
use Rattle.std.specs.List.{flat_map}
use Rattle.replay_history.specs.Texts.{line, event_text}
use Rattle.replay_report.proofs.texts.append_events.Given as goal

abbrev pub invariant-loop-event : goal.invariant-loop-event
invariant-loop-event l = l.to ≡ l.fn.to ++ flat_map (λ event. line (event_text event)) (take l.event-index l.events)
