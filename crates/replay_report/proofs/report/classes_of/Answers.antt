use Rattle.std.proofs.Common.{◌∙◌, ap, List, sym}
use Rattle.desk_values.specs.declared.capture.Event.{Event}
use Rattle.replay_report.specs.Inside.Written.{walked}
use Rattle.replay_report.proofs.Classes.{dropped}
use Rattle.replay_report.proofs.report.classes_of.Goals as goal

pub loop-event-preserved : goal.loop-event-preserved
loop-event-preserved c =
    let calls = c.args.calls.now in
    let here = dropped c.args.events.now c.loop-event.event-index c.event-item.result c.loop-event-test.true c.event-item.is in
    let noted = c.in_ok-note_event.ensures in
    record {
      count = noted.count;
      walked = rw (noted.classes, noted.pairs) (sym (ap (λ (es : List Event). walked calls c.loop-event.map.pairs es c.loop-event.classes.items) here) ∙ c.loop-event.invariant.walked);
    }
