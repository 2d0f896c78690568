use Rattle.std.proofs.Common.{List, ◌++◌, ◌∙◌, ap}
use Rattle.capture_recorder.specs.Doors.{DoorView}
use Rattle.capture_recorder.specs.Inside.Answered.{closing}
use Rattle.capture_recorder.specs.declared.door.Said.{Said}
use Rattle.capture_recorder.proofs.Answering.{is_closing}
use Rattle.capture_recorder.proofs.locked_door.LockedDoorCallDoor.close.Goals as goal

pub returns-clause-notes : goal.returns-clause-notes
returns-clause-notes g c =
    let more = closing c.in_ok-reply.reply in (
      (more, is_closing c.in_ok-reply.reply c.in_ok-reply.ensures.good, c.say_closing.ensures ∙ ap (λ (said : List Said). said ++ more) (c.in_ok-reserve.ensures.items ∙ ap (λ (d : DoorView). d.said) c.self.view_is)),
      ap (λ (d : DoorView). d.turned) c.self.view_is,
    )
