-- Which events have a text.
use Rattle.std.specs.Prelude.{◌<◌, ◌^◌}
use Rattle.desk_values.specs.declared.capture.Event.{Event}
use Rattle.desk_values.specs.declared.capture.Event.TheVariants.{Start, Answer}
use Rattle.desk_values.specs.Good.{IsGoodReply}

-- an event that has a text: its numbers are within the limits of their types, and its reply is good
abbrev pub IsEvent : Event → Type 0
IsEvent (Start k pause) = (k < 2 ^ 32) × (pause < 2 ^ 64)
IsEvent (Answer k reply) = (k < 2 ^ 32) × IsGoodReply reply
