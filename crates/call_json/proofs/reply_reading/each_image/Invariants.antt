use Rattle.std.proofs.Common.{◌≡◌, drop}
use Rattle.serde_json.specs.View.{items_view}
use Rattle.call_json.specs.Inside.Reading.{each_in}
use Rattle.call_json.specs.Inside.ReplyReading.{image_in}
use Rattle.desk_values.proofs.Cuts.{onto_items}
use Rattle.call_json.proofs.reply_reading.each_image.Given as goal

-- what is read so far, and what is left to read
abbrev pub invariant-loop-json : goal.invariant-loop-json
invariant-loop-json l = onto_items l.images (each_in image_in (items_view (drop l.json-index l.items))) ≡ each_in image_in (items_view l.items)
