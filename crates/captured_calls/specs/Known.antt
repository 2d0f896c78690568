-- The ids that a client can know by what was replied, as a list.
use Rattle.std.specs.Prelude.{Bool, ◌&&◌, not, List, ◌++◌}
use Rattle.std.specs.List.{flat_map, list_any}
use Rattle.desk_values.specs.Ids.{ids_of_image, ids_made, is_id}
use Rattle.desk_values.specs.declared.value.Value.{Value}
use Rattle.desk_values.specs.declared.value.Image.{Image}
use Rattle.desk_values.specs.declared.call.Reply.{Reply}
use Rattle.desk_values.specs.declared.capture.Captured.{Captured}
use Rattle.captured_calls.specs.Same.{same_value}

-- the ids that a reply gives: what was drawn and what was made
abbrev pub given_by : Reply → List Value
given_by reply = reply.draws ++ ids_made reply.made

-- the ids of the rows, and those that replies gave
abbrev pub ids_known : List Image → List Captured → List Value
ids_known rows calls = flat_map ids_of_image rows ++ flat_map (λ (call : Captured). given_by call.reply) calls

-- an id that is not among them
abbrev pub is_stranger : List Value → Value → Bool
is_stranger known value = is_id value && not (list_any (same_value value) known)
