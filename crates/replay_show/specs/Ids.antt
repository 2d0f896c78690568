-- The ids of a call, and what stands for each in the replay.
use Rattle.std.specs.Prelude.{ℕ, nat_eq, ◌||◌, if◌then◌else◌, Bool, true, false, List, [], ◌∷◌, ◌++◌, codes, slice_get, Option, None, Some}
use Rattle.std.specs.Fmt.{decimal}
use Rattle.std.specs.List.{find, flat_map, fold, list_any}
use Rattle.desk_values.specs.declared.value.Value.{Value}
use Rattle.desk_values.specs.declared.value.Image.{Image}
use Rattle.desk_values.specs.declared.call.Outcome.{Outcome}
use Rattle.desk_values.specs.declared.call.Outcome.TheVariants.{Rows, Count, Committed, RolledBack, Marked, Connected, Disconnected, Refused}
use Rattle.desk_values.specs.declared.call.Reply.{Reply}
use Rattle.desk_values.specs.declared.capture.Captured.{Captured}
use Rattle.desk_values.specs.declared.capture.Event.{Event}
use Rattle.desk_values.specs.declared.capture.Event.TheVariants.{Start, Answer}
use Rattle.desk_schema.specs.Schema.{SchemaView}
use Rattle.id_pairs.specs.declared.Id.{Id}
use Rattle.id_pairs.specs.declared.Id.TheVariants.{Row}
use Rattle.id_pairs.specs.Ids.{id_of, id_value, same_id}
use Rattle.id_pairs.specs.Pairs.{IdPair, all_new, image_in, learnt}
use Rattle.remap_ids.specs.IdMap.{start_pairs}
use Rattle.replay_history.specs.Capture.{binds_of}
use Rattle.replay_history.specs.Texts.{line}
use Rattle.replay_show.specs.Shown.{ShownView}
use Rattle.replay_show.specs.Values.{value_shown}

-- ---- which ids it has, each once

-- one more, unless it is there
abbrev pub with_id : List Id → Id → List Id
with_id known id = if list_any (same_id id) known then known else known ++ id ∷ []

abbrev pub with_some_id : List Id → Option Id → List Id
with_some_id known None = known
with_some_id known (Some id) = with_id known id

abbrev pub with_value : List Id → Value → List Id
with_value known value = with_some_id known (id_of value)

abbrev pub with_values : List Id → List Value → List Id
with_values known values = fold with_value known values

abbrev pub with_made : List Id → Option ℕ → List Id
with_made known None = known
with_made known (Some row) = with_id known (Row row)

abbrev pub with_left : List Id → Option (List Value) → List Id
with_left known None = known
with_left known (Some values) = with_values known values

-- the row, then its values
abbrev pub with_image : List Id → Image → List Id
with_image known image = with_left (with_id known (Row image.row)) image.left

abbrev pub with_outcome : List Id → Outcome → List Id
with_outcome known (Rows rows) = fold with_values known rows
with_outcome known (Count n) = known
with_outcome known (Committed images) = fold with_image known images
with_outcome known RolledBack = known
with_outcome known Marked = known
with_outcome known Connected = known
with_outcome known Disconnected = known
with_outcome known (Refused fault) = known

abbrev pub with_reply : List Id → Reply → List Id
with_reply known reply = with_outcome (with_made (with_values known reply.draws) reply.made) reply.outcome

-- those that were sent
abbrev pub sent_ids : Captured → List Id
sent_ids call = with_values [] (binds_of call.call)

-- and those that were given
abbrev pub ids_told : Captured → List Id
ids_told call = with_reply (sent_ids call) call.reply

-- ---- what stands for them

-- the two replies to one call teach their pairs, of which the first stay
abbrev pub taught_by : List IdPair → Option Captured → Reply → List IdPair
taught_by pairs None reply = pairs
taught_by pairs (Some call) reply = all_new pairs (learnt call.reply reply)

-- the pairs behind the first answer to a call
abbrev pub pairs_behind : List Captured → ℕ → List IdPair → List Event → List IdPair
pairs_behind calls k pairs [] = pairs
pairs_behind calls k pairs (Start stamp pause ∷ events) = pairs_behind calls k pairs events
pairs_behind calls k pairs (Answer stamp reply ∷ events) =
    if nat_eq stamp k then taught_by pairs (slice_get calls stamp) reply else pairs_behind calls k (taught_by pairs (slice_get calls stamp) reply) events

abbrev pub is_id : Id → Option Id → Bool
is_id id None = false
is_id id (Some other) = same_id id other

abbrev pub is_made : Id → Option ℕ → Bool
is_made id None = false
is_made id (Some row) = same_id id (Row row)

-- the id was given by this call
abbrev pub gives : Id → Captured → Bool
gives id call = list_any (λ drawn. is_id id (id_of drawn)) call.reply.draws || is_made id call.reply.made

unfoldable pub source_shown : Option Captured → List ℕ
source_shown None = codes "the start"
source_shown (Some call) = codes "call " ++ decimal call.stamp

unfoldable pub stands_shown : SchemaView → List Captured → Id → Option Id → List ℕ
stands_shown schema calls id None = codes " has nothing that stands for it"
stands_shown schema calls id (Some other) = codes " stands as " ++ (value_shown schema (id_value other) ++ (codes ", from " ++ source_shown (find (gives id) calls)))

-- one that was sent, and for which nothing stands
unfoldable pub unsent_shown : Bool → Option Id → List ℕ
unsent_shown sent (Some other) = []
unsent_shown true None = codes ", sent as an id that no server knows"
unsent_shown false None = []

unfoldable pub id_line : SchemaView → List Captured → List IdPair → List Id → Id → List ℕ
id_line schema calls pairs sent id =
    line (codes "id          " ++ (value_shown schema (id_value id) ++ (stands_shown schema calls id (image_in pairs id) ++ unsent_shown (list_any (same_id id) sent) (image_in pairs id))))

abbrev pub id_lines : ShownView → Captured → List ℕ
id_lines view call =
    flat_map (id_line view.start.schema view.calls (pairs_behind view.calls call.stamp (start_pairs view.start) view.run.history) (sent_ids call)) (ids_told call)
