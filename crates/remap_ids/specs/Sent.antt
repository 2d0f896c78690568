-- What is sent in the place of a captured call.
use Rattle.std.specs.Prelude.{ℕ, ◌+◌, ◌<◌, List, map, Option, None, Some}
use Rattle.std.specs.List.{AllByRecursion}
use Rattle.std.specs.Option.{unwrap_or}
use Rattle.desk_values.specs.declared.call.Call.{Call}
use Rattle.desk_values.specs.declared.call.Call.TheVariants.{Connect, Sql, Disconnect}
use Rattle.desk_values.specs.declared.value.Value.{Value}
use Rattle.desk_values.specs.declared.value.Value.TheVariants as value
use Rattle.id_pairs.specs.declared.Id.{Id}
use Rattle.id_pairs.specs.declared.Id.TheVariants.{Row, Draw}
use Rattle.id_pairs.specs.Ids.{id_of, id_value}
use Rattle.id_pairs.specs.Pairs.{IdPair, image_in}
use Rattle.remap_ids.specs.Limits.{unknown_from}
use Rattle.remap_ids.specs.Services.{ServicePair, sent_for}

-- below `unknown_from`, where the ids are that a server gives out
abbrev pub IsLow : Value → Type 0
IsLow (value.Row n) = n < unknown_from
IsLow (value.Draw sequence n) = n < unknown_from
IsLow other = Unit {0}

abbrev pub HasLowIds : Call → Type 0
HasLowIds (Sql text binds) = AllByRecursion IsLow binds
HasLowIds other = Unit {0}

-- the same kind of id, where no server ever gives one out
abbrev pub unknown : Id → Id
unknown (Row n) = Row (n + unknown_from)
unknown (Draw sequence n) = Draw sequence (n + unknown_from)

-- the id's image; where it has none, an id that no server knows
abbrev pub sent_id : List IdPair → Id → Id
sent_id pairs id = unwrap_or (image_in pairs id) (unknown id)

-- a value that is no id is sent as it is
abbrev pub sent_or : List IdPair → Value → Option Id → Value
sent_or pairs value None = value
sent_or pairs value (Some id) = id_value (sent_id pairs id)

abbrev pub sent_value : List IdPair → Value → Value
sent_value pairs value = sent_or pairs value (id_of value)

-- a service that the remap lacks is sent as it is
abbrev pub sent_service : List ServicePair → List ℕ → List ℕ
sent_service services service = unwrap_or (sent_for services service) service

abbrev pub sent : List IdPair → List ServicePair → Call → Call
sent pairs services (Connect service) = Connect (sent_service services service)
sent pairs services (Sql text binds) = Sql text (map (sent_value pairs) binds)
sent pairs services Disconnect = Disconnect
