-- A map of ids as contracts see it, and the map of a start.
use Rattle.std.specs.Prelude.{ℕ, List, [], ◌∷◌, Option, None, Some}
use Rattle.std.specs.List.{flat_map}
use Rattle.desk_values.specs.declared.value.Value.{Value}
use Rattle.desk_values.specs.Ids.{ids_of_image}
use Rattle.desk_schema.specs.Start.{StartView}
use Rattle.id_pairs.specs.declared.Id.{Id}
use Rattle.id_pairs.specs.Ids.{id_of}
use Rattle.id_pairs.specs.Pairs.{IdPair, all_new}

pub record IdMapView : Type 0 where
  -- in the order in which they were learnt
  pub pairs : List IdPair
  -- how many of them are the start's; those stand first
  pub own : ℕ
  -- how many more it takes without asking for memory
  pub spare : ℕ

-- the id with itself
abbrev pub own_pair : Option Id → List IdPair
own_pair None = []
own_pair (Some id) = (id, id) ∷ []

abbrev pub own_pairs : List Value → List IdPair
own_pairs values = flat_map (λ value. own_pair (id_of value)) values

-- each id of the start's rows, with itself
abbrev pub start_pairs : StartView → List IdPair
start_pairs start = all_new [] (own_pairs (flat_map ids_of_image start.rows))
