-- Calls are twins just where their parts are.
use Rattle.std.proofs.Common.{ℕ, List, refl, subst}
use Rattle.desk_values.specs.declared.call.Call.{Call}
use Rattle.desk_values.specs.declared.call.Call.TheVariants.{Connect, Sql, Disconnect}
use Rattle.desk_schema.specs.Schema.{SchemaView}
use Rattle.id_pairs.specs.Pairs.{IdPair}
use Rattle.law_server.specs.Renaming.Twins.{AreTwinCalls, asks, connects, ends}
use Rattle.replay_walk.specs.Inside.Calls.{HaveTwinParts}

module _ (schema : SchemaView) (pairs : List IdPair) where
  pub parts_of : {call sent : Call} → AreTwinCalls schema pairs call sent → HaveTwinParts schema pairs call sent
  parts_of ends = tt
  parts_of (asks text binds others renamed) = (refl, renamed)
  parts_of (connects service other same) = same

  pub of_parts : (call sent : Call) → HaveTwinParts schema pairs call sent → AreTwinCalls schema pairs call sent
  of_parts Disconnect Disconnect parts = ends
  of_parts (Sql text binds) (Sql other others) parts = subst (λ (t : List ℕ). AreTwinCalls schema pairs (Sql text binds) (Sql t others)) parts.0 (asks text binds others parts.1)
  of_parts (Connect service) (Connect other) parts = connects service other parts
  of_parts Disconnect (Sql text binds) parts = absurd parts
  of_parts Disconnect (Connect service) parts = absurd parts
  of_parts (Sql text binds) Disconnect parts = absurd parts
  of_parts (Sql text binds) (Connect service) parts = absurd parts
  of_parts (Connect service) Disconnect parts = absurd parts
  of_parts (Connect service) (Sql text binds) parts = absurd parts
