-- Twin calls, by their parts. Words of private clauses; they need not be believed.
use Rattle.std.specs.Prelude.{◌≡◌, ℕ, List, is_some}
use Rattle.desk_values.specs.declared.value.Value.{Value}
use Rattle.desk_values.specs.declared.call.Call.{Call}
use Rattle.desk_values.specs.declared.call.Call.TheVariants.{Connect, Sql, Disconnect}
use Rattle.desk_schema.specs.Schema.{SchemaView, rights_of}
use Rattle.id_pairs.specs.Pairs.{IdPair}
use Rattle.id_pairs.specs.Renaming.{AreRenamed}

abbrev pub AsksTheSame : List IdPair → List ℕ → List Value → Call → Type 0
AsksTheSame pairs text binds (Sql other others) = (text ≡ other) × AreRenamed pairs binds others
AsksTheSame pairs text binds (Connect service) = ⊥
AsksTheSame pairs text binds Disconnect = ⊥

abbrev pub ConnectsAlike : SchemaView → List ℕ → Call → Type 0
ConnectsAlike schema service (Connect other) = is_some (rights_of schema.services service) ≡ is_some (rights_of schema.services other)
ConnectsAlike schema service (Sql text binds) = ⊥
ConnectsAlike schema service Disconnect = ⊥

abbrev pub IsEnd : Call → Type 0
IsEnd Disconnect = Unit {0}
IsEnd (Sql text binds) = ⊥
IsEnd (Connect service) = ⊥

abbrev pub HaveTwinParts : SchemaView → List IdPair → Call → Call → Type 0
HaveTwinParts schema pairs (Sql text binds) sent = AsksTheSame pairs text binds sent
HaveTwinParts schema pairs (Connect service) sent = ConnectsAlike schema service sent
HaveTwinParts schema pairs Disconnect sent = IsEnd sent
