-- Replies that are equal after a map of ids.
use Rattle.std.specs.Prelude.{ℕ, List, Option, None, Some}
use Rattle.std.specs.List.{Contains}
use Rattle.desk_values.specs.declared.value.Value.{Value}
use Rattle.desk_values.specs.declared.value.Image.{Image}
use Rattle.desk_values.specs.declared.fault.Fault.{Fault}
use Rattle.desk_values.specs.declared.call.Outcome.{Outcome}
use Rattle.desk_values.specs.declared.call.Outcome.TheVariants.{Rows, Count, Committed, RolledBack, Marked, Connected, Disconnected, Refused}
use Rattle.desk_values.specs.declared.call.Reply.{Reply}
use Rattle.id_pairs.specs.declared.Id.TheVariants.{Row}
use Rattle.id_pairs.specs.Pairs.{IdPair}
use Rattle.id_pairs.specs.Renaming.{AreRenamed}
use Rattle.law_server.specs.Rows.Bags.{AreBags}
use Rattle.law_server.specs.Rows.Images.{IsRenamedImage}

-- rows and images are renamed one to one, in whatever order; counts and faults stay
pub data IsRenamedOutcome (pairs : List IdPair) : Outcome → Outcome → Type 0 where
  rows : (found others : List (List Value)) → AreBags (AreRenamed pairs) found others
      → IsRenamedOutcome pairs (Rows found) (Rows others)
  count : (n : ℕ) → IsRenamedOutcome pairs (Count n) (Count n)
  committed : (images others : List Image) → AreBags (IsRenamedImage pairs) images others
      → IsRenamedOutcome pairs (Committed images) (Committed others)
  rolled_back : IsRenamedOutcome pairs RolledBack RolledBack
  marked : IsRenamedOutcome pairs Marked Marked
  connected : IsRenamedOutcome pairs Connected Connected
  disconnected : IsRenamedOutcome pairs Disconnected Disconnected
  refused : (fault : Fault) → IsRenamedOutcome pairs (Refused fault) (Refused fault)

-- both made a row, or neither did
abbrev pub IsRenamedMade : List IdPair → Option ℕ → Option ℕ → Type 0
IsRenamedMade pairs None None = Unit {0}
IsRenamedMade pairs (Some row) (Some other) = Contains pairs (Row row, Row other)
IsRenamedMade pairs made other = ⊥

pub record IsRenamedReply (pairs : List IdPair) (reply other : Reply) : Type 0 where
  pub outcome : IsRenamedOutcome pairs reply.outcome other.outcome
  pub draws : AreRenamed pairs reply.draws other.draws
  pub made : IsRenamedMade pairs reply.made other.made
