use Rattle.std.proofs.Common.{rules}
use Rattle.desk_schema.proofs.Drafting.{finished}
use Rattle.desk_schema.proofs.draft.Draft.finish.Goals as goal

pub from_parts-requires : goal.from_parts-requires
from_parts-requires c = finished c.self.view_is c.self.invariant c.args.next_row (search rules) (search rules)
