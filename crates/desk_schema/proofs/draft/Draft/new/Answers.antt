use Rattle.std.proofs.Common.{rules}
use Rattle.desk_schema.proofs.Drafting.{opened}
use Rattle.desk_schema.proofs.draft.Draft.new.Goals as goal

pub invariant_of-result : goal.invariant_of-result
invariant_of-result c = opened c.args.level (search rules) (search rules) (search rules)
