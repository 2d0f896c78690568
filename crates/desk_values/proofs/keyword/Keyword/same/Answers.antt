use Rattle.desk_values.proofs.Keywords.{same_by_number}
use Rattle.desk_values.proofs.keyword.Keyword.same.Goals as goal

pub returns : goal.returns
returns c = same_by_number c.args.self c.args.other
