use Rattle.std.proofs.Common.{◌++◌}
use Rattle.known_ids.proofs.Entries.{knows_reply}
use Rattle.known_ids.proofs.known.KnownIds.add_reply.Goals as goal

pub returns-in_ok-add-clause-then_on : goal.returns-in_ok-add-clause-then_on
returns-in_ok-add-clause-then_on c = λ count known from knows. knows_reply c.add.new.self count known c.as_slice.result.now c.in-Some.row c.args.reply.now c.in-Some.is c.as_slice.ensures
    (c.in_ok-add.ensures.then_on count (known ++ c.as_slice.result.now) from (c.in_ok-add_values.ensures.then_on count known from knows))
