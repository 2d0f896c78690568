use Rattle.known_ids.proofs.Entries.{knows_calls}
use Rattle.known_ids.proofs.known.KnownIds.of_calls.Goals as goal

pub loop-k-preserved : goal.loop-k-preserved
loop-k-preserved c = knows_calls c.loop-k.known c.add_reply.new.self c.args.rows.now c.args.calls.now c.loop-k.k c.index-calls-k.result c.loop-k-test.true c.index-calls-k.is
    c.in_ok-add_reply.ensures.then_on c.in_ok-add_reply.ensures.before c.loop-k.invariant
