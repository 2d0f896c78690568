use Rattle.std.proofs.Common.{arith}
use Rattle.replay_core.proofs.Desks.{executed_call, sent_gives}
use Rattle.replay_core.proofs.desk.executed.Goals as goal

pub learn-requires : goal.learn-requires
learn-requires c =
    let call = c.index-as_slice-k.result in
    let may = executed_call c.requires.call c.as_slice.ensures c.index-as_slice-k.is in
    let gives = sent_gives c.args.engine.now.state c.step.new.self.state call.session call.call c.in_ok-sent.sent c.args.map.now.pairs c.reserve.new.self.pairs c.args.job.now.remap c.in_ok-reply.reply c.in_ok-sent.ensures c.reserve.ensures.pairs c.in_ok-reply.ensures.ok in
    rw c.reserve.ensures.pairs (may.new_ids c.in_ok-reply.reply c.step.new.self.state gives)

pub unwrap-requires : goal.unwrap-requires
unwrap-requires c =
    let may = executed_call c.requires.call c.as_slice.ensures c.index-as_slice-k.is in
    c.learn.ensures.succeeds (omega (arith, c.in_ok-reserve.ensures.ok, may.few))

pub returns-clause-ok : goal.returns-clause-ok
returns-clause-ok c =
    let call = c.index-as_slice-k.result in
    let may = executed_call c.requires.call c.as_slice.ensures c.index-as_slice-k.is in
    let gives = sent_gives c.args.engine.now.state c.step.new.self.state call.session call.call c.in_ok-sent.sent c.args.map.now.pairs c.reserve.new.self.pairs c.args.job.now.remap c.in_ok-reply.reply c.in_ok-sent.ensures c.reserve.ensures.pairs c.in_ok-reply.ensures.ok in
    (call, may.at, gives, rw (c.unwrap.ensures, c.reserve.ensures.pairs) at c.learn.ensures.ok)
