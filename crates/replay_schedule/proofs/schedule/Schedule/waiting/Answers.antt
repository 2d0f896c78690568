use Rattle.std.proofs.Common.{◌≡◌, false, length, arith}
use Rattle.std.proofs.lemmas.List.{get_or_past, get_or_read_under}
use Rattle.replay_schedule.proofs.Gates.Gates.{waiting_tells}
use Rattle.replay_schedule.proofs.schedule.Schedule.waiting.Goals as goal

pub returns-then-stamp-len : goal.returns-then-stamp-len
returns-then-stamp-len c =
    let long : c.len.result ≡ length c.self.inside.waiting.items = omega (arith, c.len.ensures) in
    let there = get_or_read_under c.self.inside.waiting.items c.args.k c.len.result c.index.result.now false c.index.ensures c.if-stamp-len.true long in
    rw (← c.self.view_is) (λ history follows. rw there (waiting_tells follows c.args.k))

pub returns-else-stamp-len : goal.returns-else-stamp-len
returns-else-stamp-len c =
    let past = get_or_past c.self.inside.waiting.items c.args.k false (omega (arith, c.len.ensures, c.if-stamp-len.false)) in
    rw (← c.self.view_is) (λ history follows. rw past at (waiting_tells follows c.args.k))
