use Rattle.std.proofs.Common.{◌≡◌, ◌++◌, ◌<◌, length, take, rules, arith}
use Rattle.remote_link.proofs.Keeping.{came_so}
use Rattle.remote_link.proofs.inbox.Inbox.read_more.Goals as goal

pub returns-clause-came : goal.returns-clause-came
returns-clause-came g c =
    let is : c.extend_from_slice.new.self.items ≡ c.args.self.now ++ take c.in-Ok.n c.read.new.buffer = search rules in
    let some : 0 < length c.read.new.buffer = omega arith in
    came_so c.in-Ok.n c.read.new.buffer c.args.self.now c.extend_from_slice.new.self.items (g.I.Source.account c.args.input.now).content (g.I.Source.account c.read.new.self).content 0 0 is c.in-Ok.ensures.fits some c.in-Ok.ensures.reads
