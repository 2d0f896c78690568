use Rattle.std.proofs.Common.{arith}
use Rattle.desk_files.proofs.HostLaws.{TakesFirst-popped}
use Rattle.desk_files.proofs.mem_host.MemHostHost.accept.Goals as goal

pub returns-clause-takes : goal.returns-clause-takes
returns-clause-takes c =
    let len = c.self.inside.waiting.ok.0 in
    rw (← c.self.view_is) (TakesFirst-popped c.pop_front-taken.result c.self.inside.waiting.items c.pop_front-taken.new.self.items c.pop_front-taken.ensures.items (λ some. c.pop_front-taken.ensures.variant.1 (omega arith)) c.self.invariant)
