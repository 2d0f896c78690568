use Rattle.desk_files.proofs.HostLaws.{All-stated}
use Rattle.desk_files.proofs.mem_host.MemHost.new.Goals as goal

pub invariant_of-result : goal.invariant_of-result
invariant_of-result c = rw c.in_ok-ends_of.ensures (All-stated c.args.conns)
