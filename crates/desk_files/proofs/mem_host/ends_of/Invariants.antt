use Rattle.std.proofs.Common.{◌≡◌, ◌++◌, map}
use Rattle.std.specs.Vec.Iter.{into_iter_items}
use Rattle.desk_files.specs.MemoryHosts.{stated}
use Rattle.desk_files.proofs.mem_host.ends_of.Given as goal

-- those that are ready, and those that come
abbrev pub invariant-loop-conn : goal.invariant-loop-conn
invariant-loop-conn l = l.ends.items ++ map stated (into_iter_items l.conn-iterator) ≡ map stated l.fn.conns
