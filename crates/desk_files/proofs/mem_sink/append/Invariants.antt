use Rattle.std.proofs.Common.{◌≡◌, ◌+◌, ◌≤◌, ◌++◌, take}
use Rattle.desk_files.proofs.mem_sink.append.Given as goal

abbrev pub invariant-loop-byte : goal.invariant-loop-byte
invariant-loop-byte l = record {
  items : l.to.items ≡ l.fn.to.items ++ take l.byte-index l.bytes;
  spare : l.fn.to.spare ≤ l.to.spare + l.byte-index;
}
