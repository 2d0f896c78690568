use Rattle.std.proofs.Common.{◌≡◌}
use Rattle.desk_files.proofs.WriteLaws.{AfterFirst}
use Rattle.desk_files.proofs.writes.write_all.Given as goal

abbrev pub invariant-loop-write : goal.invariant-loop-write
invariant-loop-write g l = record {
  so_far : AfterFirst l.write-index l.writes (g.F.Files.account l.fn.files).content (g.F.Files.account l.files).content;
  faults : (g.F.Files.account l.files).faults ≡ (g.F.Files.account l.fn.files).faults;
}
