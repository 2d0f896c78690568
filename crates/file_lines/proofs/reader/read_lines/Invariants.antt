use Rattle.std.proofs.Common.{◌+◌, ◌≤◌, length}
use Rattle.file_lines.proofs.Files.{SoFar}
use Rattle.file_lines.proofs.reader.read_lines.Given as goal

abbrev pub invariant-lines : goal.invariant-lines
invariant-lines g l = record {
  so_far : SoFar g.F.LineFile.comes g.F.LineFile.done (g.F.LineFile.state l.initial.file) l.bytes (g.F.LineFile.state l.file) l.line l.rest;
  within : l.line + length l.rest ≤ length l.bytes + 1;
}

abbrev pub decreases-lines : goal.decreases-lines
decreases-lines g l = length l.rest
