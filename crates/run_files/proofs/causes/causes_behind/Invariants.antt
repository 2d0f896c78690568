use Rattle.std.proofs.Common.{◌≡◌, drop}
use Rattle.run_files.specs.CausesFile.{stamps_of}
use Rattle.run_files.specs.Inside.Reading.{causes_behind, onto}
use Rattle.run_files.proofs.causes.causes_behind.Given as goal

-- what was read, and what is read behind it
abbrev pub invariant-loop-line : goal.invariant-loop-line
invariant-loop-line l = onto l.causes (causes_behind (stamps_of (drop l.line-index l.lines)) l.rest) ≡ causes_behind (stamps_of l.lines) l.bytes
