use Rattle.std.proofs.Common.{◌≡◌, take}
use Rattle.remap_ids.proofs.remap.RemapCopied.copy.Given as goal

abbrev pub invariant-loop-place : goal.invariant-loop-place
invariant-loop-place l = take l.place l.self ≡ l.copy
