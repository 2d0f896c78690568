use Rattle.std.proofs.Common.{◌≡◌, take, length}
use Rattle.remap_ids.proofs.remap.RemapSame.same.Given as goal

abbrev pub invariant-loop-place : goal.invariant-loop-place
invariant-loop-place l = record { front : take l.place l.self ≡ take l.place l.other; length : length l.self ≡ length l.other }
