use Rattle.std.proofs.Common.{◌≡◌, ◌++◌, codes}
use Rattle.std.specs.List.{flat_map, range_with_len}
use Rattle.replay_history.specs.Texts.{line}
use Rattle.object_depends.specs.Csv.{call_lines}
use Rattle.object_depends.proofs.csv.written.Given as goal

abbrev pub invariant-loop-k : goal.invariant-loop-k
invariant-loop-k l = l.text ≡ line (codes "stamp,mode,count,last") ++ flat_map (call_lines l.facts) (range_with_len 0 l.k)
