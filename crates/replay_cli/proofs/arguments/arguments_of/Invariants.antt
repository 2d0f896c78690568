use Rattle.std.proofs.Common.{◌≡◌, ◌++◌, map, drop}
use Rattle.desk_files.specs.Outside.{Told}
use Rattle.replay_cli.specs.Called.{word_in}
use Rattle.replay_cli.proofs.arguments.arguments_of.Given as goal

abbrev pub invariant-loop-place : goal.invariant-loop-place
invariant-loop-place g l = Told (g.C.Called.words l.called) (λ all. l.words ++ map word_in (drop l.place all) ≡ map word_in (drop 1 all))
