use Rattle.std.proofs.Common.{List, ◌++◌, ◌∙◌, ap}
use Rattle.desk_files.specs.declared.writes.Write.{Write}
use Rattle.replay_cli.specs.Done.{told_files}
use Rattle.replay_cli.proofs.plan.replayed_files.Goals as goal

pub returns : goal.returns
returns c = record { told = c.in_ok-told.told; told_is = c.in_ok-told.ensures; writes_are = c.in_ok-append_told.ensures ∙ ap (λ (writes : List Write). writes ++ told_files c.args.out.now c.in_ok-told.told) c.in_ok-writes.ensures }
