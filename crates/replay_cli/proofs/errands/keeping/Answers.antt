use Rattle.std.proofs.Common.{◌∙◌, ap}
use Rattle.desk_files.specs.Outside.{raised}
use Rattle.replay_cli.proofs.Closings.{settled_done, settled_fails}
use Rattle.replay_cli.proofs.errands.keeping.Goals as goal

pub returns-clause-done : goal.returns-clause-done
returns-clause-done g c =
    rw c.settled.ensures (settled_done c.args.errand.now (g.K.Keeper.account c.args.keeper.now) (g.K.Keeper.account c.do_errand-done.new.keeper) (g.K.Keeper.account c.close-closed.new.self) c.close-closed.ensures.runs c.close-closed.ensures.divergences
    c.do_errand-done.result c.close-closed.result c.do_errand-done.ensures.done c.close-closed.ensures.faults)

pub returns-clause-fails : goal.returns-clause-fails
returns-clause-fails g c =
    rw c.settled.ensures (settled_fails c.args.errand.now (g.K.Keeper.account c.args.keeper.now) (g.K.Keeper.account c.do_errand-done.new.keeper) (g.K.Keeper.account c.close-closed.new.self) c.close-closed.ensures.runs c.close-closed.ensures.divergences
    c.do_errand-done.result c.close-closed.result c.do_errand-done.ensures.done c.do_errand-done.ensures.fails c.close-closed.ensures.faults)

pub returns-clause-closed : goal.returns-clause-closed
returns-clause-closed g c = c.close-closed.ensures.closes ∙ ap raised c.do_errand-done.ensures.closes
