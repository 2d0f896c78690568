use Rattle.std.proofs.Common.{sym, ◌∙◌}
use Rattle.run_files.specs.Fitting.{times_in}
use Rattle.run_files.proofs.Timing.{times_left, times_taken}
use Rattle.run_files.proofs.times.note.Goals as goal

pub returns-in-Some : goal.returns-in-Some
returns-in-Some c = λ history n are.
    times_taken c.args.kind history c.args.event.now c.in-Some.stamp n c.add_at.new.times.items (sym c.stamp_in.ensures ∙ c.in-Some.is) (c.add_at.ensures (times_in c.args.kind history) n are)

pub returns-in-None : goal.returns-in-None
returns-in-None c = λ history n are. times_left c.args.kind history c.args.event.now n c.args.times.now.items (sym c.stamp_in.ensures ∙ c.in-None.is) are
