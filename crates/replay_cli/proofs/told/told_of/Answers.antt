use Rattle.std.proofs.Common.{◌∙◌, sym}
use Rattle.std.proofs.lemmas.Bool.{and_parts}
use Rattle.replay_job.specs.Job.{seen}
use Rattle.replay_cli.proofs.Untold.{no_causes, not_fenced}
use Rattle.replay_cli.proofs.told.told_of.Goals as goal

pub returns-then-is_untold : goal.returns-then-is_untold
returns-then-is_untold c =
    let none = and_parts _ _ (sym c.is_untold.ensures ∙ c.if-is_untold.true) in
    record {
      reads_are = not_fenced (seen c.args.job.now) c.is_fenced-fenced.result c.is_fenced-fenced.ensures none.0;
      causes_are = no_causes (seen c.args.job.now) c.args.history.now.items c.args.report.now c.requires.report none.1 _ c.new.ensures;
    }

pub told_along-requires-clause-fenced : goal.told_along-requires-clause-fenced
told_along-requires-clause-fenced c = c.is_fenced-fenced.ensures
