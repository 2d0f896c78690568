use Rattle.std.proofs.Common.{◌≡◌, ◌∙◌, Bool, List, length, ap, subst, sym}
use Rattle.replay_job.specs.Job.{seen}
use Rattle.replay_walk.specs.Walked.{AreTold}
use Rattle.replay_cli.proofs.told.told_along.Goals as goal

pub walk-requires-clause-sound : goal.walk-requires-clause-sound
walk-requires-clause-sound c = c.requires.replay.1.sound

pub walk-requires-clause-complete : goal.walk-requires-clause-complete
walk-requires-clause-complete c = (c.requires.replay.0, c.requires.replay.1.complete)

pub walk-requires-clause-twins : goal.walk-requires-clause-twins
walk-requires-clause-twins c = ap length c.as_slice.ensures.value ∙ c.in_ok-differs.ensures.count

pub reads_of-requires-clause-sound : goal.reads_of-requires-clause-sound
reads_of-requires-clause-sound c = c.requires.replay.1.sound

pub returns : goal.returns
returns c =
    let job = seen c.args.job.now in
    let history = c.args.history.now.items in
    let twins = c.in_ok-walked.walked.twins.items in
    let told = subst (λ (asked : List Bool). AreTold job history asked twins) (c.as_slice.ensures.value ∙ c.in_ok-differs.ensures.marks) c.in_ok-walked.ensures.twins in
    record {
      reads_are = c.in_ok-reads.ensures history c.in_ok-walked.ensures.open_calls;
      causes_are = c.in_ok-causes.ensures job history c.requires.replay.0 c.requires.replay.1 c.requires.report told;
    }
