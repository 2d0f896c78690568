use Rattle.std.proofs.Common.{◌∙◌, length, refl, sym, arith}
use Rattle.std.proofs.lemmas.Bool.{both_ways, or_parts}
use Rattle.replay_job.specs.Job.{seen}
use Rattle.replay_walk.specs.Walked.{marked_at}
use Rattle.replay_walk.proofs.Behinds.{kept_none}
use Rattle.replay_walk.proofs.along.Progress.come_along.Goals as goal

pub is_asked-requires : goal.is_asked-requires
is_asked-requires c = omega (arith, c.requires.twins, c.requires.may.within)

-- nothing is asked of the call
pub returns-then-not-is_asked : goal.returns-then-not-is_asked
returns-then-not-is_asked c =
    let none = or_parts c.args.asks.reads (marked_at c.args.asks.twins.now c.args.stamp) (sym c.is_asked.ensures ∙ c.if-not-is_asked.true) in
    record {
      both = c.requires.may.both;
      reads = λ asked. absurd (both_ways c.args.asks.reads none.0 asked);
      twins = λ asked. absurd (both_ways (marked_at c.args.asks.twins.now c.args.stamp) none.1 asked);
      kept = kept_none (seen c.args.job.now) c.args.asks.twins.now c.args.self.now.servers.behind;
      replay = refl;
      map = refl;
      quiet = refl;
      open_calls = refl;
      twin_marks = refl;
    }

pub come_past-requires-clause-replayable : goal.come_past-requires-clause-replayable
come_past-requires-clause-replayable c = c.requires.may.sound.replayable

pub come_past-requires-clause-stamp : goal.come_past-requires-clause-stamp
come_past-requires-clause-stamp c = c.requires.may.within

pub come_past-requires-clause-both : goal.come_past-requires-clause-both
come_past-requires-clause-both c = c.requires.may.both

pub returns : goal.returns
returns c =
    let come = c.in_ok-come_past.ensures in
    record {
      both = come.both;
      reads = λ asked. come.past;
      twins = λ asked. come.past;
      kept = come.kept;
      replay = come.replay;
      map = come.map;
      quiet = refl;
      open_calls = refl;
      twin_marks = refl;
    }
