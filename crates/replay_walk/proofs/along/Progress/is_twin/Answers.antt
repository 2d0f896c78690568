use Rattle.std.proofs.Common.{refl}
use Rattle.std.proofs.lemmas.Bool.{both_ways}
use Rattle.replay_job.specs.Job.{seen}
use Rattle.replay_walk.proofs.Telling.{told_both}
use Rattle.replay_walk.proofs.along.Progress.is_twin.Goals as goal

pub returns-then-not-asked : goal.returns-then-not-asked
returns-then-not-asked c = record {
  told = λ marked. absurd (both_ways _ c.if-not-asked.true marked);
  both = c.requires.may.both;
  replay = refl;
  map = refl;
  at = refl;
  others = λ k apart has. has;
  quiet = refl;
  open_calls = refl;
  twins = refl;
}

pub is_twin-requires-clause-may : goal.is_twin-requires-clause-may
is_twin-requires-clause-may c =
    let may = c.requires.may in
    record { sound = may.sound; at = may.at; both = may.both; tables = may.tables c.if-not-asked.false; aside = may.aside c.if-not-asked.false }

pub returns : goal.returns
returns c = told_both (seen c.args.job.now) c.args.asks c.args.call.now c.args.self.now c.is_twin.new.self c.is_twin.result c.is_twin.ensures.told c.is_twin.ensures.rest
