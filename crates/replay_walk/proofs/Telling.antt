-- What the servers tell of a call is told on the walk.
use Rattle.std.proofs.Common.{Bool, refl}
use Rattle.std.specs.Prelude.{Err, IfOk, Ok, OnOk, Result}
use Rattle.desk_values.specs.declared.capture.Captured.{Captured}
use Rattle.desk_values.specs.declared.memory.Memory.{Memory}
use Rattle.replay_job.specs.Job.{JobView}
use Rattle.replay_walk.specs.declared.servers.Servers.{Servers}
use Rattle.replay_walk.specs.declared.along.Asks.{Asks}
use Rattle.replay_walk.specs.declared.along.Progress.{Progress}
use Rattle.replay_walk.specs.Inside.Passing.{HaveTold, IsToldTwin, stage_of}
use Rattle.replay_walk.specs.Inside.Walking.{HasTold}

pub told_both : (job : JobView) (asks : Asks) (call : Captured) (old : Progress) (servers : Servers) (r : Result Bool Memory) → IfOk r (IsToldTwin job call (stage_of old.servers)) → OnOk r (HaveTold job call.stamp old.servers servers)
    → IfOk r (HasTold job asks call old (record old { servers = servers }))
told_both job asks call old servers (Ok twin) told rest = record {
  told = λ marked. told;
  both = rest.both;
  replay = rest.replay;
  map = rest.map;
  at = rest.at;
  others = rest.others;
  quiet = refl;
  open_calls = refl;
  twins = refl;
}
told_both job asks call old servers (Err memory) told rest = tt
