-- The tables of a capture as a replay has them.
use Rattle.std.specs.Prelude.{List}
use Rattle.desk_values.specs.declared.value.Image.{Image}
use Rattle.server_words.specs.Rows.{IsRising}
use Rattle.server_words.specs.State.{State, opening}
use Rattle.server_words.specs.Step.{Gives}
use Rattle.replay_history.specs.Capture.{IsRun}
use Rattle.id_pairs.specs.Pairs.{IdPair}
use Rattle.law_server.specs.Rows.Bags.{AreBags}
use Rattle.law_server.specs.Rows.Images.{IsRenamedImage}
use Rattle.replay_job.specs.Job.{JobView}

-- the state that the captured server came to
abbrev pub CameTo : JobView → State → Type 0
CameTo job state = IsRun Gives (opening job.start) job.calls state

-- the one list is the other, each number of a row and each id renamed to what the pairs give for it, and sorted by row
pub record AreCarried (pairs : List IdPair) (captured replayed : List Image) : Type 0 where
  pub rows : AreBags (IsRenamedImage pairs) captured replayed
  pub ascending : IsRising replayed
