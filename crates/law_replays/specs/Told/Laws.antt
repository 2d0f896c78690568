-- The law of told ids.
use Rattle.std.specs.Prelude.{ℕ, List}
use Rattle.desk_values.specs.declared.call.Call.{Call}
use Rattle.server_words.specs.State.{State}
use Rattle.server_words.specs.Step.{reply_in, step}
use Rattle.replay_history.specs.Capture.{binds_of}
use Rattle.id_pairs.specs.Pairs.{HasNoIdTwice, IdPair}
use Rattle.id_pairs.specs.Renaming.{AreRenamed}
use Rattle.law_server.specs.Renaming.Replies.{IsRenamedOutcome}
use Rattle.law_replays.specs.Told.Own.{GivesOwn, HasOwnIds}

-- where each id of a state's rows, of a call's binds and of what the reply gives stands for itself, so does each id that the reply's
-- outcome tells, and each of the rows afterwards
abbrev pub StepsTellOwnIds : Type 0
StepsTellOwnIds = (pairs : List IdPair) (state : State) (session : ℕ) (call : Call) → HasNoIdTwice pairs
    → HasOwnIds pairs state → AreRenamed pairs (binds_of call) (binds_of call)
    → GivesOwn pairs (reply_in state session call)
    → IsRenamedOutcome pairs (reply_in state session call).outcome (reply_in state session call).outcome
    × HasOwnIds pairs (step state session call)
