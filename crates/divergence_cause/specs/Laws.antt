-- The laws of causes.
use Rattle.std.specs.Prelude.{◌≡◌, ◌↔◌, ℕ, List}
use Rattle.desk_values.specs.declared.call.Call.{Call}
use Rattle.desk_values.specs.declared.capture.Event.{Event}
use Rattle.server_words.specs.Sound.{IsSoundState}
use Rattle.server_words.specs.State.{State}
use Rattle.server_words.specs.Views.{IsViewOf}
use Rattle.server_words.specs.declared.views.View.{View as Handed}
use Rattle.id_pairs.specs.Pairs.{IdPair, IsIdMap}
use Rattle.law_server.specs.Renaming.Laws.{view_before}
use Rattle.law_server.specs.Renaming.Twins.{AreTwinViews}
use Rattle.replay_job.specs.Job.{JobView}
use Rattle.replay_job.specs.Runs.{Stage}
use Rattle.law_replays.specs.End.Answers.{IsReplay}
use Rattle.divergence_cause.specs.declared.cause.CauseLine.{CauseLine}
use Rattle.divergence_cause.specs.Causes.{AllAreTiming, AreCauses}
use Rattle.divergence_cause.specs.Twins.{AreTwins}

-- views that are handed out are one but for ids just where what two calls can depend on is
abbrev pub HandedTwinsAreTwins : Type 0
HandedTwinsAreTwins = (pairs : List IdPair) (state other : State) (session place : ℕ) (call sent : Call) (handed replayed : Handed)
    → IsIdMap pairs → IsSoundState state → IsSoundState other
    → IsViewOf (view_before state session call) handed → IsViewOf (view_before other place sent) replayed
    → AreTwins pairs handed replayed ↔ AreTwinViews pairs (view_before state session call) (view_before other place sent)

-- where both servers have one schema, no call differs for the server
abbrev pub NoUpgradeWhereUnchanged : Type 0
NoUpgradeWhereUnchanged = (job : JobView) (history : List Event) (last : Stage) (lines : List CauseLine)
    → IsReplay job history last → job.target.schema ≡ job.start.schema → AreCauses job history lines → AllAreTiming lines

-- a replay has one list of causes
abbrev pub OneListOfCauses : Type 0
OneListOfCauses = (job : JobView) (history : List Event) (lines others : List CauseLine)
    → AreCauses job history lines → AreCauses job history others → lines ≡ others
