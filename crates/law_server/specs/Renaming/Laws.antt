-- The law of renaming for answers.
use Rattle.std.specs.Prelude.{◌≡◌, ℕ, List, ◌++◌, length}
use Rattle.desk_values.specs.declared.call.Call.{Call}
use Rattle.desk_values.specs.declared.call.Reply.{Reply}
use Rattle.desk_schema.specs.Schema.{SchemaView}
use Rattle.server_words.specs.Sound.{IsSoundState}
use Rattle.server_words.specs.State.{State}
use Rattle.server_words.specs.Step.{reply_in, view_for}
use Rattle.server_words.specs.View.{View}
use Rattle.server_words.specs.Request.{request_of}
use Rattle.server_words.specs.Answer.{answer}
use Rattle.id_pairs.specs.Pairs.{HasNoIdTwice, IdPair, IsIdMap, learnt}
use Rattle.law_server.specs.Renaming.Twins.{AreTwinCalls, AreTwinViews, IsRisingView}
use Rattle.law_server.specs.Renaming.Replies.{IsRenamedReply}

abbrev pub reply_to : SchemaView → View → List ℕ → ℕ → Call → Reply
reply_to schema view next_values row call = (answer schema view next_values row (request_of schema call)).reply

-- two servers of one schema answer twin calls at twin views so that the replies are equal after the map that is lengthened by
-- what both replies gave, where no id stands twice on one side of it. Views rise, and each server has a next value for every
-- sequence, as in all states that it comes to: else rows would be counted twice, or one would draw less than the other
abbrev pub AnswersAreRenamed : Type 0
AnswersAreRenamed =
    (schema : SchemaView) (pairs : List IdPair) (view other : View) (call sent : Call) (next_values others : List ℕ) (row made : ℕ)
    → let reply = reply_to schema view next_values row call in
    let replayed = reply_to schema other others made sent in
    IsIdMap pairs → IsRisingView view → IsRisingView other → length next_values ≡ length schema.sequences
    → length others ≡ length schema.sequences
    → HasNoIdTwice (pairs ++ learnt reply replayed) → AreTwinViews pairs view other → AreTwinCalls schema pairs call sent
    → IsRenamedReply (pairs ++ learnt reply replayed) reply replayed

-- what a session's call can depend on
abbrev pub view_before : State → ℕ → Call → View
view_before state session call = view_for state session (request_of state.start.schema call)

-- the same of two states of the server that have one schema: twin calls of sessions whose views are twins
abbrev pub RepliesAreRenamed : Type 0
RepliesAreRenamed = (pairs : List IdPair) (state other : State) (session place : ℕ) (call sent : Call)
    → let reply = reply_in state session call in
    let replayed = reply_in other place sent in
    IsSoundState state → IsSoundState other → state.start.schema ≡ other.start.schema → IsIdMap pairs
    → HasNoIdTwice (pairs ++ learnt reply replayed)
    → AreTwinViews pairs (view_before state session call) (view_before other place sent)
    → AreTwinCalls state.start.schema pairs call sent
    → IsRenamedReply (pairs ++ learnt reply replayed) reply replayed

-- the views of a sound server rise
abbrev pub ViewsRise : Type 0
ViewsRise = (state : State) (session : ℕ) (call : Call) → IsSoundState state → IsRisingView (view_before state session call)
