-- What a step leaves as it was.
use Rattle.std.specs.Prelude.{◌≡◌, ◌≤◌, ℕ, List, length, take}
use Rattle.std.specs.List.{AllByRecursion, AllZip}
use Rattle.desk_values.specs.declared.call.Call.{Call}
use Rattle.desk_values.specs.declared.call.Outcome.TheVariants.{Refused}
use Rattle.desk_values.specs.declared.fault.Fault.{Fault}
use Rattle.server_words.specs.Draws.{moved}
use Rattle.server_words.specs.State.{State, session_at}
use Rattle.server_words.specs.Step.{reply_in, run, step}

-- the second state is the first, or one after it: the start and the number of sessions stay, the commits stay in front of new
-- ones, and neither the number of the next row nor the next value of any sequence falls
pub record OnlyAdds (old new : State) : Type 0 where
  pub start : new.start ≡ old.start
  pub commits : take (length old.commits) new.commits ≡ old.commits
  pub next_row : old.next_row ≤ new.next_row
  pub next_values : AllZip ◌≤◌ old.next_values new.next_values
  pub sessions : length new.sessions ≡ length old.sessions

-- after a refused call the state is as before, but that each sequence that it drew from has moved
abbrev pub RefusedLeaves : Type 0
RefusedLeaves = (state : State) (session : ℕ) (call : Call) (fault : Fault) → (reply_in state session call).outcome ≡ Refused fault
    → step state session call ≡ record state { next_values = moved (reply_in state session call).draws 0 state.next_values }

-- a step leaves each other session as it was
abbrev pub OthersAreLeft : Type 0
OthersAreLeft = (state : State) (session other : ℕ) (call : Call) → ¬ (other ≡ session)
    → session_at (step state session call) other ≡ session_at state other

-- calls of which none is the session's leave it as it was
abbrev pub OthersAreLeftByRuns : Type 0
OthersAreLeftByRuns = (state : State) (other : ℕ) (calls : List (ℕ × Call))
    → AllByRecursion (λ (call : ℕ × Call). ¬ (other ≡ call.0)) calls
    → session_at (run state calls) other ≡ session_at state other

abbrev pub StepsAdd : Type 0
StepsAdd = (state : State) (session : ℕ) (call : Call) → OnlyAdds state (step state session call)

abbrev pub RunsAdd : Type 0
RunsAdd = (state : State) (calls : List (ℕ × Call)) → OnlyAdds state (run state calls)
