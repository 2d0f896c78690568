-- What a recorder keeps beside its calls, so that it looks none of them up again.
use Rattle.std.specs.Prelude.{◌≡◌, ℕ, ◌<◌, List, [], length, slice_index_or}
use Rattle.desk_values.specs.declared.capture.Captured.{Captured}
use Rattle.replay_history.specs.Capture.{commits_before, session_calls_before}
use Rattle.server_words.specs.Machine.{Running}
use Rattle.captured_calls.specs.Moments.{ended_in}
use Rattle.known_ids.specs.Knowing.{KnowsCalls}
use Rattle.known_ids.specs.declared.known.KnownIds.{KnownIds}
use Rattle.capture_recorder.specs.declared.counters.Counters.{Counters}
use Rattle.capture_recorder.specs.declared.progress.Progress.{Progress}
use Rattle.capture_recorder.specs.Recording.{Recording, IsRecording}
use Rattle.desk_values.specs.Limits.{session_limit}

-- how far a session has come: the number of its calls, and when the last one ended
abbrev pub progress_of : List Captured → ℕ → Progress
progress_of calls session = record { calls = session_calls_before calls session (length calls); ended = ended_in session calls }

-- the engine has made a step for each call; the numbered commits are counted, and the progress of each session is known;
-- so are the ids of the start's rows and what the engine gives out next
pub record Keeps (r : Recording) (engine : Running) (numbered : ℕ) (sessions : List Progress) (known : KnownIds) (counters : Counters) : Type 0 where
  pub recording : IsRecording r
  pub state : engine.state ≡ r.state
  pub steps : engine.steps ≡ length r.calls
  pub numbered_is : numbered ≡ commits_before r.calls (length r.calls)
  pub count : length sessions ≡ session_limit
  pub progress : (session : ℕ) (other : Progress) → session < session_limit
      → slice_index_or sessions session other ≡ progress_of r.calls session
  pub ids : KnowsCalls known r.start.rows []
  pub next_row : counters.next_row ≡ r.state.next_row
  pub next_values : counters.next_values.items ≡ r.state.next_values
