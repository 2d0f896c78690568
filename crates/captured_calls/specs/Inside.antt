-- What holds of the calls of sessions.
use Rattle.std.specs.Prelude.{◌<◌}
use Rattle.desk_values.specs.Good.{IsGoodReply}
use Rattle.desk_values.specs.declared.capture.Captured.{Captured}
use Rattle.desk_values.specs.Limits.{session_limit}

-- a session that there is, and a reply that can be written
pub record IsFit (call : Captured) : Type 0 where
  pub session : call.session < session_limit
  pub reply : IsGoodReply call.reply
