use Rattle.std.proofs.Common.{◌≡◌, ◌<◌, ℕ, false}
use Rattle.server_words.specs.State.{is_connected}
use Rattle.capture_serve.proofs.closing.close_others.Given as goal

abbrev pub invariant-loop-session : goal.invariant-loop-session
invariant-loop-session g l = (session : ℕ) → session < l.session → is_connected l.recorder.state session ≡ false
