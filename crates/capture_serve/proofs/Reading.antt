-- The calls of sessions are read from their files again.
use Rattle.std.proofs.Common.{ℕ, ◌+◌, List, [], ◌∷◌, refl}
use Rattle.std.specs.List.{AllByRecursion}
use Rattle.desk_values.specs.declared.capture.Captured.{Captured}
use Rattle.capture_format.specs.SessionFile.{AreCallsFrom, IsCallLine, MayTellAll, line_of}
use Rattle.captured_calls.specs.Sessions.{AreSessionsFrom}
use Rattle.capture_serve.specs.Inside.Knowing.{HasLimits}
use Rattle.capture_serve.specs.Service.{AreReadFrom}

fit : (session place least : ℕ) (calls : List Captured) → AreCallsFrom session place least calls → AllByRecursion HasLimits calls → AllByRecursion (λ call. IsCallLine (line_of call)) calls
fit session place least [] are have = tt
fit session place least (call ∷ calls) are have =
    (record { stamp = have.0.stamp; began = are.0.began; ended = are.0.ended; seen = have.0.seen; number = have.0.number; call = have.0.asked; reply = are.0.reply }, fit session (place + 1) (call.stamp + 1) calls are.1 have.1)

pub are_read : (version session : ℕ) (lists : List (List Captured)) → AreSessionsFrom session lists → AllByRecursion (MayTellAll version) lists → AllByRecursion (AllByRecursion HasLimits) lists → AreReadFrom version session lists
are_read version session [] are told have = tt
are_read version session (calls ∷ lists) are told have = (record { calls_are = are.0; told = told.0; fit = fit session 0 0 calls are.0 have.0; text = refl }, are_read version (session + 1) lists are.1 told.1 have.1)
