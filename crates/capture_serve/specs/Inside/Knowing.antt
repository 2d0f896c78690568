-- What the types of a captured call say of its parts.
use Rattle.std.specs.Prelude.{ℕ, ◌<◌, ◌^◌}
use Rattle.desk_values.specs.Good.{IsCall}
use Rattle.desk_values.specs.declared.capture.Captured.{Captured}

-- its numbers and what was asked are within the limits of their types
pub record HasLimits (call : Captured) : Type 0 where
  pub stamp : call.stamp < 2 ^ 32
  pub seen : call.seen < 2 ^ 64
  pub number : call.number < 2 ^ 64
  pub asked : IsCall call.call
