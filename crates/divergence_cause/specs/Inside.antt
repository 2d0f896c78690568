-- How the causes of calls are told. Words of private clauses; they need not be believed.
use Rattle.std.specs.Prelude.{ℕ, Bool, true, false, List, slice_index_or}
use Rattle.replay_history.specs.declared.report.Line.{Line}
use Rattle.divergence_cause.specs.declared.cause.Cause.{Cause}
use Rattle.divergence_cause.specs.declared.cause.Cause.TheVariants.{Timing, Upgrade}
use Rattle.divergence_cause.specs.declared.cause.CauseLine.{CauseLine}

-- the cause of a call that meets the same, or does not
abbrev pub cause_by : Bool → Cause
cause_by true = Upgrade
cause_by false = Timing

abbrev pub cause_at : List Bool → ℕ → Cause
cause_at twins k = cause_by (slice_index_or twins k false)

-- a line of the report, with the cause of its call
abbrev pub line_with : List Bool → Line → CauseLine
line_with twins line = record { stamp = line.stamp; cause = cause_at twins line.stamp }
