-- What an answer tells of the verdict.
use Rattle.std.specs.Prelude.{Option, None, Some, Result, Ok, Err}
use Rattle.captured_calls.specs.declared.refusal.Refusal.{Refusal}
use Rattle.captured_calls.specs.declared.refusal.Refusal.TheVariants.{Memory}
use Rattle.captured_calls.specs.Verdict.{Preparation}
use Rattle.prepare_plan.specs.declared.prepared.Prepared.{Prepared}

-- what is seen of an answer
abbrev pub plan_seen : Prepared → Result Preparation Refusal
plan_seen prepared = Ok (record { calls = prepared.calls.items; facts = prepared.facts })

-- what a refusal tells of what was to be answered, where the answer with it is this; want of memory tells nothing
abbrev pub told_as : {R : Type 0} → (Refusal → R) → Refusal → Option R
told_as answer Memory = None
told_as answer refusal = Some (answer refusal)

abbrev pub refusal_told : {X : Type 0} → Refusal → Option (Result X Refusal)
refusal_told refusal = told_as Err refusal
