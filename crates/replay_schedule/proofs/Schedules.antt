-- What the fields of a schedule tell of its calls.
use Rattle.std.proofs.Common.{◌≡◌, ℕ, ◌≤◌, false, List, get_or, ap, ◌∙◌, arith}
use Rattle.std.specs.Prelude.{◌↔◌}
use Rattle.std.proofs.lemmas.List.{get_or-map}
use Rattle.std.proofs.lemmas.Option.{get_or_from_slice_get, slice_get_within}
use Rattle.desk_values.specs.declared.capture.Captured.{Captured}
use Rattle.replay_history.specs.Gap.{IsCallAt, gap_of}
use Rattle.replay_clock.specs.declared.gap.Gap.{Gap}
use Rattle.replay_clock.specs.Gaps.{gap_before, gaps_in}
use Rattle.replay_job.specs.Job.{JobView, IsReplayable}
use Rattle.law_histories.proofs.Places.{one_gap}
use Rattle.replay_schedule.proofs.Gates.Gates.{in_place}

pub iff_then : {P Q R : Type 0} → P ↔ Q → Q ↔ R → P ↔ R
iff_then first second = (λ p. second.0 (first.0 p), λ r. first.1 (second.1 r))

abbrev pub no_gap : Gap
no_gap = record { micros = 0; first = false }

pub gap_at : (calls : List Captured) {gaps items : List Gap} → gaps ≡ gaps_in calls → items ≡ gaps → (k : ℕ) (call : Captured) → IsCallAt calls k call → get_or items k no_gap ≡ gap_before calls call
gap_at calls {gaps} {items} are e k call at =
    ap (λ (all : List Gap). get_or all k no_gap) (e ∙ are)
    ∙ get_or-map (gap_before calls) calls k call no_gap (slice_get_within calls k call at)
    ∙ ap (gap_before calls) (get_or_from_slice_get calls k call call at)

pub gap_small : (job : JobView) (k : ℕ) (call : Captured) (gap : Gap) → IsReplayable job → IsCallAt job.calls k call → gap ≡ gap_before job.calls call → gap.micros ≤ 1000000000000
gap_small job k call gap replayable at is =
    let micros : gap.micros ≡ gap_of job.calls call = ap (λ (g : Gap). g.micros) is in
    omega (arith, micros, (one_gap job.calls (in_place job replayable) k call at).1, replayable.moments k call at)
