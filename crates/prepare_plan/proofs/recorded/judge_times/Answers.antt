use Rattle.std.proofs.Common.{◌≡◌, List, sym, subst, refl, ◌∙◌, arith, take, length-set}
use Rattle.std.specs.Prelude.{slice_index, slice_set}
use Rattle.std.proofs.lemmas.List.{get_or-replicate}
use Rattle.desk_values.specs.declared.capture.Captured.{Captured}
use Rattle.captured_calls.specs.Inside.{IsFit}
use Rattle.captured_calls.specs.Moments.{ended_in}
use Rattle.captured_calls.specs.Tests.{bad_times}
use Rattle.captured_calls.proofs.Scanning.{each_at, taken, walk_on}
use Rattle.prepare_plan.proofs.Walking.{ended_after, times_pass}
use Rattle.prepare_plan.proofs.recorded.judge_times.Goals as goal

pub loop-call-init : goal.loop-call-init
loop-call-init c = record { size = refl; ended = λ s lt. get_or-replicate 64 s 0 0 lt; so_far = refl }

pub loop-call-preserved : goal.loop-call-preserved
loop-call-preserved c =
    let calls = c.args.calls.now in
    let i = c.loop-call.call-index in
    let call = c.call-item.result in
    let fit : IsFit call = each_at IsFit calls i call c.requires c.loop-call-test.true c.call-item.is in
    record {
      size = length-set c.loop-call.ended call.session call.ended ∙ c.loop-call.invariant.size;
      ended = λ s lt. subst (λ (before : List Captured). slice_index (slice_set c.loop-call.ended call.session call.ended) s ≡ ended_in s before) (sym (taken calls i call c.loop-call-test.true c.call-item.is))
          (ended_after c.loop-call.ended (take i calls) call s (omega (arith, fit.session, c.loop-call.invariant.size)) (c.loop-call.invariant.ended s lt));
      so_far = walk_on bad_times calls i call c.loop-call-test.true c.call-item.is c.loop-call.invariant.so_far
          (times_pass (take i calls) call _ (c.loop-call.invariant.ended call.session fit.session) (sym c.is_in_time.ensures ∙ c.if-not-is_in_time.false));
    }
