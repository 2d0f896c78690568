use Rattle.std.proofs.Common.{◌∙◌, ◌+◌, ◌%◌, ◌/◌, ◌*◌, ℕ, length, ap, arith}
use Rattle.std.proofs.lemmas.List.{length_push}
use Rattle.desk_values.specs.declared.call.Call.{Call}
use Rattle.capture_recorder.specs.Limits.{generated_sessions}
use Rattle.capture_recorder.specs.Recording.{Recording, captured, opened, recorded}
use Rattle.capture_recorder.specs.Generated.{call_in_round}
use Rattle.capture_recorder.proofs.Generating.{generated_more, generated_none, generated_whole}
use Rattle.capture_recorder.proofs.generated.generate.Goals as goal

pub loop-i-init : goal.loop-i-init
loop-i-init c =
    let first = c.in_ok-recorder.ensures in
    (generated_none c.in_ok-recorder.recorder c.args.calls (first ∙ ap opened c.in_ok-start.ensures), ap (λ (r : Recording). length r.calls) first)

pub loop-i-preserved : goal.loop-i-preserved
loop-i-preserved c =
    let r = c.loop-i.recorder in
    let i = c.loop-i.i in
    let to = c.in_ok-record.ensures.ok ∙ ap (λ (b : ℕ). recorded r (i % generated_sessions) c.in_ok-call.call (10 * b) (10 * b + 5)) c.from-began.ensures ∙ ap (λ (x : Call). recorded r (i % generated_sessions) x (10 * i) (10 * i + 5)) c.in_ok-call.ensures.value in
    let longer = ap (λ (x : Recording). length x.calls) to ∙ length_push r.calls (captured r (i % generated_sessions) (call_in_round i (i / generated_sessions)) (10 * i) (10 * i + 5)) in
    (generated_more r c.record.new.self i c.args.calls c.loop-i-test.true to c.loop-i.invariant.0, omega (arith, longer, c.loop-i.invariant.1))

pub returns-clause-value : goal.returns-clause-value
returns-clause-value c = generated_whole c.loop-i.recorder c.loop-i.i c.args.calls c.loop-i-test.false c.loop-i.invariant.0
