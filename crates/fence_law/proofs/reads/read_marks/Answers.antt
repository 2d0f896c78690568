use Rattle.std.proofs.Common.{◌≡◌, ◌+◌, ℕ, length, refl, sym, subst, arith}
use Rattle.std.proofs.lemmas.Option.{slice_get_read}
use Rattle.fence_law.specs.Inside.{AreReadMarks}
use Rattle.fence_law.proofs.Found.{no_marks, read_more}
use Rattle.fence_law.proofs.reads.read_marks.Goals as goal

pub loop-place-init : goal.loop-place-init
loop-place-init c = subst (AreReadMarks c.args.calls.now c.args.open_calls.now 0) (sym c.new-marks.ensures.items) (no_marks c.args.calls.now c.args.open_calls.now)

pub loop-place-preserved : goal.loop-place-preserved
loop-place-preserved c =
    let calls = c.args.calls.now in
    let place = c.loop-place.place in
    let call = c.index-calls-place.result in
    let at = slice_get_read calls (length calls) place call refl c.loop-place-test.true c.index-calls-place.is in
    subst (AreReadMarks calls c.args.open_calls.now (place + 1)) (sym c.in_ok-push.ensures.items)
    (read_more calls c.args.open_calls.now place c.loop-place.marks.items call at c.in_ok-is_read.field-0 c.in_ok-is_read.ensures c.loop-place.invariant)

pub returns : goal.returns
returns c =
    let last : c.loop-place.place ≡ length c.args.calls.now = omega arith in
    subst (λ (n : ℕ). AreReadMarks c.args.calls.now c.args.open_calls.now n c.loop-place.marks.items) last c.loop-place.invariant
