use Rattle.std.proofs.Common.{sym, ap, ◌∙◌}
use Rattle.std.specs.Prelude.{not, Bool}
use Rattle.captured_calls.specs.Tests.{bad_ids, unless}
use Rattle.captured_calls.specs.declared.refusal.Refusal.TheVariants.{Stranger}
use Rattle.captured_calls.proofs.Scanning.{walk_on}
use Rattle.prepare_plan.proofs.known.judge_ids.Goals as goal

pub loop-k-preserved : goal.loop-k-preserved
loop-k-preserved c =
    let rows = c.args.rows.now in
    let call = c.index-calls-k.result in
    walk_on (bad_ids rows) c.args.calls.now c.loop-k.k call c.loop-k-test.true c.index-calls-k.is c.loop-k.invariant
    (ap (λ (b : Bool). unless (not b) (Stranger call.stamp)) (sym (c.has_stranger.ensures rows c.args.calls.now c.in_ok-known.ensures) ∙ c.if-has_stranger.false))
