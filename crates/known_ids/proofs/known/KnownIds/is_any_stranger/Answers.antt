use Rattle.std.proofs.Common.{◌+◌, ◌||◌, Bool, drop, sym, ap, ◌∙◌}
use Rattle.std.specs.List.{list_any}
use Rattle.captured_calls.specs.Known.{is_stranger}
use Rattle.captured_calls.proofs.Scanning.{front_of}
use Rattle.known_ids.proofs.known.KnownIds.is_any_stranger.Goals as goal

pub loop-value-preserved : goal.loop-value-preserved
loop-value-preserved c = λ known knows.
    let values = c.args.values.now in
    let i = c.loop-value.value-index in
    let rest = list_any (is_stranger known) (drop (i + 1) values) in
    ap (λ (b : Bool). b || rest) (sym (sym (c.is_stranger.ensures known knows) ∙ c.if-is_stranger.false))
    ∙ sym (ap (list_any (is_stranger known)) (front_of values i c.value-item.result c.loop-value-test.true c.value-item.is)) ∙ c.loop-value.invariant known knows
