use Rattle.std.proofs.Common.{◌≡◌, None, Option, map, sym}
use Rattle.remote_link.specs.declared.link_err.LinkErr.{LinkErr}
use Rattle.remote_target.specs.Inside.{refusal_on}
use Rattle.remote_target.proofs.Stepping.{all_more, all_taken}
use Rattle.remote_target.proofs.Telling.{any_refused, told_is}
use Rattle.remote_target.proofs.running.refused.Goals as goal

pub returns-in-Some : goal.returns-in-Some
returns-in-Some g c =
    told_is c.in-Some.refusal (map refusal_on c.args.lines.now) c.told.result c.told.ensures
    (any_refused c.args.lines.now c.loop-line.line-index c.line-item.result c.loop-line-test.true c.line-item.is c.in-Some.refusal (sym c.in-Some.ensures))

pub loop-line-preserved : goal.loop-line-preserved
loop-line-preserved g c = all_more (λ (r : Option LinkErr). r ≡ None) refusal_on c.args.lines.now c.loop-line.line-index c.line-item.result c.loop-line-test.true c.line-item.is c.loop-line.invariant (sym c.in-None.ensures)

pub returns : goal.returns
returns g c = all_taken (λ (r : Option LinkErr). r ≡ None) refusal_on c.args.lines.now c.loop-line.line-index c.loop-line-test.false c.loop-line.invariant
