use Rattle.std.proofs.Common.{◌≡◌, ◌∙◌, ◌++◌, ◌∷◌, [], List, length, refl, subst, sym, ap, arith, ◌+◌}
use Rattle.twin_tables.specs.declared.differences.Differences.{Differences}
use Rattle.replay_walk.specs.Inside.Passing.{HasMoreAlike}
use Rattle.replay_walk.proofs.Alike.{alike_none, alike_push}
use Rattle.replay_walk.proofs.servers.add_alike.Goals as goal

pub loop-init : goal.loop-init
loop-init c = alike_none c.args.captured c.args.replayed c.args.differences.now.items

pub loop-preserved : goal.loop-preserved
loop-preserved c =
    subst (HasMoreAlike c.args.captured c.args.replayed (c.loop.counter + 1) c.args.differences.now.items) (sym c.in_ok-push.ensures.items)
    (alike_push c.args.captured c.args.replayed c.loop.counter c.args.differences.now.items c.loop.differences.items c.new.result c.loop.invariant c.new.ensures)

pub returns : goal.returns
returns c =
    let last : c.loop.counter ≡ 64 = omega arith in
    subst (λ n. HasMoreAlike c.args.captured c.args.replayed n c.args.differences.now.items c.loop.differences.items) last c.loop.invariant
