use Rattle.std.proofs.Common.{◌<◌, length, arith}
use Rattle.replay_walk.specs.Twins.{AreTwinPoints}
use Rattle.replay_walk.proofs.Zipped.{zip_more}
use Rattle.replay_walk.proofs.twins.twin_points.Goals as goal

pub loop-i-preserved : goal.loop-i-preserved
loop-i-preserved c =
    let within : c.loop-i.i < length c.args.b.now = omega arith in
    zip_more (AreTwinPoints c.args.map.now.pairs) c.args.a.now c.args.b.now c.loop-i.i c.index-a-i.result c.index-b-i.result c.loop-i-test.true within c.index-a-i.is c.index-b-i.is c.loop-i.invariant (c.in_ok-twin_point.ensures.0 c.if-not-branch.false)
