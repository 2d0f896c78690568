use Rattle.std.proofs.Common.{◌≡◌, ap, arith, length}
use Rattle.object_depends.specs.declared.tally.Tally.{Tally}
use Rattle.object_depends.specs.Facts.{fact_at}
use Rattle.object_depends.specs.Inside.{awaited, awaits}
use Rattle.object_depends.proofs.Sound.{where_few}
use Rattle.object_depends.proofs.tally.counted.Goals as goal

pub one_more-requires : goal.one_more-requires
one_more-requires c =
    let e : c.args.tally.count ≡ length (awaited c.args.mode c.args.facts.now c.args.call.now c.args.j) = ap (λ (t : Tally). t.count) c.requires.tally in
    omega (arith, e, where_few (λ j. awaits c.args.mode c.args.call.now (fact_at c.args.facts.now j)) c.args.j)
