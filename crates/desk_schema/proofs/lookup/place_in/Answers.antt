use Rattle.std.proofs.Common.{◌≡◌, sym, arith, true, false}
use Rattle.std.specs.Str.{bytes_eq}
use Rattle.desk_schema.proofs.Places.{one_found, one_passed, all_passed}
use Rattle.desk_schema.proofs.lookup.place_in.Goals as goal

pub returns-then-eq : goal.returns-then-eq
returns-then-eq g c =
    let same : bytes_eq (g.N.Named.name_in c.index-items-i.result) c.args.name.now ≡ true = cc in
    sym (one_found g.N.Named.name_in (λ other. bytes_eq other c.args.name.now) c.args.items.now c.loop-i.i c.index-items-i.result _ (omega arith) c.index-items-i.is same c.loop-i.invariant)

pub loop-i-preserved : goal.loop-i-preserved
loop-i-preserved g c =
    let differ : bytes_eq (g.N.Named.name_in c.index-items-i.result) c.args.name.now ≡ false = cc in
    one_passed g.N.Named.name_in (λ other. bytes_eq other c.args.name.now) c.args.items.now c.loop-i.i c.index-items-i.result _ (omega arith) c.index-items-i.is differ c.loop-i.invariant

pub returns : goal.returns
returns g c = sym (all_passed g.N.Named.name_in (λ other. bytes_eq other c.args.name.now) c.args.items.now c.loop-i.i _ (omega arith) c.loop-i.invariant)
