use Rattle.std.proofs.Common.{◌≡◌, true, false, refl, sym, ◌∙◌, arith}
use Rattle.std.specs.Str.{bytes_eq}
use Rattle.std.proofs.lemmas.Bool.{false≢true}
use Rattle.std.proofs.lemmas.Slice.Eq.{bytes_eq-Decides}
use Rattle.desk_schema.proofs.Members.{named_here, one_passed, all_passed}
use Rattle.desk_schema.proofs.lookup.contains_name.Goals as goal

pub returns-then-eq : goal.returns-then-eq
returns-then-eq g c =
    let same : bytes_eq (g.N.Named.name_in c.item-item.result) c.args.name.now ≡ true = cc in (
      λ _. named_here g.N.Named.name_in c.args.items.now c.loop-item.item-index c.item-item.result c.args.name.now (omega arith) c.item-item.is ((bytes_eq-Decides _ _).0 same),
      λ _. refl,
    )

pub loop-item-preserved : goal.loop-item-preserved
loop-item-preserved g c =
    let differ : bytes_eq (g.N.Named.name_in c.item-item.result) c.args.name.now ≡ false = cc in
    one_passed g.N.Named.name_in c.args.items.now c.loop-item.item-index c.item-item.result c.args.name.now (omega arith) c.item-item.is
    (λ same. false≢true (sym differ ∙ (bytes_eq-Decides _ _).1 same)) c.loop-item.invariant

pub returns : goal.returns
returns g c =
    (λ e. absurd (false≢true e), λ there. absurd (all_passed g.N.Named.name_in c.args.items.now c.loop-item.item-index c.args.name.now (omega arith) c.loop-item.invariant there))
