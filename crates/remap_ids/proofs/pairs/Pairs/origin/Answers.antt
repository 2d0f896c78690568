use Rattle.std.proofs.Common.{◌≡◌, ◌∙◌, false, List, Some, length, sym, ap, subst, arith}
use Rattle.std.proofs.lemmas.List.{length-map}
use Rattle.std.specs.Prelude.{position}
use Rattle.std.specs.List.{Contains, list_any}
use Rattle.id_pairs.specs.declared.Id.{Id}
use Rattle.id_pairs.specs.Ids.{same_id}
use Rattle.id_pairs.specs.Pairs.{IdPair}
use Rattle.id_pairs.proofs.SameIds.{derived_is_same}
use Rattle.remap_ids.specs.Inside.{PairsView}
use Rattle.remap_ids.proofs.Entries.{replayed_of, stands_for, stands_for_none}
use Rattle.remap_ids.proofs.pairs.Pairs.origin.Goals as goal

pub pair_at-captured-requires : goal.pair_at-captured-requires
pair_at-captured-requires c =
    let pairs = c.self.inside.by_captured.entries in
    let sides = ap length c.self.invariant.1 ∙ length-map pairs (λ (pair : IdPair). pair.1) in
    let own = ap (λ (view : PairsView). length view.pairs) c.self.view_is in
    omega (arith, c.in-Some.ensures.within, sides, own)

pub returns-in-Some-clause-some : goal.returns-in-Some-clause-some
returns-in-Some-clause-some c =
    let own = ap (λ (view : PairsView). view.pairs) c.self.view_is in
    let keys = c.self.inside.replayed.keys in
    let place = c.in-Some.place in
    let sides = c.self.invariant.1 ∙ ap replayed_of own in
    let at : position (same_id c.args.id) keys ≡ Some place = ap (λ eq. position (eq c.args.id) keys) (sym derived_is_same) ∙ sym c.in-Some.ensures.index in
    stands_for c.args.self.now.pairs keys c.args.id sides place c.pair_at-captured.result at c.pair_at-captured.ensures

pub returns-in-None-clause-none : goal.returns-in-None-clause-none
returns-in-None-clause-none c =
    let own = ap (λ (view : PairsView). view.pairs) c.self.view_is in
    let keys = c.self.inside.replayed.keys in
    let sides = c.self.invariant.1 ∙ ap replayed_of own in
    let nowhere : list_any (same_id c.args.id) keys ≡ false = ap (λ eq. list_any (eq c.args.id) keys) (sym derived_is_same) ∙ sym c.in-None.ensures.found in
    stands_for_none c.args.self.now.pairs keys c.args.id sides nowhere
