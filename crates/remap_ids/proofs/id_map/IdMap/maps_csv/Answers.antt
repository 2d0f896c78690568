use Rattle.std.proofs.Common.{◌≡◌, ◌∙◌, Some, slice_get, sym, ap, arith}
use Rattle.remap_ids.specs.IdMap.{IdMapView}
use Rattle.remap_ids.proofs.Lines.{line_more}
use Rattle.remap_ids.proofs.id_map.IdMap.maps_csv.Goals as goal

pub loop-place-preserved : goal.loop-place-preserved
loop-place-preserved c =
    let same = ap (λ (view : IdMapView). slice_get view.pairs c.loop-place.place) c.self.view_is in
    let at : slice_get c.args.self.now.pairs c.loop-place.place ≡ Some c.pair_at-captured.result = sym same ∙ c.pair_at-captured.ensures in
    line_more c.args.self.now.pairs c.loop-place.place _ c.pair_at-captured.result c.loop-place.bytes c.push_pair.new.to _ (omega arith) at c.in_ok-push_pair.ensures c.loop-place.invariant
