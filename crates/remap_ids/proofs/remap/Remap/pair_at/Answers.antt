use Rattle.std.proofs.Common.{◌≡◌, ◌∙◌, Some, take, sym, ap}
use Rattle.std.specs.Prelude.{slice_get}
use Rattle.std.specs.Option.{option_map}
use Rattle.remap_ids.specs.Services.{sent_for}
use Rattle.remap_ids.proofs.Services.{alone}
use Rattle.remap_ids.proofs.remap.Remap.pair_at.Goals as goal

pub returns-clause-alone : goal.returns-clause-alone
returns-clause-alone c =
    let entries = c.self.inside.services.entries in
    let place = c.args.place in
    let found = c.unwrap.result in
    let at : slice_get entries place ≡ Some (found.0.now, found.1.now) = ap (λ all. slice_get all place) (sym c.as_slice.ensures.entries) ∙ sym c.get_index.ensures.entry ∙ ap (option_map (λ one. (one.0.now, one.1.now))) c.unwrap.ensures in
    sym (λ i. sent_for (take place (c.self.view_is i)) (sym c.as_str.ensures.value i)) ∙ alone entries place (found.0.now, found.1.now) c.as_slice.ensures.unique at
