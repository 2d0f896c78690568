use Rattle.std.proofs.Common.{◌≡◌, ◌∙◌, ◌||◌, Bool, List, sym, ap, is_some}
use Rattle.std.specs.List.{list_any}
use Rattle.std.specs.Map.{lookup}
use Rattle.id_pairs.specs.declared.Id.{Id}
use Rattle.id_pairs.specs.Ids.{same_id}
use Rattle.id_pairs.specs.Pairs.{IdPair, image_in}
use Rattle.id_pairs.proofs.SameIds.{derived_is_same}
use Rattle.remap_ids.specs.Inside.{PairsView}
use Rattle.remap_ids.proofs.Entries.{replayed_of, tests}
use Rattle.remap_ids.proofs.pairs.Pairs.has_either.Goals as goal

pub returns-then-contains_key : goal.returns-then-contains_key
returns-then-contains_key c =
    let first : c.contains_key.result ≡ is_some (image_in c.args.self.now.pairs c.args.captured) = c.contains_key.ensures ∙ ap (λ eq. is_some (lookup (eq c.args.captured) c.self.inside.by_captured.entries)) derived_is_same ∙ ap (λ (view : PairsView). is_some (image_in view.pairs c.args.captured)) c.self.view_is in
    c.if-contains_key.true ∙ ap (λ (there : Bool). there || list_any (same_id c.args.replayed) (replayed_of c.args.self.now.pairs)) (sym c.if-contains_key.true ∙ first) ∙ tests c.args.self.now.pairs c.args.captured c.args.replayed

pub returns-else-contains_key : goal.returns-else-contains_key
returns-else-contains_key c =
    let own = ap (λ (view : PairsView). view.pairs) c.self.view_is in
    let first : c.contains_key.result ≡ is_some (image_in c.args.self.now.pairs c.args.captured) = c.contains_key.ensures ∙ ap (λ eq. is_some (lookup (eq c.args.captured) c.self.inside.by_captured.entries)) derived_is_same ∙ ap (λ (pairs : List IdPair). is_some (image_in pairs c.args.captured)) own in
    let second : c.contains.result ≡ list_any (same_id c.args.replayed) (replayed_of c.args.self.now.pairs) = c.contains.ensures ∙ ap (λ eq. list_any (eq c.args.replayed) c.self.inside.replayed.keys) derived_is_same ∙ ap (λ (ids : List Id). list_any (same_id c.args.replayed) ids) (c.self.invariant.1 ∙ ap replayed_of own) in
    second ∙ ap (λ (there : Bool). there || list_any (same_id c.args.replayed) (replayed_of c.args.self.now.pairs)) (sym c.if-contains_key.false ∙ first) ∙ tests c.args.self.now.pairs c.args.captured c.args.replayed
