use Rattle.std.proofs.Common.{◌≡◌, ◌∙◌, ◌++◌, ◌∷◌, [], false, None, is_some, ap}
use Rattle.std.specs.Map.{lookup}
use Rattle.std.specs.Str.{bytes_eq}
use Rattle.std.specs.String.{string_bytes}
use Rattle.remap_ids.specs.Services.{sent_for}
use Rattle.remap_ids.proofs.Services.{inserted, lookup_seen, seen}
use Rattle.remap_ids.proofs.remap.Remap.push.Goals as goal

pub returns : goal.returns
returns c =
    let entries = c.self.inside.services.entries in
    let name = c.in_ok-name.name in
    let none : sent_for (seen entries) (string_bytes name) ≡ None = (λ i. sent_for (c.self.view_is i) (c.in_ok-name.ensures.ok i)) ∙ c.requires in
    let absent : is_some (lookup (λ key. bytes_eq (string_bytes name) (string_bytes key)) entries) ≡ false = ap is_some (lookup_seen entries (string_bytes name) ∙ none) in
    ap seen c.in_ok-insert.ensures.entries ∙ inserted c.self.inside.services name c.in_ok-copy.field-0 absent ∙ (λ i. c.self.view_is i ++ (c.in_ok-name.ensures.ok i, c.in_ok-copy.ensures i) ∷ [])
