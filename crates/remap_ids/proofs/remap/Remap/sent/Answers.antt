use Rattle.std.proofs.Common.{◌∙◌}
use Rattle.remap_ids.specs.Services.{sent_for}
use Rattle.remap_ids.proofs.Services.{lookup_seen}
use Rattle.remap_ids.proofs.remap.Remap.sent.Goals as goal

pub returns : goal.returns
returns c = c.get.ensures.value ∙ lookup_seen c.self.inside.services.entries c.as_str.result.now ∙ (λ i. sent_for (c.self.view_is i) (c.as_str.ensures.value i))
