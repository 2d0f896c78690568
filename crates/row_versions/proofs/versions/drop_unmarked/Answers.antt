use Rattle.std.proofs.Common.{rules}
use Rattle.std.proofs.lemmas.Fn.{filter_same}
use Rattle.row_versions.specs.Inside.Links.{is_marked}
use Rattle.row_versions.proofs.versions.drop_unmarked.Goals as goal

pub returns-clause-list : goal.returns-clause-list
returns-clause-list c = filter_same _ is_marked _ (λ x b f k. search rules) _ _ c.retain.ensures.filtered
