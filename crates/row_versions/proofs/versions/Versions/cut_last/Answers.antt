use Rattle.std.proofs.Common.{◌≡◌, ◌++◌, ◌∷◌, [], rules}
use Rattle.row_versions.proofs.Chains.{has_last, kept_pop}
use Rattle.row_versions.proofs.versions.Versions.cut_last.Goals as goal

pub step_back-requires : goal.step_back-requires
step_back-requires c =
    let split : c.self.inside.list.items ≡ c.pop.new.self.items ++ c.unwrap-version.result ∷ [] = rw c.unwrap-version.ensures at c.pop.ensures.items in
    rw (has_last c.self.inside.list.items c.pop.new.self.items c.unwrap-version.result c.self.inside.last split c.self.invariant) (search rules)

pub invariant_of-self : goal.invariant_of-self
invariant_of-self c =
    let split : c.self.inside.list.items ≡ c.pop.new.self.items ++ c.unwrap-version.result ∷ [] = rw c.unwrap-version.ensures at c.pop.ensures.items in
    kept_pop c.self.inside.list.items c.pop.new.self.items c.unwrap-version.result c.self.inside.last c.step_back.new.last split c.self.invariant c.step_back.ensures
