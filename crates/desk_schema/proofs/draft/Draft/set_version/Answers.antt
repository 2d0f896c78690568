use Rattle.std.proofs.Common.{◌≡◌, ◌≤◌, true, rules, subst}
use Rattle.desk_schema.specs.State.{State}
use Rattle.desk_schema.proofs.Drafting.{draft_begun, versioned}
use Rattle.desk_schema.proofs.draft.Draft.set_version.Goals as goal

pub invariant_of-self : goal.invariant_of-self
invariant_of-self c = versioned c.self.view_is c.self.invariant c.args.version (let known : c.is_version.result ≡ true = cc in c.is_version.ensures.0 known) (subst (λ (s : State). 1 ≤ s.last) c.self.view_is (draft_begun c.self.inside.last)) (search rules)
