use Rattle.std.proofs.Common.{rules}
use Rattle.desk_schema.specs.declared.line.StartLine.TheVariants.{Service}
use Rattle.desk_schema.proofs.Drafting.{grown}
use Rattle.desk_schema.proofs.draft.Draft.add_service.Goals as goal

pub invariant_of-self-2 : goal.invariant_of-self-2
invariant_of-self-2 c = grown c.self.view_is c.self.invariant (Service c.args.name.now c.args.rights) (search rules) (search rules) c.self.invariant.are_keys
