use Rattle.std.proofs.Common.{rules}
use Rattle.desk_schema.specs.declared.line.StartLine.TheVariants.{Seq}
use Rattle.desk_schema.proofs.Drafting.{grown}
use Rattle.desk_schema.proofs.draft.Draft.add_seq.Goals as goal

pub invariant_of-self-2 : goal.invariant_of-self-2
invariant_of-self-2 c = grown c.self.view_is c.self.invariant (Seq c.args.name.now c.args.next) (search rules) (search rules) c.self.invariant.are_keys
