use Rattle.std.proofs.Common.{rules, ◌≡◌, List, ℕ}
use Rattle.desk_schema.specs.declared.line.StartLine.TheVariants.{Column}
use Rattle.desk_schema.specs.Line.{with_name, with_number}
use Rattle.desk_schema.specs.Rules.{IsKind}
use Rattle.desk_schema.proofs.Drafting.{kind_back, grown}
use Rattle.desk_schema.proofs.draft.Draft.add_col.Goals as goal

pub returns-clause-ok : goal.returns-clause-ok
returns-clause-ok c =
    let names : List (List ℕ) = c.args.self.now.start.schema.sequences in
    let is : IsKind names (with_name names c.args.kind) = search rules in
    let back : with_number names (with_name names c.args.kind) ≡ c.args.kind = kind_back c.self.view_is c.self.invariant c.args.kind is in
    rw back (search rules)

pub invariant_of-self-2 : goal.invariant_of-self-2
invariant_of-self-2 c =
    grown c.self.view_is c.self.invariant (Column c.args.name.now (with_name c.args.self.now.start.schema.sequences c.args.kind) c.args.not_null) (search rules) (returns-clause-ok c) c.self.invariant.are_keys
