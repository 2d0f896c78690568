use Rattle.std.proofs.Common.{◌≡◌, if◌then◌else◌, subst}
use Rattle.key_index.specs.Triples.{Index, is_one, rows_of, triples_of, without_number}
use Rattle.key_index.proofs.Shelving.{dropped_rows, dropped_shelves}
use Rattle.key_index.proofs.keys.Keys.drop_pair.Goals as goal

pub invariant_of-self : goal.invariant_of-self
invariant_of-self c = dropped_shelves c.self.inside.level c.args.table c.args.key.now c.args.row c.self.inside.stock c.drop_row.new.self c.self.invariant c.drop_row.ensures.shelves c.drop_row.ensures.order

pub returns-clause-rows : goal.returns-clause-rows
returns-clause-rows c = λ other k.
    subst (λ (h : Index). rows_of c.self.inside.level (triples_of c.drop_row.new.self) other k ≡ (if is_one h.level c.args.table c.args.key.now other k then without_number c.args.row (rows_of h.level h.triples other k) else rows_of h.level h.triples other k)) c.self.view_is
    (dropped_rows c.self.inside.level c.args.table c.args.key.now c.args.row c.self.inside.stock c.drop_row.new.self c.self.invariant c.drop_row.ensures.shelves c.drop_row.ensures.order other k)
