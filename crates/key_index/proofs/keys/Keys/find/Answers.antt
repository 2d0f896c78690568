use Rattle.std.proofs.Common.{◌≡◌, ◌∙◌, sym, subst}
use Rattle.same_keys.specs.Print.{print_of}
use Rattle.key_index.specs.Triples.{Index, RisesFrom, rows_of}
use Rattle.key_index.specs.Inside.Shelves.{rows_in, shelf_at}
use Rattle.key_index.proofs.Shelving.{shelf_rises, shelves_rows}
use Rattle.key_index.proofs.keys.Keys.find.Goals as goal

pub returns-clause-rows : goal.returns-clause-rows
returns-clause-rows c =
    c.rows.ensures
    ∙ subst (λ (h : Index). rows_in c.self.inside.level c.args.table c.args.key.now (shelf_at c.self.inside.stock (print_of c.args.key.now)) ≡ rows_of h.level h.triples c.args.table c.args.key.now) c.self.view_is
    (sym (shelves_rows c.self.inside.level c.self.inside.stock c.self.invariant c.args.table c.args.key.now))

pub returns-clause-ascend : goal.returns-clause-ascend
returns-clause-ascend c =
    subst (RisesFrom 0) (sym c.rows.ensures) (shelf_rises c.self.inside.level (print_of c.args.key.now) c.args.table c.args.key.now (shelf_at c.self.inside.stock (print_of c.args.key.now)) (c.self.invariant.each (print_of c.args.key.now)))
