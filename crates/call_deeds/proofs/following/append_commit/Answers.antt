use Rattle.std.proofs.Common.{◌≡◌, ◌+◌, [], List, length, subst, sym, arith}
use Rattle.desk_values.specs.declared.value.Image.{Image}
use Rattle.machine_stores.specs.Tables.{ArePut}
use Rattle.machine_stores.proofs.Storing.{none_of_length, put_nothing}
use Rattle.call_deeds.proofs.following.append_commit.Goals as goal

pub returns-then-len-eq0-clause-tables : goal.returns-then-len-eq0-clause-tables
returns-then-len-eq0-clause-tables c =
    let none : c.args.changes.now ≡ [] = none_of_length c.args.changes.now (omega arith) in
    subst (λ (l : List Image). ArePut (length c.args.commits.now.items + 1) l c.args.tables.now.items c.args.tables.now.items) (sym none) (put_nothing (length c.args.commits.now.items + 1) c.args.tables.now.items)
