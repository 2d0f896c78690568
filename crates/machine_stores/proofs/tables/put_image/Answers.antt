use Rattle.std.proofs.Common.{[], subst, sym, refl, arith}
use Rattle.std.proofs.lemmas.List.Elements.{All-from_recursion}
use Rattle.machine_stores.specs.Tables.{ArePut, is_within}
use Rattle.machine_stores.proofs.Storing.{on_err, put_beside, put_none, put_nothing, put_one}
use Rattle.machine_stores.proofs.tables.put_image.Goals as goal

pub put-requires : goal.put-requires
put-requires c = All-from_recursion (is_within c.args.number) _ (c.requires c.args.image.table _ (omega arith)).list

pub returns-then-at-tables-clause-ok : goal.returns-then-at-tables-clause-ok
returns-then-at-tables-clause-ok c = put_beside c.args.number c.args.image c.args.tables.now (omega arith)

pub returns-in_err-put-clause-err : goal.returns-in_err-put-clause-err
returns-in_err-put-clause-err c = on_err c.from_residual.result (subst (ArePut c.args.number [] c.args.tables.now) (sym (put_none c.args.number c.args.image c.args.tables.now c.args.image.table _ c.put.new.self (omega arith) refl c.put.ensures.floor c.in_err-put.ensures.err)) (put_nothing c.args.number c.args.tables.now))

pub returns-clause-ok : goal.returns-clause-ok
returns-clause-ok c = put_one c.args.number c.args.image c.args.tables.now c.args.image.table _ c.put.new.self (omega arith) refl c.put.ensures.floor c.in_ok-put.ensures.ok
