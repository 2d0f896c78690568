use Rattle.std.proofs.Common.{◌+◌, arith}
use Rattle.machine_stores.proofs.Storing.{cut_back, floors_put, within_later}
use Rattle.machine_stores.proofs.tables.put_commit.Goals as goal

pub put_images-requires : goal.put_images-requires
put_images-requires c = within_later c.args.before (c.args.before + 1) c.args.tables.now (omega arith) c.requires.within

pub cut_each-requires : goal.cut_each-requires
cut_each-requires c = floors_put (c.args.before + 1) c.args.before c.in-Err.ensures.some.0 c.args.tables.now c.put_images.new.tables c.in-Err.ensures.some.1 c.requires.within

pub returns-in-Err-clause-err : goal.returns-in-Err-clause-err
returns-in-Err-clause-err c = cut_back c.args.before (c.args.before + 1) c.in-Err.ensures.some.0 c.args.tables.now c.put_images.new.tables c.cut_each.new.tables (omega arith) c.requires.within c.in-Err.ensures.some.1 c.cut_each.ensures
