use Rattle.std.proofs.Common.{arith}
use Rattle.statement_cache.proofs.Counting.{put_counted, same_counted}
use Rattle.statement_cache.proofs.Right.{put_right, stay_right}
use Rattle.statement_cache.proofs.statements.keep.Goals as goal

pub returns-in-Ok : goal.returns-in-Ok
returns-in-Ok c = record {
  right = λ schema right has. put_right schema c.args.all.now c.insert.new.self c.args.print c.args.known c.in-Ok.ensures.updates.1 c.in-Ok.ensures.updates.2 right has;
  taken = put_counted c.args.all.now c.insert.new.self c.args.print c.args.known _ c.in-Ok.ensures.old c.in-Ok.ensures.entries;
}

pub returns : goal.returns
returns c = record {
  right = λ schema right has. stay_right schema c.args.all.now c.insert.new.self c.in-Err.ensures.err has;
  taken = omega (arith, same_counted c.args.all.now c.insert.new.self c.in-Err.ensures.err);
}
