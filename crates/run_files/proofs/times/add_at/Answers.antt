use Rattle.std.proofs.Common.{◌<◌, length, arith}
use Rattle.run_files.proofs.Timing.{beyond, one_more, times_read}
use Rattle.run_files.proofs.times.add_at.Goals as goal

pub returns-then-stamp-len : goal.returns-then-stamp-len
returns-then-stamp-len c =
    let times = c.args.times.now.items in
    let within : c.args.stamp < length times = omega (arith, c.if-stamp-len.true, c.len.ensures, c.args.times.now.ok) in
    λ counts n are. one_more counts n c.args.stamp times are c.add.new.self within (c.add.ensures (counts c.args.stamp) (times_read counts n times c.args.stamp c.index_mut.result.now are within c.index_mut.ensures.value))

pub returns-else-stamp-len : goal.returns-else-stamp-len
returns-else-stamp-len c = λ counts n are. beyond counts n c.args.stamp c.args.times.now.items are (omega (arith, c.if-stamp-len.false, c.len.ensures, c.args.times.now.ok))
