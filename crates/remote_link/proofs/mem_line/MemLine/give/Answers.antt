use Rattle.std.proofs.Common.{◌≡◌, ◌<◌, ◌+◌, ◌^◌, length, arith}
use Rattle.remote_link.specs.Lines.{MemoryLine}
use Rattle.remote_link.proofs.Dialling.{one_left}
use Rattle.remote_link.proofs.mem_line.MemLine.give.Goals as goal

pub overflow_add-self : goal.overflow_add-self
overflow_add-self c =
    let a = c.self.inside in
    let line : MemoryLine = record { replies = a.replies; given = a.given; fails = a.fails; made = a.made; faults = a.faults; said = a.said } in
    let left : a.given < length a.replies = one_left line c.args.reply (rw (← c.self.view_is) at c.requires) in
    let fits : c.len.result < 2 ^ 64 = search in
    omega (arith, left, fits, c.len.ensures)

pub invariant_of-self-2 : goal.invariant_of-self-2
invariant_of-self-2 c =
    let a = c.self.inside in
    let line : MemoryLine = record { replies = a.replies; given = a.given; fails = a.fails; made = a.made; faults = a.faults; said = a.said } in
    let left : a.given < length a.replies = one_left line c.args.reply (rw (← c.self.view_is) at c.requires) in
    omega (arith, left)
