use Rattle.remote_link.proofs.Dialling.{counts_said, notes_said}
use Rattle.remote_link.proofs.mem_line.MemLineLink.TheImpl.Goals as goal

pub call-tells : goal.call-tells
call-tells c = record {
  notes = notes_said c.args.call.now c.args.self.now c.new.self.now c.result c.ensures.ok c.ensures.failed c.ensures.memory;
  good = c.ensures.good;
  counts = counts_said c.args.call.now c.args.self.now c.new.self.now c.result c.ensures.ok c.ensures.failed c.ensures.memory;
}
