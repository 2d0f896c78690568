use Rattle.std.proofs.Common.{Some, rules, ap}
use Rattle.desk_files.specs.Memory.{Calls}
use Rattle.desk_files.proofs.DeviceLaws.{AppendsPart-write, Leaves-print}
use Rattle.desk_files.proofs.mem_sink.MemSinkSink.TheImpl.Goals as goal

pub write-tells : goal.write-tells
write-tells c = record {
  ok = search rules;
  part = AppendsPart-write c.result c.args.self.now.held c.new.self.now.held c.args.bytes.now c.ensures.ok c.ensures.err;
  leaves = Leaves-print c.result (Some c.args.self.now.held) (Some c.new.self.now.held) c.args.self.now.calls.faults c.new.self.now.calls.faults (ap (λ (calls : Calls). calls.faults) c.ensures.calls);
}
