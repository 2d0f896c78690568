use Rattle.std.proofs.Common.{Some, rules, ap}
use Rattle.desk_files.specs.Memory.{Calls}
use Rattle.desk_files.specs.Answers.{read_ending}
use Rattle.desk_files.proofs.DeviceLaws.{KeepsOthers-write, Leaves-counted, Leaves-write}
use Rattle.desk_files.proofs.mem_files.MemFilesFiles.TheImpl.Goals as goal

pub read-tells : goal.read-tells
read-tells c = record {
  says = search rules;
  limit = search rules;
  content = search rules;
  leaves = Leaves-counted (read_ending c.result) (Some c.args.self.now.files) (Some c.new.self.now.files) c.args.self.now.calls.faults c.new.self.now.calls.faults (ap (λ m. Some m) c.ensures.files) (ap (λ (calls : Calls). calls.faults) c.ensures.calls);
}

pub write-tells : goal.write-tells
write-tells c = record {
  ok = search rules;
  others = KeepsOthers-write c.result c.args.self.now.files c.new.self.now.files c.args.name.now c.args.bytes.now c.ensures.ok c.ensures.err;
  leaves = Leaves-write c.result c.args.self.now.files c.new.self.now.files c.args.self.now.calls.faults c.new.self.now.calls.faults c.ensures.err (ap (λ (calls : Calls). calls.faults) c.ensures.calls);
}
