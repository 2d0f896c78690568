use Rattle.std.proofs.Common.{None}
use Rattle.desk_files.proofs.DeviceLaws.{OnOk-any, Leaves-print}
use Rattle.desk_files.proofs.std_sink.StdSinkSink.TheImpl.Goals as goal

pub write-tells : goal.write-tells
write-tells g c = record {
  ok = OnOk-any c.result;
  part = tt;
  leaves = Leaves-print c.result None None c.args.self.now c.new.self.now c.ensures;
}
