use Rattle.std.proofs.Common.{None, refl}
use Rattle.desk_files.specs.Answers.{read_ending, write_ending}
use Rattle.desk_files.proofs.DeviceLaws.{OnOk-any, Leaves-counted}
use Rattle.desk_files.proofs.real_files.RealFilesFiles.TheImpl.Goals as goal

pub read-tells : goal.read-tells
read-tells g c = record {
  says = tt;
  limit = c.ensures.limit;
  content = refl;
  leaves = Leaves-counted (read_ending c.result) None None c.args.self.now c.new.self.now refl c.ensures.count;
}

pub write-tells : goal.write-tells
write-tells g c = record {
  ok = OnOk-any c.result;
  others = tt;
  leaves = Leaves-counted (write_ending c.result) None None c.args.self.now c.new.self.now refl c.ensures.count;
}
