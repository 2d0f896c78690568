use Rattle.std.proofs.Common.{None, refl}
use Rattle.std.proofs.lemmas.Result.{IfOk-weaker}
use Rattle.desk_files.specs.Hosts.{accept_ending}
use Rattle.desk_files.proofs.DeviceLaws.{Counts-of}
use Rattle.remote_link.proofs.Dialling.{back_counts, gives_untold}
use Rattle.remote_link.proofs.real_dial.RealDialDial.TheImpl.Goals as goal

pub dial-tells : goal.dial-tells
dial-tells g _ c = record {
  content = refl;
  fresh = IfOk-weaker c.result _ _ (λ line none. record { silent = tt; faultless = none }) c.ensures.fresh;
  counts = Counts-of (accept_ending c.result) c.args.self.now.faults c.new.self.now.faults c.ensures.count;
  dialled = c.ensures.dialled;
  failed = c.ensures.failed;
  port = c.ensures.port;
  backs = c.ensures.backs;
}

pub back-tells : goal.back-tells
back-tells g _ c = record {
  gives_back = gives_untold None c.result;
  counts = back_counts c.args.line.faults c.args.self.now.faults c.new.self.now.faults c.ensures.count;
  dialled = c.ensures.dialled;
  failed = c.ensures.failed;
  port = c.ensures.port;
  backs = c.ensures.backs;
}
