use Rattle.std.proofs.Common.{ap, refl}
use Rattle.desk_files.specs.Answers.{print_ending}
use Rattle.desk_files.specs.Hosts.{accept_ending, either_failed}
use Rattle.desk_files.specs.MemoryHosts.{HostCounts}
use Rattle.desk_files.proofs.DeviceLaws.{Counts-of}
use Rattle.desk_files.proofs.HostLaws.{Accepts-untold, GivesBack-untold}
use Rattle.desk_files.proofs.real_host.RealHostHost.TheImpl.Goals as goal

pub listen-tells : goal.listen-tells
listen-tells g _ _ c = record {
  content = refl;
  counts = Counts-of (print_ending c.result) c.args.self.now.faults c.new.self.now.faults (ap (λ (host : HostCounts). host.faults) c.ensures);
  handed = ap (λ (host : HostCounts). host.handed) c.ensures;
}

pub accept-tells : goal.accept-tells
accept-tells g _ _ c = record {
  takes = Accepts-untold (λ count. count) (λ count. count) c.result;
  fresh = c.ensures.fresh;
  counts = Counts-of (accept_ending c.result) c.args.self.now.faults c.new.self.now.faults (ap (λ (host : HostCounts). host.faults) c.ensures.count);
  handed = ap (λ (host : HostCounts). host.handed) c.ensures.count;
}

pub back-tells : goal.back-tells
back-tells g _ _ c = record {
  gives_back = GivesBack-untold (either_failed c.args.input c.args.output) c.result;
  faults = ap (λ (host : HostCounts). host.faults) c.ensures.count;
  handed = ap (λ (host : HostCounts). host.handed) c.ensures.count;
}
