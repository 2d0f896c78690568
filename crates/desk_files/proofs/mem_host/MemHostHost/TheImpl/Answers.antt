use Rattle.std.proofs.Common.{Some, ap}
use Rattle.desk_files.specs.Memory.{Calls}
use Rattle.desk_files.specs.Answers.{print_ending}
use Rattle.desk_files.specs.Hosts.{accept_ending}
use Rattle.desk_files.specs.MemoryHosts.{MemoryHost, connections_of}
use Rattle.desk_files.proofs.DeviceLaws.{Counts-of}
use Rattle.desk_files.proofs.HostLaws.{Accepts-first, GivesBack-last, fresh_taken, back_faults, back_handed}
use Rattle.desk_files.proofs.mem_host.MemHostHost.TheImpl.Goals as goal

pub listen-tells : goal.listen-tells
listen-tells _ _ c = record {
  content = ap (λ (host : MemoryHost). Some (connections_of host)) c.ensures.calls;
  counts = Counts-of (print_ending c.result) c.args.self.now.calls.faults c.new.self.now.calls.faults (ap (λ (host : MemoryHost). host.calls.faults) c.ensures.calls);
  handed = ap (λ (host : MemoryHost). host.handed) c.ensures.calls;
}

pub accept-tells : goal.accept-tells
accept-tells _ _ c = record {
  takes = Accepts-first c.result c.args.self.now c.new.self.now c.ensures.takes c.ensures.returned;
  fresh = fresh_taken c.result c.args.self.now.waiting c.new.self.now.waiting c.ensures.takes;
  counts = Counts-of (accept_ending c.result) c.args.self.now.calls.faults c.new.self.now.calls.faults (ap (λ (calls : Calls). calls.faults) c.ensures.calls);
  handed = c.ensures.handed;
}

pub back-tells : goal.back-tells
back-tells _ _ c = record {
  gives_back = GivesBack-last c.result c.args.self.now c.new.self.now (c.args.input, c.args.output) c.ensures.ok c.ensures.err;
  faults = back_faults c.result c.args.self.now c.new.self.now (c.args.input, c.args.output) c.ensures.ok c.ensures.err;
  handed = back_handed c.result c.args.self.now c.new.self.now (c.args.input, c.args.output) c.ensures.ok c.ensures.err;
}
