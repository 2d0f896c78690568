use Rattle.std.proofs.Common.{refl}
use Rattle.desk_files.proofs.DeviceLaws.{Counts-of}
use Rattle.remote_link.specs.Heard.{link_ending}
use Rattle.remote_link.proofs.http_link.HttpLinkLink.TheImpl.Goals as goal

pub call-tells : goal.call-tells
call-tells g c = record {
  notes = refl;
  good = c.ensures.good;
  counts = Counts-of (link_ending c.result) c.args.self.now.faults c.new.self.now.faults c.ensures.count;
}
