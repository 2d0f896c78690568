use Rattle.std.proofs.Common.{◌∙◌}
use Rattle.capture_http.proofs.Keeping.{begins_later, loses_trans}
use Rattle.capture_http.proofs.reader.Reader.read_body.Goals as goal

pub loop-self-preserved : goal.loop-self-preserved
loop-self-preserved g c =
    let came = c.in-Ok.ensures.came in
    record {
      kept = loses_trans c.args.self.now c.loop-self.self c.read_more.new.self (g.I.Source.account c.args.input.now).content (g.I.Source.account c.loop-self.input).content (g.I.Source.account c.read_more.new.input).content c.loop-self.invariant.kept c.read_more.ensures.kept;
      few = c.read_more.ensures.few;
      faults = came.1 ∙ c.loop-self.invariant.faults;
      begins = begins_later c.loop-self.self c.read_more.new.self came.0.0 c.args.request.now came.0.2 c.loop-self.invariant.begins;
    }
