use Rattle.std.proofs.Common.{[], ◌∷◌, arith}
use Rattle.std.proofs.lemmas.List.{length-append}
use Rattle.capture_serve.proofs.Closed.{closed_more, off_more}
use Rattle.capture_serve.proofs.Taking.{one_more}
use Rattle.capture_serve.proofs.closing.close_all.Goals as goal

pub loop-list-preserved : goal.loop-list-preserved
loop-list-preserved g c =
    let inv = c.loop-list.invariant in
    record {
      well = tt;
      finite = tt;
      rest = one_more c.loop-list.yielded c.loop-list.list-iterator.rest.items c.args.said c.in-Some.list c.next.new.self.rest.items c.in-Some.ensures.steps.0 inv.rest;
      place = omega (arith, inv.place, length-append c.loop-list.yielded (c.in-Some.list ∷ []));
      closed = closed_more c.loop-list.yielded c.loop-list.closed c.in-Some.list c.in_ok-close.field-0 c.push.new.self inv.closed c.in_ok-close.ensures.closed c.in_ok-push.ensures.ok;
      off = off_more c.loop-list.recorder.state c.close.new.recorder.state c.loop-list.session inv.off c.in_ok-close.ensures.off c.in_ok-close.ensures.others;
    }
