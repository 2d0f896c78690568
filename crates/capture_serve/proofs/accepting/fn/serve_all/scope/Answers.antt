use Rattle.std.proofs.Common.{refl}
use Rattle.capture_serve.proofs.accepting.fn.serve_all.scope.Goals as goal

pub returns : goal.returns
returns g c = record {
  came = c.serve_each-served.ensures.came;
  few = c.serve_each-served.ensures.few;
  passed = c.serve_each-served.ensures.passed;
  counts = c.serve_each-served.ensures.counts;
  handed = c.serve_each-served.ensures.handed;
  same = refl;
}
