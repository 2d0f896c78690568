use Rattle.std.proofs.Common.{◌≡◌, ◌≤◌, ◌++◌, true, false, length, map}
use Rattle.capture_serve.specs.Inside.Passing.{HasNoted, passed_of}
use Rattle.capture_serve.specs.Inside.Handing.{HasReturned}
use Rattle.capture_serve.proofs.Going.{GaveSo, LostSo}
use Rattle.capture_serve.proofs.returning.give_back.Given as goal

abbrev pub invariant-loop-one : goal.invariant-loop-one
invariant-loop-one g l = record {
  well : (goal.iterator-loop-one g).can_next l.one-iterator;
  finite : (goal.iterator-loop-one g).is_finite l.one-iterator;
  rest : l.yielded ++ l.one-iterator.rest.items ≡ l.fn.served.items;
  faults : (g.H.Host.account l.host).faults ≡ (g.H.Host.account l.fn.host).faults;
  short : l.notes.short ≤ length l.yielded;
  gave : l.told ≡ true → GaveSo (map (passed_of g.H.In.Source g.H.Out.Sink) l.yielded) (g.H.Host.account l.fn.host).content (g.H.Host.account l.host).content;
  lost : l.told ≡ false → LostSo (length l.yielded) (g.H.Host.account l.fn.host).content (g.H.Host.account l.host).content;
  handed : HasReturned (length l.yielded) (g.H.Host.account l.fn.host).handed (g.H.Host.account l.host).handed;
  noted : l.kept ≡ true → HasNoted l.notes (map (passed_of g.H.In.Source g.H.Out.Sink) l.yielded);
}
