use Rattle.std.proofs.Common.{◌≡◌, ◌++◌, length, map}
use Rattle.desk_files.specs.Outside.{risen_by}
use Rattle.remote_target.specs.Ends.{AddsUnbroken}
use Rattle.remote_target.specs.Inside.{CountsLines, refusal_on, said_on}
use Rattle.remote_target.proofs.Returning.{GaveSo}
use Rattle.remote_target.proofs.dialling.give_back.Given as goal

abbrev pub invariant-loop-line : goal.invariant-loop-line
invariant-loop-line g l = record {
  well : (goal.iterator-loop-line g).can_next l.line-iterator;
  finite : (goal.iterator-loop-line g).is_finite l.line-iterator;
  rest : l.yielded ++ l.line-iterator.rest.items ≡ l.fn.lines.items;
  gave : GaveSo (map said_on l.yielded) l.whole (g.D.Dial.account l.fn.dial).content (g.D.Dial.account l.dial).content;
  unbroken : AddsUnbroken (g.D.Dial.account l.fn.dial).content (g.D.Dial.account l.dial).content;
  counts : CountsLines (map refusal_on l.yielded) (g.D.Dial.account l.fn.dial).faults (g.D.Dial.account l.dial).faults;
  dialled : (g.D.Dial.account l.dial).dials ≡ (g.D.Dial.account l.fn.dial).dials;
  failed : (g.D.Dial.account l.dial).failed ≡ (g.D.Dial.account l.fn.dial).failed;
  port : (g.D.Dial.account l.dial).port ≡ (g.D.Dial.account l.fn.dial).port;
  backs : (g.D.Dial.account l.dial).backs ≡ risen_by (length l.yielded) (g.D.Dial.account l.fn.dial).backs;
}
