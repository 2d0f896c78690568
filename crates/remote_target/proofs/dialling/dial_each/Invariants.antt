use Rattle.std.proofs.Common.{◌≡◌, ◌≤◌, length, map, take, vec_capacity}
use Rattle.std.specs.List.{AllByRecursion}
use Rattle.remote_target.specs.Dialled.{asked_for}
use Rattle.desk_files.specs.Outside.{risen_by}
use Rattle.remote_target.specs.Inside.{IsFresh, said_on, session_on}
use Rattle.remote_target.proofs.dialling.dial_each.Given as goal

abbrev pub invariant-loop-session : goal.invariant-loop-session
invariant-loop-session g l = record {
  sessions : map session_on l.lines.items ≡ take l.session-index l.sessions;
  fresh : AllByRecursion IsFresh (map said_on l.lines.items);
  content : (g.D.Dial.account l.dial).content ≡ (g.D.Dial.account l.fn.dial).content;
  faults : (g.D.Dial.account l.dial).faults ≡ (g.D.Dial.account l.fn.dial).faults;
  room : length l.sessions ≤ vec_capacity l.lines;
  many : length l.lines.items ≡ l.session-index;
  dialled : (g.D.Dial.account l.dial).dials ≡ risen_by l.session-index (g.D.Dial.account l.fn.dial).dials;
  backs : (g.D.Dial.account l.dial).backs ≡ (g.D.Dial.account l.fn.dial).backs;
  failed : (g.D.Dial.account l.dial).failed ≡ (g.D.Dial.account l.fn.dial).failed;
  port : (g.D.Dial.account l.dial).port ≡ asked_for l.session-index l.port (g.D.Dial.account l.fn.dial).port;
}
