use Rattle.std.proofs.Common.{◌≡◌, ◌≤◌, length, map, vec_capacity}
use Rattle.std.specs.List.{AllByRecursion}
use Rattle.capture_serve.specs.Inside.Passing.{IsKept, arrival, coming_of}
use Rattle.capture_serve.specs.Inside.Handing.{HasTaken}
use Rattle.capture_serve.proofs.Coming.{SoFar}
use Rattle.capture_serve.proofs.accepting.accept_all.Given as goal

abbrev pub invariant-loop-session : goal.invariant-loop-session
invariant-loop-session g l = record {
  came : SoFar (map (λ seat. arrival g.H.In.Source g.H.Out.Sink (coming_of seat)) l.seats.items) l.session (g.H.Host.account l.fn.host).content (g.H.Host.account l.host).content;
  count : length l.seats.items ≡ l.session;
  kept : AllByRecursion (IsKept g.H.In.Source g.H.Out.Sink) l.seats.items;
  faults : (g.H.Host.account l.host).faults ≡ (g.H.Host.account l.fn.host).faults;
  room : l.fn.most ≤ vec_capacity l.seats;
  handed : HasTaken l.session (g.H.Host.account l.fn.host).handed (g.H.Host.account l.host).handed;
}
