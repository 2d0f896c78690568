use Rattle.std.proofs.Common.{◌≡◌, ◌<◌, ◌++◌, ℕ, false, length}
use Rattle.server_words.specs.State.{is_connected}
use Rattle.capture_recorder.specs.Gathering.{lists_of}
use Rattle.capture_serve.specs.Inside.Passing.{AreClosed}
use Rattle.capture_serve.proofs.closing.close_all.Given as goal

abbrev pub invariant-loop-list : goal.invariant-loop-list
invariant-loop-list g l = record {
  well : (goal.iterator-loop-list g).can_next l.list-iterator;
  finite : (goal.iterator-loop-list g).is_finite l.list-iterator;
  rest : l.yielded ++ l.list-iterator.rest.items ≡ l.fn.said;
  place : l.session ≡ length l.yielded;
  closed : AreClosed (lists_of l.yielded) (lists_of l.closed);
  off : (session : ℕ) → session < l.session → is_connected l.recorder.state session ≡ false;
}
