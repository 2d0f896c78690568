use Rattle.std.proofs.Common.{◌≡◌, ◌++◌, List, drop}
use Rattle.hold_index.specs.Told.{PrintsMove}
use Rattle.server_words.specs.declared.session.HeldKey.{HeldKey}
use Rattle.server_words.specs.Writes.{with_keys}
use Rattle.machine_stores.specs.Holds.{prints_of}
use Rattle.call_deeds.proofs.holding.hold_keys.Given as goal

abbrev pub invariant-loop-key : goal.invariant-loop-key
invariant-loop-key l = record {
  keys : with_keys l.table l.held (drop l.key-index l.keys) ≡ with_keys l.table l.fn.held l.keys;
  front : (more : List HeldKey) × (l.held ≡ l.fn.held ++ more);
  told : PrintsMove l.fn.holds l.holds l.session (prints_of l.fn.held) (prints_of l.held);
}
