use Rattle.std.proofs.Common.{ℕ, List, [], subst}
use Rattle.hold_index.specs.Told.{PrintsMove, RowsMove, own_or}
use Rattle.server_words.specs.declared.session.HeldKey.{HeldKey}
use Rattle.machine_stores.specs.Holds.{prints_of}
use Rattle.call_deeds.proofs.holding.free_own.Goals as goal

pub returns : goal.returns
returns c = λ session rows prints are.
    let own = c.args.own.now in
    let first = subst (λ (l : List ℕ). RowsMove c.args.holds.now c.free_rows.new.self session l []) c.as_slice.ensures (c.free_rows.ensures session) in
    let second = subst (λ (l : List HeldKey). PrintsMove c.free_rows.new.self c.free_keys.new.holds session (prints_of l) []) c.as_slice-2.ensures (c.free_keys.ensures session) in
    second (own_or session [] rows) prints (first rows (own_or session (prints_of own.keys) prints) are)
