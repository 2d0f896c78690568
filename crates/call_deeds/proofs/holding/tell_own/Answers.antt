use Rattle.std.proofs.Common.{ℕ, List, [], subst}
use Rattle.hold_index.specs.Told.{PrintsMove, RowsMove, own_or}
use Rattle.server_words.specs.declared.session.HeldKey.{HeldKey}
use Rattle.machine_stores.specs.Holds.{prints_of}
use Rattle.call_deeds.proofs.holding.tell_own.Goals as goal

pub returns : goal.returns
returns c = λ rows prints are.
    let own = c.args.own.now in
    let first = subst (λ (l : List ℕ). RowsMove c.args.holds.now c.tell_rows.new.holds c.args.session [] l) c.as_slice.ensures c.tell_rows.ensures in
    let second = subst (λ (l : List HeldKey). PrintsMove c.tell_rows.new.holds c.tell_keys.new.holds c.args.session [] (prints_of l)) c.as_slice-2.ensures c.tell_keys.ensures in
    second (own_or c.args.session own.rows rows) prints (first rows (own_or c.args.session [] prints) are)
