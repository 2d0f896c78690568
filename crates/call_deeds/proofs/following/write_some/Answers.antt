use Rattle.std.proofs.Common.{[], append-nil, sym}
use Rattle.hold_index.specs.Told.{own_or}
use Rattle.machine_stores.specs.Holds.{prints_of}
use Rattle.call_deeds.proofs.following.write_some.Goals as goal

pub hold_rows-requires : goal.hold_rows-requires
hold_rows-requires c = (c.requires.0, own_or c.args.number (prints_of c.args.own.now.keys) c.requires.1, c.requires.2)

pub hold_keys-requires : goal.hold_keys-requires
hold_keys-requires c = (own_or c.args.number c.hold_rows.new.held c.requires.0, c.requires.1, c.hold_rows.ensures.told c.requires.0 (own_or c.args.number (prints_of c.args.own.now.keys) c.requires.1) c.requires.2)

pub returns-in_err-hold_rows-clause-rows : goal.returns-in_err-hold_rows-clause-rows
returns-in_err-hold_rows-clause-rows c = c.hold_rows.ensures.front

pub returns-in_err-hold_rows-clause-keys : goal.returns-in_err-hold_rows-clause-keys
returns-in_err-hold_rows-clause-keys c = ([], sym (append-nil c.args.own.now.keys))

pub returns-in_err-hold_rows-clause-told : goal.returns-in_err-hold_rows-clause-told
returns-in_err-hold_rows-clause-told c = λ rows prints are. c.hold_rows.ensures.told rows (own_or c.args.number (prints_of c.args.own.now.keys) prints) are

pub returns-in_err-hold_keys-clause-rows : goal.returns-in_err-hold_keys-clause-rows
returns-in_err-hold_keys-clause-rows c = c.hold_rows.ensures.front

pub returns-in_err-hold_keys-clause-keys : goal.returns-in_err-hold_keys-clause-keys
returns-in_err-hold_keys-clause-keys c = c.hold_keys.ensures.front

pub returns-in_err-hold_keys-clause-told : goal.returns-in_err-hold_keys-clause-told
returns-in_err-hold_keys-clause-told c = λ rows prints are.
    c.hold_keys.ensures.told (own_or c.args.number c.hold_rows.new.held rows) prints (c.hold_rows.ensures.told rows (own_or c.args.number (prints_of c.args.own.now.keys) prints) are)

pub returns-in_err-note-clause-rows : goal.returns-in_err-note-clause-rows
returns-in_err-note-clause-rows c = c.hold_rows.ensures.front

pub returns-in_err-note-clause-keys : goal.returns-in_err-note-clause-keys
returns-in_err-note-clause-keys c = c.hold_keys.ensures.front

pub returns-in_err-note-clause-told : goal.returns-in_err-note-clause-told
returns-in_err-note-clause-told c = λ rows prints are.
    c.hold_keys.ensures.told (own_or c.args.number c.hold_rows.new.held rows) prints (c.hold_rows.ensures.told rows (own_or c.args.number (prints_of c.args.own.now.keys) prints) are)

pub returns-clause-rows : goal.returns-clause-rows
returns-clause-rows c = c.hold_rows.ensures.front

pub returns-clause-keys : goal.returns-clause-keys
returns-clause-keys c = c.hold_keys.ensures.front

pub returns-clause-told : goal.returns-clause-told
returns-clause-told c = λ rows prints are.
    c.hold_keys.ensures.told (own_or c.args.number c.hold_rows.new.held rows) prints (c.hold_rows.ensures.told rows (own_or c.args.number (prints_of c.args.own.now.keys) prints) are)
