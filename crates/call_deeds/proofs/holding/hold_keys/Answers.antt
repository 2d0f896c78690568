use Rattle.std.proofs.Common.{◌+◌, List, [], drop, append-nil, refl, sym, ap, ◌∙◌, arith}
use Rattle.std.proofs.lemmas.List.{drop_all}
use Rattle.server_words.specs.declared.session.HeldKey.{HeldKey}
use Rattle.server_words.specs.Writes.{with_keys}
use Rattle.call_deeds.proofs.Held.{key_more}
use Rattle.server_words.proofs.Looks.{front_of}
use Rattle.call_deeds.proofs.holding.hold_keys.Goals as goal

pub loop-key-init : goal.loop-key-init
loop-key-init c = record { keys = refl; front = ([], sym (append-nil c.args.held.now)); told = λ rows rest are. are }

pub hold_one_key-requires : goal.hold_one_key-requires
hold_one_key-requires c = (c.requires.0, c.requires.1, c.loop-key.invariant.told c.requires.0 c.requires.1 c.requires.2)

pub loop-key-preserved : goal.loop-key-preserved
loop-key-preserved c =
    let key = c.key-item.result in
    let more = key_more c.args.table c.args.held.now c.loop-key.held key c.loop-key.invariant.front in
    let rest = drop (c.loop-key.key-index + 1) c.args.keys.now in
    record {
      keys = ap (λ (l : List HeldKey). with_keys c.args.table l rest) c.in_ok-hold_one_key.ensures.ok
          ∙ sym (ap (with_keys c.args.table c.loop-key.held) (front_of c.args.keys.now c.loop-key.key-index key (omega arith) c.key-item.is)) ∙ c.loop-key.invariant.keys;
      front = (more.0, c.in_ok-hold_one_key.ensures.ok ∙ more.1);
      told = λ rows others are. c.hold_one_key.ensures.told rows others (c.loop-key.invariant.told rows others are);
    }

pub returns-in_err-hold_one_key-clause-front : goal.returns-in_err-hold_one_key-clause-front
returns-in_err-hold_one_key-clause-front c = (c.loop-key.invariant.front.0, c.in_err-hold_one_key.ensures.err ∙ c.loop-key.invariant.front.1)

pub returns-in_err-hold_one_key-clause-told : goal.returns-in_err-hold_one_key-clause-told
returns-in_err-hold_one_key-clause-told c = λ rows others are. c.hold_one_key.ensures.told rows others (c.loop-key.invariant.told rows others are)

pub returns-clause-ok : goal.returns-clause-ok
returns-clause-ok c = sym (ap (with_keys c.args.table c.loop-key.held) (drop_all c.loop-key.key-index c.args.keys.now (omega arith))) ∙ c.loop-key.invariant.keys

pub returns-clause-front : goal.returns-clause-front
returns-clause-front c = c.loop-key.invariant.front

pub returns-clause-told : goal.returns-clause-told
returns-clause-told c = c.loop-key.invariant.told
