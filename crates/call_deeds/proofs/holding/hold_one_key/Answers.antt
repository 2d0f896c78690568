use Rattle.std.proofs.Common.{◌∷◌, ◌++◌, Bool, List, [], sym, ap, subst, ◌∙◌}
use Rattle.std.specs.Prelude.{if◌then◌else◌}
use Rattle.desk_values.specs.declared.value.Value.{Value}
use Rattle.hold_index.specs.Told.{PrintsMove}
use Rattle.server_words.specs.declared.session.HeldKey.{HeldKey}
use Rattle.machine_stores.specs.Holds.{prints_of}
use Rattle.call_deeds.proofs.Held.{prints_more}
use Rattle.call_deeds.proofs.holding.hold_one_key.Goals as goal

abbrev held_with : List HeldKey → HeldKey → Bool → List HeldKey
held_with held key there = if there then held else held ++ key ∷ []

pub returns-then-has_key-clause-ok : goal.returns-then-has_key-clause-ok
returns-then-has_key-clause-ok c = sym (ap (held_with c.args.held.now (record { table = c.args.table; key = c.args.key.now })) (sym c.has_key.ensures ∙ c.if-has_key.true))

pub returns-then-has_key-clause-told : goal.returns-then-has_key-clause-told
returns-then-has_key-clause-told c = λ rows rest are. are

pub returns-in_err-copy-clause-told : goal.returns-in_err-copy-clause-told
returns-in_err-copy-clause-told c = λ rows rest are. are

pub returns-in_err-push-clause-told : goal.returns-in_err-push-clause-told
returns-in_err-push-clause-told c =
    subst (λ (l : List HeldKey). PrintsMove c.args.holds.now c.args.holds.now c.args.session (prints_of c.args.held.now) (prints_of l)) (sym c.in_err-push.ensures.err) (λ rows rest are. are)

pub returns-clause-ok : goal.returns-clause-ok
returns-clause-ok c =
    c.in_ok-push.ensures.ok ∙ ap (λ (key : Value). c.args.held.now ++ record { table = c.args.table; key = key } ∷ []) c.in_ok-copy.ensures
    ∙ sym (ap (held_with c.args.held.now (record { table = c.args.table; key = c.args.key.now })) (sym c.has_key.ensures ∙ c.if-has_key.false))

pub returns-clause-told : goal.returns-clause-told
returns-clause-told c =
    let key : HeldKey = record { table = c.args.table; key = c.args.key.now } in
    let held = c.in_ok-push.ensures.ok ∙ ap (λ (value : Value). c.args.held.now ++ record { table = c.args.table; key = value } ∷ []) c.in_ok-copy.ensures in
    subst (λ (l : List HeldKey). PrintsMove c.args.holds.now c.hold_key.new.self c.args.session (prints_of c.args.held.now) (prints_of l)) (sym held)
    (subst (PrintsMove c.args.holds.now c.hold_key.new.self c.args.session (prints_of c.args.held.now)) (sym (prints_more c.args.held.now key)) (c.hold_key.ensures (prints_of c.args.held.now)))
