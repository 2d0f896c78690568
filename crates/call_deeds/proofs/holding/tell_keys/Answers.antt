use Rattle.std.proofs.Common.{◌≡◌, ◌∷◌, ◌++◌, ◌+◌, List, [], take, sym, ap, subst, ◌∙◌, arith}
use Rattle.std.proofs.lemmas.List.{take_all, take_more}
use Rattle.hold_index.specs.Told.{PrintsMove, print_in}
use Rattle.server_words.specs.declared.session.HeldKey.{HeldKey}
use Rattle.machine_stores.specs.Holds.{prints_of}
use Rattle.call_deeds.proofs.Held.{prints_more}
use Rattle.call_deeds.proofs.holding.tell_keys.Goals as goal

pub loop-held-init : goal.loop-held-init
loop-held-init c = λ rows rest are. are

pub loop-held-preserved : goal.loop-held-preserved
loop-held-preserved c =
    let done = take c.loop-held.held-index c.args.keys.now in
    let held = c.held-item.result in
    let more : done ++ held ∷ [] ≡ take (c.loop-held.held-index + 1) c.args.keys.now = ap (λ (x : HeldKey). done ++ x ∷ []) c.held-item.is ∙ sym (take_more c.args.keys.now c.loop-held.held-index held (omega arith)) in
    let prints : prints_of done ++ print_in held.table held.key ∷ [] ≡ prints_of (take (c.loop-held.held-index + 1) c.args.keys.now) = sym (prints_more done held) ∙ ap (λ (l : List HeldKey). prints_of l) more in
    subst (PrintsMove c.args.holds.now c.hold_key.new.self c.args.session []) prints (λ rows rest are. c.hold_key.ensures (prints_of done) rows rest (c.loop-held.invariant rows rest are))

pub returns : goal.returns
returns c = subst (λ (l : List HeldKey). PrintsMove c.args.holds.now c.loop-held.holds c.args.session [] (prints_of l)) (take_all c.loop-held.held-index c.args.keys.now (omega arith)) c.loop-held.invariant
