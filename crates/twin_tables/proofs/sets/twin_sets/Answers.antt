use Rattle.std.proofs.Common.{◌≡◌, ◌↔◌, ◌∙◌, ◌+◌, Bool, List, [], ◌∷◌, ◌++◌, Some, IfOk, IsTrue, take, ap, sym, subst}
use Rattle.std.specs.List.{AllZip}
use Rattle.std.proofs.lemmas.List.{take_all, take_more}
use Rattle.std.proofs.lemmas.Result.{IfOk-weaker}
use Rattle.server_words.proofs.Handing.{zip_push}
use Rattle.law_server.specs.Renaming.Twins.{AreSets}
use Rattle.twin_tables.proofs.Alike.{carried_sets, no_sets, sets_carried}
use Rattle.twin_tables.proofs.sets.twin_sets.Goals as goal

pub returns-in-None : goal.returns-in-None
returns-in-None g c =
    let f = g.T.Member.carried c.args.map.now.pairs in
    let item = c.item-item.result in
    (λ t. absurd cc, λ sets. absurd (no_sets f c.args.items.now c.args.others.now item (c.loop-item.item-index, c.loop-item-test.true, sym c.item-item.is) (sym c.in_ok-other.ensures ∙ c.in-None.is) sets))

pub loop-item-preserved : goal.loop-item-preserved
loop-item-preserved g c =
    let R = λ (x y : g.row.T.Denot). g.T.Member.carried c.args.map.now.pairs x ≡ Some y in
    let items = c.args.items.now in
    let i = c.loop-item.item-index in
    let item = c.item-item.result in
    let more : take (i + 1) items ≡ take i items ++ item ∷ [] = take_more items i item c.loop-item-test.true ∙ ap (λ (x : g.row.T.Denot). take i items ++ x ∷ []) (sym c.item-item.is) in
    let zip = zip_push R (take i items) c.loop-item.carried.items item c.in-Some.other c.loop-item.invariant (sym c.in_ok-other.ensures ∙ c.in-Some.is) in
    subst (λ (xs : List g.row.T.Denot). AllZip R xs c.push.new.self.items) (sym more) (subst (λ (ys : List g.row.T.Denot). AllZip R (take i items ++ item ∷ []) ys) (sym c.in_ok-push-in-Some.ensures.items) zip)

pub returns : goal.returns
returns g c =
    let f = g.T.Member.carried c.args.map.now.pairs in
    let items = c.args.items.now in
    let others = c.args.others.now in
    let carried = c.loop-item.carried.items in
    let zip = subst (λ (xs : List g.row.T.Denot). AllZip (λ x y. f x ≡ Some y) xs carried) (take_all c.loop-item.item-index items c.loop-item-test.false) c.loop-item.invariant in
    IfOk-weaker c.same_sets.result
    (λ (same : Bool). IsTrue same ↔ AreSets (λ (x y : g.row.T.Denot). x ≡ y) carried others)
    (λ (twins : Bool). IsTrue twins ↔ AreSets (λ (x y : g.row.T.Denot). f x ≡ Some y) items others)
    (λ twins is. (λ t. sets_carried f items carried others zip (is.0 t), λ sets. is.1 (carried_sets f items carried others zip sets)))
    (subst (λ (ys : List g.row.T.Denot). IfOk c.same_sets.result (λ (same : Bool). IsTrue same ↔ AreSets (λ (x y : g.row.T.Denot). x ≡ y) carried ys)) c.in_ok-copies.ensures c.same_sets.ensures)
