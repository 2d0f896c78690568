use Rattle.std.proofs.Common.{◌≡◌, ◌∙◌, ◌≤◌, ◌++◌, ◌∷◌, [], All, List, sym, ap, subst, arith}
use Rattle.std.proofs.lemmas.List.{map_push}
use Rattle.std.proofs.lemmas.List.Elements.{recursion_from_All}
use Rattle.row_versions.specs.History.{History, Written}
use Rattle.twin_tables.specs.declared.ledger.Change.{Change}
use Rattle.twin_tables.specs.Ledger.{NumbersRise, change_of, changes_of}
use Rattle.twin_tables.proofs.Written.{rise_push}
use Rattle.twin_tables.proofs.ledger.Ledger.put.Goals as goal

pub put-requires : goal.put-requires
put-requires c = subst (λ (h : History). All (λ (w : Written). w.number ≤ c.args.number) h.list) (sym c.self.view_is) c.requires

-- behind the version and its change
pub invariant_of-self-2 : goal.invariant_of-self-2
invariant_of-self-2 c =
    let w : Written = record { number = c.args.number; image = c.args.image } in
    let old = c.self.inside.versions.list in
    let list : c.put.new.self.list ≡ old ++ w ∷ [] = c.in_ok-put.ensures.ok in
    let pushed : c.push.new.self.items ≡ c.self.inside.changes.items ++ change_of w ∷ [] = rw c.unwrap.ensures at c.push.ensures.items ∙ ap (λ (cs : List Change). cs ++ change_of w ∷ []) c.reserve.ensures.items in
    let below = subst (λ (h : History). All (λ (v : Written). v.number ≤ c.args.number) h.list) (sym c.self.view_is) c.requires in (
      pushed ∙ ap (λ (cs : List Change). cs ++ change_of w ∷ []) c.self.invariant.0 ∙ sym (map_push change_of old w) ∙ ap changes_of (sym list),
      subst (NumbersRise 0) (sym list) (rise_push old 0 w c.self.invariant.1 (omega arith) (recursion_from_All (λ (v : Written). v.number ≤ c.args.number) old below)),
    )

pub returns-clause-list : goal.returns-clause-list
returns-clause-list c = c.in_ok-put.ensures.ok ∙ ap (λ (h : History). h.list ++ record { number = c.args.number; image = c.args.image } ∷ []) c.self.view_is
