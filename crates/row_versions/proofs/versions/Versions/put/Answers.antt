use Rattle.std.proofs.Common.{◌≡◌, ◌∙◌, ◌++◌, ◌∷◌, [], ◌≤◌, true, List, All, length, sym, ap, subst, rules}
use Rattle.std.proofs.lemmas.List.Elements.{recursion_from_All}
use Rattle.row_versions.specs.declared.versions.Version.{Version}
use Rattle.row_versions.specs.History.{History, Written, seen_of}
use Rattle.row_versions.specs.Inside.Links.{IsKept}
use Rattle.row_versions.proofs.Chains.{kept_push}
use Rattle.row_versions.proofs.versions.Versions.put.Goals as goal

pub invariant_of-self-2 : goal.invariant_of-self-2
invariant_of-self-2 c =
    let list = c.self.inside.list.items in
    let version : Version = record { number = c.args.n; image = c.args.image; before = c.in_ok-before.before; jump = c.jump_of-jump.result.0; depth = c.jump_of-jump.result.1; is_needed = true } in
    let grown : c.push.new.self.items ≡ list ++ version ∷ [] = rw c.unwrap.ensures at c.push.ensures.items ∙ ap (λ (xs : List Version). xs ++ version ∷ []) c.reserve.ensures.items in
    let below : All (λ (w : Written). w.number ≤ c.args.n) (seen_of list) = subst (λ (h : History). All (λ (w : Written). w.number ≤ c.args.n) h.list) (sym c.self.view_is) c.requires in
    let len : c.len.result ≡ length list = search rules in
    subst (λ (xs : List Version). IsKept xs c.insert.new.self) (sym grown) (kept_push list version c.self.inside.last c.insert.new.self c.self.invariant
    c.in_ok-before.ensures.old
    (recursion_from_All (λ (w : Written). w.number ≤ c.args.n) (seen_of list) below)
    (rw len at c.in_ok-before.ensures.updates.0))
