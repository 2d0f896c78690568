use Rattle.std.proofs.Common.{◌≡◌, ◌∙◌, ◌+◌, ◌++◌, ◌∷◌, [], List, ℕ, if◌then◌else◌, take, ap, subst, sym, arith}
use Rattle.std.specs.BTreeMap.{get}
use Rattle.std.specs.List.{list_any}
use Rattle.std.specs.Option.{option_map}
use Rattle.std.specs.Ordering.{nat_cmp}
use Rattle.std.proofs.lemmas.List.{take_all, take_more}
use Rattle.row_versions.specs.declared.versions.Version.{Version}
use Rattle.row_versions.specs.History.{is_of_row, seen_of}
use Rattle.row_versions.proofs.Pruning.{place_more}
use Rattle.row_versions.proofs.versions.place_behind.Goals as goal

pub loop-version-preserved : goal.loop-version-preserved
loop-version-preserved c = λ row.
    let list = c.args.list.now in
    let i = c.loop-version.version-index in
    let v = c.version-item.result in
    let front : take i list ++ v ∷ [] ≡ take (i + 1) list = ap (λ (x : Version). take i list ++ x ∷ []) c.version-item.is ∙ sym (take_more list i v (omega arith)) in
    subst (λ (l : List Version). get nat_cmp c.set_place.new.last row ≡ (if list_any (is_of_row row) (seen_of l) then option_map (λ _. c.args.behind) (get nat_cmp c.args.last.now row) else get nat_cmp c.args.last.now row)) front
    (place_more c.args.behind row (take i list) v c.args.last.now c.loop-version.last c.set_place.new.last (c.loop-version.invariant row) (c.set_place.ensures row))

pub returns : goal.returns
returns c = λ row.
    subst (λ (l : List Version). get nat_cmp c.loop-version.last row ≡ (if list_any (is_of_row row) (seen_of l) then option_map (λ _. c.args.behind) (get nat_cmp c.args.last.now row) else get nat_cmp c.args.last.now row))
    (take_all c.loop-version.version-index c.args.list.now (omega arith)) (c.loop-version.invariant row)
