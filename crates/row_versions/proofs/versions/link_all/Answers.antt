use Rattle.std.proofs.Common.{◌≡◌, ◌∙◌, ◌+◌, ◌<◌, ◌≤◌, ℕ, Bool, true, false, cond, None, Some, Option, List, take, length, get_or, refl, sym, ap, subst, arith, rules}
use Rattle.std.specs.BTreeMap.{get, is_at}
use Rattle.std.specs.List.{list_any}
use Rattle.std.specs.Option.{option_map, unwrap_or}
use Rattle.std.specs.Ordering.{nat_cmp}
use Rattle.std.proofs.lemmas.List.{get_or_default, take_all}
use Rattle.row_versions.specs.declared.versions.Version.{Version}
use Rattle.row_versions.specs.History.{Written, is_of_row, seen_of}
use Rattle.row_versions.specs.Inside.Links.{AreLinked, last_place}
use Rattle.row_versions.proofs.Pruning.{before_is, linked_more, placed_last, placed_more, row_apart, same_row_at, stands_in}
use Rattle.row_versions.proofs.versions.link_all.Goals as goal

pub loop-at-init : goal.loop-at-init
loop-at-init c = record { seen = refl; len = refl; linked = search rules; placed = λ row there. c.requires.placed row there; others = λ row none. refl }

pub loop-at-preserved : goal.loop-at-preserved
loop-at-preserved c =
    let inv = c.loop-at.invariant in
    let at = c.loop-at.at in
    let old = c.loop-at.list.items in
    let v : Version = c.index.result.now in
    let within : at < length old = omega (arith, inv.len) in
    let read : v ≡ get_or old at v = c.index.ensures in
    let all = λ (row : ℕ). ap (λ (l : List Written). list_any (is_of_row row) l) inv.seen in
    let own = sym (all v.image.row) ∙ stands_in old at v within read in
    let is = c.placed-before.ensures ∙ before_is c.args.behind v.image.row old at (get nat_cmp c.loop-at.last v.image.row) (omega (arith, c.requires.behind, inv.len, within)) (inv.placed v.image.row own) in
    let linked_at = c.link.ensures v in
    let same = same_row_at old c.link.new.list.items at v within read linked_at.seen in
    record {
      seen = linked_at.seen ∙ inv.seen;
      len = linked_at.len ∙ inv.len;
      linked = linked_more c.args.behind at old c.link.new.list.items c.placed-before.result v within linked_at same is inv.linked;
      placed = λ row there. placed_more c.args.behind at old c.link.new.list.items c.placed-before.result v within linked_at row (get nat_cmp c.loop-at.last row) (get nat_cmp c.set_place.new.last row) same (inv.placed row there) (c.set_place.ensures row);
      others = λ row none. row_apart v.image.row row at (get nat_cmp c.loop-at.last row) (get nat_cmp c.set_place.new.last row) (seen_of c.args.list.now.items) own none (c.set_place.ensures row) ∙ inv.others row none;
    }

pub returns-clause-linked : goal.returns-clause-linked
returns-clause-linked c = subst AreLinked (take_all c.loop-at.at c.loop-at.list.items (omega (arith, c.loop-at.invariant.len))) c.loop-at.invariant.linked

pub returns-clause-placed : goal.returns-clause-placed
returns-clause-placed c = λ row there.
    let inv = c.loop-at.invariant in
    let whole = take_all c.loop-at.at c.loop-at.list.items (omega (arith, inv.len)) in
    placed_last c.args.behind row c.loop-at.list.items (get nat_cmp c.loop-at.last row) there (inv.placed row (sym (ap (λ (l : List Written). list_any (is_of_row row) l) inv.seen) ∙ there) ∙ ap (λ (l : List Version). Some (unwrap_or (last_place row l) c.args.behind)) whole)

pub returns-clause-others : goal.returns-clause-others
returns-clause-others c = λ row none. c.loop-at.invariant.others row (sym (ap (λ (l : List Written). list_any (is_of_row row) l) c.loop-at.invariant.seen) ∙ none)

pub returns-clause-len : goal.returns-clause-len
returns-clause-len c = c.loop-at.invariant.len
