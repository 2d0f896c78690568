use Rattle.std.proofs.Common.{◌≡◌, ◌∙◌, ◌≤◌, ℕ, Bool, true, false, if◌then◌else◌, List, Option, length, sym, ap, subst, arith}
use Rattle.std.specs.Prelude.{is_some}
use Rattle.std.specs.BTreeMap.{BTreeMap, get}
use Rattle.std.specs.List.{filter, list_any}
use Rattle.std.specs.Option.{option_map}
use Rattle.std.specs.Ordering.{nat_cmp}
use Rattle.row_versions.specs.declared.versions.Version.{Version}
use Rattle.row_versions.specs.History.{History, IsPartOf, ReadsStay, is_of_row, seen_of}
use Rattle.row_versions.specs.Inside.Links.{ArePlacedBehind, IsKept, is_marked, marked, needed}
use Rattle.row_versions.proofs.Needing.{pruned_out, pruned_reads}
use Rattle.row_versions.proofs.Pruning.{behind_kept, kept_behind, kept_pruned, length_marked, marked_seen, no_last, seen_marked, some_behind}
use Rattle.row_versions.proofs.versions.Versions.prune.Goals as goal

-- the rows of these versions are placed there, and all else is as it was
abbrev are_placed : ℕ → BTreeMap ℕ ℕ → BTreeMap ℕ ℕ → List Version → Type 0
are_placed behind old new list = (row : ℕ) → get nat_cmp new row ≡ (if list_any (is_of_row row) (seen_of list) then option_map (λ _. behind) (get nat_cmp old row) else get nat_cmp old row)

-- once the versions are marked, each row is placed behind all of them again
again : (behind n : ℕ) (list : List Version) (first second third fourth : BTreeMap ℕ ℕ) → IsKept list first → are_placed behind first second list
    → ((row : ℕ) → is_some (get nat_cmp third row) ≡ is_some (get nat_cmp second row)) → are_placed behind third fourth (marked n list) → ArePlacedBehind behind (marked n list) fourth
again behind n list first second third fourth kept one same two =
    some_behind behind (marked n list) third fourth
    (λ row there. same row ∙ ap is_some (kept_behind behind list first second kept one row (sym (ap (list_any (is_of_row row)) (seen_marked n list)) ∙ there))) two

elsewhere : {b : Bool} (behind : ℕ) (o : Option ℕ) → b ≡ false → (if b then option_map (λ _. behind) o else o) ≡ o
elsewhere behind o none = ap (λ (b : Bool). if b then option_map (λ _. behind) o else o) none

pub mark-requires-clause-placed : goal.mark-requires-clause-placed
mark-requires-clause-placed c =
    kept_behind c.len-behind.result c.self.inside.list.items c.self.inside.last c.place_behind.new.last c.self.invariant
    (subst (are_placed c.len-behind.result c.self.inside.last c.place_behind.new.last) c.deref.ensures.value c.place_behind.ensures)

pub link_all-requires-clause-behind : goal.link_all-requires-clause-behind
link_all-requires-clause-behind c =
    omega (arith, c.drop_unmarked.ensures.len, ap length c.mark.ensures.list, length_marked c.self.inside.floor c.self.inside.list.items, c.len-behind.ensures)

pub link_all-requires-clause-placed : goal.link_all-requires-clause-placed
link_all-requires-clause-placed c =
    let behind = c.len-behind.result in
    let n = c.self.inside.floor in
    let list = c.self.inside.list.items in
    let one = subst (are_placed behind c.self.inside.last c.place_behind.new.last) c.deref.ensures.value c.place_behind.ensures in
    let two = subst (are_placed behind c.mark.new.last c.place_behind-2.new.last) (c.deref-2.ensures.value ∙ c.mark.ensures.list) c.place_behind-2.ensures in
    subst (λ (l : List Version). ArePlacedBehind behind l c.place_behind-2.new.last) (sym (c.drop_unmarked.ensures.list ∙ ap (filter is_marked) c.mark.ensures.list))
    (behind_kept behind (marked n list) c.place_behind-2.new.last (again behind n list c.self.inside.last c.place_behind.new.last c.mark.new.last c.place_behind-2.new.last c.self.invariant one c.mark.ensures.rows two))

seen_is : (c : goal.After-drop_behind) → seen_of c.link_all.new.list.items ≡ seen_of (needed c.self.inside.floor c.self.inside.list.items)
seen_is c = c.link_all.ensures.seen ∙ ap (λ (l : List Version). seen_of l) (c.drop_unmarked.ensures.list ∙ ap (filter is_marked) c.mark.ensures.list) ∙ marked_seen c.self.inside.floor c.self.inside.list.items

pub returns-clause-reads : goal.returns-clause-reads
returns-clause-reads c =
    subst (λ (h : History). ReadsStay h.floor h.list (seen_of c.link_all.new.list.items)) c.self.view_is (pruned_reads c.self.inside.floor c.self.inside.list.items (seen_of c.link_all.new.list.items) c.self.invariant.ascends (seen_is c))

pub returns-clause-fewer : goal.returns-clause-fewer
returns-clause-fewer c =
    subst (λ (h : History). IsPartOf (seen_of c.link_all.new.list.items) h.list) c.self.view_is (pruned_out c.self.inside.floor c.self.inside.list.items (seen_of c.link_all.new.list.items) (seen_is c))

pub invariant_of-self : goal.invariant_of-self
invariant_of-self c =
    let behind = c.len-behind.result in
    let n = c.self.inside.floor in
    let list = c.self.inside.list.items in
    let one = subst (are_placed behind c.self.inside.last c.place_behind.new.last) c.deref.ensures.value c.place_behind.ensures in
    let two = subst (are_placed behind c.mark.new.last c.place_behind-2.new.last) (c.deref-2.ensures.value ∙ c.mark.ensures.list) c.place_behind-2.ensures in
    let short : length c.link_all.new.list.items ≤ behind = omega (arith, c.link_all.ensures.len, c.drop_unmarked.ensures.len, ap length c.mark.ensures.list, length_marked n list, c.len-behind.ensures) in
    kept_pruned n behind list c.self.inside.last c.link_all.new.list.items c.place_behind-2.new.last c.link_all.new.last c.drop_behind.new.last c.self.invariant (seen_is c) c.link_all.ensures.linked short
    (λ row there. again behind n list c.self.inside.last c.place_behind.new.last c.mark.new.last c.place_behind-2.new.last c.self.invariant one c.mark.ensures.rows two row (ap (list_any (is_of_row row)) (seen_marked n list) ∙ there))
    (λ row none.
    let out : list_any (is_of_row row) (seen_of (marked n list)) ≡ false = ap (list_any (is_of_row row)) (seen_marked n list) ∙ none in
    ap is_some (two row ∙ elsewhere behind (get nat_cmp c.mark.new.last row) out) ∙ c.mark.ensures.rows row
    ∙ ap is_some (one row ∙ elsewhere behind (get nat_cmp c.self.inside.last row) none ∙ c.self.invariant.lasts row ∙ no_last row list none))
    c.link_all.ensures.placed c.link_all.ensures.others c.drop_behind.ensures
