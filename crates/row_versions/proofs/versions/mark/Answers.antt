use Rattle.std.proofs.Common.{◌≡◌, ◌∙◌, ◌+◌, ◌-◌, ◌<◌, ◌≤◌, ◌++◌, ◌&&◌, ◌∷◌, Bool, true, ℕ, suc, List, take, drop, set, length, get_or, not, if◌then◌else◌, length-append, sym, ap, subst, arith, append-nil, eqb, refl, []}
use Rattle.std.specs.Prelude.{is_some, nat_le}
use Rattle.std.specs.BTreeMap.{get}
use Rattle.std.specs.Ordering.{nat_cmp}
use Rattle.std.proofs.lemmas.Bool.{eq-eqb}
use Rattle.std.proofs.lemmas.List.{drop_all, get_or_default, take_all}
use Rattle.row_versions.specs.declared.versions.Version.{Version}
use Rattle.row_versions.specs.Inside.Links.{has_row, is_needed, is_unplaced, marked}
use Rattle.row_versions.proofs.Pruning.{drop_next, mark_more, mark_reads, met_more, rows_more, stands_in}
use Rattle.row_versions.proofs.versions.mark.Goals as goal

-- all are behind the end
pub loop-at-init : goal.loop-at-init
loop-at-init c =
    let list = c.args.list.now.items in
    let none : drop c.len-at.result list ≡ [] = drop_all c.len-at.result list (omega (arith, c.len-at.ensures)) in
    record {
      within = omega (arith, c.len-at.ensures);
      list = sym (ap (λ (l : List Version). l ++ marked c.args.n (drop c.len-at.result list)) (take_all c.len-at.result list (omega (arith, c.len-at.ensures)))
          ∙ ap (λ (l : List Version). list ++ marked c.args.n l) none ∙ append-nil list);
      met = λ row there.
          ap (is_unplaced c.args.behind) (c.requires.placed row there) ∙ eq-eqb c.args.behind c.args.behind refl ∙ sym (ap (λ (l : List Version). not (has_row row c.args.n l)) none);
      rows = λ row. refl;
    }

pub loop-at-preserved : goal.loop-at-preserved
loop-at-preserved c =
    let list = c.args.list.now.items in
    let at = c.loop-at.at - 1 in
    let v = c.index.result.now in
    let n = c.args.n in
    let next : c.loop-at.at ≡ suc at = omega arith in
    let within : at < length list = omega (arith, c.loop-at.invariant.within) in
    let whole : c.loop-at.list.items ≡ take (suc at) list ++ marked n (drop (suc at) list) = c.loop-at.invariant.list ∙ ap (λ (k : ℕ). take k list ++ marked n (drop k list)) next in
    let read : v ≡ get_or list at v = c.index.ensures ∙ ap (λ (l : List Version). get_or l at v) whole ∙ mark_reads n list at v within in
    let later = drop (suc at) list in
    let own = stands_in list at v within read in
    let last : is_unplaced c.args.behind (get nat_cmp c.loop-at.last v.image.row) ≡ not (has_row v.image.row n later) = c.loop-at.invariant.met v.image.row own ∙ ap (λ (k : ℕ). not (has_row v.image.row n (drop k list))) next in
    let needed : c.meet-is_needed.result ≡ is_needed n v later = c.meet-is_needed.ensures.needed ∙ ap (λ (b : Bool). if nat_le v.number n then is_some v.image.left && b else true) last in
    record {
      within = omega (arith, within);
      list = c.set_mark.ensures v ∙ ap (λ (l : List Version). set l at (record (get_or l at v) { is_needed = c.meet-is_needed.result })) whole
          ∙ ap (λ (w : Version). set (take (suc at) list ++ marked n later) at (record w { is_needed = c.meet-is_needed.result })) (mark_reads n list at v within ∙ sym read)
          ∙ ap (λ (b : Bool). set (take (suc at) list ++ marked n later) at (record v { is_needed = b })) needed ∙ mark_more n list at v within read;
      met = λ row there.
          met_more c.args.behind n at v later c.loop-at.last c.meet-is_needed.new.last (omega (arith, c.requires.behind, within)) c.meet-is_needed.ensures.last row (c.loop-at.invariant.met row there ∙ ap (λ (k : ℕ). not (has_row row n (drop k list))) next)
          ∙ sym (ap (λ (l : List Version). not (has_row row n l)) (drop_next list at v within read));
      rows = λ row. rows_more c.args.behind n at v later c.loop-at.last c.meet-is_needed.new.last (omega (arith, c.requires.behind, within)) c.meet-is_needed.ensures.last row ∙ c.loop-at.invariant.rows row;
    }
