use Rattle.std.proofs.Common.{◌≡◌, ◌∙◌, IfOk, List, ap, subst, sym}
use Rattle.std.proofs.lemmas.Result.{IfOk-weaker}
use Rattle.desk_values.specs.declared.value.Image.{Image}
use Rattle.row_versions.specs.declared.versions.Version.{Version}
use Rattle.row_versions.specs.History.{AreRowsAt, History, looked, seen_of}
use Rattle.row_versions.specs.Inside.Links.{all_left}
use Rattle.row_versions.proofs.Chains.{no_place}
use Rattle.row_versions.proofs.Listing.{rows_told}
use Rattle.row_versions.proofs.versions.Versions.rows_at.Goals as goal

pub returns : goal.returns
returns c =
    let list = c.self.inside.list.items in
    let n = c.args.n in
    let entries = c.self.inside.last.entries in
    let told : AreRowsAt (seen_of list) n (all_left (seen_of list) n entries) = rows_told (seen_of list) n entries c.rows_of.ensures.order (λ row none. no_place 0 row n list (sym (c.self.invariant.lasts row) ∙ none)) in
    subst (λ (h : History). IfOk c.rows_of.result (λ rows. AreRowsAt h.list n (looked rows.items))) c.self.view_is
    (IfOk-weaker c.rows_of.result (λ rows. looked rows.items ≡ all_left (seen_of c.deref.result.now) n entries) (λ rows. AreRowsAt (seen_of list) n (looked rows.items))
    (λ rows is. subst (λ (images : List Image). AreRowsAt (seen_of list) n images) (sym (is ∙ ap (λ (xs : List Version). all_left (seen_of xs) n entries) c.deref.ensures.value)) told) c.rows_of.ensures.rows)
