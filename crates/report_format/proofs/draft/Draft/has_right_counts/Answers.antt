use Rattle.std.proofs.Common.{◌≡◌, subst}
use Rattle.std.specs.Prelude.{Decides}
use Rattle.std.proofs.lemmas.Bool.Decides.{Decides-eqb}
use Rattle.std.proofs.lemmas.Slice.Eq.{slice_eq-Decides}
use Rattle.report_format.specs.ReportFile.{ReportView, counts_in}
use Rattle.report_format.proofs.draft.Draft.has_right_counts.Goals as goal

pub returns : goal.returns
returns c =
    let same : Decides c.eq.result (c.as_slice-2.result.now ≡ c.as_slice-3.result.now) = slice_eq-Decides Decides-eqb c.as_slice-2.result.now c.as_slice-3.result.now c.eq.result c.eq.ensures in
    subst (λ (v : ReportView). Decides c.eq.result (v.counts ≡ counts_in v.calls v.lines)) c.self.view_is
    (rw (c.as_slice-2.ensures, c.as_slice-3.ensures, c.counts_of-counts.ensures, c.as_slice.ensures) at same)
