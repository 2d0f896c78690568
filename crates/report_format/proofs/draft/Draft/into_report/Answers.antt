use Rattle.std.proofs.Common.{◌≡◌, ◌∙◌, ℕ, List, ap}
use Rattle.report_format.specs.ReportFile.{ReportView, counts_in}
use Rattle.report_format.proofs.Files.{report_with}
use Rattle.report_format.proofs.draft.Draft.into_report.Goals as goal

pub returns : goal.returns
returns c =
    let counts : c.counts_of-counts.result ≡ counts_in c.self.inside.calls c.self.inside.lines = c.counts_of-counts.ensures ∙ ap (counts_in c.self.inside.calls) c.as_slice.ensures in
    ap (λ (cs : List ℕ). record { calls = c.self.inside.calls; counts = cs; lines = c.self.inside.lines }) counts ∙ ap (λ (v : ReportView). report_with v.calls v.lines) c.self.view_is
