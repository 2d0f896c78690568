use Rattle.std.proofs.Common.{◌≡◌, ◌∙◌, ◌∷◌, [], ◌++◌, List, ap, subst, sym}
use Rattle.std.specs.Prelude.{codes}
use Rattle.std.specs.List.{AllByRecursion}
use Rattle.replay_page.specs.declared.page.NamedText.{NamedText}
use Rattle.replay_page.specs.Data.{IsQuietFile}
use Rattle.replay_cli.specs.Decision.{left_of, perhaps_named}
use Rattle.replay_cli.specs.Inside.Showing.{journal_seen}
use Rattle.replay_cli.proofs.Quieted.{files_told, four_added, quiet_left}
use Rattle.replay_cli.proofs.showing.left_of.Goals as goal

pub returns-clause-left : goal.returns-clause-left
returns-clause-left c =
    let journal : NamedText = record { name = codes "journal.txt"; bytes = c.args.journal_bytes } in
    let report : NamedText = record { name = codes "report.txt"; bytes = c.args.report_bytes } in
    let causes = perhaps_named (codes "causes.csv") c.args.causes in
    let reads = perhaps_named (codes "fence.txt") c.args.reads in
    let files = four_added c.new-all.result _ _ _ _ causes reads journal report c.new-all.ensures c.in_ok-said_causes.ensures.file c.in_ok-said_reads.ensures.file c.in_ok-add.ensures c.in_ok-add-2.ensures in
    rw (c.in_ok-said_causes.ensures.value, c.in_ok-said_reads.ensures.value)
    (ap (λ (fs : List NamedText). record { run = (left_of (c.args.journal_bytes, journal_seen c.args.journal) (c.args.report_bytes, c.args.report) c.args.causes c.args.reads).run; files = fs }) files)

pub returns-clause-quiet : goal.returns-clause-quiet
returns-clause-quiet c =
    let journal : NamedText = record { name = codes "journal.txt"; bytes = c.args.journal_bytes } in
    let report : NamedText = record { name = codes "report.txt"; bytes = c.args.report_bytes } in
    let causes = perhaps_named (codes "causes.csv") c.args.causes in
    let reads = perhaps_named (codes "fence.txt") c.args.reads in
    let files = four_added c.new-all.result _ _ _ _ causes reads journal report c.new-all.ensures c.in_ok-said_causes.ensures.file c.in_ok-said_reads.ensures.file c.in_ok-add.ensures c.in_ok-add-2.ensures in
    subst (λ (fs : List NamedText). AllByRecursion IsQuietFile fs) (sym files)
    (quiet_left (c.args.journal_bytes, journal_seen c.args.journal) (c.args.report_bytes, c.args.report) c.args.causes c.args.reads c.requires.journal c.requires.report c.requires.causes c.requires.reads)
