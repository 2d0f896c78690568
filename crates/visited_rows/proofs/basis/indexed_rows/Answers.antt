use Rattle.std.proofs.Common.{length, sym, ◌∙◌}
use Rattle.visited_rows.specs.Inside.Indexed.{committed_rows}
use Rattle.machine_stores.specs.Tables.{count_seen}
use Rattle.machine_stores.proofs.Noting.{finds_at, seen_latest}
use Rattle.machine_stores.proofs.Storing.{count_most, rising_after, tells_last, told_here}
use Rattle.visited_rows.proofs.basis.indexed_rows.Goals as goal

pub returns-clause-indexed : goal.returns-clause-indexed
returns-clause-indexed c =
    let basis = c.args.basis in
    let start = basis.start.now in
    let commits = basis.commits.now in
    let low = count_seen basis.session.now.snapshot (length commits) in
    let versions = c.in_ok-versions.versions.now in
    let within = c.in_ok-versions.ensures.lookup.3.0 in
    let tells = told_here low start commits basis.versions.now basis.table versions c.requires.basis.told within c.in_ok-versions.ensures.lookup.1 in
    let told = tells_last low start commits basis.table versions tells (count_most basis.session.now.snapshot (length commits)) in
    record {
      rows = rising_after start commits basis.table c.requires.basis.rising;
      told = told;
      changes = c.requires.rising;
      finds = finds_at basis.indexes.now basis.versions.now (length commits) basis.table c.in_ok-index.index.now versions (committed_rows basis) c.requires.basis.indexed c.in_ok-index.ensures.lookup.3.0 within
          c.in_ok-index.ensures.lookup.1 c.in_ok-versions.ensures.lookup.1 (sym c.is_kept.ensures ∙ c.if-not-is_kept.false) told;
    }

pub returns-clause-rows : goal.returns-clause-rows
returns-clause-rows c =
    let basis = c.args.basis in
    seen_latest basis.start.now basis.commits.now basis.session.now basis.table (c.reads_latest.ensures c.if-not-reads_latest.false)
