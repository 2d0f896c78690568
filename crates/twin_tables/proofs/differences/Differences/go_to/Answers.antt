use Rattle.std.proofs.Common.{refl}
use Rattle.twin_tables.specs.declared.differences.Differences.{Differences}
use Rattle.twin_tables.specs.Differences.{both_of}
use Rattle.twin_tables.proofs.Keeping.{kept_asked, kept_moved}
use Rattle.twin_tables.proofs.differences.Differences.go_to.Goals as goal

pub returns-clause-kept : goal.returns-clause-kept
returns-clause-kept c =
    let both = both_of c.args.with in
    let mid = c.begin_before.new.self in
    let new : Differences = record mid { captured_at = c.args.with.captured_at; replayed_at = c.args.with.replayed_at } in
    kept_moved both.pairs both.captured both.replayed both mid new refl refl refl
    (kept_asked both.pairs both.captured both.replayed c.args.with.captured_at c.args.with.replayed_at c.args.self.now mid c.know_map.ensures c.requires c.begin_before.ensures)
