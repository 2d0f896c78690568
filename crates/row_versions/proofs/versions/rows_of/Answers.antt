use Rattle.std.proofs.Common.{ap}
use Rattle.std.specs.Option.{option_copied}
use Rattle.row_versions.specs.History.{looked, seen_of}
use Rattle.row_versions.specs.Inside.Links.{all_left}
use Rattle.row_versions.proofs.Walking.{last_begin, last_here, last_on, rows_begin, rows_on}
use Rattle.row_versions.proofs.versions.rows_of.Goals as goal

pub loop-row-init : goal.loop-row-init
loop-row-init c =
    let gives = c.into_iter-row-iterator.ensures.into_iter_gives in
    let list = c.args.list.now in
    let entries = c.args.last.now.entries in (
      rows_begin (seen_of list) c.args.n (all_left (seen_of list) c.args.n entries) (looked c.new-rows.result.items) c.into_iter-row-iterator.result entries (ap looked c.new-rows.ensures.items) gives.0,
      last_begin list c.args.last.now c.into_iter-row-iterator.result gives.0 gives.6 c.requires.lasts,
    )

pub version_at-requires-clause-last : goal.version_at-requires-clause-last
version_at-requires-clause-last c = last_here c.args.list.now c.in-Some.row.now c.in-Some.at.now c.loop-row.row-iterator c.next.new.self c.in-Some.ensures.steps c.loop-row.invariant.1

pub loop-row-preserved : goal.loop-row-preserved
loop-row-preserved c =
    let list = c.args.list.now in
    let row = c.in-Some.row.now in
    let at = c.in-Some.at.now in
    let steps = c.in-Some.ensures.steps in (
      rows_on (seen_of list) c.args.n (all_left (seen_of list) c.args.n c.args.last.now.entries) (looked c.loop-row.rows.items) (looked c.push_left.new.rows.items) row at c.loop-row.row-iterator c.next.new.self (option_copied c.version_at.result) steps c.version_at.ensures c.in_ok-push_left.ensures c.loop-row.invariant.0,
      last_on list row at c.loop-row.row-iterator c.next.new.self steps c.loop-row.invariant.1,
    )
