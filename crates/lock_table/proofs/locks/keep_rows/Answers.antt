use Rattle.std.proofs.Common.{◌≡◌, ◌∙◌, ◌<◌, true, length, slice_index_or, ap, arith}
use Rattle.lock_table.specs.Holds.{is_row_of}
use Rattle.lock_table.proofs.Holding.{take_own, walked}
use Rattle.lock_table.proofs.locks.keep_rows.Goals as goal

pub loop-at-preserved : goal.loop-at-preserved
loop-at-preserved c =
    let holds = c.loop-at.holds.entries in
    let inside : c.loop-at.at < length holds = omega (arith, c.loop-at-test.true, c.len.ensures.len) in
    let own : is_row_of c.args.session (slice_index_or holds c.loop-at.at (0, 0)) ≡ true = grind (arith, c.holder_at.ensures, c.if-holder_at-session.false) in
    let none : c.loop-at.left ≡ 0 = omega (arith, c.if-left-gt0.false) in
    record {
      rows = ap (walked (is_row_of c.args.session) c.loop-at.left c.loop-at.at) c.shift_remove_index.ensures.entries
          ∙ take_own (is_row_of c.args.session) c.loop-at.left c.loop-at.at holds (0, 0) inside own none ∙ c.loop-at.invariant.rows;
      room = omega (arith, c.loop-at.invariant.room, c.shift_remove_index.ensures.room.0);
    }
