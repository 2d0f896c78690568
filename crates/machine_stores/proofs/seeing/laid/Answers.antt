use Rattle.std.proofs.Common.{◌≡◌, ◌≤◌, ◌<◌, arith, sym, ap, ◌∙◌, length, get_or, ◌≢◌}
use denote.Ref.{Bor}
use Rattle.desk_values.specs.declared.value.Image.{Image}
use Rattle.std.proofs.lemmas.List.{drop_all}
use Rattle.sql_eval.specs.Totals.{looked_at}
use Rattle.server_words.proofs.Looks.{front_of, row_read, rising_rest, seen_below, seen_over, seen_between, seen_last}
use Rattle.machine_stores.proofs.seeing.laid.Goals as goal
use Rattle.machine_stores.proofs.seeing.laid.Goals.{then-loop-at-test+else-rows-at, else-loop-at-test, then-at-rows+then-rows-at-2, else-at-rows, else-at-rows-via-then-at-rows+else-rows-at-2, else-at-rows-via-else-at-rows}

pub loop-at-preserved : goal.loop-at-preserved
loop-at-preserved c =
    let over = ap looked_at (front_of c.args.changes.now c.loop-change.change-index c.change-item.result (omega arith) c.change-item.is) in
    let base = front_of c.args.rows.now c.loop-at.at c.index-rows-at-in-loop-at.result (omega arith) c.index-rows-at-in-loop-at.is in
    record {
      within = omega arith;
      laid = rw c.in_ok-push.ensures.items (sym (seen_below c.loop-at.seen.items _ _ _ _ over c.loop-change.invariant.rising _ _ base (row_read c.args.rows.now c.loop-at.at (λ n. n < c.change-item.result.now.row) _ _ (omega arith) c.if-rows-at.true c.index-rows-at-in-loop-at.is)) ∙ c.loop-at.invariant.laid);
    }

-- a row that is neither below the change nor the change's is above it
above : (c : goal.In_ok-show) (r : Bor Image) → c.loop-at.at < length c.args.rows.now → r ≡ get_or c.args.rows.now c.loop-at.at r → r.now.row ≢ c.change-item.result.now.row → c.change-item.result.now.row < r.now.row
above c r within read apart =
    elim c.loop-at-test.branch [
      | then-loop-at-test+else-rows-at w ↦ omega (arith, apart, row_read c.args.rows.now c.loop-at.at (λ n. c.change-item.result.now.row ≤ n) _ r within w.if-rows-at.false read)
      | else-loop-at-test w ↦ absurd (omega (arith, w.loop-at-test.false))
    ]

pub loop-change-preserved : goal.loop-change-preserved
loop-change-preserved c =
    let over = ap looked_at (front_of c.args.changes.now c.loop-change.change-index c.change-item.result (omega arith) c.change-item.is) in
    let up = rising_rest _ _ _ over c.loop-change.invariant.rising in
    elim c.if-at-rows.branch [
      | then-at-rows+then-rows-at-2 w ↦
          let base = front_of c.args.rows.now c.loop-at.at w.index-rows-at-then-at-rows.result (omega arith) w.index-rows-at-then-at-rows.is in
          record {
            within = rw w.at-is (omega arith);
            rising = up;
            laid = rw w.at-is (sym (seen_over c.loop-at.seen.items _ _ _ _ over c.loop-change.invariant.rising _ c.in_ok-show.ensures _ _ base (row_read c.args.rows.now c.loop-at.at (λ n. n ≡ c.change-item.result.now.row) _ _ (omega arith) w.if-rows-at-2.true w.index-rows-at-then-at-rows.is)) ∙ c.loop-at.invariant.laid);
          }
      | else-at-rows w ↦
          elim w.else-at-rows.branch [
            | else-at-rows-via-then-at-rows+else-rows-at-2 w' ↦
                let base = front_of c.args.rows.now c.loop-at.at w'.index-rows-at-then-at-rows.result (omega arith) w'.index-rows-at-then-at-rows.is in
                record {
                  within = rw w.at-is c.loop-at.invariant.within;
                  rising = up;
                  laid = rw w.at-is (sym (seen_between c.loop-at.seen.items _ _ _ _ over c.loop-change.invariant.rising _ c.in_ok-show.ensures _ _ base (above c w'.index-rows-at-then-at-rows.result (omega arith) w'.index-rows-at-then-at-rows.is (row_read c.args.rows.now c.loop-at.at (λ n. n ≢ c.change-item.result.now.row) _ _ (omega arith) w'.if-rows-at-2.false w'.index-rows-at-then-at-rows.is))) ∙ c.loop-at.invariant.laid);
                }
            | else-at-rows-via-else-at-rows w' ↦
                record {
                  within = rw w.at-is c.loop-at.invariant.within;
                  rising = up;
                  laid = rw w.at-is (sym (seen_last c.loop-at.seen.items _ _ _ _ over c.loop-change.invariant.rising _ c.in_ok-show.ensures (drop_all c.loop-at.at c.args.rows.now (omega arith))) ∙ c.loop-at.invariant.laid);
                }
          ]
    ]
