use Rattle.divergence.proofs.Bags.SameRows.{sorted_is}
use Rattle.divergence.proofs.equality.same_bag.Goals as goal

pub returns : goal.returns
returns c = sorted_is c.args.rows.now c.args.others.now c.in_ok-sorted.sorted c.in_ok-also_sorted.also_sorted c.in_ok-sorted.ensures.bag c.in_ok-sorted.ensures.ascending c.in_ok-also_sorted.ensures.bag c.in_ok-also_sorted.ensures.ascending
    c.same_items.result (rw (c.as_slice.ensures, c.as_slice-2.ensures) at c.same_items.ensures)
