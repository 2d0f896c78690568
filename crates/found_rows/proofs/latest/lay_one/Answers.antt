use Rattle.std.proofs.Common.{◌≡◌, true, false, ap, subst, sym, ◌∙◌}
use Rattle.server_words.specs.Rows.{IsRising, is_there}
use Rattle.found_rows.specs.Inside.ByRow.{AreKeyed, all_in}
use Rattle.server_words.proofs.Laying.{rising_shown}
use Rattle.found_rows.proofs.Placing.{put_keyed, put_placed, taken_keyed, taken_placed}
use Rattle.found_rows.proofs.latest.lay_one.Goals as goal

pub returns-in_ok-insert-clause-laid : goal.returns-in_ok-insert-clause-laid
returns-in_ok-insert-clause-laid c =
    let there : is_there c.args.change.now ≡ true = cc in
    ap all_in c.in_ok-insert.ensures.entries ∙ put_placed c.args.change c.args.rows.now.entries c.requires.keyed there

pub returns-in_ok-insert-clause-by_row : goal.returns-in_ok-insert-clause-by_row
returns-in_ok-insert-clause-by_row c = record {
  keyed = subst AreKeyed (sym c.in_ok-insert.ensures.entries) (put_keyed c.args.change c.args.rows.now.entries c.requires.keyed);
  rising = subst IsRising (sym (returns-in_ok-insert-clause-laid c)) (rising_shown c.args.change.now (all_in c.args.rows.now.entries) c.requires.rising);
}

pub returns-else-is_some-clause-laid : goal.returns-else-is_some-clause-laid
returns-else-is_some-clause-laid c =
    let gone : is_there c.args.change.now ≡ false = cc in
    ap all_in c.remove.ensures.entries ∙ taken_placed c.args.change.now gone 0 c.args.rows.now.entries c.requires.keyed c.requires.rising

pub returns-else-is_some-clause-by_row : goal.returns-else-is_some-clause-by_row
returns-else-is_some-clause-by_row c = record {
  keyed = subst AreKeyed (sym c.remove.ensures.entries) (taken_keyed c.args.change.now c.args.rows.now.entries c.requires.keyed);
  rising = subst IsRising (sym (returns-else-is_some-clause-laid c)) (rising_shown c.args.change.now (all_in c.args.rows.now.entries) c.requires.rising);
}
