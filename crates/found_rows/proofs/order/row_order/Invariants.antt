use Rattle.std.proofs.Common.{◌≡◌, drop}
use Rattle.server_words.specs.Found.{row_order}
use Rattle.found_rows.proofs.order.row_order.Given as goal

abbrev pub invariant-loop-key : goal.invariant-loop-key
invariant-loop-key l = row_order l.with.level (drop l.key-index l.keys) l.a l.b ≡ row_order l.with.level l.keys l.a l.b
