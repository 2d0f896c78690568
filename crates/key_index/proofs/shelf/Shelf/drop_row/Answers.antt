use Rattle.std.proofs.Common.{◌≡◌, ◌≤◌, length, sym, ap, arith}
use Rattle.key_index.specs.Inside.Shelves.{position_of}
use Rattle.key_index.proofs.Placing.{of_none_out}
use Rattle.key_index.proofs.shelf.Shelf.drop_row.Goals as goal

pub returns-else-at-len : goal.returns-else-at-len
returns-else-at-len c =
    let groups = c.args.self.now in
    let at : c.place_among-at.result ≡ position_of c.args.level c.args.table c.args.key.now groups = grind (arith, c.place_among-at.ensures, c.deref.ensures.value, c.self.view_is) in
    let over : length groups ≤ position_of c.args.level c.args.table c.args.key.now groups = omega (arith, at, c.if-at-len.false, c.len.ensures, ap length c.self.view_is) in
    sym (of_none_out c.args.level c.args.table c.args.key.now c.args.row groups over)
