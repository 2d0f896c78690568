use Rattle.std.proofs.Common.{◌≡◌, if◌then◌else◌, ap, subst}
use Rattle.key_index.specs.Triples.{Index, is_one, rows_of, triples_of, with_number}
use Rattle.key_index.proofs.Shelving.{noted_rows, noted_shelves}
use Rattle.key_index.proofs.keys.Keys.note.Goals as goal

pub invariant_of-self-2 : goal.invariant_of-self-2
invariant_of-self-2 c = noted_shelves c.self.inside.level c.args.table c.args.key.now c.args.row c.self.inside.stock c.note.new.self c.self.invariant c.in_ok-note.ensures.ok c.note.ensures.order

pub returns : goal.returns
returns c = record {
  ok = λ other k. subst (λ (h : Index). rows_of c.self.inside.level (triples_of c.note.new.self) other k ≡ (if is_one h.level c.args.table c.args.key.now other k then with_number c.args.row (rows_of h.level h.triples other k) else rows_of h.level h.triples other k)) c.self.view_is
      (noted_rows c.self.inside.level c.args.table c.args.key.now c.args.row c.self.inside.stock c.note.new.self c.self.invariant c.in_ok-note.ensures.ok c.note.ensures.order other k);
  err = tt;
  level = ap (λ (h : Index). h.level) c.self.view_is;
}
