use Rattle.std.proofs.Common.{◌∙◌, sym, ap, length, arith, ◌∷◌, length-append}
use Rattle.file_lines.proofs.Files.{more_so_far, bad_next, too_early, none_length}
use Rattle.file_lines.proofs.reader.read_lines.Goals as goal
use Rattle.file_lines.proofs.reader.read_lines.Goals.{else-is_empty-via-then-is_empty+else-is_done-2, else-is_empty-via-else-is_empty}

pub returns-in-Err-Bad : goal.returns-in-Err-Bad
returns-in-Err-Bad g c =
    let f = g.F.LineFile in
    let found = c.in-Some.ensures.found in
    bad_next f.comes f.done (f.state c.args.file) c.args.bytes.now (f.state c.lines.file) c.lines.line c.lines.rest.now c.in-Some.text.now c.in-Some.after.now c.lines.invariant.so_far found.0 found.1 (rw c.in-Err-Bad.field-0-is at c.in-Err-Bad.ensures)

pub lines-preserved : goal.lines-preserved
lines-preserved g c =
    let f = g.F.LineFile in
    let found = c.in-Some.ensures.found in
    let shorter = ap length found.0 in
    let within = c.lines.invariant.within in
    record {
      so_far = more_so_far f.comes f.done (f.state c.args.file) c.args.bytes.now (f.state c.lines.file) (f.state c.in-Ok.added) c.lines.line c.lines.rest.now c.in-Some.text.now c.in-Some.after.now c.lines.invariant.so_far found.0 (record { unended = sym c.is_done.ensures ∙ c.if-is_done.false; lacks = found.1; comes = c.in-Ok.ensures });
      within = omega (arith, within, shorter, length-append c.in-Some.text.now (10 ∷ c.in-Some.after.now));
    }

pub returns-else-is_empty : goal.returns-else-is_empty
returns-else-is_empty g c =
    let f = g.F.LineFile in
    too_early f.comes f.done (f.state c.args.file) c.args.bytes.now (f.state c.lines.file) c.lines.line c.lines.rest.now c.lines.invariant.so_far c.in_default.ensures.none
    (λ ended. elim c.else-is_empty.branch [ else-is_empty-via-then-is_empty+else-is_done-2 w ↦ absurd (let never = sym ended ∙ sym w.is_done-then-is_empty.ensures ∙ w.if-is_done-2.false in cc) | else-is_empty-via-else-is_empty w ↦ none_length c.lines.rest.now (sym c.is_empty.ensures ∙ w.if-is_empty.false) ])
