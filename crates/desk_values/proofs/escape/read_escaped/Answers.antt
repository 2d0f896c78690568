use Rattle.std.proofs.Common.{ℕ, List, subst, arith}
use Rattle.std.proofs.lemmas.Result.{err_from_is_err_and}
use Rattle.desk_values.specs.Reading.{Reads, txt_in}
use Rattle.desk_values.proofs.Escapes.{long_is_none, unescaped_err, unescaped_text}
use Rattle.desk_values.proofs.escape.read_escaped.Goals as goal

pub returns-then-bytes : goal.returns-then-bytes
returns-then-bytes c = long_is_none c.args.bytes.now (omega arith)

pub returns-in_err-text : goal.returns-in_err-text
returns-in_err-text c =
    let p = err_from_is_err_and c.from_residual.result c.from_residual.ensures.1 in
    rw (p.1, p.2) (unescaped_err c.args.bytes.now c.in_err-text.field-0.0 c.in_err-text.ensures)

pub returns : goal.returns
returns c =
    rw (unescaped_text c.args.bytes.now c.in_ok-text.text c.in_ok-text.ensures)
    (subst (λ (bytes : List ℕ). Reads c.txt.result (txt_in bytes)) c.as_slice.ensures c.txt.ensures)
