use Rattle.std.proofs.Common.{ap, ◌∙◌, refl, sym, Some, Err}
use Rattle.std.proofs.lemmas.Result.{err_from_is_err_and}
use Rattle.desk_values.proofs.Escapes.{txt_in_made}
use Rattle.sql_reader.proofs.Scanning.{txt_err}
use Rattle.sql_reader.proofs.scanner.text_of.Goals as goal

pub returns-in_err-from_bytes : goal.returns-in_err-from_bytes
returns-in_err-from_bytes c =
    let p = err_from_is_err_and c.from_residual.result c.from_residual.ensures.1 in
    rw (p.1, p.2) (txt_err c.args.bytes.now c.in_err-from_bytes.field-0.0 (λ e. c.in_err-from_bytes.ensures.too_long.0 (ap (λ x. Err x) e)) (λ e. c.in_err-from_bytes.ensures.not_utf8.0 (ap (λ x. Err x) e)))

pub returns : goal.returns
returns c =
    txt_in_made c.args.bytes.now c.args.bytes.now refl (λ h. let e = c.in_ok-from_bytes.ensures.too_long.1 h in cc) (λ h. let e = c.in_ok-from_bytes.ensures.not_utf8.1 h in cc) ∙ ap (λ t. Some t) (sym c.in_ok-from_bytes.ensures.ok)
