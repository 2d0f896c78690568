use Rattle.std.proofs.Common.{Err, ap, sym, arith}
use Rattle.desk_values.specs.declared.text.TxtErr.{TxtErr}
use Rattle.desk_values.proofs.Escapes.{txt_in_made, txt_in_none}
use Rattle.desk_schema.proofs.edit.text.Goals as goal

pub returns-in-Ok : goal.returns-in-Ok
returns-in-Ok c = sym (txt_in_made c.args.bytes.now c.in-Ok.text c.in-Ok.ensures.ok (λ long. cc (c.in-Ok.ensures.too_long.1 long)) (λ bad. cc (c.in-Ok.ensures.not_utf8.1 bad)))

pub returns-in-Err-NotUtf8 : goal.returns-in-Err-NotUtf8
returns-in-Err-NotUtf8 c = sym (txt_in_none c.args.bytes.now (λ is. (c.in-Err-NotUtf8.ensures.not_utf8.0 (ap (λ (e : TxtErr). Err e) c.in-Err-NotUtf8.field-0-is)).1 is.utf8))

pub returns-in-Err-TooLong : goal.returns-in-Err-TooLong
returns-in-Err-TooLong c = sym (txt_in_none c.args.bytes.now (λ is. let long = c.in-Err-TooLong.ensures.too_long.0 (ap (λ (e : TxtErr). Err e) c.in-Err-TooLong.field-0-is) in omega (arith, long, is.limit)))
