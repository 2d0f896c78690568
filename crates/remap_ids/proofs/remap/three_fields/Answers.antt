use Rattle.std.proofs.Common.{arith, sym}
use Rattle.csv.specs.Records.{fields_of}
use Rattle.remap_ids.proofs.Fields.{three_made, field_is_there}
use Rattle.remap_ids.proofs.remap.three_fields.Goals as goal

pub returns-in_err-get : goal.returns-in_err-get
returns-in_err-get c = absurd (field_is_there (fields_of c.args.row.now) 0 (omega (arith, c.len.ensures, c.if-len-ne3.false)) (sym c.in_err-get.ensures.value))

pub returns-in_err-get-2 : goal.returns-in_err-get-2
returns-in_err-get-2 c = absurd (field_is_there (fields_of c.args.row.now) 1 (omega (arith, c.len.ensures, c.if-len-ne3.false)) (sym c.in_err-get-2.ensures.value))

pub returns-in_err-get-3 : goal.returns-in_err-get-3
returns-in_err-get-3 c = absurd (field_is_there (fields_of c.args.row.now) 2 (omega (arith, c.len.ensures, c.if-len-ne3.false)) (sym c.in_err-get-3.ensures.value))

pub returns : goal.returns
returns c = three_made (fields_of c.args.row.now) _ _ _ (omega (arith, c.len.ensures, c.if-len-ne3.false)) (sym c.in_ok-get.ensures.value) (sym c.in_ok-get-2.ensures.value) (sym c.in_ok-get-3.ensures.value)
