use Rattle.std.proofs.Common.{◌∙◌, ◌++◌, [], arith}
use Rattle.std.specs.List.{cons_option}
use Rattle.csv.specs.Records.{fields_of}
use Rattle.desk_schema.proofs.RecordFields.{taken_field}
use Rattle.desk_schema.proofs.change.fields_in.Goals as goal

pub loop-i-preserved : goal.loop-i-preserved
loop-i-preserved c =
    c.in_ok-push_field.ensures ∙ (λ j. c.loop-i.invariant j ++ cons_option (c.get.ensures.value j) []) ∙ taken_field (fields_of c.args.row.now) c.loop-i.i (omega (arith, c.len-i-end.ensures))
