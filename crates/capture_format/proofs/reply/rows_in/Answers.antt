use Rattle.std.proofs.Common.{ℕ, List, sym, ◌∙◌, ap, subst, Err}
use Rattle.std.proofs.lemmas.Bool.{eqb-true, eqb-false}
use Rattle.std.proofs.lemmas.Result.{err_from_is_err_and}
use Rattle.desk_values.specs.declared.value.Value.{Value}
use Rattle.desk_values.specs.Fields.{pieces}
use Rattle.desk_values.specs.Reading.{Reads}
use Rattle.capture_format.specs.ReplyReading.{filled_of, open_rows_of}
use Rattle.desk_values.proofs.Cuts.{cut_at_parts, cut_front}
use Rattle.capture_format.proofs.ReplyTexts.{rows_more, rows_bad, rows_end, rows_fault}
use Rattle.capture_format.proofs.reply.rows_in.Goals as goal

pub returns-in_err-nonempty_values : goal.returns-in_err-nonempty_values
returns-in_err-nonempty_values c =
    let front = cut_front 93 c.loop-row.rest.now c.in-Some.row.now c.in-Some.after.now (cut_at_parts 93 c.loop-row.rest.now (c.in-Some.row.now, c.in-Some.after.now) (sym c.in-Some.ensures.value)) in
    let p = err_from_is_err_and c.from_residual.result c.from_residual.ensures.1 in
    rw (p.1, p.2) (rows_bad c.loop-row.rest.now c.in-Some.row.now c.in-Some.after.now c.loop-row.rows (open_rows_of (pieces 93 c.args.bytes.now)) c.in_err-nonempty_values.field-0.0 (sym c.in-Some.ensures.value) (subst (λ (bs : List ℕ). Reads {T = List Value} (Err c.in_err-nonempty_values.field-0.0) (filled_of bs)) front c.in_err-nonempty_values.ensures) c.loop-row.invariant)

pub loop-row-preserved : goal.loop-row-preserved
loop-row-preserved c =
    let front = cut_front 93 c.loop-row.rest.now c.in-Some.row.now c.in-Some.after.now (cut_at_parts 93 c.loop-row.rest.now (c.in-Some.row.now, c.in-Some.after.now) (sym c.in-Some.ensures.value)) in
    rw c.in_ok-push.ensures.ok (rows_more c.loop-row.rest.now c.in-Some.row.now c.in-Some.after.now c.loop-row.rows c.in_ok-nonempty_values.field-0 (open_rows_of (pieces 93 c.args.bytes.now)) (sym c.in-Some.ensures.value) (ap filled_of (sym front) ∙ c.in_ok-nonempty_values.ensures) c.loop-row.invariant)

pub returns-then-is_empty : goal.returns-then-is_empty
returns-then-is_empty c =
    rows_end c.loop-row.rest.now c.loop-row.rows (open_rows_of (pieces 93 c.args.bytes.now)) (eqb-true _ 0 (sym c.is_empty.ensures ∙ c.if-is_empty.true)) c.loop-row.invariant

pub returns-else-is_empty : goal.returns-else-is_empty
returns-else-is_empty c =
    rows_fault c.loop-row.rest.now c.loop-row.rows (open_rows_of (pieces 93 c.args.bytes.now)) (eqb-false _ 0 (sym c.is_empty.ensures ∙ c.if-is_empty.false)) (sym c.in_default.ensures.value) c.loop-row.invariant
