use Rattle.std.proofs.lemmas.Result.{err_from_is_err_and}
use Rattle.file_lines.proofs.Forms.{adds_error, adds_line, refuses_line}
use Rattle.run_files.specs.ReadsFile.{reads_form}
use Rattle.run_files.proofs.ReadsReader.{reads_lines}
use Rattle.run_files.proofs.reads.ReadsDraftLineFile.add.Goals as goal

pub returns-in_err-line : goal.returns-in_err-line
returns-in_err-line c =
    let p = err_from_is_err_and c.from_residual.result c.from_residual.ensures.1 in
    rw (p.1, p.2) (adds_error reads_form reads_lines (λ s. s) c.in_err-line.field-0.0 c.args.self c.args.line.now c.in_err-line.ensures)

pub returns-in_err-add_line : goal.returns-in_err-add_line
returns-in_err-add_line c =
    let p = err_from_is_err_and c.from_residual-in_err-add_line.result c.from_residual-in_err-add_line.ensures.1 in
    rw (p.1, p.2) (refuses_line reads_form reads_lines (Unit {0}) (λ s. s) c.in_err-add_line.field-0.0 c.args.self c.args.line.now c.in_ok-line.line c.add_line.new.self c.in_ok-line.ensures c.in_err-add_line.ensures)

pub returns : goal.returns
returns c = adds_line reads_form reads_lines (λ s. s) c.add_line.new.self (tt {0}) c.args.self c.args.line.now c.in_ok-line.line c.in_ok-line.ensures c.in_ok-add_line.ensures
