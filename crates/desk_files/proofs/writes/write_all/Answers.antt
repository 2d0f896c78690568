use Rattle.std.proofs.Common.{ℕ, Err, arith, subst, ◌∙◌}
use Rattle.std.proofs.lemmas.Result.{err_from_is_err_and}
use Rattle.desk_files.specs.Answers.{write_ending}
use Rattle.desk_files.specs.Outside.{Counts}
use Rattle.desk_files.proofs.WriteLaws.{one_written, writing_done, writing_stops}
use Rattle.desk_files.proofs.writes.write_all.Goals as goal

pub loop-write-preserved : goal.loop-write-preserved
loop-write-preserved g c = record {
  so_far = one_written c.args.writes.now c.loop-write.write-index c.write-item.result (g.F.Files.account c.args.files.now).content (g.F.Files.account c.loop-write.files).content (g.F.Files.account c.write.new.self).content (omega arith) c.write-item.is c.loop-write.invariant.so_far
      c.as_slice.result.now c.as_slice.ensures c.in_ok-write.ensures.ok;
  faults = c.in_ok-write.ensures.leaves.faults ∙ c.loop-write.invariant.faults;
}

pub returns-in_err-write-clause-left : goal.returns-in_err-write-clause-left
returns-in_err-write-clause-left g c =
    let p = err_from_is_err_and c.from_residual.result c.from_residual.ensures.1 in
    let left = writing_stops c.args.writes.now c.loop-write.write-index c.write-item.result (g.F.Files.account c.args.files.now).content (g.F.Files.account c.loop-write.files).content (g.F.Files.account c.write.new.self).content (omega arith) c.write-item.is c.loop-write.invariant.so_far
    c.in_err-write.field-0.0 c.in_err-write.ensures.others c.in_err-write.ensures.leaves.content in
    rw (p.1, p.2) left

pub returns-in_err-write-clause-faults : goal.returns-in_err-write-clause-faults
returns-in_err-write-clause-faults g c =
    let p = err_from_is_err_and c.from_residual.result c.from_residual.ensures.1 in
    let counts = subst (λ (n : ℕ). Counts (write_ending (Err c.in_err-write.field-0.0)) n (g.F.Files.account c.write.new.self).faults) c.loop-write.invariant.faults c.in_err-write.ensures.leaves.faults in
    rw (p.1, p.2) counts

pub returns-clause-left : goal.returns-clause-left
returns-clause-left g c = writing_done c.args.writes.now c.loop-write.write-index (g.F.Files.account c.args.files.now).content (g.F.Files.account c.loop-write.files).content (omega arith) c.loop-write.invariant.so_far
