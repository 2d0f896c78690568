use Rattle.std.proofs.Common.{◌≡◌, ◌∙◌, subst, sym}
use Rattle.std.proofs.lemmas.Result.{err_from_is_err_and}
use Rattle.replay_job.specs.Job.{IsReplayable, seen}
use Rattle.remote_target.proofs.Agreeing.{all_agreed}
use Rattle.remote_target.proofs.Ending.{compared_broken, refused_broken}
use Rattle.remote_target.proofs.running.judged.Goals as goal

pub returns-in_err-copy : goal.returns-in_err-copy
returns-in_err-copy g c = let p = err_from_is_err_and c.from_residual.result c.from_residual.ensures.1 in rw (p.1, p.2) tt

pub returns-then-not-same : goal.returns-then-not-same
returns-then-not-same g c = (
  λ same.
      let one : seen c.job.result.now ≡ seen c.args.kept.now = c.job.ensures ∙ sym c.job-then-not-same.ensures ∙ sym c.in_ok-copy.ensures ∙ same in
      let holds = c.same.ensures.1 one in
      cc,
  subst IsReplayable (sym (c.in_ok-copy.ensures ∙ c.job-then-not-same.ensures)) c.history_is_kept.ensures.replayable,
)

pub returns-in_err-compare : goal.returns-in_err-compare
returns-in_err-compare g c =
    let p = err_from_is_err_and c.from_residual-in_err-compare.result c.from_residual-in_err-compare.ensures.1 in
    let job = sym c.job.ensures ∙ c.same.ensures.0 c.if-not-same.false in
    rw (p.1, p.2) (compared_broken (seen c.args.kept.now) c.args.desk.now c.args.lines.now _ job c.history_is_kept.ensures c.in_err-compare.ensures.compares c.in_err-compare.ensures.good)

pub returns-in_err-refused : goal.returns-in_err-refused
returns-in_err-refused g c =
    let p = err_from_is_err_and c.from_residual-in_err-refused.result c.from_residual-in_err-refused.ensures.1 in
    let job = sym c.job.ensures ∙ c.same.ensures.0 c.if-not-same.false in
    rw (p.1, p.2) (refused_broken (seen c.args.kept.now) c.args.desk.now c.args.lines.now _ job c.history_is_kept.ensures (all_agreed c.args.desk.now _ c.in_ok-compare.ensures.compares) c.in_err-refused.ensures)

pub returns : goal.returns
returns g c =
    let job = sym c.job.ensures ∙ c.same.ensures.0 c.if-not-same.false in
    (job, c.history_is_kept.ensures, all_agreed c.args.desk.now _ c.in_ok-compare.ensures.compares, c.in_ok-refused.ensures, sym c.stopped.ensures ∙ c.if-stopped.false)
