use Rattle.std.proofs.Common.{Err, refl, subst, sym}
use Rattle.std.proofs.lemmas.Result.{err_from_is_err_and}
use Rattle.remote_target.specs.declared.remote_err.RemoteErr.{RemoteErr}
use Rattle.remote_target.specs.Ends.{HasGoodReplies}
use Rattle.remote_target.specs.Inside.{ComparesIn}
use Rattle.remote_target.proofs.Compared.{good_at}
use Rattle.remote_target.proofs.comparing.compare_in.Goals as goal

pub returns-in_err-mismatch-in-Some-clause-compares : goal.returns-in_err-mismatch-in-Some-clause-compares
returns-in_err-mismatch-in-Some-clause-compares c = let p = err_from_is_err_and c.from_residual.result c.from_residual.ensures.1 in rw (p.1, p.2) tt

pub returns-in_err-mismatch-in-Some-clause-good : goal.returns-in_err-mismatch-in-Some-clause-good
returns-in_err-mismatch-in-Some-clause-good c = let p = err_from_is_err_and c.from_residual.result c.from_residual.ensures.1 in rw (p.1, p.2) tt

pub returns-in_ok-mismatch-in-Some-clause-compares : goal.returns-in_ok-mismatch-in-Some-clause-compares
returns-in_ok-mismatch-in-Some-clause-compares c =
    subst (λ (e : RemoteErr). ComparesIn c.args.stopped c.args.session c.args.kept.now c.args.answered.now (Err e)) (sym c.in_ok-mismatch-in-Some.ensures)
    (refl, record { first = c.in-Some.ensures.0; here = c.in-Some.ensures.1; kept_is = refl; answered_is = refl })

pub returns-in_ok-mismatch-in-Some-clause-good : goal.returns-in_ok-mismatch-in-Some-clause-good
returns-in_ok-mismatch-in-Some-clause-good c =
    subst HasGoodReplies (sym c.in_ok-mismatch-in-Some.ensures) (good_at c.args.kept.now c.in-Some.place c.requires.kept, good_at c.args.answered.now c.in-Some.place c.requires.answered)
