use Rattle.std.proofs.Common.{◌∙◌, Err, Ok, length, subst, sym}
use Rattle.std.proofs.lemmas.Result.{err_from_is_err_and}
use Rattle.remote_link.specs.Heard.{AreGood}
use Rattle.remote_desk.proofs.Replies.{said_good}
use Rattle.remote_target.specs.Agreement.{AgreesOn, heard_on}
use Rattle.remote_target.specs.Inside.{ArePlaces}
use Rattle.remote_target.proofs.Stepping.{all_more, all_taken, as_kept, compares_so}
use Rattle.remote_target.proofs.comparing.compare.Goals as goal

pub returns-in_err-replies-clause-compares : goal.returns-in_err-replies-clause-compares
returns-in_err-replies-clause-compares g c = let p = err_from_is_err_and c.from_residual.result c.from_residual.ensures.1 in rw (p.1, p.2) tt

pub returns-in_err-replies-clause-good : goal.returns-in_err-replies-clause-good
returns-in_err-replies-clause-good g c = let p = err_from_is_err_and c.from_residual.result c.from_residual.ensures.1 in rw (p.1, p.2) tt

pub said_in-requires : goal.said_in-requires
said_in-requires g c = subst (ArePlaces c.args.desk.now.events (length c.args.desk.now.job.calls)) (sym c.as_slice.ensures.value) c.in_ok-replies.ensures

pub returns-in_err-kept-clause-compares : goal.returns-in_err-kept-clause-compares
returns-in_err-kept-clause-compares g c = let p = err_from_is_err_and c.from_residual-in_err-kept.result c.from_residual-in_err-kept.ensures.1 in rw (p.1, p.2) tt

pub returns-in_err-kept-clause-good : goal.returns-in_err-kept-clause-good
returns-in_err-kept-clause-good g c = let p = err_from_is_err_and c.from_residual-in_err-kept.result c.from_residual-in_err-kept.ensures.1 in rw (p.1, p.2) tt

pub compare_in-requires-clause-kept : goal.compare_in-requires-clause-kept
compare_in-requires-clause-kept g c =
    let desk = c.args.desk.now in
    subst AreGood (sym (c.as_slice-in-loop-line.ensures ∙ c.in_ok-kept.ensures)) (said_good desk.job desk.events c.line-item.result.session c.history_is_kept.ensures.remote)

pub compare_in-requires-clause-answered : goal.compare_in-requires-clause-answered
compare_in-requires-clause-answered g c = subst AreGood (sym c.heard.ensures.value) c.heard.ensures.good

pub loop-line-preserved : goal.loop-line-preserved
loop-line-preserved g c =
    let desk = c.args.desk.now in
    let line = c.line-item.result in
    let here = as_kept desk line c.stopped.result c.as_slice-in-loop-line.result.now c.heard.result.now c.stopped.ensures (c.as_slice-in-loop-line.ensures ∙ c.in_ok-kept.ensures) c.heard.ensures.value (Ok tt) c.in_ok-compare_in.ensures.compares in
    all_more (AgreesOn desk) heard_on c.args.lines.now c.loop-line.line-index line c.loop-line-test.true c.line-item.is c.loop-line.invariant here

pub returns-in_err-compare_in-clause-compares : goal.returns-in_err-compare_in-clause-compares
returns-in_err-compare_in-clause-compares g c =
    let desk = c.args.desk.now in
    let line = c.line-item.result in
    let p = err_from_is_err_and c.from_residual-in_err-compare_in.result c.from_residual-in_err-compare_in.ensures.1 in
    let error = c.in_err-compare_in.field-0.0 in
    let here = as_kept desk line c.stopped.result c.as_slice-in-loop-line.result.now c.heard.result.now c.stopped.ensures (c.as_slice-in-loop-line.ensures ∙ c.in_ok-kept.ensures) c.heard.ensures.value (Err error) c.in_err-compare_in.ensures.compares in
    rw (p.1, p.2) (compares_so desk c.args.lines.now c.loop-line.line-index line c.loop-line-test.true c.line-item.is c.loop-line.invariant error here)

pub returns-in_err-compare_in-clause-good : goal.returns-in_err-compare_in-clause-good
returns-in_err-compare_in-clause-good g c =
    let p = err_from_is_err_and c.from_residual-in_err-compare_in.result c.from_residual-in_err-compare_in.ensures.1 in
    rw (p.1, p.2) c.in_err-compare_in.ensures.good

pub returns-clause-compares : goal.returns-clause-compares
returns-clause-compares g c = all_taken (AgreesOn c.args.desk.now) heard_on c.args.lines.now c.loop-line.line-index c.loop-line-test.false c.loop-line.invariant
