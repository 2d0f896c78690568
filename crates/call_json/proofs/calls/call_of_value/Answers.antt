use Rattle.std.proofs.lemmas.Result.{err_from_is_err_and}
use Rattle.serde_json.specs.View.{view}
use Rattle.call_json.proofs.CallsRead.{json_call, not_one_call}
use Rattle.call_json.proofs.calls.call_of_value.Goals as goal

pub returns-in_err-call-in-Ok-clause-not_one : goal.returns-in_err-call-in-Ok-clause-not_one
returns-in_err-call-in-Ok-clause-not_one c =
    let p = err_from_is_err_and c.from_residual.result c.from_residual.ensures.1 in
    rw (p.1, p.2) (not_one_call c.args.bytes.now (view c.in-Ok.json) c.in_err-call-in-Ok.field-0.0 c.in-Ok.ensures.ok.1 c.in_err-call-in-Ok.ensures)

pub returns-in_ok-call-in-Ok-clause-ok : goal.returns-in_ok-call-in-Ok-clause-ok
returns-in_ok-call-in-Ok-clause-ok c =
    json_call c.args.bytes.now (view c.in-Ok.json) c.in_ok-call-in-Ok.call c.in-Ok.ensures.ok.0 c.in-Ok.ensures.ok.1 c.has_limits.ensures.limits c.in_ok-call-in-Ok.ensures
