use Rattle.std.proofs.Common.{rules, Some, take}
use Rattle.http_requests.specs.Inside.Reading.{head_at}
use Rattle.http_requests.proofs.Spanned.{reads-at}
use Rattle.http_requests.proofs.deciding.decide.Goals as goal

pub returns-in-Ok-Complete-clause-value : goal.returns-in-Ok-Complete-clause-value
returns-in-Ok-Complete-clause-value c =
    let found = c.in-Ok-Complete.found in
    let spans = c.parse_request.new.headers in
    (Some (head_at c.args.text.now found (take found.headers spans)), reads-at c.args.text.now spans found (search rules) c.if-found-text.true (rw (c.in-Ok-Complete.is, c.in-Ok-Complete.field-0-is) at c.parse_request.ensures.complete), c.decide_head.ensures.value)
