use Rattle.std.proofs.Common.{◌≡◌, arith, rules}
use Rattle.http_answers.proofs.Fronts.{endless, overflowing, shows_at, shows_short}
use Rattle.http_answers.proofs.answer.front_of.Goals as goal

pub returns-in-Ok-Complete : goal.returns-in-Ok-Complete
returns-in-Ok-Complete c =
    let of = rw c.in-Ok-Complete.field-0-is at c.in-Ok-Complete.ensures.complete in
    let within = rw c.in-Ok-Complete.field-0-is at c.in-Ok-Complete.ensures.within in
    rw c.answer_at.ensures (shows_at c.min.result c.args.bytes.now c.parse_response.new.headers c.in-Ok-Complete.found (omega (arith, c.min.ensures)) (search rules) of within.section.len_fits)

pub returns-in-Ok-Partial : goal.returns-in-Ok-Partial
returns-in-Ok-Partial c =
    let none = rw c.in-Ok-Partial.field-0-is at c.in-Ok-Partial.ensures.partial in
    let may = rw c.in-Ok-Partial.field-0-is at c.in-Ok-Partial.ensures.unfinished in
    shows_short c.min.result c.args.bytes.now (omega (arith, c.min.ensures, c.if-bytes-lt-HEAD_LIMIT.true)) c.if-bytes-lt-HEAD_LIMIT.true none may

pub returns-in_default : goal.returns-in_default
returns-in_default c =
    let full : c.min.result ≡ 8192 = omega (arith, c.min.ensures, c.if-bytes-lt-HEAD_LIMIT.false) in
    let none = rw c.in-Ok-Partial.field-0-is at c.in-Ok-Partial.ensures.partial in
    endless c.args.bytes.now c.if-bytes-lt-HEAD_LIMIT.false (rw full at none)

pub returns-in_default-2 : goal.returns-in_default-2
returns-in_default-2 c = overflowing c.min.result c.args.bytes.now (rw c.in_default.is at c.parse_response.ensures.no_room)
