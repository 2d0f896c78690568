use Rattle.capture_format.proofs.Writing.{call_parts}
use Rattle.capture_format.proofs.session_writer.push_call.Goals as goal

pub returns : goal.returns
returns c = rw (c.in_ok-push.ensures.ok, c.in_ok-append_reply.ensures.ok, c.in_ok-append.ensures.ok, c.in_ok-append_call.ensures.ok, c.in_ok-push_numbers.ensures) (call_parts c.args.to.now c.args.call.now)
