use Rattle.std.proofs.Common.{ℕ, subst, sym, arith}
use Rattle.capture_format.specs.SessionFile.{AreCallsOf}
use Rattle.prepare_plan.specs.Lists.{lists_of}
use Rattle.replay_page.specs.Captured.{session_files}
use Rattle.replay_page.proofs.Captures.{all_files, next_session, next_spelled, one_more_file}
use Rattle.replay_page.proofs.captured.session_files.Goals as goal

pub session_file-requires-clause-calls : goal.session_file-requires-clause-calls
session_file-requires-clause-calls c =
    let l = c.loop-calls in
    subst (λ (n : ℕ). AreCallsOf n c.calls-item.result.items) (sym l.invariant.session_is) (next_session c.args.sessions.now l.calls-index c.calls-item.result (omega arith) c.calls-item.is l.invariant.rest).0

pub session_file-requires-clause-told : goal.session_file-requires-clause-told
session_file-requires-clause-told c =
    let l = c.loop-calls in
    (next_spelled c.args.version c.args.sessions.now l.calls-index c.calls-item.result (omega arith) c.calls-item.is l.invariant.spelled).0.told

pub loop-calls-preserved : goal.loop-calls-preserved
loop-calls-preserved c =
    let l = c.loop-calls in
    record {
      written = rw c.in_ok-push.ensures.ok (one_more_file c.args.version c.args.sessions.now l.files (session_files c.args.version 0 (lists_of c.args.sessions.now)) l.calls-index l.session c.calls-item.result _ (omega arith) c.calls-item.is l.invariant.session_is c.in_ok-session_file.ensures l.invariant.written);
      session_is = omega (arith, l.invariant.session_is);
      rest = (next_session c.args.sessions.now l.calls-index c.calls-item.result (omega arith) c.calls-item.is l.invariant.rest).1;
      spelled = (next_spelled c.args.version c.args.sessions.now l.calls-index c.calls-item.result (omega arith) c.calls-item.is l.invariant.spelled).1;
    }

pub returns : goal.returns
returns c = all_files c.args.version c.args.sessions.now c.loop-calls.files (session_files c.args.version 0 (lists_of c.args.sessions.now)) c.loop-calls.calls-index (omega arith) c.loop-calls.invariant.written
