use Rattle.std.proofs.Common.{ℕ, refl, sym, subst, arith}
use Rattle.capture_format.specs.SessionFile.{AreCallsOf}
use Rattle.prepare_plan.specs.Lists.{lists_of}
use Rattle.replay_cli.specs.Done.{session_files}
use Rattle.replay_cli.proofs.Sessions.{all_files, next_session, next_told, one_more_file}
use Rattle.replay_cli.proofs.plan.session_writes.Goals as goal

pub write_session-requires-clause-calls : goal.write_session-requires-clause-calls
write_session-requires-clause-calls c =
    let l = c.loop-calls in
    subst (λ (n : ℕ). AreCallsOf n c.calls-item.result.items) (sym l.invariant.session_is) (next_session c.args.lists.now l.calls-index c.calls-item.result (omega arith) c.calls-item.is l.invariant.rest).0

pub write_session-requires-clause-told : goal.write_session-requires-clause-told
write_session-requires-clause-told c =
    let l = c.loop-calls in
    (next_told c.args.version c.args.lists.now l.calls-index c.calls-item.result (omega arith) c.calls-item.is l.invariant.told).0

pub loop-calls-preserved : goal.loop-calls-preserved
loop-calls-preserved c =
    let l = c.loop-calls in
    record {
      written = rw c.in_ok-push.ensures.ok (one_more_file c.args.out.now c.args.version c.args.lists.now l.writes (session_files c.args.out.now c.args.version 0 (lists_of c.args.lists.now)) l.calls-index l.session c.calls-item.result _ (omega arith) c.calls-item.is l.invariant.session_is (rw (c.in_ok-name.ensures, c.in_ok-bytes.ensures) refl) l.invariant.written);
      session_is = omega (arith, l.invariant.session_is);
      rest = (next_session c.args.lists.now l.calls-index c.calls-item.result (omega arith) c.calls-item.is l.invariant.rest).1;
      told = (next_told c.args.version c.args.lists.now l.calls-index c.calls-item.result (omega arith) c.calls-item.is l.invariant.told).1;
    }

pub returns : goal.returns
returns c = all_files c.args.out.now c.args.version c.args.lists.now c.loop-calls.writes (session_files c.args.out.now c.args.version 0 (lists_of c.args.lists.now)) c.loop-calls.calls-index (omega arith) c.loop-calls.invariant.written
