use Rattle.std.proofs.Common.{ℕ, List, [], ◌∷◌, length-append, Ok, subst, ◌∙◌, arith}
use Rattle.desk_values.specs.Room.{Room}
use Rattle.desk_values.specs.declared.capture.Captured.{Captured}
use Rattle.std.proofs.lemmas.Result.{err_from_is_err_and}
use Rattle.prepare_plan.specs.Lists.{lists_of}
use Rattle.replay_cli.specs.Decision.{SessionOf}
use Rattle.replay_cli.specs.Inside.Steps.{IsUntaken, RefusesOne, Stops}
use Rattle.replay_cli.proofs.Refusals.{bad_among, fails_weaker, untaken_among}
use Rattle.replay_cli.proofs.Sessions.{are_more, count_lists, free_error, lists_more, spelled_more}
use Rattle.replay_cli.proofs.StepLaws.{parse_stop, read_on}
use Rattle.replay_cli.proofs.reading.read_sessions.Goals as goal

pub returns-in_err-parse_session-clause-step : goal.returns-in_err-parse_session-clause-step
returns-in_err-parse_session-clause-step g c =
    let p = err_from_is_err_and c.from_residual-in_err-parse_session.result c.from_residual-in_err-parse_session.ensures.1 in
    let l = c.loop-name in
    let failure = c.in_err-parse_session.field-0.0 in
    let stops : Stops (SessionOf c.args.version l.name-index c.name-item.result c.in_ok-bytes.bytes) failure = subst (λ (k : ℕ). Stops (SessionOf c.args.version k c.name-item.result c.in_ok-bytes.bytes) failure) l.invariant.session_is c.in_err-parse_session.ensures.says in
    rw (p.1, p.2) (parse_stop (SessionOf c.args.version) c.args.names.now c.args.room l.left l.name-index (lists_of l.sessions) _ _ _ _ _ _ c.name-item.result (omega arith) c.name-item.is l.invariant.read c.in_ok-bytes.bytes failure c.in_ok-bytes.ensures.step stops (free_error (Room Captured) (List Captured) failure c.in_err-parse_session.ensures.free))

pub returns-in_err-bytes-clause-kind : goal.returns-in_err-bytes-clause-kind
returns-in_err-bytes-clause-kind g c =
    let l = c.loop-name in
    let p = err_from_is_err_and c.from_residual.result c.from_residual.ensures.1 in
    rw (p.1, p.2) (fails_weaker (IsUntaken c.name-item.result) (RefusesOne c.args.names.now) (untaken_among c.args.names.now l.name-index c.name-item.result (omega arith) c.name-item.is) c.in_err-bytes.field-0.0 c.in_err-bytes.ensures.kind)

pub returns-in_err-parse_session-clause-kind : goal.returns-in_err-parse_session-clause-kind
returns-in_err-parse_session-clause-kind g c =
    let l = c.loop-name in
    let p = err_from_is_err_and c.from_residual-in_err-parse_session.result c.from_residual-in_err-parse_session.ensures.1 in
    rw (p.1, p.2) (bad_among c.args.version c.requires.version c.args.names.now l.name-index l.session c.name-item.result c.in_ok-bytes.bytes (omega arith) c.name-item.is c.in_err-parse_session.field-0.0 c.in_err-parse_session.ensures.says)

pub loop-name-preserved : goal.loop-name-preserved
loop-name-preserved g c =
    let l = c.loop-name in
    let calls = c.in_ok-parse_session.field-0 in
    let read : SessionOf c.args.version l.name-index c.name-item.result c.in_ok-bytes.bytes (Ok calls.items) = subst (λ (k : ℕ). SessionOf c.args.version k c.name-item.result c.in_ok-bytes.bytes (Ok calls.items)) l.invariant.session_is c.in_ok-parse_session.ensures.says in
    record {
      read = rw (c.in_ok-push.ensures.ok, lists_more l.sessions calls, c.len.ensures) (read_on (SessionOf c.args.version) c.args.names.now c.args.room l.left l.name-index (lists_of l.sessions) _ _ _ _ _ _ c.name-item.result (omega arith) c.name-item.is l.invariant.read c.in_ok-bytes.bytes calls.items c.in_ok-bytes.ensures.step read);
      session_is = omega (arith, l.invariant.session_is);
      count = rw c.in_ok-push.ensures.ok (length-append l.sessions (calls ∷ []) ∙ omega (arith, l.invariant.count));
      lists = rw (c.in_ok-push.ensures.ok, lists_more l.sessions calls) (are_more 0 (lists_of l.sessions) l.name-index calls.items (let a = l.invariant.count in let b = count_lists l.sessions in omega (arith, a, b)) l.invariant.lists read.calls_are);
      spelled = rw (c.in_ok-push.ensures.ok, lists_more l.sessions calls) (spelled_more c.args.version (lists_of l.sessions) calls.items l.invariant.spelled c.in_ok-parse_session.ensures.spelled);
    }
