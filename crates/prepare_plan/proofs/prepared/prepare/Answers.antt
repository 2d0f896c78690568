use Rattle.std.proofs.Common.{List, length, sym, ap, subst, arith}
use Rattle.std.proofs.lemmas.List.{length-map}
use Rattle.desk_values.specs.Room.{Room}
use Rattle.desk_values.specs.Answers.{Answers}
use Rattle.desk_values.specs.declared.capture.Captured.{Captured}
use Rattle.captured_calls.specs.Sessions.{AreSessionsFrom}
use Rattle.captured_calls.specs.Verdict.{verdict}
use Rattle.prepare_plan.specs.Answered.{plan_seen, refusal_told}
use Rattle.prepare_plan.proofs.prepared.prepare.Goals as goal

pub prepare_owned-requires-clause-sessions : goal.prepare_owned-requires-clause-sessions
prepare_owned-requires-clause-sessions c =
    omega (arith, c.requires.sessions, ap length c.in_ok-owned.ensures, length-map c.in_ok-owned.owned (λ (r : Room Captured). r.items), length-map c.args.sessions.now (λ (r : Room Captured). r.items))

pub prepare_owned-requires-clause-lists : goal.prepare_owned-requires-clause-lists
prepare_owned-requires-clause-lists c = subst (AreSessionsFrom 0) (sym c.in_ok-owned.ensures) c.requires.lists

pub returns-clause-verdict : goal.returns-clause-verdict
returns-clause-verdict c =
    subst (λ (lists : List (List Captured)). Answers plan_seen refusal_told c.prepare_owned.result (verdict c.args.start.now lists)) c.in_ok-owned.ensures c.prepare_owned.ensures.verdict
