use Rattle.std.proofs.Common.{◌≡◌, ◌≤◌, List, length, arith}
use Rattle.std.specs.Prelude.{Result, Ok, Err, IfOk}
use Rattle.desk_values.specs.Answers.{Answers}
use Rattle.std.proofs.lemmas.List.{length-map}
use Rattle.desk_values.specs.Room.{Room}
use Rattle.desk_values.specs.declared.capture.Captured.{Captured}
use Rattle.object_depends.specs.declared.fact.Fact.{Fact}
use Rattle.object_depends.specs.Facts.{AreSound}
use Rattle.captured_calls.specs.declared.refusal.Refusal.{Refusal}
use Rattle.prepare_plan.specs.declared.prepared.Prepared.{Prepared}
use Rattle.prepare_plan.specs.Answered.{plan_seen, refusal_told}
use Rattle.prepare_plan.specs.Lists.{lists_of}
use Rattle.captured_calls.specs.Verdict.{IsLegal, Preparation, verdict}
use Rattle.captured_calls.proofs.Legality.{plan_facts, plan_few, plan_legal, plan_sound}
use Rattle.prepare_plan.proofs.prepared.prepare_owned.Goals as goal

-- what is said of each plan that the verdict gives holds of an answer
when_planned : (expected : Result Preparation Refusal) (result : Result Prepared Refusal) (P : List Captured → List Fact → Type 0) → Answers plan_seen refusal_told result expected
    → ((plan : Preparation) → expected ≡ Ok plan → P plan.calls plan.facts) → IfOk result (λ prepared. P prepared.calls.items prepared.facts)
when_planned expected (Ok prepared) P is each = each (record { calls = prepared.calls.items; facts = prepared.facts }) is
when_planned expected (Err refusal) P is each = tt

pub returns-clause-legal : goal.returns-clause-legal
returns-clause-legal c = when_planned (verdict c.args.start.now (lists_of c.args.sessions)) c.judged.result (λ calls facts. IsLegal c.args.start.now calls) c.judged.ensures
    (λ plan is. plan_legal c.args.start.now (lists_of c.args.sessions) plan is c.requires.lists (omega (arith, c.requires.sessions, length-map c.args.sessions (λ (r : Room Captured). r.items))))

pub returns-clause-facts : goal.returns-clause-facts
returns-clause-facts c = when_planned (verdict c.args.start.now (lists_of c.args.sessions)) c.judged.result (λ calls facts. AreSound facts) c.judged.ensures (plan_sound c.args.start.now (lists_of c.args.sessions))

pub returns-clause-each_has_facts : goal.returns-clause-each_has_facts
returns-clause-each_has_facts c = when_planned (verdict c.args.start.now (lists_of c.args.sessions)) c.judged.result (λ calls facts. length facts ≡ length calls) c.judged.ensures (plan_facts c.args.start.now (lists_of c.args.sessions))

pub returns-clause-count : goal.returns-clause-count
returns-clause-count c = when_planned (verdict c.args.start.now (lists_of c.args.sessions)) c.judged.result (λ calls facts. length calls ≤ 100000) c.judged.ensures (plan_few c.args.start.now (lists_of c.args.sessions))
