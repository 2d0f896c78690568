use Rattle.std.proofs.Common.{Result, Ok, Err, OnOk}
use Rattle.remote_desk.specs.Desk.{IsHeard, MayAnswer}
use Rattle.remote_target.proofs.seats.heard.Goals as goal

ok_given : (T E P Q : Type 0) (result : Result T E) → OnOk result Q → OnOk result (P → Q)
ok_given T E P Q (Ok value) holds = λ p. holds
ok_given T E P Q (Err error) holds = tt

pub returns-then-awaits-clause-ok : goal.returns-then-awaits-clause-ok
returns-then-awaits-clause-ok c =
    ok_given _ _ (MayAnswer c.args.desk.now.events c.args.k) (IsHeard c.args.desk.now c.args.k c.args.reply.now c.answer.new.self) c.answer.result c.answer.ensures.ok

pub returns-then-awaits-clause-none : goal.returns-then-awaits-clause-none
returns-then-awaits-clause-none c = λ never. absurd (never (c.awaits.ensures.0 c.if-awaits.true))

pub returns-else-awaits-clause-ok : goal.returns-else-awaits-clause-ok
returns-else-awaits-clause-ok c = λ may. absurd (let holds = c.awaits.ensures.1 may in let fails = c.if-awaits.false in cc)
