use Rattle.std.proofs.Common.{◌≡◌, ◌∙◌, Some, arith, refl, sym}
use Rattle.std.proofs.lemmas.Bool.{false≢true}
use Rattle.std.proofs.lemmas.Result.{err_from_is_err_and}
use Rattle.desk_files.specs.declared.fault.WriteErr.TheVariants.{Failed, Memory}
use Rattle.desk_words.specs.Command.{command_of}
use Rattle.replay_cli.proofs.Parts.{dialling_of, hosting_of}
use Rattle.replay_cli.specs.Inside.Work.{task_of}
use Rattle.replay_cli.proofs.Endings.{decided_dial, run_cut, run_done, run_failed, run_stopped}
use Rattle.replay_cli.proofs.Telling.{done_gives, failed_gives, may_ask, told_failed, told_unwritten, unwritten_gives}
use Rattle.replay_cli.proofs.running.run.Goals as goal

pub returns-in-Err-Failed-clause-says : goal.returns-in-Err-Failed-clause-says
returns-in-Err-Failed-clause-says g c =
    let is : command_of c.args.words.now ≡ Some c.in-Some.command = sym c.in_ok-command.ensures.value ∙ c.in-Some.is in
    run_cut (hosting_of _ _ _ _ _ _ _ _) _ _ _ _ _ _ c.args.words.now c.in-Some.command (task_of c.in_ok-work.work) c.in_ok-plan.plan c.as_slice.result.now Failed is c.in_ok-work.ensures.step c.in_ok-plan.ensures.done c.in_ok-plan.ensures.faults c.as_slice.ensures (rw c.in-Err-Failed.field-0-is at c.in-Err-Failed.ensures.left) (rw c.in-Err-Failed.field-0-is at c.in-Err-Failed.ensures.faults)

pub returns-clause-says : goal.returns-clause-says
returns-clause-says g c =
    let is : command_of c.args.words.now ≡ Some c.in-Some.command = sym c.in_ok-command.ensures.value ∙ c.in-Some.is in
    run_cut (hosting_of _ _ _ _ _ _ _ _) _ _ _ _ _ _ c.args.words.now c.in-Some.command (task_of c.in_ok-work.work) c.in_ok-plan.plan c.as_slice.result.now Memory is c.in_ok-work.ensures.step c.in_ok-plan.ensures.done c.in_ok-plan.ensures.faults c.as_slice.ensures (rw c.in-Err-Memory.field-0-is at c.in-Err-Memory.ensures.left) (rw c.in-Err-Memory.field-0-is at c.in-Err-Memory.ensures.faults)

pub returns-in-Ok-clause-says : goal.returns-in-Ok-clause-says
returns-in-Ok-clause-says g c =
    let is : command_of c.args.words.now ≡ Some c.in-Some.command = sym c.in_ok-command.ensures.value ∙ c.in-Some.is in
    run_done (hosting_of _ _ _ _ _ _ _ _) _ _ _ _ _ 0 c.args.words.now c.in-Some.command (task_of c.in_ok-work.work) c.in_ok-plan.plan c.as_slice.result.now is c.in_ok-work.ensures.step c.in_ok-plan.ensures.done c.in_ok-plan.ensures.faults c.as_slice.ensures c.in-Ok.ensures.left

pub returns-in_err-work-clause-says : goal.returns-in_err-work-clause-says
returns-in_err-work-clause-says g c =
    let p = err_from_is_err_and c.from_residual-in_err-work.result c.from_residual-in_err-work.ensures.1 in
    let is : command_of c.args.words.now ≡ Some c.in-Some.command = sym c.in_ok-command.ensures.value ∙ c.in-Some.is in
    rw (p.1, p.2) (run_stopped (hosting_of _ _ _ _ _ _ _ _) _ _ _ _ c.args.words.now c.in-Some.command c.in_err-work.field-0.0 ((refl, refl, refl), record { runs = refl; divergences = refl; faults = refl }, (refl, refl)) is c.in_err-work.ensures.step)

pub returns-in_err-plan-clause-says : goal.returns-in_err-plan-clause-says
returns-in_err-plan-clause-says g c =
    let p = err_from_is_err_and c.from_residual-in_err-plan.result c.from_residual-in_err-plan.ensures.1 in
    let is : command_of c.args.words.now ≡ Some c.in-Some.command = sym c.in_ok-command.ensures.value ∙ c.in-Some.is in
    rw (p.1, p.2) (run_failed (hosting_of _ _ _ _ _ _ _ _) _ _ _ _ c.args.words.now c.in-Some.command (task_of c.in_ok-work.work) c.in_err-plan.field-0.0 is c.in_ok-work.ensures.step c.in_err-plan.ensures.fails)

pub returns-in-Err-Failed-clause-told : goal.returns-in-Err-Failed-clause-told
returns-in-Err-Failed-clause-told g c =
    told_unwritten (command_of c.args.words.now) c.in-Some.command (task_of c.in_ok-work.work) (hosting_of _ _ _ _ _ _ _ _) c.in_ok-plan.plan Failed (sym c.in_ok-command.ensures.value ∙ c.in-Some.is) c.in_ok-plan.ensures.done
    (λ none. absurd (false≢true (c.in-Err-Failed.ensures.none (c.as_slice.ensures ∙ none))))

pub returns-clause-told : goal.returns-clause-told
returns-clause-told g c =
    told_unwritten (command_of c.args.words.now) c.in-Some.command (task_of c.in_ok-work.work) (hosting_of _ _ _ _ _ _ _ _) c.in_ok-plan.plan Memory (sym c.in_ok-command.ensures.value ∙ c.in-Some.is) c.in_ok-plan.ensures.done
    (λ none. absurd (false≢true (c.in-Err-Memory.ensures.none (c.as_slice.ensures ∙ none))))

pub returns-in_err-plan-clause-told : goal.returns-in_err-plan-clause-told
returns-in_err-plan-clause-told g c =
    let p = err_from_is_err_and c.from_residual-in_err-plan.result c.from_residual-in_err-plan.ensures.1 in
    rw (p.1, p.2) (told_failed (command_of c.args.words.now) c.in-Some.command (task_of c.in_ok-work.work) (hosting_of _ _ _ _ _ _ _ _) c.in_err-plan.field-0.0 (sym c.in_ok-command.ensures.value ∙ c.in-Some.is) c.in_ok-work.ensures.task c.in_err-plan.ensures.fails)

pub returns-in_err-plan-clause-asks : goal.returns-in_err-plan-clause-asks
returns-in_err-plan-clause-asks g c =
    may_ask (command_of c.args.words.now) c.in-Some.command (task_of c.in_ok-work.work) (hosting_of _ _ _ _ _ _ _ _) (sym c.in_ok-command.ensures.value ∙ c.in-Some.is) c.in_ok-work.ensures.task c.in_err-plan.ensures.asks

pub returns-in_err-work-clause-dial : goal.returns-in_err-work-clause-dial
returns-in_err-work-clause-dial g c =
    let p = err_from_is_err_and c.from_residual-in_err-work.result c.from_residual-in_err-work.ensures.1 in
    rw (p.1, p.2) (decided_dial c.in_err-work.field-0.0 _ _ (dialling_of _ _ _ _) c.in_err-work.ensures.step.faults (omega arith))

pub returns-in_err-plan-clause-dial : goal.returns-in_err-plan-clause-dial
returns-in_err-plan-clause-dial g c =
    let p = err_from_is_err_and c.from_residual-in_err-plan.result c.from_residual-in_err-plan.ensures.1 in
    rw (p.1, p.2) c.in_err-plan.ensures.dial

pub returns-in-Ok-clause-handed : goal.returns-in-Ok-clause-handed
returns-in-Ok-clause-handed g c = done_gives (hosting_of _ _ _ _ _ _ _ _) _ _ (command_of c.args.words.now) c.in-Some.command (task_of c.in_ok-work.work) c.in_ok-plan.plan (sym c.in_ok-command.ensures.value ∙ c.in-Some.is) c.in_ok-work.ensures.task c.in_ok-plan.ensures.handed

pub returns-in-Err-Failed-clause-handed : goal.returns-in-Err-Failed-clause-handed
returns-in-Err-Failed-clause-handed g c = unwritten_gives (hosting_of _ _ _ _ _ _ _ _) _ _ (command_of c.args.words.now) c.in-Some.command (task_of c.in_ok-work.work) Failed (sym c.in_ok-command.ensures.value ∙ c.in-Some.is) c.in_ok-work.ensures.task c.in_ok-plan.ensures.handed

pub returns-clause-handed : goal.returns-clause-handed
returns-clause-handed g c = unwritten_gives (hosting_of _ _ _ _ _ _ _ _) _ _ (command_of c.args.words.now) c.in-Some.command (task_of c.in_ok-work.work) Memory (sym c.in_ok-command.ensures.value ∙ c.in-Some.is) c.in_ok-work.ensures.task c.in_ok-plan.ensures.handed

pub returns-in_err-plan-clause-handed : goal.returns-in_err-plan-clause-handed
returns-in_err-plan-clause-handed g c =
    let p = err_from_is_err_and c.from_residual-in_err-plan.result c.from_residual-in_err-plan.ensures.1 in
    rw (p.1, p.2) (failed_gives (hosting_of _ _ _ _ _ _ _ _) _ _ (command_of c.args.words.now) c.in-Some.command (task_of c.in_ok-work.work) c.in_err-plan.field-0.0 (sym c.in_ok-command.ensures.value ∙ c.in-Some.is) c.in_ok-work.ensures.task c.in_err-plan.ensures.fails c.in_err-plan.ensures.handed)

pub returns-in-Ok-clause-asks : goal.returns-in-Ok-clause-asks
returns-in-Ok-clause-asks g c =
    may_ask (command_of c.args.words.now) c.in-Some.command (task_of c.in_ok-work.work) (hosting_of _ _ _ _ _ _ _ _) (sym c.in_ok-command.ensures.value ∙ c.in-Some.is) c.in_ok-work.ensures.task c.in_ok-plan.ensures.asks

pub returns-in-Err-Failed-clause-asks : goal.returns-in-Err-Failed-clause-asks
returns-in-Err-Failed-clause-asks g c =
    may_ask (command_of c.args.words.now) c.in-Some.command (task_of c.in_ok-work.work) (hosting_of _ _ _ _ _ _ _ _) (sym c.in_ok-command.ensures.value ∙ c.in-Some.is) c.in_ok-work.ensures.task c.in_ok-plan.ensures.asks

pub returns-clause-asks : goal.returns-clause-asks
returns-clause-asks g c =
    may_ask (command_of c.args.words.now) c.in-Some.command (task_of c.in_ok-work.work) (hosting_of _ _ _ _ _ _ _ _) (sym c.in_ok-command.ensures.value ∙ c.in-Some.is) c.in_ok-work.ensures.task c.in_ok-plan.ensures.asks
