use Rattle.std.proofs.Common.{None, List, inl}
use Rattle.std.proofs.lemmas.Result.{err_from_is_err_and}
use Rattle.replay_cli.specs.Inside.Steps.{IsUntaken}
use Rattle.desk_values.specs.declared.capture.Event.{Event}
use Rattle.replay_history.specs.declared.mode.Mode.{Mode}
use Rattle.replay_report.specs.declared.journal.Journal.{Journal}
use Rattle.replay_cli.specs.Decision.{JournalOf, MayRefuseLeft}
use Rattle.replay_cli.specs.FileNames.{journal_name}
use Rattle.replay_cli.specs.Inside.Showing.{journal_seen}
use Rattle.replay_cli.proofs.Sessions.{free_error}
use Rattle.replay_cli.proofs.ShowSteps.{filed_bad, filed_cut, filed_read}
use Rattle.replay_cli.proofs.Refusals.{bad_journal, fails_weaker, untaken_left}
use Rattle.replay_cli.proofs.showing.journal_in.Goals as goal

pub returns-in_err-bytes-clause-kind : goal.returns-in_err-bytes-clause-kind
returns-in_err-bytes-clause-kind g c =
    let p = err_from_is_err_and c.from_residual-in_err-bytes.result c.from_residual-in_err-bytes.ensures.1 in
    rw (p.1, p.2) (fails_weaker (IsUntaken c.in_ok-name.name) (MayRefuseLeft c.args.out.now None) (untaken_left c.args.out.now c.in_ok-name.name (inl c.in_ok-name.ensures)) c.in_err-bytes.field-0.0 c.in_err-bytes.ensures.kind)

pub returns-in_err-journal-clause-kind : goal.returns-in_err-journal-clause-kind
returns-in_err-journal-clause-kind g c =
    let p = err_from_is_err_and c.from_residual-in_err-journal.result c.from_residual-in_err-journal.ensures.1 in
    rw (p.1, p.2) (bad_journal c.args.out.now c.in_ok-name.name c.in_ok-bytes.bytes c.in_ok-name.ensures c.in_err-journal.field-0.0 c.in_err-journal.ensures.says)

pub returns-in_err-bytes-clause-step : goal.returns-in_err-bytes-clause-step
returns-in_err-bytes-clause-step g c =
    let p = err_from_is_err_and c.from_residual-in_err-bytes.result c.from_residual-in_err-bytes.ensures.1 in
    let name = journal_name c.args.out.now in
    rw (p.1, p.2) (filed_cut (JournalOf name) name _ _ _ _ c.in_err-bytes.field-0.0 (rw c.in_ok-name.ensures at c.in_err-bytes.ensures.step))

pub returns-in_err-journal-clause-step : goal.returns-in_err-journal-clause-step
returns-in_err-journal-clause-step g c =
    let p = err_from_is_err_and c.from_residual-in_err-journal.result c.from_residual-in_err-journal.ensures.1 in
    let name = journal_name c.args.out.now in
    rw (p.1, p.2) (filed_bad (JournalOf name) name _ _ _ _ c.in_ok-bytes.bytes (rw c.in_ok-name.ensures at c.in_ok-bytes.ensures.step) c.in_err-journal.field-0.0
    (rw c.in_ok-name.ensures at c.in_err-journal.ensures.says) (free_error Journal (Mode × List Event) c.in_err-journal.field-0.0 c.in_err-journal.ensures.free))

pub returns-clause-step : goal.returns-clause-step
returns-clause-step g c =
    let name = journal_name c.args.out.now in
    filed_read (JournalOf name) name _ _ _ _ c.in_ok-bytes.bytes (rw c.in_ok-name.ensures at c.in_ok-bytes.ensures.step) (journal_seen c.in_ok-journal.journal) c.in_ok-journal.ensures.says
