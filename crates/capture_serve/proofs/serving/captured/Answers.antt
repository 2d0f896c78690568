use Rattle.std.proofs.Common.{◌≡◌, ◌∙◌, List, length, ap, sym, subst, refl, arith}
use Rattle.std.specs.List.{AllByRecursion}
use Rattle.desk_values.specs.declared.capture.Captured.{Captured}
use Rattle.desk_schema.specs.Start.{StartView}
use Rattle.capture_format.specs.SessionFile.{MayTellAll}
use Rattle.captured_calls.proofs.Told.{legal_told, lists_told}
use Rattle.std.proofs.lemmas.List.{length-map}
use Rattle.captured_calls.specs.Sessions.{AreSessionsFrom, session_lists}
use Rattle.capture_recorder.specs.Gathering.{lists_of}
use Rattle.capture_recorder.proofs.Files.{are_sessions}
use Rattle.capture_serve.proofs.Closed.{all_below, as_many}
use Rattle.capture_serve.proofs.Whole.{found_fails}
use Rattle.capture_serve.proofs.serving.captured.Goals as goal

pub overflow_cast-capture : goal.overflow_cast-capture
overflow_cast-capture g c = omega (arith, c.len.ensures, as_many c.args.notes.said c.in_ok-said.said c.in_ok-said.ensures.closed, c.requires)

pub returns-clause-captured : goal.returns-clause-captured
returns-clause-captured g c =
    let r = c.close_all.new.recorder in
    let count : length (lists_of c.in_ok-said.said) ≡ c.len.result = length-map c.in_ok-said.said _ ∙ sym c.len.ensures in
    record {
      recording = r;
      said = lists_of c.in_ok-said.said;
      capture = record {
        recording = c.calls.ensures.valid;
        start_is = c.in-Ok.ensures.agrees.starts;
        calls = c.len-calls.ensures ∙ ap length c.calls.ensures.value;
        below = all_below c.args.start.now r (lists_of c.in_ok-said.said) (lists_of c.args.notes.turned) c.len.result count c.in-Ok.ensures.agrees;
        sessions = c.in-Ok.ensures.answer.3 ∙ ap (λ n. session_lists n r.calls) count;
        off = c.in_ok-said.ensures.off;
      };
      connections = c.len.ensures ∙ as_many c.args.notes.said c.in_ok-said.said c.in_ok-said.ensures.closed;
      short = refl;
      closed = c.in_ok-said.ensures.closed;
      agrees = c.in-Ok.ensures.agrees;
    }

pub returns-clause-files : goal.returns-clause-files
returns-clause-files g c = subst (λ l. AreSessionsFrom 0 l) (sym c.in-Ok.ensures.answer.3) (are_sessions c.close_all.new.recorder c.calls.ensures.valid (length (lists_of c.in_ok-said.said)))

pub know_files-requires-clause-told : goal.know_files-requires-clause-told
know_files-requires-clause-told g c =
    let r = c.close_all.new.recorder in
    let version = c.args.start.now.schema.version in
    let told = subst (λ (s : StartView). MayTellAll s.schema.version r.calls) c.in-Ok.ensures.agrees.starts (legal_told r.start r.calls c.calls.ensures.valid.legal) in
    subst (λ (l : List (List Captured)). AllByRecursion (MayTellAll version) l) (sym c.in-Ok.ensures.answer.3) (lists_told version r.calls (length (lists_of c.in_ok-said.said)) told)

pub know_files-requires-clause-lists : goal.know_files-requires-clause-lists
know_files-requires-clause-lists g c = subst (λ l. AreSessionsFrom 0 l) (sym c.in-Ok.ensures.answer.3) (are_sessions c.close_all.new.recorder c.calls.ensures.valid (length (lists_of c.in_ok-said.said)))

pub returns-in-Err-clause-fails : goal.returns-in-Err-clause-fails
returns-in-Err-clause-fails g c =
    found_fails c.args.start.now c.close_all.new.recorder (lists_of c.in_ok-said.said) (lists_of c.args.notes.turned) c.in-Err.error c.failed.result c.calls.ensures.valid c.in-Err.ensures.answer c.failed.ensures
