use Rattle.std.proofs.Common.{◌∙◌, sym, ap, subst}
use Rattle.capture_format.specs.SessionFile.{AreCallsOf, MayTellAll}
use Rattle.capture_recorder.specs.Recording.{Recording}
use Rattle.captured_calls.specs.Sessions.{calls_of}
use Rattle.capture_recorder.proofs.Files.{recorded_file, recorded_told}
use Rattle.capture_recorder.proofs.recorder.Recorder.session.Goals as goal

pub returns-clause-file : goal.returns-clause-file
returns-clause-file c =
    let session = c.args.session in
    let same = c.in_ok-list.ensures ∙ ap (calls_of session) (c.as_slice.ensures ∙ ap (λ (r : Recording). r.calls) c.self.view_is) in
    subst (AreCallsOf session) (sym same) (recorded_file c.args.self.now c.know_recording.ensures session)

pub returns-clause-told : goal.returns-clause-told
returns-clause-told c =
    let session = c.args.session in
    let same = c.in_ok-list.ensures ∙ ap (calls_of session) (c.as_slice.ensures ∙ ap (λ (r : Recording). r.calls) c.self.view_is) in
    subst (MayTellAll c.args.self.now.start.schema.version) (sym same) (recorded_told c.args.self.now c.know_recording.ensures session)
