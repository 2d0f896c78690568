use Rattle.std.proofs.Common.{◌∙◌, List, length, ap, sym, subst}
use Rattle.std.specs.List.{AllByRecursion}
use Rattle.desk_values.specs.declared.capture.Captured.{Captured}
use Rattle.desk_schema.specs.Start.{StartView}
use Rattle.capture_format.specs.SessionFile.{MayTellAll}
use Rattle.captured_calls.proofs.Told.{legal_told, lists_told}
use Rattle.std.proofs.lemmas.List.{length-map}
use Rattle.std.proofs.lemmas.List.FromFn.{length-range_with_len}
use Rattle.replay_cli.proofs.serving.serving.Goals as goal

pub captured-requires-clause-count : goal.captured-requires-clause-count
captured-requires-clause-count g c = sym (length-map c.in-Ok.capture.sessions _) ∙ ap length c.in-Ok.ensures.service.capture.sessions ∙ length-map _ _ ∙ length-range_with_len 0 c.in-Ok.capture.connections

pub captured-requires-clause-told : goal.captured-requires-clause-told
captured-requires-clause-told g c =
    let service = c.in-Ok.ensures.service in
    let capture = service.capture in
    let calls = service.recording.calls in
    let version = c.args.start.now.schema.version in
    let told = subst (λ (start : StartView). MayTellAll start.schema.version calls) capture.start_is (legal_told service.recording.start calls capture.recording.legal) in
    subst (λ (lists : List (List Captured)). AllByRecursion (MayTellAll version) lists) (sym capture.sessions) (lists_told version calls c.in-Ok.capture.connections told)
