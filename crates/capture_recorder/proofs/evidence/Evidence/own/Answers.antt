use Rattle.std.proofs.Common.{◌∙◌, sym, ap, inl, inr}
use Rattle.std.proofs.lemmas.Bool.{cases_lt, false≢true, lt-ltb}
use Rattle.std.proofs.lemmas.Option.{slice_get_past}
use Rattle.std.specs.Prelude.{length}
use Rattle.captured_calls.specs.Sessions.{calls_of}
use Rattle.capture_recorder.specs.Recording.{Recording}
use Rattle.capture_recorder.specs.Inside.Answered.{items_of}
use Rattle.capture_recorder.proofs.evidence.Evidence.own.Goals as goal

pub returns-in-None : goal.returns-in-None
returns-in-None c =
    let sessions = c.self.inside.sessions.now in
    let session = c.args.session in
    elim (cases_lt session (length sessions)) [
      | inl below ↦ absurd (false≢true (c.in-None.ensures.lookup.0 ∙ lt-ltb session (length sessions) below))
      | inr beyond ↦ sym (ap items_of (slice_get_past sessions session beyond)) ∙ c.self.invariant.own session ∙ ap (λ (r : Recording). calls_of session r.calls) c.self.view_is
    ]
