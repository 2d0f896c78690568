use Rattle.std.proofs.Common.{◌∙◌, sym, ap}
use Rattle.std.specs.Prelude.{not}
use Rattle.std.proofs.lemmas.Bool.{false≢true}
use Rattle.law_ids.proofs.Runs.{run_start}
use Rattle.server_words.specs.State.{is_given, opening}
use Rattle.capture_recorder.specs.Recording.{Recording}
use Rattle.capture_recorder.proofs.Given.{else_given, known_given, no_id_given}
use Rattle.capture_recorder.proofs.recorder.Recorder.is_given.Goals as goal
use Rattle.capture_recorder.proofs.recorder.Recorder.is_given.Goals.{then-not-is_id, else-not-is_id}

pub returns-then-knows : goal.returns-then-knows
returns-then-knows c =
    let a = c.self.inside in
    let same = run_start (opening a.start) a.engine.state a.calls.items c.self.invariant.recording.reached in
    let now = ap (λ (r : Recording). is_given r.state c.args.value.now) c.self.view_is in
    c.if-knows.true ∙ elim c.if-not-is_id.branch [
      | then-not-is_id w ↦ no_id_given a.engine.state a.start same a.known c.self.invariant.ids a.counters.next_row a.counters.next_values.items c.self.invariant.next_row c.self.invariant.next_values c.args.value.now (sym c.is_id.ensures ∙ w.if-not-is_id.true)
      | else-not-is_id w ↦ known_given a.engine.state a.start same a.known c.self.invariant.ids a.counters.next_row a.counters.next_values.items c.self.invariant.next_row c.self.invariant.next_values c.args.value.now (sym w.knows.ensures ∙ sym w.value-is ∙ c.if-knows.true)
    ] ∙ now

pub returns-else-knows : goal.returns-else-knows
returns-else-knows c =
    let a = c.self.inside in
    let same = run_start (opening a.start) a.engine.state a.calls.items c.self.invariant.recording.reached in
    let now = ap (λ (r : Recording). is_given r.state c.args.value.now) c.self.view_is in
    elim c.if-not-is_id.branch [
      | then-not-is_id w ↦ absurd (false≢true (sym c.if-knows.false ∙ w.value-is ∙ ap not w.if-not-is_id.true))
      | else-not-is_id w ↦ c.has_given.ensures ∙ else_given a.engine.state a.start same a.known c.self.invariant.ids a.counters.next_row a.counters.next_values.items c.self.invariant.next_row c.self.invariant.next_values c.args.value.now (sym c.is_id.ensures ∙ w.if-not-is_id.false) (sym w.knows.ensures ∙ sym w.value-is ∙ c.if-knows.false) ∙ now
    ]
