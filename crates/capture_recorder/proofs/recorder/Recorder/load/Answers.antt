use Rattle.std.proofs.Common.{◌≡◌, ◌∙◌, List, [], rules, sym, ap, subst}
use Rattle.desk_values.specs.declared.value.Image.{Image}
use Rattle.known_ids.specs.Knowing.{KnowsCalls}
use Rattle.desk_schema.specs.Start.{StartView}
use Rattle.server_words.specs.State.{opening}
use Rattle.server_words.specs.Machine.{Running}
use Rattle.capture_recorder.proofs.Keeping.{keeps_loaded}
use Rattle.capture_recorder.proofs.recorder.Recorder.load.Goals as goal

pub invariant_of-result : goal.invariant_of-result
invariant_of-result c =
    let start = c.in_ok-start.start in
    let engine = c.in_ok-engine.engine in
    let first : engine ≡ record { state = opening start; steps = 0 } = c.in_ok-engine.ensures ∙ ap (λ (s : StartView). let r : Running = record { state = opening s; steps = 0 } in r) (sym c.in_ok-start.ensures) in
    keeps_loaded start c.in_ok-known.known c.in_ok-counters.counters (subst (λ (rows : List Image). KnowsCalls c.in_ok-known.known rows []) (c.as_slice.ensures ∙ c.rows.ensures.value) c.in_ok-known.ensures) c.in_ok-counters.ensures.row c.in_ok-counters.ensures.values c.new.result.items engine c.in_ok-sessions.sessions.items c.new.ensures first (search rules)
