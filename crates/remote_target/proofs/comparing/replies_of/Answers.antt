use Rattle.std.proofs.Common.{◌≡◌, ◌∙◌, ◌++◌, ◌∷◌, [], ◌+◌, ◌<◌, ◌≤◌, ℕ, ap, length, take, subst, sym, arith}
use Rattle.std.proofs.lemmas.List.{length-take-le, take_all, take_more, with_items_is}
use Rattle.remote_target.specs.Inside.{ArePlaces, noted_by}
use Rattle.remote_target.proofs.Places.{event_noted}
use Rattle.remote_target.proofs.comparing.replies_of.Goals as goal

pub loop-place-preserved : goal.loop-place-preserved
loop-place-preserved c =
    let i = c.loop-place.place in
    let events = c.as_slice-events.result.now in
    let e = c.index-events-place.result in
    let places = c.loop-place.places in
    let count = length c.args.desk.now.job.calls in
    let within : i < length events = omega (arith, c.loop-place-test.true) in
    let few : i ≤ length events = omega (arith, within) in
    let items = with_items_is places c.note.new.places (c.note.auto.places ∙ c.as_mut_slice.ensures.len) in
    let more : take (i + 1) events ≡ take i events ++ e ∷ [] = take_more events i e within ∙ ap (λ x. take i events ++ x ∷ []) (sym c.index-events-place.is) in
    let here = subst (λ (n : ℕ). ArePlaces (take i events ++ e ∷ []) count (noted_by e places.items n)) (length-take-le i events few) (event_noted (take i events) e count places.items c.loop-place.invariant) in
    rw (more, items, c.note.ensures, c.as_mut_slice.ensures.value) here

pub returns : goal.returns
returns c =
    let events = c.as_slice-events.result.now in
    let whole = take_all c.loop-place.place events (omega (arith, c.loop-place-test.false)) in
    subst (λ l. ArePlaces l (length c.args.desk.now.job.calls) c.loop-place.places.items) (whole ∙ c.as_slice-events.ensures ∙ c.events.ensures) c.loop-place.invariant
