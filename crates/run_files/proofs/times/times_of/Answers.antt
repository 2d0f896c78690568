use Rattle.std.proofs.Common.{List, ◌≡◌, ◌++◌, ◌∷◌, [], ◌+◌, ◌∙◌, take, sym, subst, ap, arith}
use Rattle.std.proofs.lemmas.List.{take_all, take_more}
use Rattle.desk_values.specs.declared.capture.Event.{Event}
use Rattle.run_files.specs.Inside.Times.{AreTimesOf}
use Rattle.run_files.specs.declared.times.Times.{Times}
use Rattle.run_files.proofs.Timing.{none_counted}
use Rattle.run_files.proofs.times.times_of.Goals as goal

pub loop-event-init : goal.loop-event-init
loop-event-init c = subst (λ (ts : List Times). AreTimesOf c.args.kind [] c.args.calls ts) (sym c.in_ok-times.ensures) (none_counted c.args.kind c.args.calls)

pub loop-event-preserved : goal.loop-event-preserved
loop-event-preserved c =
    let l = c.loop-event in
    let event = c.event-item.result in
    let more : take (l.event-index + 1) c.args.history.now ≡ take l.event-index c.args.history.now ++ event ∷ [] = take_more c.args.history.now l.event-index event (omega arith) ∙ ap (λ (e : Event). take l.event-index c.args.history.now ++ e ∷ []) (sym c.event-item.is) in
    subst (λ (es : List Event). AreTimesOf c.args.kind es c.args.calls c.note.new.times.items) (sym more) (c.note.ensures (take l.event-index c.args.history.now) c.args.calls l.invariant)

pub returns : goal.returns
returns c =
    let l = c.loop-event in
    subst (λ (es : List Event). AreTimesOf c.args.kind es c.args.calls l.times.items) (take_all l.event-index c.args.history.now (omega arith)) l.invariant
