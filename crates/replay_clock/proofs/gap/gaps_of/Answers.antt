use Rattle.std.proofs.Common.{◌≡◌, ◌∙◌, ◌++◌, ◌∷◌, [], length-set, get_or, ap}
use Rattle.replay_history.specs.Gap.{IsCallAt}
use Rattle.replay_clock.specs.declared.gap.Gap.{Gap}
use Rattle.replay_clock.specs.Inside.{gap_after}
use Rattle.replay_clock.proofs.Pauses.{ends_more, gaps_more}
use Rattle.law_histories.proofs.Items.{item_at}
use Rattle.replay_clock.proofs.gap.gaps_of.Goals as goal

pub loop-call-preserved : goal.loop-call-preserved
loop-call-preserved c =
    let calls = c.args.calls.now.items in
    let call = c.call-item.result in
    let l = c.loop-call in
    let at : IsCallAt calls l.call-index call = item_at c.as_slice-call-items.result.now calls l.call-index call c.as_slice-call-items.ensures c.loop-call-test.true c.call-item.is in
    let grown : c.push.new.self ≡ l.gaps ++ gap_after call (get_or l.ended call.session 0) ∷ [] = c.in_ok-push.ensures.ok ∙ ap (λ (gap : Gap). l.gaps ++ gap ∷ []) c.gap_after.ensures in
    record {
      gaps = grown ∙ gaps_more calls c.requires l.call-index l.ended call l.gaps at l.invariant.ends l.invariant.gaps;
      size = length-set l.ended call.session call.ended ∙ l.invariant.size;
      ends = ends_more calls c.requires l.call-index l.ended call at l.invariant.size l.invariant.ends;
    }
