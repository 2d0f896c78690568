use Rattle.std.proofs.Common.{◌≡◌, ◌<◌, ◌-◌, ◌^◌, get_or, sym, ap, ◌∙◌, add-zero, arith}
use Rattle.std.proofs.lemmas.List.{get_or-drop}
use Rattle.std.proofs.lemmas.List.Elements.{All-get_or}
use Rattle.statement_acts.proofs.draws.move_sequences.Goals as goal

pub overflow_add-next : goal.overflow_add-next
overflow_add-next c =
    let at = c.loop-place.place in
    let now = rw add-zero at (get_or-drop at c.loop-place.next_values 0 0) in
    let old = rw add-zero at (get_or-drop at c.args.next_values.now 0 0) in
    let same : get_or c.loop-place.next_values at 0 ≡ get_or c.args.next_values.now at 0 = sym now ∙ ap (λ l. get_or l 0 0) c.loop-place.invariant.left ∙ old in
    let bound : get_or c.args.next_values.now at 0 < 2 ^ 64 - 1 = All-get_or (λ n. n < 2 ^ 64 - 1) c.args.next_values.now at 0 (omega arith) c.requires in
    omega arith
