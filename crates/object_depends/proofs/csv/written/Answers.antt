use Rattle.std.proofs.Common.{◌∙◌, ap, arith, List, ◌++◌, ℕ, codes}
use Rattle.replay_history.specs.Texts.{line}
use Rattle.replay_history.specs.declared.mode.Mode.TheVariants.{Off, Scn, Object, Order}
use Rattle.object_depends.specs.Csv.{need_line}
use Rattle.std.proofs.lemmas.List.{get_or_read}
use Rattle.object_depends.specs.Inside.{no_tally}
use Rattle.object_depends.proofs.Lines.{lines_more}
use Rattle.object_depends.proofs.csv.written.Goals as goal

pub loop-k-preserved : goal.loop-k-preserved
loop-k-preserved c =
    let k = c.loop-k.k in
    let off = get_or_read c.in_ok-off.off.items k _ (omega (arith, c.in_ok-off.ensures.len)) c.index.ensures no_tally ∙ c.in_ok-off.ensures.each k (omega arith) in
    let scn = get_or_read c.in_ok-scn.scn.items k _ (omega (arith, c.in_ok-scn.ensures.len)) c.index-in-loop-k.ensures no_tally ∙ c.in_ok-scn.ensures.each k (omega arith) in
    let object = get_or_read c.in_ok-object.object.items k _ (omega (arith, c.in_ok-object.ensures.len)) c.index-in-loop-k-2.ensures no_tally ∙ c.in_ok-object.ensures.each k (omega arith) in
    let order = get_or_read c.in_ok-order.order.items k _ (omega (arith, c.in_ok-order.ensures.len)) c.index-in-loop-k-3.ensures no_tally ∙ c.in_ok-order.ensures.each k (omega arith) in
    let new = need_line k Off c.index.result.now ++ (need_line k Scn c.index-in-loop-k.result.now ++ (need_line k Object c.index-in-loop-k-2.result.now ++ need_line k Order c.index-in-loop-k-3.result.now)) in
    c.in_ok-append_call.ensures ∙ ap (λ (t : List ℕ). t ++ new) c.loop-k.invariant ∙ lines_more c.args.facts.now (line (codes "stamp,mode,count,last")) k _ _ _ _ off scn object order
