use Rattle.std.proofs.Common.{◌≡◌, ◌∙◌, ◌<◌, ap, length, true, false, set, length-set, arith}
use Rattle.std.specs.Prelude.{slice_index, Some}
use Rattle.std.specs.Ordering.{nat_cmp}
use Rattle.std.specs.BTreeMap.{get}
use Rattle.std.proofs.lemmas.List.{with_items_is, get_or_read}
use Rattle.object_depends.specs.Facts.{fact_at}
use Rattle.commit_gate.specs.Gates.{is_in}
use Rattle.commit_gate.specs.declared.mark.Watch.TheVariants.{Every, Commits}
use Rattle.commit_gate.specs.Inside.Marks.{IsMark, AreTableMarks}
use Rattle.commit_gate.proofs.Keeping.{answer_kept, in_more, in_within}
use Rattle.commit_gate.proofs.Sessions.{has_head, heads_kept}
use Rattle.commit_gate.proofs.gate.Gate.answer.Goals as goal

pub put-requires : goal.put-requires
put-requires c =
    let a = c.self.inside in
    let is = c.self.invariant in
    let begun : is_in a.started.items c.args.k ≡ true = rw (← c.self.view_is) at c.requires.started in
    let lt : c.args.k < length a.facts = omega (arith, in_within a.started.items c.args.k begun, is.started_len) in
    rw c.as_slice.ensures (has_head a.facts a.answered.items c.args.k lt (get nat_cmp a.heads (fact_at a.facts c.args.k).session) (is.heads (fact_at a.facts c.args.k).session))

pub invariant_of-self : goal.invariant_of-self
invariant_of-self c =
    let a = c.self.inside in
    let is = c.self.invariant in
    let begun : is_in a.started.items c.args.k ≡ true = rw (← c.self.view_is) at c.requires.started in
    let unanswered : is_in a.answered.items c.args.k ≡ false = rw (← c.self.view_is) at c.requires.open in
    let lt : c.args.k < length a.facts = omega (arith, in_within a.started.items c.args.k begun, is.started_len) in
    let now = set a.answered.items c.args.k true in
    let every : IsMark Every a.facts now c.advance-self-inside.result = rw (c.as_slice-facts.ensures, c.as_slice-answered.ensures.value) at c.advance-self-inside.ensures in
    let commits : IsMark Commits a.facts now c.advance-self-inside-2.result = rw (c.as_slice-facts.ensures, c.as_slice-answered.ensures.value) at c.advance-self-inside-2.ensures in
    let tables : AreTableMarks a.facts now c.advance_tables.new.marks 32 = rw (c.as_slice-facts.ensures, c.as_slice-answered.ensures.value) at c.advance_tables.ensures in
    let items = with_items_is a.tables c.advance_tables.new.marks (c.advance_tables.auto.marks ∙ c.as_mut_slice.ensures.len) in
    let next : c.index.result.now ≡ slice_index a.nexts.items c.args.k = get_or_read a.nexts.items c.args.k _ (omega (arith, is.nexts_len)) c.index.ensures 0 in
    let put = rw c.as_slice.ensures at c.put.ensures in
    record {
      few = is.few;
      sound = is.sound;
      started_len = is.started_len;
      answered_len = length-set a.answered.items c.args.k true ∙ is.answered_len;
      nexts_len = is.nexts_len;
      every = every;
      commits = commits;
      tables_len = rw items (c.advance_tables.auto.marks ∙ ap length c.as_mut_slice.ensures.value ∙ is.tables_len);
      tables = rw items tables;
      heads = heads_kept a.facts a.started.items a.answered.items a.nexts.items (get nat_cmp a.heads) (get nat_cmp c.put.new.heads) c.args.k is.order is.heads is.nexts lt is.answered_len begun unanswered (put.here ∙ ap Some next) put.others;
      nexts = is.nexts;
      order = answer_kept a.facts a.started.items a.answered.items c.args.k is.order begun;
      required = λ k started j required. in_more a.answered.items c.args.k j (is.required k started j required);
    }
