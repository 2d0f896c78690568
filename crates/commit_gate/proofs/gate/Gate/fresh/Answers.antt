use Rattle.std.proofs.Common.{◌≡◌, length, replicate, false, rules}
use Rattle.commit_gate.specs.declared.mark.Watch.TheVariants.{Every, Commits}
use Rattle.commit_gate.specs.Inside.Marks.{IsMark}
use Rattle.commit_gate.proofs.Readiness.{fresh_is_gate}
use Rattle.commit_gate.proofs.gate.Gate.fresh.Goals as goal

pub invariant_of-result : goal.invariant_of-result
invariant_of-result c =
    let facts = c.args.facts.now in
    let started : c.in_ok-started.started.items ≡ replicate (length facts) false = search rules in
    let answered : c.in_ok-answered.answered.items ≡ replicate (length facts) false = search rules in
    let nexts : length c.in_ok-heads.nexts.items ≡ length facts = search rules in
    let every : IsMark Every facts c.in_ok-answered.answered.items c.first_mark-every.result = rw c.as_slice.ensures.value at c.first_mark-every.ensures in
    let commits : IsMark Commits facts c.in_ok-answered.answered.items c.first_mark-commits.result = rw c.as_slice-2.ensures.value at c.first_mark-commits.ensures in
    let tables = rw c.as_slice-3.ensures.value at c.in_ok-tables.ensures.marks in
    let tables_len : length c.in_ok-tables.tables.items ≡ 32 = search rules in
    let heads = c.in_ok-heads.ensures in
    rw c.in_ok-from_slice.ensures (fresh_is_gate _ c.requires.sound c.requires.few started answered nexts every commits tables_len tables heads.heads heads.nexts)
