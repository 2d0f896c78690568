use Rattle.std.proofs.Common.{◌≡◌, ◌∙◌, [], ◌∷◌, true, false, ap, length, length-append, map, refl, subst, sym, rules}
use Rattle.std.proofs.lemmas.List.{map-append}
use Rattle.desk_files.specs.Outside.{raised, risen_by}
use Rattle.remote_target.specs.Inside.{CountsLines, refusal_on, said_on}
use Rattle.desk_files.proofs.DeviceLaws.{risen_more}
use Rattle.remote_target.proofs.Returning.{GaveSo, counted_more, given_more, none_counted, none_given, none_unbroken, unbroken_more}
use Rattle.remote_target.proofs.Stepping.{none_left, one_taken}
use Rattle.remote_target.proofs.dialling.give_back.Goals as goal

pub loop-line-init : goal.loop-line-init
loop-line-init g c = record {
  well = tt;
  finite = tt;
  rest = c.into_iter-line-iterator.ensures.into_iter_gives.0;
  gave = none_given (g.D.Dial.account c.args.dial.now).content;
  unbroken = none_unbroken (g.D.Dial.account c.args.dial.now).content;
  counts = none_counted (g.D.Dial.account c.args.dial.now).faults;
  dialled = refl;
  failed = refl;
  port = refl;
  backs = refl;
}

pub loop-line-preserved : goal.loop-line-preserved
loop-line-preserved g c =
    let inv = c.loop-line.invariant in
    let done = c.loop-line.yielded in
    let line = c.in-Some.line in
    let spoken = c.into_line.ensures.spoken in
    record {
      well = tt;
      finite = tt;
      rest = one_taken done c.loop-line.line-iterator.rest.items c.args.lines.items line c.next.new.self.rest.items c.in-Some.ensures.steps.0 inv.rest;
      gave = rw (map-append said_on done (line ∷ []), c.is_whole-whole.ensures) (given_more (map said_on done) (said_on line) _ _ c.back-given.result c.loop-line.whole (g.D.Dial.account c.args.dial.now).content (g.D.Dial.account c.loop-line.dial).content (g.D.Dial.account c.back-given.new.self).content spoken inv.gave c.back-given.ensures.gives_back);
      unbroken = unbroken_more _ _ line.spoken.heard line.spoken.refusal c.back-given.result (g.D.Dial.account c.args.dial.now).content (g.D.Dial.account c.loop-line.dial).content (g.D.Dial.account c.back-given.new.self).content spoken inv.unbroken c.back-given.ensures.gives_back;
      counts = rw (map-append refusal_on done (line ∷ [])) (counted_more (map refusal_on done) _ _ line.spoken.heard line.spoken.refusal (g.D.Dial.account c.args.dial.now).faults (g.D.Dial.account c.loop-line.dial).faults (g.D.Dial.account c.back-given.new.self).faults spoken inv.counts c.back-given.ensures.counts);
      dialled = c.back-given.ensures.dialled ∙ inv.dialled;
      failed = c.back-given.ensures.failed ∙ inv.failed;
      port = c.back-given.ensures.port ∙ inv.port;
      backs = rw (length-append done (line ∷ [])) (c.back-given.ensures.backs ∙ ap raised inv.backs ∙ sym (risen_more (length done) _));
    }

pub returns-then-whole-clause-gives : goal.returns-then-whole-clause-gives
returns-then-whole-clause-gives g c =
    let none : length c.loop-line.line-iterator.rest.items ≡ 0 = search rules in
    let all = none_left c.loop-line.yielded c.loop-line.line-iterator.rest.items c.args.lines.items none c.loop-line.invariant.rest in
    let gave = rw c.if-whole.true at c.loop-line.invariant.gave in
    subst (λ l. GaveSo (map said_on l) true (g.D.Dial.account c.args.dial.now).content (g.D.Dial.account c.loop-line.dial).content) all gave

pub returns-then-whole-clause-counts : goal.returns-then-whole-clause-counts
returns-then-whole-clause-counts g c =
    let none : length c.loop-line.line-iterator.rest.items ≡ 0 = search rules in
    let all = none_left c.loop-line.yielded c.loop-line.line-iterator.rest.items c.args.lines.items none c.loop-line.invariant.rest in
    subst (λ l. CountsLines (map refusal_on l) (g.D.Dial.account c.args.dial.now).faults (g.D.Dial.account c.loop-line.dial).faults) all c.loop-line.invariant.counts

pub returns-else-whole-clause-gives : goal.returns-else-whole-clause-gives
returns-else-whole-clause-gives g c =
    let none : length c.loop-line.line-iterator.rest.items ≡ 0 = search rules in
    let all = none_left c.loop-line.yielded c.loop-line.line-iterator.rest.items c.args.lines.items none c.loop-line.invariant.rest in
    let gave = rw c.if-whole.false at c.loop-line.invariant.gave in
    subst (λ l. GaveSo (map said_on l) false (g.D.Dial.account c.args.dial.now).content (g.D.Dial.account c.loop-line.dial).content) all gave

pub returns-else-whole-clause-counts : goal.returns-else-whole-clause-counts
returns-else-whole-clause-counts g c =
    let none : length c.loop-line.line-iterator.rest.items ≡ 0 = search rules in
    let all = none_left c.loop-line.yielded c.loop-line.line-iterator.rest.items c.args.lines.items none c.loop-line.invariant.rest in
    subst (λ l. CountsLines (map refusal_on l) (g.D.Dial.account c.args.dial.now).faults (g.D.Dial.account c.loop-line.dial).faults) all c.loop-line.invariant.counts

pub returns-then-whole-clause-backs : goal.returns-then-whole-clause-backs
returns-then-whole-clause-backs g c =
    let none : length c.loop-line.line-iterator.rest.items ≡ 0 = search rules in
    let all = none_left c.loop-line.yielded c.loop-line.line-iterator.rest.items c.args.lines.items none c.loop-line.invariant.rest in
    c.loop-line.invariant.backs ∙ ap (λ l. risen_by (length l) (g.D.Dial.account c.args.dial.now).backs) all

pub returns-else-whole-clause-backs : goal.returns-else-whole-clause-backs
returns-else-whole-clause-backs g c =
    let none : length c.loop-line.line-iterator.rest.items ≡ 0 = search rules in
    let all = none_left c.loop-line.yielded c.loop-line.line-iterator.rest.items c.args.lines.items none c.loop-line.invariant.rest in
    c.loop-line.invariant.backs ∙ ap (λ l. risen_by (length l) (g.D.Dial.account c.args.dial.now).backs) all
