use Rattle.std.proofs.Common.{◌≡◌, ◌∙◌, ◌+◌, ◌++◌, [], ◌∷◌, ap, length, map, refl, sym, subst, rules, arith}
use mathlib.Core.Bool.{true≢false}
use Rattle.std.proofs.lemmas.List.{length-append, length-map}
use Rattle.desk_files.specs.Hosts.{either_failed}
use Rattle.capture_serve.specs.Inside.Passing.{HasNoted, passed_of}
use Rattle.capture_serve.specs.Inside.Handing.{HasReturned}
use Rattle.capture_serve.proofs.Going.{GaveSo, LostSo, both_well, given_more, lost_more, none_given, noted_more, one_returned}
use Rattle.capture_serve.proofs.Taking.{no_more, one_more}
use Rattle.capture_serve.proofs.returning.give_back.Goals as goal

pub loop-one-init : goal.loop-one-init
loop-one-init g c = record {
  well = tt;
  finite = tt;
  rest = c.into_iter-one-iterator.ensures.into_iter_gives.0;
  faults = refl;
  short = omega (arith, c.new-notes.ensures.short);
  gave = λ whole. none_given (g.H.Host.account c.args.host.now).content;
  lost = λ is. absurd (true≢false is);
  handed = refl;
  noted = λ whole. c.new-notes.ensures;
}

pub loop-one-preserved : goal.loop-one-preserved
loop-one-preserved g c =
    let inv = c.loop-one.invariant in
    let passed = passed_of g.H.In.Source g.H.Out.Sink in
    let mapped : length (map passed c.loop-one.yielded) ≡ length c.loop-one.yielded = length-map c.loop-one.yielded passed in
    let more : length (c.loop-one.yielded ++ c.in-Some.one ∷ []) ≡ length (map passed c.loop-one.yielded) + 1 = length-append c.loop-one.yielded (c.in-Some.one ∷ []) ∙ ap (λ n. n + 1) (sym mapped) in
    record {
      well = tt;
      finite = tt;
      rest = one_more c.loop-one.yielded c.loop-one.one-iterator.rest.items c.args.served.items c.in-Some.one c.next.new.self.rest.items c.in-Some.ensures.steps.0 inv.rest;
      faults = c.give_one-given.ensures.faults ∙ inv.faults;
      short = omega (arith, inv.short, c.add-noted.ensures.few, length-append c.loop-one.yielded (c.in-Some.one ∷ []));
      gave = λ whole. let well = both_well c.loop-one.told c.give_one-given.result (sym c.is_well-told.ensures ∙ whole) in
          given_more passed c.loop-one.yielded c.in-Some.one (g.H.Host.account c.args.host.now).content (g.H.Host.account c.loop-one.host).content (g.H.Host.account c.give_one-given.new.host).content c.give_one-given.result well.1 (inv.gave well.0) c.give_one-given.ensures.gives_back;
      lost = λ is. subst (λ n. LostSo n (g.H.Host.account c.args.host.now).content (g.H.Host.account c.give_one-given.new.host).content) (sym more)
          (lost_more c.loop-one.told c.give_one-given.result (map passed c.loop-one.yielded) (passed c.in-Some.one).after.input (passed c.in-Some.one).after.output (either_failed (passed c.in-Some.one).after.input_faults (passed c.in-Some.one).after.output_faults) (g.H.Host.account c.args.host.now).content (g.H.Host.account c.loop-one.host).content (g.H.Host.account c.give_one-given.new.host).content (sym c.is_well-told.ensures ∙ is)
          inv.gave (λ lost. subst (λ n. LostSo n (g.H.Host.account c.args.host.now).content (g.H.Host.account c.loop-one.host).content) (sym mapped) (inv.lost lost)) c.give_one-given.ensures.gives_back);
      handed = one_returned (length c.loop-one.yielded) (length (c.loop-one.yielded ++ c.in-Some.one ∷ [])) (g.H.Host.account c.args.host.now).handed (g.H.Host.account c.loop-one.host).handed (g.H.Host.account c.give_one-given.new.host).handed (length-append c.loop-one.yielded (c.in-Some.one ∷ [])) c.give_one-given.ensures.handed inv.handed;
      noted = λ whole. let well = both_well c.loop-one.kept c.add-noted.result (sym c.is_well-kept.ensures ∙ whole) in
          noted_more passed c.loop-one.yielded c.in-Some.one c.add-noted.result c.loop-one.notes c.add-noted.new.self well.1 (inv.noted well.0) c.add-noted.ensures.adds;
    }

pub add-noted-requires : goal.add-noted-requires
add-noted-requires g c = omega (arith, c.loop-one.invariant.short, c.requires.few, length-append c.loop-one.yielded c.loop-one.one-iterator.rest.items, ap length c.loop-one.invariant.rest)

pub returns-then-kept-clause-gave : goal.returns-then-kept-clause-gave
returns-then-kept-clause-gave g c = λ told.
    let none : length c.loop-one.one-iterator.rest.items ≡ 0 = search rules in
    subst (λ l. GaveSo (map (passed_of g.H.In.Source g.H.Out.Sink) l) (g.H.Host.account c.args.host.now).content (g.H.Host.account c.loop-one.host).content) (no_more c.loop-one.yielded c.loop-one.one-iterator.rest.items c.args.served.items none c.loop-one.invariant.rest) (c.loop-one.invariant.gave told)

pub returns-then-kept-clause-lost : goal.returns-then-kept-clause-lost
returns-then-kept-clause-lost g c = λ lost.
    let none : length c.loop-one.one-iterator.rest.items ≡ 0 = search rules in
    subst (λ l. LostSo (length l) (g.H.Host.account c.args.host.now).content (g.H.Host.account c.loop-one.host).content) (no_more c.loop-one.yielded c.loop-one.one-iterator.rest.items c.args.served.items none c.loop-one.invariant.rest) (c.loop-one.invariant.lost lost)

pub returns-then-kept-clause-handed : goal.returns-then-kept-clause-handed
returns-then-kept-clause-handed g c =
    let none : length c.loop-one.one-iterator.rest.items ≡ 0 = search rules in
    subst (λ l. HasReturned (length l) (g.H.Host.account c.args.host.now).handed (g.H.Host.account c.loop-one.host).handed) (no_more c.loop-one.yielded c.loop-one.one-iterator.rest.items c.args.served.items none c.loop-one.invariant.rest) c.loop-one.invariant.handed

pub returns-else-kept-clause-gave : goal.returns-else-kept-clause-gave
returns-else-kept-clause-gave g c = λ told.
    let none : length c.loop-one.one-iterator.rest.items ≡ 0 = search rules in
    subst (λ l. GaveSo (map (passed_of g.H.In.Source g.H.Out.Sink) l) (g.H.Host.account c.args.host.now).content (g.H.Host.account c.loop-one.host).content) (no_more c.loop-one.yielded c.loop-one.one-iterator.rest.items c.args.served.items none c.loop-one.invariant.rest) (c.loop-one.invariant.gave told)

pub returns-else-kept-clause-lost : goal.returns-else-kept-clause-lost
returns-else-kept-clause-lost g c = λ lost.
    let none : length c.loop-one.one-iterator.rest.items ≡ 0 = search rules in
    subst (λ l. LostSo (length l) (g.H.Host.account c.args.host.now).content (g.H.Host.account c.loop-one.host).content) (no_more c.loop-one.yielded c.loop-one.one-iterator.rest.items c.args.served.items none c.loop-one.invariant.rest) (c.loop-one.invariant.lost lost)

pub returns-else-kept-clause-handed : goal.returns-else-kept-clause-handed
returns-else-kept-clause-handed g c =
    let none : length c.loop-one.one-iterator.rest.items ≡ 0 = search rules in
    subst (λ l. HasReturned (length l) (g.H.Host.account c.args.host.now).handed (g.H.Host.account c.loop-one.host).handed) (no_more c.loop-one.yielded c.loop-one.one-iterator.rest.items c.args.served.items none c.loop-one.invariant.rest) c.loop-one.invariant.handed

pub returns-then-kept-clause-notes : goal.returns-then-kept-clause-notes
returns-then-kept-clause-notes g c =
    let none : length c.loop-one.one-iterator.rest.items ≡ 0 = search rules in
    subst (λ l. HasNoted c.loop-one.notes (map (passed_of g.H.In.Source g.H.Out.Sink) l)) (no_more c.loop-one.yielded c.loop-one.one-iterator.rest.items c.args.served.items none c.loop-one.invariant.rest) (c.loop-one.invariant.noted c.if-kept.true)
