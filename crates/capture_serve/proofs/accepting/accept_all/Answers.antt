use Rattle.std.proofs.Common.{◌≡◌, ◌∙◌, ◌++◌, [], ◌∷◌, ◌+◌, Ok, Err, length, map, refl, sym, ap, subst, rules, arith}
use Rattle.std.proofs.lemmas.List.{length-append}
use Rattle.std.specs.Prelude.{IfSome}
use Rattle.std.specs.List.{AllByRecursion}
use Rattle.capture_serve.specs.Inside.Passing.{Came, IsKept, arrival, coming_of}
use Rattle.capture_serve.specs.declared.halt.Halt.TheVariants.{Failed}
use Rattle.capture_serve.specs.Inside.Handing.{HasTaken}
use Rattle.capture_serve.proofs.Coming.{SoFar, all_came, arrives, halted, no_more_came, none_came, none_taken, one_more_came, one_taken}
use Rattle.capture_serve.proofs.Taking.{all_more}
use Rattle.capture_serve.proofs.accepting.accept_all.Goals as goal

pub loop-session-init : goal.loop-session-init
loop-session-init g c = record {
  came = subst (λ l. SoFar (map (λ seat. arrival g.H.In.Source g.H.Out.Sink (coming_of seat)) l) 0 (g.H.Host.account c.args.host.now).content (g.H.Host.account c.args.host.now).content) (sym c.requires.none) (none_came (g.H.Host.account c.args.host.now).content);
  count = rw c.requires.none refl;
  kept = rw c.requires.none tt;
  faults = refl;
  room = c.requires.room;
  handed = refl;
}

pub push_reserved-requires : goal.push_reserved-requires
push_reserved-requires g c = omega (arith, c.loop-session.invariant.room, c.loop-session.invariant.count, c.loop-session-test.true)

pub returns-in-Ok-None-clause-came : goal.returns-in-Ok-None-clause-came
returns-in-Ok-None-clause-came g c =
    no_more_came (g.H.Host.account c.args.host.now).content (g.H.Host.account c.loop-session.host).content (g.H.Host.account c.accept.new.self).content g.H.In.Source.account g.H.Out.Sink.account c.accept.result c.accept.ensures.takes _ c.loop-session.session c.args.most (c.in-Ok-None.is ∙ ap Ok c.in-Ok-None.field-0-is) (omega (arith, c.loop-session-test.true)) c.loop-session.invariant.came

pub returns-in-Err-clause-came : goal.returns-in-Err-clause-came
returns-in-Err-clause-came g c =
    subst (λ o. Came (Err Failed) c.args.most (map (λ seat. arrival g.H.In.Source g.H.Out.Sink (coming_of seat)) c.loop-session.seats.items) (g.H.Host.account c.args.host.now).content o) (sym c.in-Err.ensures.takes)
    (halted Failed _ c.loop-session.session c.args.most (g.H.Host.account c.args.host.now).content (g.H.Host.account c.loop-session.host).content c.loop-session.invariant.came)

pub loop-session-preserved : goal.loop-session-preserved
loop-session-preserved g c =
    let inv = c.loop-session.invariant in
    let fresh : ((g.H.In.Source.account c.in-Ok-Some.ends.0).faults ≡ 0) × ((g.H.Out.Sink.account c.in-Ok-Some.ends.1).faults ≡ 0) =
    subst (λ o. IfSome o (λ pair. ((g.H.In.Source.account pair.0).faults ≡ 0) × ((g.H.Out.Sink.account pair.1).faults ≡ 0))) c.in-Ok-Some.field-0-is c.in-Ok-Some.ensures.fresh in
    let more : c.push_reserved.new.self.items ≡ c.loop-session.seats.items ++ c.start.result ∷ [] = search rules in
    record {
      came = subst (λ l. SoFar (map (λ seat. arrival g.H.In.Source g.H.Out.Sink (coming_of seat)) l) (c.loop-session.session + 1) (g.H.Host.account c.args.host.now).content (g.H.Host.account c.accept.new.self).content) (sym more)
          (one_more_came (g.H.Host.account c.args.host.now).content (g.H.Host.account c.loop-session.host).content (g.H.Host.account c.accept.new.self).content g.H.In.Source.account g.H.Out.Sink.account c.accept.result c.accept.ensures.takes
          (λ seat. arrival g.H.In.Source g.H.Out.Sink (coming_of seat)) c.loop-session.seats.items c.start.result c.loop-session.session c.in-Ok-Some.ends (c.in-Ok-Some.is ∙ ap Ok c.in-Ok-Some.field-0-is) inv.came
          (λ first input_is output_is. ap (arrival g.H.In.Source g.H.Out.Sink) c.start.ensures.comes ∙ arrives c.loop-session.session (g.H.In.Source.account c.in-Ok-Some.ends.0).content (g.H.Out.Sink.account c.in-Ok-Some.ends.1).content (g.H.In.Source.account c.in-Ok-Some.ends.0).faults (g.H.Out.Sink.account c.in-Ok-Some.ends.1).faults first fresh.0 fresh.1 input_is output_is));
      count = ap length more ∙ length-append c.loop-session.seats.items (c.start.result ∷ []) ∙ ap (λ n. n + 1) inv.count;
      kept = subst (λ l. AllByRecursion (IsKept g.H.In.Source g.H.Out.Sink) l) (sym more) (all_more (IsKept g.H.In.Source g.H.Out.Sink) c.loop-session.seats.items c.start.result inv.kept c.start.ensures.kept);
      faults = c.in-Ok-Some.ensures.counts ∙ inv.faults;
      room = rw c.push_reserved.ensures.capacity inv.room;
      handed = one_taken c.accept.result c.loop-session.session (g.H.Host.account c.args.host.now).handed (g.H.Host.account c.loop-session.host).handed (g.H.Host.account c.accept.new.self).handed c.accept.ensures.handed inv.handed c.in-Ok-Some.ends (c.in-Ok-Some.is ∙ ap Ok c.in-Ok-Some.field-0-is);
    }

pub returns-clause-came : goal.returns-clause-came
returns-clause-came g c = subst (λ n. Came (Ok tt) n (map (λ seat. arrival g.H.In.Source g.H.Out.Sink (coming_of seat)) c.loop-session.seats.items) (g.H.Host.account c.args.host.now).content (g.H.Host.account c.loop-session.host).content) (omega (arith, c.loop-session-test.false, c.loop-session.auto.session-end))
    (all_came _ c.loop-session.session (g.H.Host.account c.args.host.now).content (g.H.Host.account c.loop-session.host).content c.loop-session.invariant.came)

pub returns-in-Ok-None-clause-handed : goal.returns-in-Ok-None-clause-handed
returns-in-Ok-None-clause-handed g c = subst (λ n. HasTaken n (g.H.Host.account c.args.host.now).handed (g.H.Host.account c.accept.new.self).handed) (sym c.loop-session.invariant.count)
    (none_taken c.accept.result c.loop-session.session (g.H.Host.account c.args.host.now).handed (g.H.Host.account c.loop-session.host).handed (g.H.Host.account c.accept.new.self).handed c.accept.ensures.handed c.loop-session.invariant.handed (c.in-Ok-None.is ∙ ap Ok c.in-Ok-None.field-0-is))

pub returns-in-Err-clause-handed : goal.returns-in-Err-clause-handed
returns-in-Err-clause-handed g c = subst (λ n. HasTaken n (g.H.Host.account c.args.host.now).handed (g.H.Host.account c.accept.new.self).handed) (sym c.loop-session.invariant.count) (c.in-Err.ensures.handed ∙ c.loop-session.invariant.handed)

pub returns-clause-handed : goal.returns-clause-handed
returns-clause-handed g c = subst (λ n. HasTaken n (g.H.Host.account c.args.host.now).handed (g.H.Host.account c.loop-session.host).handed) (sym c.loop-session.invariant.count) c.loop-session.invariant.handed
