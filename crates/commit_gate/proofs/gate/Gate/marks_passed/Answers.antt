use Rattle.std.proofs.Common.{◌≡◌, ◌<◌, true, false, refl, length, subst}
use Rattle.std.proofs.lemmas.Bool.{leb-true, le-leb, lt-ltb, le-ltb}
use Rattle.object_depends.specs.declared.fact.Fact.{Fact}
use Rattle.object_depends.specs.Facts.{fact_at, is_commit}
use Rattle.commit_gate.proofs.Readiness.{by_scn, by_object, by_order, by_fence, by_fence_seen}
use Rattle.commit_gate.proofs.gate.Gate.marks_passed.Goals as goal

pub returns-in-Off : goal.returns-in-Off
returns-in-Off c = rw (← c.self.view_is, c.in-Off.is) (λ _ j required. absurd cc, λ _. refl)

pub returns-in-Scn : goal.returns-in-Scn
returns-in-Scn c =
    let stamp : c.args.k < length c.self.inside.facts = rw (← c.self.view_is) at c.requires.stamp in
    let both = by_scn c.self.inside c.self.invariant c.args.k stamp in
    rw (← c.self.view_is, c.in-Scn.is) (λ is. both.0 (leb-true _ _ is), λ all. le-leb _ _ (both.1 all))

pub returns-in-Object : goal.returns-in-Object
returns-in-Object c =
    let stamp : c.args.k < length c.self.inside.facts = rw (← c.self.view_is) at c.requires.stamp in
    let call : c.args.call.now ≡ fact_at c.self.inside.facts c.args.k = rw (← c.self.view_is) at c.requires.call in
    let passed = rw (c.as_slice.ensures.value, call) at c.tables_passed.ensures in
    let both = by_object c.self.inside c.self.invariant c.args.k stamp in
    rw (← c.self.view_is, c.in-Object.is) (λ is. both.0 (passed.0 is), λ all. passed.1 (both.1 all))

pub returns-in-Order : goal.returns-in-Order
returns-in-Order c =
    let stamp : c.args.k < length c.self.inside.facts = rw (← c.self.view_is) at c.requires.stamp in
    let both = by_order c.self.inside c.self.invariant c.args.k stamp in
    rw (← c.self.view_is, c.in-Order.is) (λ is. both.0 (leb-true _ _ is), λ all. le-leb _ _ (both.1 all))

pub returns-in-Fence : goal.returns-in-Fence
returns-in-Fence c =
    let stamp : c.args.k < length c.self.inside.facts = rw (← c.self.view_is) at c.requires.stamp in
    let call : c.args.call.now ≡ fact_at c.self.inside.facts c.args.k = rw (← c.self.view_is) at c.requires.call in
    let commit : is_commit (fact_at c.self.inside.facts c.args.k) ≡ true = subst (λ (f : Fact). is_commit f ≡ true) call (lt-ltb _ _ c.if-call-gt0.true) in
    let both = by_fence c.self.inside c.self.invariant c.args.k stamp commit in
    rw (← c.self.view_is, c.in-Fence.is) (λ is. both.0 (leb-true _ _ is), λ all. le-leb _ _ (both.1 all))

pub returns-in-Fence-2 : goal.returns-in-Fence-2
returns-in-Fence-2 c =
    let stamp : c.args.k < length c.self.inside.facts = rw (← c.self.view_is) at c.requires.stamp in
    let call : c.args.call.now ≡ fact_at c.self.inside.facts c.args.k = rw (← c.self.view_is) at c.requires.call in
    let commit : is_commit (fact_at c.self.inside.facts c.args.k) ≡ false = subst (λ (f : Fact). is_commit f ≡ false) call (le-ltb _ _ c.if-call-gt0.false) in
    let both = by_fence_seen c.self.inside c.self.invariant c.args.k stamp commit in
    rw (← c.self.view_is, c.in-Fence-2.is) (λ is. both.0 (leb-true _ _ is), λ all. le-leb _ _ (both.1 all))
