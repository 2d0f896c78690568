use Rattle.std.proofs.Common.{◌≡◌, ◌∙◌, ℕ, List, length, refl, sym, subst, true≢false, arith}
use Rattle.std.proofs.lemmas.Bool.{false≢true}
use Rattle.std.proofs.lemmas.List.{take_all}
use Rattle.std.proofs.lemmas.Option.{slice_get_within}
use Rattle.twin_tables.specs.declared.judging.Suspect.{Suspect}
use Rattle.twin_tables.specs.Differences.{both_of, others_of, own_of}
use Rattle.twin_tables.specs.Inside.Judging.{AreCovered}
use Rattle.twin_tables.proofs.Keeping.{past_none}
use Rattle.twin_tables.proofs.differences.Differences.judge_kept.Goals as goal

pub loop-suspect-init : goal.loop-suspect-init
loop-suspect-init c = record { kept = c.requires.kept; stands = record { captured_at = refl; replayed_at = refl }; covered = tt }

pub judge_one-requires-clause-at : goal.judge_one-requires-clause-at
judge_one-requires-clause-at c = sym c.in-Some.ensures

pub loop-suspect-preserved : goal.loop-suspect-preserved
loop-suspect-preserved c =
    let one = c.in_ok-judge_one.ensures in
    let was = c.loop-suspect.invariant in
    record {
      kept = one.kept;
      stands = record { captured_at = one.stands.captured_at ∙ was.stands.captured_at; replayed_at = one.stands.replayed_at ∙ was.stands.replayed_at };
      covered = (one.judged c.if-not-branch.false).covered was.covered;
    }

pub loop-suspect-smaller : goal.loop-suspect-smaller
loop-suspect-smaller c =
    let on = c.in_ok-judge_one.ensures.judged c.if-not-branch.false in
    let within = slice_get_within c.loop-suspect.self.kept.items c.loop-suspect.next c.in-Some.suspect (sym c.in-Some.ensures) in
    let inside = on.within in
    let nearer = on.nearer in
    omega (arith, within, inside, nearer)

pub returns-then-not-branch-clause-stands : goal.returns-then-not-branch-clause-stands
returns-then-not-branch-clause-stands c =
    let one = c.in_ok-judge_one.ensures.stands in
    let was = c.loop-suspect.invariant.stands in
    record { captured_at = one.captured_at ∙ was.captured_at; replayed_at = one.replayed_at ∙ was.replayed_at }

pub returns-then-not-branch-clause-covered : goal.returns-then-not-branch-clause-covered
returns-then-not-branch-clause-covered c = λ is. absurd (false≢true is)

pub returns-then-not-branch-clause-apart : goal.returns-then-not-branch-clause-apart
returns-then-not-branch-clause-apart c = λ is. c.in_ok-judge_one.ensures.apart c.if-not-branch.true

pub returns-clause-covered : goal.returns-clause-covered
returns-clause-covered c = λ is.
    let with = c.args.with in
    let kept = c.loop-suspect.self.kept.items in
    subst (AreCovered with.table (own_of with) (others_of with)) (take_all c.loop-suspect.next kept (past_none kept c.loop-suspect.next c.in_default.ensures)) c.loop-suspect.invariant.covered

pub returns-clause-apart : goal.returns-clause-apart
returns-clause-apart c = λ is. absurd (true≢false is)
