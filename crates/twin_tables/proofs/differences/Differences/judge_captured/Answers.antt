use Rattle.std.proofs.Common.{◌≡◌, ◌∙◌, ℕ, List, None, length, refl, sym, ap, subst, true≢false, arith}
use Rattle.std.proofs.lemmas.Bool.{false≢true}
use Rattle.std.specs.Prelude.{slice_get}
use Rattle.std.proofs.lemmas.Option.{slice_get_within}
use Rattle.twin_tables.specs.declared.ledger.Change.{Change}
use Rattle.twin_tables.specs.Differences.{both_of, others_of, own_of}
use Rattle.twin_tables.specs.Inside.Judging.{next_due}
use Rattle.twin_tables.specs.Ledger.{changes_of}
use Rattle.twin_tables.proofs.Written.{due_at}
use Rattle.twin_tables.proofs.differences.Differences.judge_captured.Goals as goal

pub loop-row-init : goal.loop-row-init
loop-row-init c = record { kept = c.requires.kept; stands = record { captured_at = refl; replayed_at = refl }; covered = c.requires.covered }

pub pass_captured-requires-clause-next : goal.pass_captured-requires-clause-next
pass_captured-requires-clause-next c =
    let with = c.args.with in
    let place = c.loop-row.self.captured_place in
    due_at with.captured.now.list place with.captured_at c.in-Some.row (c.in-Some.ensures ∙ ap (λ (cs : List Change). next_due with.captured_at (slice_get cs place)) c.changes-written.ensures.changes)

pub loop-row-preserved : goal.loop-row-preserved
loop-row-preserved c =
    let one = c.in_ok-pass_captured.ensures in
    let was = c.loop-row.invariant in
    record {
      kept = one.kept;
      stands = record { captured_at = one.stands.captured_at ∙ was.stands.captured_at; replayed_at = one.stands.replayed_at ∙ was.stands.replayed_at };
      covered = one.covered was.covered;
    }

pub loop-row-smaller : goal.loop-row-smaller
loop-row-smaller c =
    let with = c.args.with in
    let place = c.loop-row.self.captured_place in
    let due = due_at with.captured.now.list place with.captured_at c.in-Some.row (c.in-Some.ensures ∙ ap (λ (cs : List Change). next_due with.captured_at (slice_get cs place)) c.changes-written.ensures.changes) in
    let within = slice_get_within with.captured.now.list place due.0 due.1 in
    let next = c.in_ok-pass_captured.ensures.place c.if-not-branch.false in
    omega (arith, within, next)

pub returns-then-not-branch-clause-stands : goal.returns-then-not-branch-clause-stands
returns-then-not-branch-clause-stands c =
    let one = c.in_ok-pass_captured.ensures.stands in
    let was = c.loop-row.invariant.stands in
    record { captured_at = one.captured_at ∙ was.captured_at; replayed_at = one.replayed_at ∙ was.replayed_at }

pub returns-then-not-branch-clause-covered : goal.returns-then-not-branch-clause-covered
returns-then-not-branch-clause-covered c = c.in_ok-pass_captured.ensures.covered c.loop-row.invariant.covered

pub returns-then-not-branch-clause-done : goal.returns-then-not-branch-clause-done
returns-then-not-branch-clause-done c = λ is. absurd (false≢true is)

pub returns-then-not-branch-clause-apart : goal.returns-then-not-branch-clause-apart
returns-then-not-branch-clause-apart c = λ is. c.in_ok-pass_captured.ensures.apart c.if-not-branch.true

pub returns-clause-done : goal.returns-clause-done
returns-clause-done c = λ is. sym (c.in_default.ensures ∙ ap (λ (cs : List Change). next_due c.args.with.captured_at (slice_get cs c.loop-row.self.captured_place)) c.changes-written.ensures.changes)

pub returns-clause-apart : goal.returns-clause-apart
returns-clause-apart c = λ is. absurd (true≢false is)
