use Rattle.std.proofs.Common.{◌≡◌, ◌∙◌, ℕ, List, None, length, refl, sym, ap, subst, true≢false, arith}
use Rattle.std.proofs.lemmas.Bool.{false≢true}
use Rattle.std.specs.Prelude.{slice_get}
use Rattle.std.proofs.lemmas.Option.{slice_get_within}
use Rattle.twin_tables.specs.declared.ledger.Change.{Change}
use Rattle.twin_tables.specs.Differences.{both_of, others_of, own_of}
use Rattle.twin_tables.specs.Inside.Judging.{next_due}
use Rattle.twin_tables.specs.Ledger.{changes_of}
use Rattle.twin_tables.proofs.Keeping.{settled}
use Rattle.twin_tables.proofs.Written.{due_at}
use Rattle.twin_tables.proofs.differences.Differences.judge_replayed.Goals as goal

pub loop-row-init : goal.loop-row-init
loop-row-init c = record { kept = c.requires.kept; stands = record { captured_at = refl; replayed_at = refl }; covered = c.requires.covered; place = refl }

pub pass_replayed-requires-clause-next : goal.pass_replayed-requires-clause-next
pass_replayed-requires-clause-next c =
    let with = c.args.with in
    let place = c.loop-row.self.replayed_place in
    due_at with.replayed.now.list place with.replayed_at c.in-Some.row (c.in-Some.ensures ∙ ap (λ (cs : List Change). next_due with.replayed_at (slice_get cs place)) c.changes-written.ensures.changes)

pub loop-row-preserved : goal.loop-row-preserved
loop-row-preserved c =
    let one = c.in_ok-pass_replayed.ensures in
    let was = c.loop-row.invariant in
    record {
      kept = one.kept;
      stands = record { captured_at = one.stands.captured_at ∙ was.stands.captured_at; replayed_at = one.stands.replayed_at ∙ was.stands.replayed_at };
      covered = one.covered was.covered;
      place = one.captured ∙ was.place;
    }

pub loop-row-smaller : goal.loop-row-smaller
loop-row-smaller c =
    let with = c.args.with in
    let place = c.loop-row.self.replayed_place in
    let due = due_at with.replayed.now.list place with.replayed_at c.in-Some.row (c.in-Some.ensures ∙ ap (λ (cs : List Change). next_due with.replayed_at (slice_get cs place)) c.changes-written.ensures.changes) in
    let within = slice_get_within with.replayed.now.list place due.0 due.1 in
    let next = c.in_ok-pass_replayed.ensures.place c.if-not-branch.false in
    omega (arith, within, next)

pub returns-then-not-branch-clause-stands : goal.returns-then-not-branch-clause-stands
returns-then-not-branch-clause-stands c =
    let one = c.in_ok-pass_replayed.ensures.stands in
    let was = c.loop-row.invariant.stands in
    record { captured_at = one.captured_at ∙ was.captured_at; replayed_at = one.replayed_at ∙ was.replayed_at }

pub returns-then-not-branch-clause-told : goal.returns-then-not-branch-clause-told
returns-then-not-branch-clause-told c = (λ t. absurd (false≢true t), λ agree. absurd (c.in_ok-pass_replayed.ensures.apart c.if-not-branch.true agree))

pub returns-clause-told : goal.returns-clause-told
returns-clause-told c =
    let with = c.args.with in
    let both = both_of with in
    let self = c.loop-row.self in
    let was = c.loop-row.invariant in
    let none = subst (λ (n : ℕ). next_due with.captured_at (slice_get (changes_of both.captured) n) ≡ None) (sym was.place) c.requires.done in
    let gone = sym (c.in_default.ensures ∙ ap (λ (cs : List Change). next_due with.replayed_at (slice_get cs self.replayed_place)) c.changes-written.ensures.changes) in (
      λ t. settled both c.know_map.ensures with.table (own_of with) (others_of with) self c.requires.sides.twins was.kept was.covered c.know_rise.ensures c.changes-written.ensures.rise none gone,
      λ agree. refl,
    )
