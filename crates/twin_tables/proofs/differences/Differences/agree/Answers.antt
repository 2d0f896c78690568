use Rattle.std.proofs.Common.{◌≡◌, ◌∙◌, ℕ, refl, sym, subst}
use Rattle.std.proofs.lemmas.Bool.{false≢true}
use Rattle.twin_tables.specs.declared.differences.Differences.{Differences}
use Rattle.twin_tables.specs.Differences.{AreKept, Both, Follows, both_of}
use Rattle.twin_tables.specs.Inside.Judging.{StandsAs}
use Rattle.twin_tables.proofs.differences.Differences.agree.Goals as goal

-- what is right where it is asked is right where it stands, which is there
follows_there : (both : Both) (d : Differences) → d.captured_at ≡ both.captured_at → d.replayed_at ≡ both.replayed_at → AreKept both d → Follows both.pairs both.captured both.replayed d
follows_there both d one two kept =
    subst (λ (n : ℕ). AreKept (record both { captured_at = n; replayed_at = d.replayed_at }) d) (sym one)
    (subst (λ (n : ℕ). AreKept (record both { replayed_at = n }) d) (sym two) kept)

pub returns-then-not-branch-clause-told : goal.returns-then-not-branch-clause-told
returns-then-not-branch-clause-told c = (λ t. absurd (false≢true t), λ agree. absurd (c.in_ok-judge_kept.ensures.apart c.if-not-branch.true agree))

pub returns-then-not-branch-clause-follows : goal.returns-then-not-branch-clause-follows
returns-then-not-branch-clause-follows c =
    let judged = c.in_ok-judge_kept.ensures in
    follows_there (both_of c.args.with) c.judge_kept.new.self (judged.stands.captured_at ∙ c.go_to.ensures.captured_at) (judged.stands.replayed_at ∙ c.go_to.ensures.replayed_at) judged.kept

pub judge_captured-requires-clause-covered : goal.judge_captured-requires-clause-covered
judge_captured-requires-clause-covered c = c.in_ok-judge_kept.ensures.covered c.if-not-branch.false

pub returns-then-not-branch-2-clause-told : goal.returns-then-not-branch-2-clause-told
returns-then-not-branch-2-clause-told c = (λ t. absurd (false≢true t), λ agree. absurd (c.in_ok-judge_captured.ensures.apart c.if-not-branch-2.true agree))

pub returns-then-not-branch-2-clause-follows : goal.returns-then-not-branch-2-clause-follows
returns-then-not-branch-2-clause-follows c =
    let first = c.in_ok-judge_kept.ensures in
    let judged = c.in_ok-judge_captured.ensures in
    follows_there (both_of c.args.with) c.judge_captured.new.self (judged.stands.captured_at ∙ first.stands.captured_at ∙ c.go_to.ensures.captured_at) (judged.stands.replayed_at ∙ first.stands.replayed_at ∙ c.go_to.ensures.replayed_at) judged.kept

pub judge_replayed-requires-clause-done : goal.judge_replayed-requires-clause-done
judge_replayed-requires-clause-done c = c.in_ok-judge_captured.ensures.done c.if-not-branch-2.false
