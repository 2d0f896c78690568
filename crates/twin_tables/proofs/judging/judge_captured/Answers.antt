use Rattle.std.proofs.Common.{◌≡◌, ◌∙◌, sym}
use Rattle.std.proofs.lemmas.Bool.{both_ways}
use Rattle.twin_tables.specs.Differences.{both_of, others_of, own_of}
use Rattle.twin_tables.proofs.Agreeing.{captured_apart}
use Rattle.twin_tables.proofs.judging.judge_captured.Goals as goal

pub returns-then-is_changed : goal.returns-then-is_changed
returns-then-is_changed c = sym c.is_changed.ensures ∙ c.if-is_changed.true

pub returns-then-branch : goal.returns-then-branch
returns-then-branch c = c.in_ok-captured_agrees.ensures.0 c.if-branch.true

pub returns-else-branch : goal.returns-else-branch
returns-else-branch c =
    captured_apart (both_of c.args.with) c.know_map.ensures c.args.with.table (own_of c.args.with) (others_of c.args.with) c.requires.twins c.args.row (sym c.is_changed.ensures ∙ c.if-is_changed.false)
    (λ agrees. both_ways _ c.if-branch.false (c.in_ok-captured_agrees.ensures.1 agrees))
