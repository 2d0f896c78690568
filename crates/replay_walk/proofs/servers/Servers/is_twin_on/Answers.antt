use Rattle.std.proofs.Common.{ℕ, length, subst, ◌<◌}
use Rattle.std.proofs.lemmas.Bool.{both_ways, false≢true}
use Rattle.std.proofs.lemmas.Result.{IfOk-weaker, on_ok_weaker}
use Rattle.std.specs.Prelude.{◌↔◌, Bool, IsTrue}
use Rattle.twin_tables.specs.Differences.{AgreeBeside, both_of, others_of, own_of}
use Rattle.replay_walk.specs.Inside.Passing.{IsToldOn}
use Rattle.replay_walk.proofs.Asking.{held_back, kept_again, may_follow, on_told, place_within, sides_are}
use Rattle.replay_walk.proofs.servers.Servers.is_twin_on.Goals as goal

pub ledger-captured-requires : goal.ledger-captured-requires
ledger-captured-requires c = subst (λ (n : ℕ). c.args.table < n) c.requires.kept.count c.requires.table

pub ledger-replayed-requires : goal.ledger-replayed-requires
ledger-replayed-requires c = c.requires.table

pub twin_held-requires : goal.twin_held-requires
twin_held-requires c = sides_are c.args.session c.args.table c.args.met.now c.args.meets.now c.args.self.now c.requires c.ledger-captured.result.now c.ledger-replayed.result.now c.ledger-captured.ensures c.ledger-replayed.ensures c.sides_of-with.result c.sides_of-with.ensures

pub returns-then-not-branch-clause-told : goal.returns-then-not-branch-clause-told
returns-then-not-branch-clause-told c = (
  λ is. absurd (false≢true is),
  λ on. absurd (both_ways c.in_ok-twin_held.field-0 c.if-not-branch.true (c.in_ok-twin_held.ensures.1
      (held_back c.args.session c.args.table c.args.met.now c.args.meets.now c.args.self.now c.requires c.ledger-captured.result.now c.ledger-replayed.result.now c.ledger-captured.ensures c.ledger-replayed.ensures c.sides_of-with.result c.sides_of-with.ensures on))),
)

pub returns-then-not-branch-clause-kept : goal.returns-then-not-branch-clause-kept
returns-then-not-branch-clause-kept c = c.requires.kept

pub agree_at-requires-clause-place : goal.agree_at-requires-clause-place
agree_at-requires-clause-place c = place_within c.args.session c.args.table c.args.met.now c.args.meets.now c.args.self.now c.requires c.ledger-captured.result.now c.ledger-replayed.result.now c.ledger-captured.ensures c.ledger-replayed.ensures c.sides_of-with.result c.sides_of-with.ensures

pub agree_at-requires-clause-sides : goal.agree_at-requires-clause-sides
agree_at-requires-clause-sides c = sides_are c.args.session c.args.table c.args.met.now c.args.meets.now c.args.self.now c.requires c.ledger-captured.result.now c.ledger-replayed.result.now c.ledger-captured.ensures c.ledger-replayed.ensures c.sides_of-with.result c.sides_of-with.ensures

pub agree_at-requires-clause-follows : goal.agree_at-requires-clause-follows
agree_at-requires-clause-follows c = may_follow c.args.session c.args.table c.args.met.now c.args.meets.now c.args.self.now c.requires c.ledger-captured.result.now c.ledger-replayed.result.now c.ledger-captured.ensures c.ledger-replayed.ensures c.sides_of-with.result c.sides_of-with.ensures

pub returns-clause-told : goal.returns-clause-told
returns-clause-told c =
    let with = c.sides_of-with.result in
    IfOk-weaker c.agree_at.result (λ (agree : Bool). IsTrue agree ↔ AgreeBeside (both_of with) with.table (own_of with) (others_of with)) (IsToldOn c.args.table c.args.met.now c.args.meets.now c.args.self.now)
    (on_told c.args.session c.args.table c.args.met.now c.args.meets.now c.args.self.now c.requires c.ledger-captured.result.now c.ledger-replayed.result.now c.ledger-captured.ensures c.ledger-replayed.ensures with c.sides_of-with.ensures (c.in_ok-twin_held.ensures.0 c.if-not-branch.false))
    c.agree_at.ensures.told

pub returns-clause-kept : goal.returns-clause-kept
returns-clause-kept c =
    on_ok_weaker c.agree_at.result
    (kept_again c.args.session c.args.table c.args.met.now c.args.meets.now c.args.self.now c.requires c.ledger-captured.result.now c.ledger-replayed.result.now c.ledger-captured.ensures c.ledger-replayed.ensures c.sides_of-with.result c.sides_of-with.ensures c.agree_at.new.differences)
    c.agree_at.ensures.kept
