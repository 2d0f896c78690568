use Rattle.std.proofs.Common.{refl, subst, sym}
use Rattle.twin_tables.specs.Differences.{Follows}
use Rattle.twin_tables.specs.declared.differences.Differences.{Differences}
use Rattle.replay_walk.proofs.Asking.{three_so}
use Rattle.replay_walk.proofs.servers.agree_at.Goals as goal

pub agree-requires-clause-follows : goal.agree-requires-clause-follows
agree-requires-clause-follows c =
    let with = c.args.with in
    subst (λ (d : Differences). Follows with.map.now.pairs with.captured.now.list with.replayed.now.list d) (sym c.index_mut.ensures.value) (c.requires.follows c.index_mut.result.now)

pub returns-clause-told : goal.returns-clause-told
returns-clause-told c = c.agree.ensures.told

pub returns-clause-kept : goal.returns-clause-kept
returns-clause-kept c = three_so c.agree.result c.agree.ensures.follows c.agree.ensures.captured_at c.agree.ensures.replayed_at
    (λ follows captured replayed. record { kept = c.agree.new.self; set = refl; follows = follows; captured_at = captured; replayed_at = replayed })
