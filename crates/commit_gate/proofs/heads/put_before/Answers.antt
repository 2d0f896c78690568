use Rattle.std.specs.Ordering.{nat_cmp}
use Rattle.std.specs.BTreeMap.{get}
use Rattle.commit_gate.proofs.Sessions.{first_put}
use Rattle.commit_gate.proofs.heads.put_before.Goals as goal

pub returns-clause-heads : goal.returns-clause-heads
returns-clause-heads c =
    let is = c.in_ok-next.ensures in
    first_put c.args.facts.now (get nat_cmp c.args.heads.now) (get nat_cmp c.insert.new.heads) c.args.k c.requires.heads c.requires.k is.here is.others
