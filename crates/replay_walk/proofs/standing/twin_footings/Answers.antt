use Rattle.std.proofs.Common.{Bool}
use Rattle.std.specs.Prelude.{◌↔◌, IsTrue}
use Rattle.std.proofs.lemmas.Bool.{both_ways, false≢true}
use Rattle.std.proofs.lemmas.Result.{IfOk-weaker}
use Rattle.id_pairs.specs.Renaming.{IsRenamed}
use Rattle.law_server.specs.Renaming.Twins.{AreSets}
use Rattle.replay_walk.specs.Inside.Standing.{HaveTwinFootings}
use Rattle.replay_walk.proofs.standing.twin_footings.Goals as goal

pub returns-then-not-branch : goal.returns-then-not-branch
returns-then-not-branch c = (λ is. absurd (false≢true is), λ twins. absurd (both_ways c.in_ok-twin_own.field-0 c.if-not-branch.true (c.in_ok-twin_own.ensures.1 twins.own)))

pub returns : goal.returns
returns c =
    let pairs = c.args.map.now.pairs in
    let own = c.in_ok-twin_own.ensures.0 c.if-not-branch.false in
    IfOk-weaker c.twin_values.result
    (λ (twins : Bool). IsTrue twins ↔ AreSets (IsRenamed pairs) c.args.met.now.held_keys c.args.meets.now.held_keys) (λ (twins : Bool). IsTrue twins ↔ HaveTwinFootings pairs c.args.met.now c.args.meets.now)
    (λ twins told. (λ is. record { own = own; held_keys = told.0 is }, λ have. told.1 have.held_keys)) c.twin_values.ensures
