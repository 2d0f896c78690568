use Rattle.std.proofs.Common.{◌≡◌, ◌∙◌, ◌≢◌, ℕ, None, Some, refl, sym, ap, subst}
use Rattle.std.specs.Prelude.{IsSome}
use Rattle.std.specs.BTreeMap.{get}
use Rattle.std.specs.Ordering.{nat_cmp}
use Rattle.std.proofs.lemmas.Result.{IfOk-weaker}
use Rattle.replay_job.specs.Job.{seen}
use Rattle.replay_walk.specs.declared.behind.Behind.{Behind}
use Rattle.replay_walk.specs.declared.behind.Met.{Met}
use Rattle.replay_walk.specs.declared.server.Server.{Server}
use Rattle.replay_walk.specs.declared.servers.Servers.{Servers}
use Rattle.replay_walk.specs.Inside.Passing.{HasAside, HaveTold, IsMetBy}
use Rattle.replay_walk.proofs.Behinds.{none_there}
use Rattle.replay_walk.proofs.Both.{taken_both, told_after_taken}
use Rattle.replay_walk.proofs.servers.Servers.is_twin.Goals as goal

pub is_twin_of-requires-clause-may : goal.is_twin_of-requires-clause-may
is_twin_of-requires-clause-may c =
    let may = c.requires.may in
    let job = seen c.args.job.now in
    let old = c.args.self.now in
    let behind = c.take_met.new.self in
    let met = c.in-Some.met in
    record {
      sound = may.sound;
      at = may.at;
      both = taken_both job c.args.call.now.stamp old behind c.take_met.ensures.rest may.both;
      tables = may.tables;
      met = subst (λ (s : Server). IsMetBy job s.engine.state c.args.call.now.stamp met) (sym c.take_met.ensures.rest.server) (may.both.behind.aside c.args.call.now.stamp met (sym c.take_met.ensures.taken ∙ c.in-Some.is));
    }

pub returns-in-Some-clause-told : goal.returns-in-Some-clause-told
returns-in-Some-clause-told c = c.is_twin_of.ensures.told

pub returns-in-Some-clause-rest : goal.returns-in-Some-clause-rest
returns-in-Some-clause-rest c =
    let old = c.args.self.now in
    let behind = c.take_met.new.self in
    let mid : Servers = record old { behind = behind } in
    IfOk-weaker c.is_twin_of.result (λ _. HaveTold (seen c.args.job.now) c.args.call.now.stamp mid c.is_twin_of.new.self) (λ _. HaveTold (seen c.args.job.now) c.args.call.now.stamp old c.is_twin_of.new.self)
    (λ twin rest. told_after_taken (seen c.args.job.now) c.args.call.now.stamp old behind c.take_met.ensures.rest c.is_twin_of.new.self rest) c.is_twin_of.ensures.rest

pub returns-in-None-clause-told : goal.returns-in-None-clause-told
returns-in-None-clause-told c = absurd (none_there _ (sym c.in-None.is ∙ c.take_met.ensures.taken) c.requires.may.aside)

pub returns-in-None-clause-rest : goal.returns-in-None-clause-rest
returns-in-None-clause-rest c = absurd (none_there _ (sym c.in-None.is ∙ c.take_met.ensures.taken) c.requires.may.aside)
