use Rattle.std.proofs.Common.{◌≡◌, ◌∙◌, ℕ, ◌+◌, refl, sym, ap, subst, arith}
use Rattle.replay_job.specs.Job.{seen}
use Rattle.replay_walk.specs.declared.server.Server.{Server}
use Rattle.replay_walk.specs.Walked.{marked_at}
use Rattle.replay_walk.specs.Inside.Serving.{GoesOn, IsTelling}
use Rattle.replay_walk.proofs.Behinds.{call_there, kept_next, past_next}
use Rattle.replay_walk.proofs.behind.Behind.pass.Goals as goal

pub note-requires : goal.note-requires
note-requires c =
    let at = call_there (seen c.args.job.now).calls c.as_slice.result.now c.args.self.now.at c.index-as_slice-self.result c.as_slice.ensures c.requires.within c.index-as_slice-self.is in
    (c.requires.replayable.legal.each c.args.self.now.at c.index-as_slice-self.result at).session

pub go_on-requires-clause-session : goal.go_on-requires-clause-session
go_on-requires-clause-session c =
    let at = call_there (seen c.args.job.now).calls c.as_slice.result.now c.args.self.now.at c.index-as_slice-self.result c.as_slice.ensures c.requires.within c.index-as_slice-self.is in
    (c.requires.replayable.legal.each c.args.self.now.at c.index-as_slice-self.result at).session

pub go_on-requires-clause-few : goal.go_on-requires-clause-few
go_on-requires-clause-few c = omega (arith, c.requires.within, c.requires.replayable.legal.count, c.in_ok-note.ensures.at)

pub go_on-requires-clause-steps : goal.go_on-requires-clause-steps
go_on-requires-clause-steps c = ap (λ (s : Server). s.engine.steps) c.in_ok-note.ensures.server ∙ c.requires.behind.steps ∙ sym c.in_ok-note.ensures.at

pub go_on-requires-clause-telling : goal.go_on-requires-clause-telling
go_on-requires-clause-telling c = subst IsTelling (sym c.in_ok-note.ensures.server) c.requires.behind.telling

pub returns-clause-behind : goal.returns-clause-behind
returns-clause-behind c =
    let job = seen c.args.job.now in
    let old = c.args.self.now in
    let call = c.index-as_slice-self.result in
    let at = call_there job.calls c.as_slice.result.now old.at call c.as_slice.ensures c.requires.within c.index-as_slice-self.is in
    let noted = c.in_ok-note.ensures in
    let on = c.in_ok-go_on.ensures in
    past_next job c.requires.replayable old c.note.new.self c.go_on.new.self c.requires.behind call at (marked_at c.args.differs.now old.at)
    noted.server noted.at noted.clean noted.others noted.none noted.here on.goes_on on.telling on.gives.0 on.gives.1 on.steps (on.at ∙ ap (λ (n : ℕ). n + 1) noted.at) on.clean on.aside

pub returns-clause-at : goal.returns-clause-at
returns-clause-at c = c.in_ok-go_on.ensures.at ∙ ap (λ (n : ℕ). n + 1) c.in_ok-note.ensures.at

pub returns-clause-goes_on : goal.returns-clause-goes_on
returns-clause-goes_on c = subst (λ (s : Server). GoesOn s c.go_on.new.self.server) c.in_ok-note.ensures.server c.in_ok-go_on.ensures.goes_on

pub returns-clause-kept : goal.returns-clause-kept
returns-clause-kept c =
    let job = seen c.args.job.now in
    let old = c.args.self.now in
    let call = c.index-as_slice-self.result in
    let at = call_there job.calls c.as_slice.result.now old.at call c.as_slice.ensures c.requires.within c.index-as_slice-self.is in
    let noted = c.in_ok-note.ensures in
    let on = c.in_ok-go_on.ensures in
    kept_next job c.requires.replayable old c.note.new.self c.go_on.new.self c.requires.behind call at (marked_at c.args.differs.now old.at)
    noted.server noted.at noted.clean noted.others noted.none noted.here on.goes_on on.telling on.gives.0 on.gives.1 on.steps (on.at ∙ ap (λ (n : ℕ). n + 1) noted.at) on.clean on.aside c.args.differs.now refl
