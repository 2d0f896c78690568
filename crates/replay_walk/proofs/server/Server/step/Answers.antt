use Rattle.std.proofs.Common.{◌≡◌, ◌∙◌, sym, ap, subst}
use Rattle.machine_stores.specs.Tables.{AreTold}
use Rattle.server_words.specs.Machine.{Running}
use Rattle.server_words.specs.Step.{Gives, committed_in}
use Rattle.replay_walk.proofs.Serving.{commits_are, goes_on, put_is, reached_sound, told_on, within_next}
use Rattle.replay_walk.proofs.server.Server.step.Goals as goal

pub note-requires : goal.note-requires
note-requires c = within_next c.args.self.now.engine.state c.step.new.self.state c.args.session c.args.call.now c.in_ok-reply.reply c.args.self.now.ledgers.items c.in_ok-reply.ensures.ok c.requires.telling

pub returns-clause-gives : goal.returns-clause-gives
returns-clause-gives c = (
  c.in_ok-reply.reply,
  subst (λ (r : Running). Gives c.args.self.now.engine.state c.args.session c.args.call.now c.in_ok-reply.reply r.state) (sym c.in_ok-note.ensures.engine) c.in_ok-reply.ensures.ok,
)

pub returns-clause-steps : goal.returns-clause-steps
returns-clause-steps c = ap (λ (r : Running). r.steps) c.in_ok-note.ensures.engine ∙ c.in_ok-reply.ensures.steps

pub returns-clause-telling : goal.returns-clause-telling
returns-clause-telling c =
    let old = c.args.self.now in
    let new = c.note.new.self in
    let sound = reached_sound old.engine.state c.know_reached.ensures in
    subst (λ (r : Running). AreTold 0 r.state.start.rows r.state.commits new.ledgers.items) (sym c.in_ok-note.ensures.engine)
    (told_on old.engine.state c.step.new.self.state c.args.session c.args.call.now c.in_ok-reply.reply sound c.in_ok-reply.ensures.ok old.ledgers.items new.ledgers.items c.in_ok-note.ensures.put c.requires.telling)

pub returns-clause-goes_on : goal.returns-clause-goes_on
returns-clause-goes_on c =
    let old = c.args.self.now in
    let new = c.note.new.self in
    let state = c.step.new.self.state in
    let reply = c.in_ok-reply.reply in
    let put = c.in_ok-note.ensures.put in
    let sound = reached_sound old.engine.state c.know_reached.ensures in
    goes_on old new (committed_in reply.outcome)
    (ap (λ (r : Running). r.state.commits) c.in_ok-note.ensures.engine ∙ commits_are old.engine.state state c.args.session c.args.call.now reply sound c.in_ok-reply.ensures.ok old.ledgers.items new.ledgers.items put)
    (put_is old.engine.state state c.args.session c.args.call.now reply sound c.in_ok-reply.ensures.ok old.ledgers.items new.ledgers.items put)
