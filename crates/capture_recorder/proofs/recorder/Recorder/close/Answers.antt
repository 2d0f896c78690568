use Rattle.std.proofs.Common.{◌≡◌, ◌∙◌, ◌<◌, true, length, sym, ap, subst, arith}
use Rattle.server_words.specs.State.{is_connected, session_at}
use Rattle.desk_values.specs.declared.call.Call.TheVariants.{Disconnect}
use Rattle.captured_calls.specs.Sessions.{calls_of}
use Rattle.capture_recorder.specs.Recording.{Recording, captured}
use Rattle.capture_recorder.proofs.Connected.{calls_after, commits_after, disconnected_after, off_after, others_after, sessions_count}
use Rattle.capture_recorder.proofs.recorder.Recorder.close.Goals as goal

pub append-requires-clause-room : goal.append-requires-clause-room
append-requires-clause-room c =
    let r = c.args.self.now in
    let is = subst (λ (x : Recording). is_connected x.state c.args.session ≡ true) c.self.view_is (sym c.connected.ensures ∙ c.if-not-connected.false) in
    let within : c.args.session < length r.state.sessions = omega (arith, c.requires, sessions_count r.start r.calls r.state c.know_recording.ensures.reached) in
    omega (arith, disconnected_after r.state c.args.session within is, c.know_recording.ensures.room)

pub returns-clause-off : goal.returns-clause-off
returns-clause-off c =
    let r = c.args.self.now in
    let is = subst (λ (x : Recording). is_connected x.state c.args.session ≡ true) c.self.view_is (sym c.connected.ensures ∙ c.if-not-connected.false) in
    let within : c.args.session < length r.state.sessions = omega (arith, c.requires, sessions_count r.start r.calls r.state c.know_recording.ensures.reached) in
    ap (λ (x : Recording). is_connected x.state c.args.session) c.in_ok-twice.ensures.ok ∙ off_after r.state c.args.session within is

pub returns-clause-others : goal.returns-clause-others
returns-clause-others c = λ other apart. ap (λ (x : Recording). session_at x.state other) c.in_ok-twice.ensures.ok ∙ others_after c.args.self.now.state c.args.session Disconnect other apart

pub returns-clause-their_calls : goal.returns-clause-their_calls
returns-clause-their_calls c = λ other apart. ap (λ (x : Recording). calls_of other x.calls) c.in_ok-twice.ensures.ok ∙ calls_after c.args.self.now.calls (captured c.args.self.now c.args.session Disconnect c.args.at c.args.at) other apart

pub returns-clause-commits : goal.returns-clause-commits
returns-clause-commits c =
    let r = c.args.self.now in
    let is = subst (λ (x : Recording). is_connected x.state c.args.session ≡ true) c.self.view_is (sym c.connected.ensures ∙ c.if-not-connected.false) in
    ap (λ (x : Recording). x.state.commits) c.in_ok-twice.ensures.ok ∙ commits_after r.state c.args.session is
