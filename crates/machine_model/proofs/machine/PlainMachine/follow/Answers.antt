use Rattle.std.proofs.Common.{◌≡◌, ℕ, ◌+◌, ◌<◌, List, [], length, set, get_or, refl, sym, ap, subst, ◌∙◌, true≢false, arith}
use Rattle.std.proofs.lemmas.List.{get_or_default}
use Rattle.desk_values.specs.declared.value.Image.{Image}
use Rattle.desk_values.specs.declared.value.Value.{Value}
use Rattle.row_versions.specs.History.{History}
use Rattle.server_words.specs.declared.session.Session.{Session}
use Rattle.server_words.specs.Answer.{Answer}
use Rattle.server_words.specs.Draws.{moved}
use Rattle.server_words.specs.Machine.{Running}
use Rattle.server_words.specs.Sound.{IsSoundState}
use Rattle.server_words.specs.State.{State, disconnected, session_at}
use Rattle.server_words.specs.Step.{after, committed_in}
use Rattle.server_words.specs.View.{plain_view}
use Rattle.server_words.specs.Decision.{committed_by, done_so, session_left}
use Rattle.machine_stores.specs.Holds.{AreHeld, HoldsMove}
use Rattle.machine_stores.specs.Index.{AreIndexes}
use Rattle.machine_model.specs.Inside.Machine.{Keeps}
use Rattle.machine_stores.specs.Tables.{AreForgot, AreFrom, AreWithin, least_seen}
use Rattle.machine_stores.proofs.Held.{held_after, held_still, holder_at, set_same}
use Rattle.machine_model.proofs.Telling.{commits_to, from_mid, indexes_kept, indexes_mid, keeps_within, kept, put_to, session_to, within_mid}
use Rattle.machine_model.proofs.machine.PlainMachine.follow.Goals as goal

pub enact-requires-clause-within : goal.enact-requires-clause-within
enact-requires-clause-within c =
    let state : State = record { start = c.self.inside.start; commits = c.self.inside.stores.commits.items; next_row = c.self.inside.next_row; next_values = c.self.inside.next_values.items; sessions = c.self.inside.stores.sessions.items } in
    keeps_within (record { state = state; steps = c.self.inside.steps }) c.self.inside.stores.versions.items c.self.invariant.0

pub enact-requires-clause-holder : goal.enact-requires-clause-holder
enact-requires-clause-holder c =
    let session = c.args.session in
    let sessions = c.self.inside.stores.sessions.items in
    let within : session < length sessions = omega (arith, c.self.invariant.0.sound.count, c.requires.session) in
    let mine : c.index_mut.result.now ≡ get_or sessions session disconnected = c.index_mut.ensures.value ∙ get_or_default sessions session _ _ within in
    holder_at c.self.inside.stores.holds sessions session c.index_mut.result.now.own (ap (λ (s : Session). s.own) mine) c.self.invariant.5

-- want of memory leaves the session as it was
pub invariant_of-self : goal.invariant_of-self
invariant_of-self c =
    let session = c.args.session in
    let sessions = c.self.inside.stores.sessions.items in
    let within : session < length sessions = omega (arith, c.self.invariant.0.sound.count, c.requires.session) in
    let mine : c.index_mut.result.now ≡ get_or sessions session disconnected = c.index_mut.ensures.value ∙ get_or_default sessions session _ _ within in
    let commits : c.enact.new.commits.items ≡ c.self.inside.stores.commits.items = c.in_err-enact.ensures.err_commits in
    let left : c.enact.new.session ≡ c.index_mut.result.now = c.in_err-enact.ensures.err_session in
    let whole : set sessions session c.enact.new.session ≡ sessions = ap (set sessions session) (left ∙ mine) ∙ set_same sessions session within in
    let first : State = record { start = c.self.inside.start; commits = c.self.inside.stores.commits.items; next_row = c.self.inside.next_row; next_values = c.self.inside.next_values.items; sessions = sessions } in
    let last : State = record { start = c.self.inside.start; commits = c.enact.new.commits.items; next_row = c.self.inside.next_row; next_values = c.self.inside.next_values.items; sessions = set sessions session c.enact.new.session } in
    let same : first ≡ last = rw (commits, whole) refl in
    let tables = sym c.in_err-enact.ensures.err_tables in
    let moves = subst (λ (s : Session). HoldsMove c.self.inside.stores.holds c.enact.new.holds session c.index_mut.result.now.own s.own) left c.enact.ensures.told in (
      subst (λ (l : List History). Keeps (record { state = last; steps = c.self.inside.steps }) l) tables (subst (λ (s : State). Keeps (record { state = s; steps = c.self.inside.steps }) c.self.inside.stores.versions.items) same c.self.invariant.0),
      c.self.invariant.1,
      c.self.invariant.2,
      subst (λ (l : List History). AreIndexes c.self.inside.stores.indexes.items l (length c.enact.new.commits.items) []) tables (subst (λ (l : List (List Image)). AreIndexes c.self.inside.stores.indexes.items c.self.inside.stores.versions.items (length l) []) (sym commits) c.self.invariant.3),
      c.self.invariant.4,
      subst (AreHeld c.enact.new.holds) (sym whole) (held_still c.self.inside.stores.holds c.enact.new.holds sessions session c.index_mut.result.now.own (ap (λ (s : Session). s.own) mine) c.self.invariant.5 moves),
      λ is. absurd (true≢false (sym is)),
    )

pub note_commit-requires : goal.note_commit-requires
note_commit-requires c =
    let session = c.args.session in
    let reply = c.args.decision.reply in
    let deed = c.args.decision.deed in
    let state : State = record { start = c.self.inside.start; commits = c.self.inside.stores.commits.items; next_row = c.self.inside.next_row; next_values = c.self.inside.next_values.items; sessions = c.self.inside.stores.sessions.items } in
    let a : Answer = done_so (plain_view (session_at state session)) reply deed in
    let within : session < length state.sessions = omega (arith, c.self.invariant.0.sound.count, c.requires.session) in
    let mine : c.index_mut.result.now ≡ session_at state session = c.index_mut.ensures.value ∙ get_or_default state.sessions session _ _ within in
    let sound : IsSoundState (after state session a) = subst (λ (r : Running). IsSoundState (after r.state session (done_so (plain_view (session_at r.state session)) reply deed))) (sym c.self.view_is) c.requires.sound in
    let tells : committed_in reply.outcome ≡ committed_by (plain_view (session_at state session)) deed = subst (λ (r : Running). committed_in reply.outcome ≡ committed_by (plain_view (session_at r.state session)) deed) (sym c.self.view_is) c.requires.commits in
    let put = put_to state session reply deed c.index_mut.result.now mine tells (length state.commits + 1) c.self.inside.stores.versions.items c.enact.new.tables.items c.in_ok-enact.ensures.tables in
    let commits = commits_to state session reply deed c.index_mut.result.now mine tells c.enact.new.commits.items c.in_ok-enact.ensures.commits in
    let all = within_mid (record { state = state; steps = c.self.inside.steps }) c.self.inside.stores.versions.items c.enact.new.tables.items session a c.self.invariant.0 sound put in
    let there = subst (λ (l : List (List Image)). AreWithin (length l) c.enact.new.tables.items) commits all in
    let count : c.len.result ≡ length c.enact.new.commits.items = omega (arith, c.len.ensures) in
    subst (λ (n : ℕ). AreWithin n c.deref.result.now) (sym count) (subst (AreWithin (length c.enact.new.commits.items)) (sym c.deref.ensures.value) there)

pub forget_unread-requires : goal.forget_unread-requires
forget_unread-requires c =
    let session = c.args.session in
    let reply = c.args.decision.reply in
    let deed = c.args.decision.deed in
    let state : State = record { start = c.self.inside.start; commits = c.self.inside.stores.commits.items; next_row = c.self.inside.next_row; next_values = c.self.inside.next_values.items; sessions = c.self.inside.stores.sessions.items } in
    let a : Answer = done_so (plain_view (session_at state session)) reply deed in
    let within : session < length state.sessions = omega (arith, c.self.invariant.0.sound.count, c.requires.session) in
    let mine : c.index_mut.result.now ≡ session_at state session = c.index_mut.ensures.value ∙ get_or_default state.sessions session _ _ within in
    let sound : IsSoundState (after state session a) = subst (λ (r : Running). IsSoundState (after r.state session (done_so (plain_view (session_at r.state session)) reply deed))) (sym c.self.view_is) c.requires.sound in
    let tells : committed_in reply.outcome ≡ committed_by (plain_view (session_at state session)) deed = subst (λ (r : Running). committed_in reply.outcome ≡ committed_by (plain_view (session_at r.state session)) deed) (sym c.self.view_is) c.requires.commits in
    let put = put_to state session reply deed c.index_mut.result.now mine tells (length state.commits + 1) c.self.inside.stores.versions.items c.enact.new.tables.items c.in_ok-enact.ensures.tables in
    let commits = commits_to state session reply deed c.index_mut.result.now mine tells c.enact.new.commits.items c.in_ok-enact.ensures.commits in
    let left = session_to state session reply deed c.index_mut.result.now mine tells c.enact.new.session c.in_ok-enact.ensures.session in
    let all = from_mid (record { state = state; steps = c.self.inside.steps }) c.self.inside.stores.versions.items c.enact.new.tables.items session a c.self.invariant.0 sound put in
    let first = subst (λ (l : List (List Image)). AreFrom (least_seen (length l) (set state.sessions session (session_left (session_at state session) (length state.commits) deed))) c.enact.new.tables.items) commits all in
    let there = subst (λ (s : Session). AreFrom (least_seen (length c.enact.new.commits.items) (set state.sessions session s)) c.enact.new.tables.items) left first in
    let count : c.len-2.result ≡ length c.enact.new.commits.items = omega (arith, c.len-2.ensures) in
    subst (λ (n : ℕ). AreFrom (least_seen n c.deref-2.result.now) c.enact.new.tables.items) (sym count)
    (subst (λ (l : List Session). AreFrom (least_seen (length c.enact.new.commits.items) l) c.enact.new.tables.items) (sym c.deref-2.ensures.value) there)

pub invariant_of-self-2 : goal.invariant_of-self-2
invariant_of-self-2 c =
    let session = c.args.session in
    let reply = c.args.decision.reply in
    let deed = c.args.decision.deed in
    let state : State = record { start = c.self.inside.start; commits = c.self.inside.stores.commits.items; next_row = c.self.inside.next_row; next_values = c.self.inside.next_values.items; sessions = c.self.inside.stores.sessions.items } in
    let was : Running = record { state = state; steps = c.self.inside.steps } in
    let new : State = record { start = c.self.inside.start; commits = c.enact.new.commits.items; next_row = c.row_after-self-inside.result; next_values = c.move_all.new.next_values.items; sessions = set c.self.inside.stores.sessions.items session c.enact.new.session } in
    let mid : List History = c.enact.new.tables.items in
    let last : List History = c.forget_unread.new.tables.items in
    let a : Answer = done_so (plain_view (session_at state session)) reply deed in
    let within : session < length state.sessions = omega (arith, c.self.invariant.0.sound.count, c.requires.session) in
    let mine : c.index_mut.result.now ≡ session_at state session = c.index_mut.ensures.value ∙ get_or_default state.sessions session _ _ within in
    let sound : IsSoundState (after state session a) = subst (λ (r : Running). IsSoundState (after r.state session (done_so (plain_view (session_at r.state session)) reply deed))) (sym c.self.view_is) c.requires.sound in
    let tells : committed_in reply.outcome ≡ committed_by (plain_view (session_at state session)) deed = subst (λ (r : Running). committed_in reply.outcome ≡ committed_by (plain_view (session_at r.state session)) deed) (sym c.self.view_is) c.requires.commits in
    let few : c.self.inside.steps < 1048576 = omega (arith, ap (λ (r : Running). r.steps) c.self.view_is, c.requires.steps) in
    let put = put_to state session reply deed c.index_mut.result.now mine tells (length state.commits + 1) c.self.inside.stores.versions.items mid c.in_ok-enact.ensures.tables in
    let commits = commits_to state session reply deed c.index_mut.result.now mine tells c.enact.new.commits.items c.in_ok-enact.ensures.commits in
    let left = session_to state session reply deed c.index_mut.result.now mine tells c.enact.new.session c.in_ok-enact.ensures.session in
    let nexts : c.move_all.new.next_values.items ≡ moved reply.draws 0 state.next_values = c.move_all.ensures ∙ ap (λ (draws : List Value). moved draws 0 state.next_values) c.as_slice.ensures in
    let same : after state session a ≡ new = rw (sym commits, c.row_after-self-inside.ensures, nexts, sym left) refl in
    let next = after state session a in
    let first : c.len.result ≡ length c.enact.new.commits.items = omega (arith, c.len.ensures) in
    let second : c.len-2.result ≡ length c.enact.new.commits.items = omega (arith, c.len-2.ensures) in
    let count : c.len.result ≡ length next.commits = first ∙ ap length (sym commits) in
    let count2 : c.len-2.result ≡ length next.commits = second ∙ ap length (sym commits) in
    let sessions : c.deref-2.result.now ≡ next.sessions = c.deref-2.ensures.value ∙ ap (set state.sessions session) (sym left) in
    let forgot : AreForgot (least_seen (length next.commits) next.sessions) mid last =
    subst (λ (l : List Session). AreForgot (least_seen (length next.commits) l) mid last) sessions (subst (λ (n : ℕ). AreForgot (least_seen n c.deref-2.result.now) mid last) count2 c.forget_unread.ensures) in
    let keeps = kept was c.self.inside.stores.versions.items mid session a c.self.invariant.0 sound put last forgot few in
    let noting = indexes_mid was c.self.inside.stores.versions.items mid session a c.self.invariant.0 sound put c.self.inside.stores.indexes.items c.self.invariant.3 in
    let noted = c.note_commit.ensures (subst (λ (l : List History). AreIndexes c.self.inside.stores.indexes.items l c.len.result (committed_in reply.outcome)) (sym c.deref.ensures.value)
    (subst (λ (n : ℕ). AreIndexes c.self.inside.stores.indexes.items mid n (committed_in reply.outcome)) (sym count) noting)) in
    let stands = subst (λ (n : ℕ). AreIndexes c.note_commit.new.indexes.items mid n []) count (subst (λ (l : List History). AreIndexes c.note_commit.new.indexes.items l c.len.result []) c.deref.ensures.value noted) in
    let indexed = indexes_kept was c.self.inside.stores.versions.items mid session a c.self.invariant.0 sound put last forgot c.note_commit.new.indexes.items stands in (
      subst (λ (s : State). Keeps (record { state = s; steps = c.self.inside.steps + 1 }) last) same keeps,
      c.self.invariant.1,
      c.self.invariant.2,
      subst (λ (l : List (List Image)). AreIndexes c.note_commit.new.indexes.items last (length l) []) commits indexed,
      c.self.invariant.4,
      held_after c.self.inside.stores.holds c.enact.new.holds c.self.inside.stores.sessions.items session c.index_mut.result.now.own c.enact.new.session within (ap (λ (s : Session). s.own) mine) c.self.invariant.5 c.enact.ensures.told,
      λ is. absurd (true≢false (sym is)),
    )
