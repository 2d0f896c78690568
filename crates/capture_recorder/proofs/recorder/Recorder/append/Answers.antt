use Rattle.std.proofs.Common.{◌≡◌, ◌∙◌, ◌+◌, ◌-◌, ◌<◌, ◌≤◌, ◌∷◌, ◌++◌, ◌^◌, [], List, ℕ, cond, false, length, refl, sym, ap, subst, arith, rules}
use Rattle.std.specs.Prelude.{max}
use Rattle.std.specs.List.{AllByRecursion}
use Rattle.std.proofs.lemmas.List.Elements.{All-from_recursion}
use Rattle.desk_values.specs.declared.call.Call.{Call}
use Rattle.desk_values.specs.declared.call.Reply.{Reply}
use Rattle.desk_values.specs.declared.capture.Captured.{Captured}
use Rattle.desk_values.specs.Good.{IsGoodReply}
use Rattle.desk_schema.specs.Start.{StartView}
use Rattle.replay_history.specs.Capture.{commits, session_calls_before}
use Rattle.server_words.specs.State.{State}
use Rattle.server_words.specs.Draws.{moved}
use Rattle.server_words.specs.Step.{after_made, reply_in, step}
use Rattle.law_ids.specs.Counters.{AreAtMost}
use Rattle.capture_format.proofs.Cuts.{all_weaker}
use Rattle.capture_recorder.proofs.Bounds.{low}
use Rattle.capture_recorder.specs.declared.progress.Progress.{Progress}
use Rattle.capture_recorder.specs.Recording.{Recording, captured, connected_count, cut, is_stranger, kept_ended, recorded}
use Rattle.capture_recorder.specs.Inside.Keeping.{progress_of}
use Rattle.captured_calls.proofs.Counts.{count_within}
use Rattle.captured_calls.specs.Sessions.{is_of}
use Rattle.capture_recorder.proofs.Keeping.{captured_is, keeps_added, progress}
use Rattle.capture_recorder.proofs.recorder.Recorder.append.Goals as goal

pub overflow_add-place : goal.overflow_add-place
overflow_add-place c =
    let calls = c.self.inside.calls.items in
    let session = c.args.session in
    let place : c.index-place.result.now ≡ progress_of calls session = c.index-place.ensures ∙ c.self.invariant.progress session _ c.requires.session in
    let count = ap (λ (p : Progress). p.calls) place in
    let fits : c.index-place.result.now.calls + 1 < 2 ^ 32 = omega (arith, count_within (is_of session) calls, count, c.requires.room, ap (λ (r : Recording). length r.calls) c.self.view_is) in
    search (rules, fits)

module _ (c : goal.After-note-arg-2-1) where
  few : length c.self.inside.calls.items < 100000
  few = omega (arith, c.requires.room, ap (λ (r : Recording). length r.calls) c.self.view_is)

  most : AreAtMost (2 ^ 39 + length c.self.inside.calls.items) c.self.inside.engine.state
  most = low c.self.inside.start c.self.inside.calls.items c.self.inside.engine.state c.know_rules.ensures c.self.invariant.recording.reached

pub note-requires-clause-row : goal.note-requires-clause-row
note-requires-clause-row c = omega (arith, few c, (most c).next_row, c.self.invariant.next_row)

pub note-requires-clause-values : goal.note-requires-clause-values
note-requires-clause-values c =
    let below : ℕ → Type 0 = λ n. n < 2 ^ 64 - 1 in
    let limit = 2 ^ 39 + length c.self.inside.calls.items in
    let each = all_weaker (λ (n : ℕ). n ≤ limit) below (λ n at_most. omega (arith, few c, at_most)) c.self.inside.engine.state.next_values (most c).next_values in
    All-from_recursion below c.self.inside.counters.next_values.items (subst (AllByRecursion below) (sym c.self.invariant.next_values) each)

pub commit_number-requires : goal.commit_number-requires
commit_number-requires c = omega (arith, count_within (λ (call : Captured). commits call.reply.outcome) c.self.inside.calls.items, c.self.invariant.numbered_is, c.requires.room, ap (λ (r : Recording). length r.calls) c.self.view_is)

abbrev recording : StartView → List Captured → State → Recording
recording start calls state = record { start = start; calls = calls; state = state }

abbrev made : ℕ → ℕ → ℕ → ℕ → ℕ → ℕ → ℕ → Call → Reply → Captured
made session place stamp seen number began ended call reply = record { session = session; place = place; stamp = stamp; seen = seen; number = number; began = began; ended = ended; call = call; reply = reply }

abbrev before : goal.After-note → Recording
before c = record { start = c.self.inside.start; calls = c.self.inside.calls.items; state = c.self.inside.engine.state }

given : (c : goal.After-note) → is_stranger c.self.inside.engine.state c.args.call ≡ false
given c = subst (λ (r : Recording). is_stranger r.state c.args.call ≡ false) (sym c.self.view_is) c.requires.given

place_is : (c : goal.After-note) → c.index-place.result.now ≡ progress_of c.self.inside.calls.items c.args.session
place_is c = c.index-place.ensures ∙ c.self.invariant.progress c.args.session _ c.requires.session

first_is : (c : goal.After-note) → c.in_ok-copies.copies.first ≡ reply_in c.self.inside.engine.state c.args.session c.args.call
first_is c = c.in_ok-copies.ensures.ok.0

state_is : (c : goal.After-note) → c.step_copies.new.self.state ≡ step c.self.inside.engine.state c.args.session c.args.call
state_is c = c.in_ok-copies.ensures.ok.1

numbered_is : (c : goal.After-note) → c.commits-is_numbered.result ≡ commits (reply_in c.self.inside.engine.state c.args.session c.args.call).outcome
numbered_is c = c.commits-is_numbered.ensures ∙ ap (λ (reply : Reply). commits reply.outcome) (first_is c)

grown : (c : goal.After-note) → c.push.new.self.items ≡ c.self.inside.calls.items ++ captured (before c) c.args.session c.args.call c.args.began c.args.ended ∷ []
grown c =
    let calls = c.self.inside.calls.items in
    let number_is = c.commit_number.ensures ∙ ap (λ b. cond b (c.self.inside.numbered + 1) 0) (numbered_is c) in
    let from_is = c.cut-began.ensures ∙ ap cut (c.max.ensures ∙ ap (λ (p : Progress). max c.args.began p.ended) (place_is c)) in
    let to_is = c.cut-ended.ensures ∙ ap cut c.max-2.ensures in
    let stamp_is = c.len.ensures ∙ ap length c.in_ok-reserve.ensures.items in
    let item = captured_is (before c) c.self.inside.engine c.self.inside.numbered c.self.inside.sessions.items c.self.inside.known c.self.inside.counters c.self.invariant c.args.session c.requires.session c.args.call c.args.began c.args.ended (given c)
    (made c.args.session c.index-place.result.now.calls c.len.result c.self.inside.numbered c.commit_number.result c.cut-began.result c.cut-ended.result c.args.call c.in_ok-copies.copies.third)
    refl (ap (λ (p : Progress). p.calls) (place_is c)) stamp_is c.self.invariant.numbered_is number_is from_is to_is refl (c.in_ok-copies.ensures.third ∙ first_is c) in
    c.in_ok-push.ensures.ok ∙ ap (λ (x : Captured). c.reserve.new.self.items ++ x ∷ []) item ∙ ap (λ (xs : List Captured). xs ++ captured (before c) c.args.session c.args.call c.args.began c.args.ended ∷ []) c.in_ok-reserve.ensures.items

pub invariant_of-self-2 : goal.invariant_of-self-2
invariant_of-self-2 c =
    let r = before c in
    let session = c.args.session in
    let call = c.args.call in
    let room = subst (λ (x : Recording). length x.calls + connected_count (step x.state session call) < 100000) (sym c.self.view_is) c.requires.room in
    let good = subst IsGoodReply (first_is c) c.in_ok-copies.ensures.good in
    let count_is = c.commits_after-self-inside.ensures ∙ ap (λ b. c.self.inside.numbered + cond b 1 0) (numbered_is c) in
    let from_is : c.cut-began.result ≡ (captured r session call c.args.began c.args.ended).began = c.cut-began.ensures ∙ ap cut (c.max.ensures ∙ ap (λ (p : Progress). max c.args.began p.ended) (place_is c)) in
    let to_is = c.cut-ended.ensures ∙ ap cut c.max-2.ensures ∙ ap (λ (b : ℕ). kept_ended b c.args.ended) from_is in
    let progress_is = ap (λ (p : Progress). progress (p.calls + 1) c.cut-ended.result) (place_is c) ∙ ap (progress (session_calls_before r.calls session (length r.calls) + 1)) to_is in
    keeps_added r c.self.inside.engine c.self.inside.numbered c.self.inside.sessions.items c.self.inside.known c.self.inside.counters c.self.invariant session c.requires.session call c.args.began c.args.ended (given c)
    c.push.new.self.items c.step_copies.new.self c.commits_after-self-inside.result (progress (c.index-place.result.now.calls + 1) c.cut-ended.result) c.note.new.self room good (state_is c) c.in_ok-copies.ensures.steps (grown c) count_is progress_is (
      c.note.ensures.row ∙ ap (λ (reply : Reply). after_made reply.made c.self.inside.counters.next_row) (first_is c) ∙ ap (after_made (reply_in r.state session call).made) c.self.invariant.next_row,
      c.note.ensures.values ∙ ap (λ (reply : Reply). moved reply.draws 0 c.self.inside.counters.next_values.items) (first_is c) ∙ ap (moved (reply_in r.state session call).draws 0) c.self.invariant.next_values,
    )

pub returns-clause-ok : goal.returns-clause-ok
returns-clause-ok c =
    let r = before c in
    let session = c.args.session in
    let call = c.args.call in
    let longer = r.calls ++ captured r session call c.args.began c.args.ended ∷ [] in
    ap (λ (cs : List Captured). recording r.start cs c.step_copies.new.self.state) (grown c) ∙ ap (recording r.start longer) (state_is c) ∙ ap (λ (x : Recording). recorded x session call c.args.began c.args.ended) c.self.view_is
