-- A desk that agrees with its lines does so with one call more, and with its reply.
use Rattle.std.proofs.Common.{◌≡◌, ◌≢◌, ◌∙◌, ℕ, zero, suc, inl, inr, true, false, List, [], ◌∷◌, ◌++◌, get_or, length, map, set, Option, None, Some, Result, Ok, Err, OnErr, OnOk, refl, sym, ap, subst, append-nil, arith}
use Rattle.std.specs.Prelude.{IfSome, nat_eq, slice_get}
use Rattle.std.specs.List.{position}
use Rattle.std.proofs.lemmas.Bool.{cases_eq, eq-eqb, eqb-true, ne_eqb}
use Rattle.std.proofs.lemmas.List.{length-append}
use Rattle.std.proofs.lemmas.List.Quantifiers.{position-Some}
use Rattle.std.proofs.lemmas.Option.{same_Some, slice_get-get_or}
use Rattle.desk_values.specs.declared.call.Call.{Call}
use Rattle.desk_values.specs.declared.call.Reply.{Reply}
use Rattle.law_histories.proofs.Items.{last_at}
use Rattle.remote_link.specs.declared.heard.Heard.{Heard}
use Rattle.remote_link.specs.Heard.{heard}
use Rattle.remote_link.specs.declared.link_err.LinkErr.{LinkErr}
use Rattle.id_pairs.specs.Pairs.{all_new, learnt}
use Rattle.replay_lanes.specs.Sessions.{sessions}
use Rattle.desk_values.specs.declared.capture.Event.{Event}
use Rattle.desk_values.specs.declared.capture.Event.TheVariants as event
use Rattle.desk_values.specs.declared.capture.Captured.{Captured}
use Rattle.replay_history.specs.Gap.{IsCallAt}
use Rattle.remote_desk.specs.declared.event.RemoteEvent.{RemoteEvent}
use Rattle.remote_desk.specs.declared.event.RemoteEvent.TheVariants.{Sent, Answer}
use Rattle.remote_desk.specs.Desk.{IsHeard, IsKept, MayDispatch, RemoteView, with_start}
use Rattle.remote_desk.specs.History.{plain}
use Rattle.remote_desk.specs.Said.{is_of, said_in}
use Rattle.remote_desk.proofs.Answered.{said_answered, sent_answered}
use Rattle.remote_desk.proofs.Histories.{plain_more}
use Rattle.remote_desk.proofs.Saying.{answered_elsewhere, answered_here, sent_elsewhere, sent_here, start_silent}
use Rattle.remote_target.specs.declared.line.Line.{Line}
use Rattle.remote_target.specs.Agreement.{AgreesIn, OfLine, heard_on, kept_of}
use Rattle.remote_target.specs.Inside.{AreAgreed, Exchanges, HasOneEach, IsPlaceOf, session_on}
use Rattle.remote_target.proofs.Agreeing.{agreed_same, all_at}
use Rattle.remote_target.proofs.Once.{sessions_once}

-- ---- two lists with one item more

pub agrees_equal : (kept answered : List Heard) → kept ≡ answered → AgreesIn true kept answered
agrees_equal kept answered same = λ i. inl (ap (λ (l : List Heard). slice_get l i) same)

other_at : (list : List Heard) (x y : Heard) (i : ℕ) → i ≢ length list → slice_get (list ++ x ∷ []) i ≡ slice_get (list ++ y ∷ []) i
other_at [] x y zero apart = absurd (apart refl)
other_at [] x y (suc i) apart = refl
other_at (z ∷ list) x y zero apart = refl
other_at (z ∷ list) x y (suc i) apart = other_at list x y i (λ e. apart (omega (arith, e)))

pub agrees_lacking : (list : List Heard) (call : Call) (reply : Reply) → AgreesIn true (list ++ heard call None ∷ []) (list ++ heard call (Some reply) ∷ [])
agrees_lacking list call reply = λ i. elim (cases_eq i (length list)) [
  | inl last ↦ inr (
    refl,
    record {
      call = call;
      reply = reply;
      kept_is = ap (slice_get (list ++ heard call None ∷ [])) last ∙ last_at list (heard call None);
      answered_is = ap (slice_get (list ++ heard call (Some reply) ∷ [])) last ∙ last_at list (heard call (Some reply));
      last = (let long = length-append list (heard call (Some reply) ∷ []) in omega (arith, long, last));
    },
  )
  | inr apart ↦ inl (other_at list (heard call None) (heard call (Some reply)) i apart)
]

-- ---- the lines of a desk

abbrev pub session_of : OfLine → ℕ
session_of line = line.0

module _ (desk new : RemoteView) (own : ℕ) (same : (session : ℕ) → session ≢ own → kept_of new session ≡ kept_of desk session) where
  elsewhere : (lines : List OfLine) → AreAgreed desk lines → ((j : ℕ) (line : OfLine) → slice_get lines j ≡ Some line → line.0 ≢ own) → AreAgreed new lines
  elsewhere [] agreed apart = tt
  elsewhere (line ∷ lines) agreed apart =
      (subst (λ (kept : List Heard). AgreesIn true kept line.1) (sym (same line.0 (apart zero line refl))) agreed.0, elsewhere lines agreed.1 (λ j other at. apart (suc j) other at))

  -- the sessions by their places
  its_at : (lines : List OfLine) (j : ℕ) (line : OfLine) → slice_get lines j ≡ Some line → slice_get (map session_of lines) j ≡ Some line.0
  its_at [] j line at = absurd cc
  its_at (first ∷ lines) zero line at = ap (λ (l : OfLine). Some l.0) (same_Some first line at)
  its_at (first ∷ lines) (suc j) line at = its_at lines j line at

  -- the line of one session is another, and the others stay
  pub one_changes : (lines : List OfLine) (i : ℕ) (old list : List Heard) → AreAgreed desk lines → slice_get lines i ≡ Some (own, old) → HasOneEach (map session_of lines) → AgreesIn true (kept_of new own) list → AreAgreed new (set lines i (own, list))
  one_changes [] i old list agreed at once agrees = absurd cc
  one_changes (line ∷ lines) zero old list agreed at once agrees =
      let here : line ≡ (own, old) = same_Some line (own, old) at in (
        agrees,
        elsewhere lines agreed.1 (λ j other there e.
            let both : zero ≡ suc j = once zero (suc j) own (ap (λ (l : OfLine). Some l.0) here) (its_at lines j other there ∙ ap (λ (s : ℕ). Some s) e) in absurd (omega (arith, both))),
      )
  one_changes (line ∷ lines) (suc i) old list agreed at once agrees =
      let apart : line.0 ≢ own = λ e. (let both : zero ≡ suc i = once zero (suc i) own (ap (λ (s : ℕ). Some s) e) (its_at lines i (own, old) at) in absurd (omega (arith, both))) in (
        subst (λ (kept : List Heard). AgreesIn true kept line.1) (sym (same line.0 apart)) agreed.0,
        one_changes lines i old list agreed.1 at (λ a b session x y. (let two : suc a ≡ suc b = once (suc a) (suc b) session x y in omega (arith, two))) agrees,
      )

-- ---- one call is exchanged

module _ (desk : RemoteView) (lines : List OfLine) (kept : IsKept desk) (agreed : AreAgreed desk lines) (once : HasOneEach (map session_of lines)) (k : ℕ) (captured : Captured) (at : IsCallAt desk.job.calls k captured) (may : MayDispatch desk.events k) (place : ℕ) (list : List Heard) (there : slice_get lines place ≡ Some (captured.session, list)) where
  abbrev own : ℕ
  own = captured.session

  of_own : is_of own (slice_get desk.job.calls k) ≡ true
  of_own = rw at (eq-eqb own own refl)

  of_other : (session : ℕ) → session ≢ own → is_of session (slice_get desk.job.calls k) ≡ false
  of_other session apart = rw at (ne_eqb own session (λ same. apart (sym same)))

  -- the line heard just what the desk keeps, since each call of the session for which something was sent is answered
  just : list ≡ kept_of desk own
  just =
      let each = sent_answered desk.job desk.events kept.replayable kept.remote k captured at may.0 may.1 in
      agreed_same (kept_of desk own) list (said_answered desk.job.calls desk.events own (λ j one sent jt same. each j one sent jt same)) (all_at (λ (line : OfLine). AgreesIn true (kept_of desk line.0) line.1) lines place (own, list) agreed there)

  module _ (call : Call) where
    abbrev sent_on : List RemoteEvent
    sent_on = desk.events ++ Sent k call ∷ []

    elsewhere_sent : (session : ℕ) → session ≢ own → said_in desk.job.calls sent_on session ≡ said_in desk.job.calls desk.events session
    elsewhere_sent session apart = sent_elsewhere desk.job desk.events kept.remote k call may.1 session (of_other session apart)

    here_sent : said_in desk.job.calls sent_on own ≡ list ++ heard call None ∷ []
    here_sent = sent_here desk.job desk.events kept.remote k call may.1 own of_own ∙ ap (λ (l : List Heard). l ++ heard call None ∷ []) (sym just)

    agrees_found : (found : Option Reply) → AgreesIn true (said_in desk.job.calls sent_on own) (list ++ heard call found ∷ [])
    agrees_found None = agrees_equal (said_in desk.job.calls sent_on own) (list ++ heard call None ∷ []) here_sent
    agrees_found (Some reply) = subst (λ (l : List Heard). AgreesIn true l (list ++ heard call (Some reply) ∷ [])) (sym here_sent) (agrees_lacking list call reply)

    -- the call was sent, and no reply was noted
    pub sent_agreed : (new : RemoteView) (found : Option Reply) → new ≡ record desk { events = sent_on } → AreAgreed new (set lines place (own, list ++ heard call found ∷ []))
    sent_agreed new found is = subst (λ (d : RemoteView). AreAgreed d (set lines place (own, list ++ heard call found ∷ []))) (sym is)
        (one_changes desk (record desk { events = sent_on }) own elsewhere_sent lines place list (list ++ heard call found ∷ []) agreed there once (agrees_found found))

    module _ (reply : Reply) where
      abbrev answered_on : List RemoteEvent
      answered_on = sent_on ++ Answer k reply ∷ []

      elsewhere_answered : (session : ℕ) → session ≢ own → said_in desk.job.calls answered_on session ≡ said_in desk.job.calls desk.events session
      elsewhere_answered session apart = answered_elsewhere desk.job desk.events kept.remote k call may.1 session reply (of_other session apart)

      here_answered : said_in desk.job.calls answered_on own ≡ list ++ heard call (Some reply) ∷ []
      here_answered = answered_here desk.job desk.events kept.remote k call may.1 own reply of_own ∙ ap (λ (l : List Heard). l ++ heard call (Some reply) ∷ []) (sym just)

      -- and its reply was noted
      pub answered_agreed : (middle new : RemoteView) → middle ≡ record desk { events = sent_on } → IsHeard middle k reply new → AreAgreed new (set lines place (own, list ++ heard call (Some reply) ∷ []))
      answered_agreed middle new is by =
          let after = record desk { events = answered_on; pairs = all_new desk.pairs (learnt by.0.reply reply) } in
          let same : new ≡ after = by.2 ∙ ap (λ (d : RemoteView). record d { events = d.events ++ Answer k reply ∷ []; pairs = all_new d.pairs (learnt by.0.reply reply) }) is in
          subst (λ (d : RemoteView). AreAgreed d (set lines place (own, list ++ heard call (Some reply) ∷ []))) (sym same)
          (one_changes desk after own elsewhere_answered lines place list (list ++ heard call (Some reply) ∷ []) agreed there once (agrees_equal (said_in desk.job.calls answered_on own) (list ++ heard call (Some reply) ∷ []) here_answered))

-- ---- a desk whose kept calls are the same

pub same_kept : (desk new : RemoteView) (lines : List OfLine) → ((session : ℕ) → kept_of new session ≡ kept_of desk session) → AreAgreed desk lines → AreAgreed new lines
same_kept desk new [] same agreed = tt
same_kept desk new (line ∷ lines) same agreed = (subst (λ (kept : List Heard). AgreesIn true kept line.1) (sym (same line.0)) agreed.0, same_kept desk new lines same agreed.1)

-- a start changes none
pub started_agreed : (desk new : RemoteView) (k pause : ℕ) (lines : List OfLine) → new ≡ with_start desk k pause → AreAgreed desk lines → AreAgreed new lines
started_agreed desk new k pause lines is agreed =
    subst (λ (d : RemoteView). AreAgreed d lines) (sym is) (same_kept desk (with_start desk k pause) lines (λ session. start_silent desk.job.calls desk.events k pause session) agreed)

-- ---- one of the lines in the place of another

module _ {L : Type 0} where
  set_heard : (lines : List (Line L)) (place : ℕ) (line : Line L) → map heard_on (set lines place line) ≡ set (map heard_on lines) place (heard_on line)
  set_heard [] place line = refl
  set_heard (first ∷ lines) zero line = refl
  set_heard (first ∷ lines) (suc place) line = ap (λ (l : List OfLine). heard_on first ∷ l) (set_heard lines place line)

  pub set_session : (lines : List (Line L)) (place : ℕ) (old line : Line L) → slice_get lines place ≡ Some old → line.session ≡ old.session → map session_on (set lines place line) ≡ map session_on lines
  set_session [] place old line at same = refl
  set_session (first ∷ lines) zero old line at same =
      let one : first ≡ old = same_Some first old at in
      ap (λ (s : ℕ). s ∷ map session_on lines) (same ∙ sym (ap (λ (l : Line L). l.session) one))
  set_session (first ∷ lines) (suc place) old line at same = ap (λ (l : List ℕ). first.session ∷ l) (set_session lines place old line at same)

  sessions_of_lines : (lines : List (Line L)) → map session_of (map heard_on lines) ≡ map session_on lines
  sessions_of_lines [] = refl
  sessions_of_lines (first ∷ lines) = ap (λ (l : List ℕ). first.session ∷ l) (sessions_of_lines lines)

  heard_at : (lines : List (Line L)) (place : ℕ) (line : Line L) → slice_get lines place ≡ Some line → slice_get (map heard_on lines) place ≡ Some (heard_on line)
  heard_at [] place line at = absurd cc
  heard_at (first ∷ lines) zero line at = ap (λ (l : Line L). Some (heard_on l)) (same_Some first line at)
  heard_at (first ∷ lines) (suc place) line at = heard_at lines place line at

  session_at : (lines : List (Line L)) (place : ℕ) (line : Line L) → slice_get lines place ≡ Some line → slice_get (map session_on lines) place ≡ Some line.session
  session_at [] place line at = absurd cc
  session_at (first ∷ lines) zero line at = ap (λ (l : Line L). Some l.session) (same_Some first line at)
  session_at (first ∷ lines) (suc place) line at = session_at lines place line at

abbrev of_line : ℕ → List Heard → OfLine
of_line session list = (session, list)

same_line : (a b : ℕ) (xs ys : List Heard) → a ≡ b → xs ≡ ys → of_line a xs ≡ of_line b ys
same_line a b xs ys first second = ap (λ (n : ℕ). of_line n xs) first ∙ ap (of_line b) second

-- ---- behind an exchange

module _ {L : Type 0} (desk new : RemoteView) (lines : List (Line L)) (kept : IsKept desk) (agreed : AreAgreed desk (map heard_on lines)) (its : map session_on lines ≡ sessions desk.job.calls) (k place : ℕ) (of : IsPlaceOf desk.job.calls (map session_on lines) k place)
    (line line' : Line L) (there : slice_get lines place ≡ Some line) (same : line'.session ≡ line.session) where
  once : HasOneEach (map session_of (map heard_on lines))
  once = subst HasOneEach (sym (sessions_of_lines lines ∙ its)) (sessions_once desk.job.calls)

  its_own : line.session ≡ of.call.session
  its_own = same_Some line.session of.call.session (sym (session_at lines place line there) ∙ of.there)

  its_place : slice_get (map heard_on lines) place ≡ Some (of_line of.call.session line.spoken.heard)
  its_place = heard_at lines place line there ∙ ap (λ (s : ℕ). Some (of_line s line.spoken.heard)) its_own

  becomes : (list : List Heard) → line'.spoken.heard ≡ list → set (map heard_on lines) place (of_line of.call.session list) ≡ map heard_on (set lines place line')
  becomes list is = sym (set_heard lines place line' ∙ ap (set (map heard_on lines) place) (same_line line'.session of.call.session line'.spoken.heard list (same ∙ its_own) is))

  -- nothing was done
  unchanged : new ≡ desk → line'.spoken.heard ≡ line.spoken.heard → AreAgreed new (map heard_on (set lines place line'))
  unchanged none silent =
      let stays : set (map heard_on lines) place (of_line of.call.session line.spoken.heard) ≡ map heard_on lines = set_same (map heard_on lines) place (of_line of.call.session line.spoken.heard) its_place in
      subst (AreAgreed new) (becomes line.spoken.heard silent) (subst (λ (d : RemoteView). AreAgreed d (set (map heard_on lines) place (of_line of.call.session line.spoken.heard))) (sym none) (subst (AreAgreed desk) (sym stays) agreed))
    where
      set_same : (list : List OfLine) (i : ℕ) (x : OfLine) → slice_get list i ≡ Some x → set list i x ≡ list
      set_same [] i x at = refl
      set_same (y ∷ list) zero x at = ap (λ (z : OfLine). z ∷ list) (sym (same_Some y x at))
      set_same (y ∷ list) (suc i) x at = ap (λ (l : List OfLine). y ∷ l) (set_same list i x at)

  pub exchanged_agreed : (result : Result (Unit {0}) LinkErr) → Exchanges k desk line.spoken.heard result new line'.spoken.heard → AreAgreed new (map heard_on (set lines place line'))
  exchanged_agreed (Ok done) by =
      subst (AreAgreed new) (becomes (line.spoken.heard ++ heard by.0 (Some by.1) ∷ []) by.5)
      (answered_agreed desk (map heard_on lines) kept agreed once k of.call of.at by.6 place line.spoken.heard its_place by.0 by.1 by.2 new by.3.3 by.4)
  exchanged_agreed (Err refused) (inl none) = unchanged none.0 none.1
  exchanged_agreed (Err refused) (inr by) =
      subst (AreAgreed new) (becomes (line.spoken.heard ++ heard by.0 by.1 ∷ []) by.3)
      (sent_agreed desk (map heard_on lines) kept agreed once k of.call of.at by.4 place line.spoken.heard its_place by.0 new by.1 by.2.3)

module _ (k : ℕ) (desk new : RemoteView) (list list' : List Heard) where
  sent_plain : (call : Call) → plain (desk.events ++ Sent k call ∷ []) ≡ plain desk.events
  sent_plain call = plain_more desk.events (Sent k call) ∙ append-nil (plain desk.events)

  pub exchanged_job : (result : Result (Unit {0}) LinkErr) → Exchanges k desk list result new list' → new.job ≡ desk.job
  exchanged_job (Ok done) by = ap (λ (d : RemoteView). d.job) by.4.2 ∙ ap (λ (d : RemoteView). d.job) by.3.3
  exchanged_job (Err refused) (inl none) = ap (λ (d : RemoteView). d.job) none.0
  exchanged_job (Err refused) (inr by) = ap (λ (d : RemoteView). d.job) by.2.3

  pub exchanged_stopped : (result : Result (Unit {0}) LinkErr) → Exchanges k desk list result new list' → new.stopped ≡ desk.stopped
  exchanged_stopped (Ok done) by = ap (λ (d : RemoteView). d.stopped) by.4.2 ∙ ap (λ (d : RemoteView). d.stopped) by.3.3
  exchanged_stopped (Err refused) (inl none) = ap (λ (d : RemoteView). d.stopped) none.0
  exchanged_stopped (Err refused) (inr by) = ap (λ (d : RemoteView). d.stopped) by.2.3

  pub exchanged_ok : (result : Result (Unit {0}) LinkErr) → Exchanges k desk list result new list' → OnOk result ((reply : Reply) × (plain new.events ≡ plain desk.events ++ event.Answer k reply ∷ []))
  exchanged_ok (Ok done) by =
      let middle : RemoteView = by.2 in (
        by.1,
        ap (λ (d : RemoteView). plain d.events) by.4.2 ∙ plain_more middle.events (Answer k by.1) ∙ ap (λ (l : List Event). l ++ event.Answer k by.1 ∷ []) (ap (λ (d : RemoteView). plain d.events) by.3.3 ∙ sent_plain by.0),
      )
  exchanged_ok (Err refused) by = tt

  pub exchanged_err : (result : Result (Unit {0}) LinkErr) → Exchanges k desk list result new list' → OnErr result (plain new.events ≡ plain desk.events)
  exchanged_err (Ok done) by = tt
  exchanged_err (Err refused) (inl none) = ap (λ (d : RemoteView). plain d.events) none.0
  exchanged_err (Err refused) (inr by) = ap (λ (d : RemoteView). plain d.events) by.2.3 ∙ sent_plain by.0

-- ---- where the line of a call's session stands

pub placed : {L : Type 0} (calls : List Captured) (lines : List (Line L)) (k : ℕ) (call : Captured) → IsCallAt calls k call → (found : Option ℕ) → found ≡ position (λ line. nat_eq line.session call.session) lines → IfSome found (IsPlaceOf calls (map session_on lines) k)
placed calls lines k call at None is = tt
placed calls [] k call at (Some place) is = absurd cc
placed {L = L} calls (first ∷ rest) k call at (Some place) is =
    let lines = first ∷ rest in
    let there = position-Some (λ (line : Line L). nat_eq line.session call.session) lines place first (sym is) in
    let line = get_or lines place first in
    let own : line.session ≡ call.session = eqb-true line.session call.session there.1 in
    record { call = call; at = at; there = session_at lines place line (slice_get-get_or lines place first there.0) ∙ ap (λ (s : ℕ). Some s) own }
