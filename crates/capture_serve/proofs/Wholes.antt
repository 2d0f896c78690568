-- Connections that are whole.
use Rattle.std.proofs.Common.{◌≡◌, ◌∙◌, inl, inr, ℕ, zero, suc, ◌-◌, ◌<◌, Bool, true, false, List, [], ◌∷◌, ◌++◌, length, Option, Some, None, IsSomeAnd, refl, sym, ap, subst, arith, append_assoc, slice_get}
use mathlib.Core.Bool.{true≢false}
use Rattle.std.specs.Prelude.{nat_lt, ◌||◌}
use Rattle.std.proofs.lemmas.Bool.{lt-ltb}
use Rattle.std.proofs.lemmas.List.{append-nil, length-append}
use Rattle.desk_values.specs.declared.call.Call.TheVariants.{Disconnect}
use Rattle.desk_files.specs.Outside.{HasRisen}
use Rattle.desk_files.specs.Hosts.{Returned, either_failed}
use Rattle.capture_recorder.specs.declared.door.Said.{Said}
use Rattle.capture_recorder.specs.declared.door.Turned.{Turned}
use Rattle.capture_recorder.specs.Doors.{IsClosing}
use Rattle.capture_recorder.specs.Gathering.{kept_in}
use Rattle.capture_recorder.specs.Recording.{Recording}
use Rattle.capture_http.specs.declared.conn_end.ConnEnd.{ConnEnd}
use Rattle.capture_http.specs.declared.conn_end.ConnEnd.TheVariants as ends
use Rattle.capture_http.specs.Conversation.{Turn, answer_text, answers, said_of}
use Rattle.capture_http.specs.Ends.{Closes, Course, Ends, Finishes, Follows, Wrote, WrotePart, ends_of, listed, turns_of}
use Rattle.capture_serve.specs.Connections.{CameToEnd, IsConnection, IsWhole, comes, is_closed}
use Rattle.capture_serve.specs.Service.{is_short}

risen : (f : ℕ) → HasRisen 0 f → 0 < f
risen zero h = h (λ e. omega (arith, e))
risen (suc f) h = omega arith

input_failed : (f g : ℕ) → HasRisen 0 f → either_failed f g ≡ true
input_failed f g h = rw (lt-ltb 0 f (risen f h)) refl

output_failed : (f g : ℕ) → HasRisen 0 g → either_failed f g ≡ true
output_failed f g h = rw (lt-ltb 0 g (risen g h)) (or (nat_lt 0 f)) where
  or : (b : Bool) → (b || true) ≡ true
  or true = refl
  or false = refl

-- ---- the end of a session

at_end : (said : List Said) (one : Said) → slice_get (said ++ one ∷ []) (length said) ≡ Some one
at_end [] one = refl
at_end (first ∷ said) one = at_end said one

last_said : (said : List Said) (one : Said) → slice_get (said ++ one ∷ []) (length (said ++ one ∷ []) - 1) ≡ Some one
last_said said one = ap (slice_get (said ++ one ∷ [])) (omega (arith, length-append said (one ∷ []))) ∙ at_end said one

-- two closings, of which the second comes behind no disconnect
both_close : (said first second : List Said) → IsClosing first → IsClosing second → (is_closed (said ++ first) ≡ true → second ≡ []) → IsClosing (first ++ second)
both_close said first second (inl none) other once = rw none other
both_close said first second (inr one) other once =
    let closed : is_closed (said ++ first) ≡ true = rw one.1 (rw (last_said said (record { call = Disconnect; reply = one.0 })) refl) in
    inr (one.0, rw (once closed) (append-nil first) ∙ one.1, one.2)

-- ---- whole

module _ (r : Recording) (session : ℕ) (sent : List ℕ) (returned : Returned) (f g : ℕ) (said0 said : List Said) (turned : List Turned) where
  abbrev pub after : List Said → Ends
  after told = ends_of (Some returned.rest) f (Some returned.output) g told turned

  whole_by : (course : Course) (first second : List Said) → CameToEnd course returned.rest → Follows course (comes sent) (after said0) → Wrote (answers session (turns_of course)) (comes sent) (after said0)
      → IsClosing first → said ≡ said0 ++ first → IsClosing second → (is_closed said ≡ true → second ≡ []) → kept_in r.calls session ≡ said ++ second → IsWhole r session sent returned
  whole_by course first second came follows wrote closing said_is other once recorded = record {
    course = course;
    more = first ++ second;
    goes_on = follows.goes_on;
    is_turn = follows.is_turn;
    came = came;
    taken = cc follows.noted.input;
    answered = cc wrote.output;
    closing = both_close said0 first second closing other (λ closed. once (ap is_closed said_is ∙ closed));
    recorded = recorded ∙ ap (λ (l : List Said). l ++ second) (said_is ∙ ap (λ (l : List Said). l ++ first) follows.noted.said) ∙ append_assoc (said_of (turns_of course)) first second;
  }

  all_turns : (course : Course) → course.last ≡ None → course.earlier ≡ turns_of course
  all_turns course no_more = sym (ap (λ (t : Option Turn). course.earlier ++ listed t) no_more ∙ append-nil course.earlier)

  pub whole : (found : ConnEnd) (first second : List Said) → is_short found ≡ false → either_failed f g ≡ false → Finishes found session (comes sent) (after said0)
      → IsClosing first → said ≡ said0 ++ first → IsClosing second → (is_closed said ≡ true → second ≡ []) → kept_in r.calls session ≡ said ++ second → IsWhole r session sent returned
  whole ends.Ended first second long good finishes closing said_is other once recorded =
      let course = finishes.course in
      elim finishes.is_end [
        | inl closed ↦ whole_by course first second (inl (closed.closes, closed.fewer)) finishes.follows closed.wrote closing said_is other once recorded
        | inr over ↦ whole_by course first second (inr (inr (over.no_more, finishes.follows.fewer, over.unfinished, cc over.none_left))) finishes.follows
            (subst (λ (ts : List Turn). Wrote (answers session ts) (comes sent) (after said0)) (all_turns course over.no_more) over.wrote) closing said_is other once recorded
      ]
  whole ends.Spent first second long good finishes closing said_is other once recorded =
      whole_by finishes.course first second (inr (inl (finishes.is_end.last, finishes.is_end.all))) finishes.follows finishes.is_end.wrote closing said_is other once recorded
  whole ends.SourceFault first second long good finishes closing said_is other once recorded = absurd (true≢false (sym (input_failed f g finishes.is_end.input.0) ∙ good))
  whole ends.SinkFault first second long good finishes closing said_is other once recorded = sunk finishes.course.last finishes.is_end.wrote where
    part : Turn → Type 0
    part t = WrotePart (answers session finishes.course.earlier) (answer_text session (length (said_of finishes.course.earlier)) t.request.decision t.answer) (comes sent) (after said0)

    sunk : (last : Option Turn) → IsSomeAnd last part → IsWhole r session sent returned
    sunk None wrote = absurd wrote
    sunk (Some t) wrote = absurd (true≢false (sym (output_failed f g wrote.failed.0) ∙ good))
  whole ends.Memory first second long good finishes closing said_is other once recorded = absurd (true≢false long)

pub are_whole : (r : Recording) (session : ℕ) (sent : List ℕ) (end : ConnEnd) (returned : Returned) → IsConnection r session sent end returned → is_short end ≡ false → returned.failed ≡ false → IsWhole r session sent returned
are_whole r session sent end returned is long good = closes is.served.conversation.closes where
  closes : Closes is.served.conversation.found end is.served.conversation.said is.served.said → IsWhole r session sent returned
  closes (inl closed) = whole r session sent returned is.served.input_faults is.served.output_faults is.served.conversation.said is.served.said is.served.turned is.served.conversation.found closed.1 is.more (rw (← closed.0) long) (sym is.served.failed ∙ good) is.served.conversation.finishes closed.2 closed.3 is.closing is.once is.recorded
  closes (inr short) = absurd (true≢false (rw short.0 at long))
