-- How a conversation ends.
use Rattle.std.proofs.Common.{◌≡◌, ℕ, ◌+◌, ◌<◌, Bool, true, ◌⊎◌, List, [], ◌++◌, length, take, Option, None, Some, IsSomeAnd, Result, Ok, Err, OnOk, refl, subst, ◌∙◌, arith, inl, inr}
use Rattle.desk_files.specs.Answers.{print_ending}
use Rattle.desk_files.specs.Outside.{Told as Where, Appends, AppendsPart, Leaves}
use Rattle.desk_files.specs.declared.fault.Failed.{Failed}
use Rattle.capture_recorder.specs.declared.door.Said.{Said}
use Rattle.capture_recorder.specs.declared.door.Turned.{Turned}
use Rattle.capture_http.specs.declared.conn_end.ConnEnd.{ConnEnd}
use Rattle.capture_http.specs.declared.conn_end.ConnEnd.TheVariants as ends
use Rattle.capture_http.specs.Answers.{shortage}
use Rattle.capture_http.specs.Conversation.{Turn, answers, answer_text, own_of, said_of}
use Rattle.capture_http.specs.Ends.{Ends, Finishes, Wrote, WrotePart, ends_of}
use Rattle.capture_http.specs.Inside.{Answers, Breaks, Fails, GoesOn, Halted, Halts, Refuses}
use Rattle.capture_http.proofs.Keeping.{loses_refl}
use Rattle.capture_http.proofs.Taking.{stopping}
use Rattle.capture_http.proofs.Turns.{begun, follows-after, part-append, wrote-after, wrote-append, wrote-silent}

pub closed_by : (session n count count' : ℕ) (a b : List ℕ) (before now after : Ends) → GoesOn session n count a before now → Answers session count count' true a b now after → n + 1 < 1000000 → Halts ends.Ended session before after
closed_by session n count count' a b before now after goes next low = record {
  course = record { earlier = goes.turns; last = Some next.turn; rest = b };
  follows = follows-after session n count (Some next.turn) a b before now after goes next.moves (omega (arith, low));
  is_end = inl (record {
    closes = next.closes_is;
    fewer = omega (arith, goes.many, low);
    wrote = wrote-after session n count count' true a b before now after goes next;
    input = next.input ∙ goes.input;
  });
}

pub spent_by : (session count count' : ℕ) (closes : Bool) (a b : List ℕ) (before now after : Ends) → GoesOn session 999999 count a before now → Answers session count count' closes a b now after → Halts ends.Spent session before after
spent_by session count count' closes a b before now after goes next = record {
  course = record { earlier = goes.turns; last = Some next.turn; rest = b };
  follows = follows-after session 999999 count (Some next.turn) a b before now after goes next.moves (omega arith);
  is_end = record {
    last = next.moves.is_turn;
    all = omega (arith, goes.many);
    wrote = wrote-after session 999999 count count' closes a b before now after goes next;
    input = next.input ∙ goes.input;
  };
}

-- where the input is at its end
none_before : (own a : List ℕ) (x y z : Option (List ℕ)) → Where x (λ all. IsSomeAnd y (λ left. all ≡ own ++ (a ++ left))) → Where y (λ all. z ≡ Some []) → Where x (λ all. z ≡ Some [])
none_before own a None y z first next = tt
none_before own a (Some x) None z first next = absurd first
none_before own a (Some x) (Some y) z first next = next

part_by : (session n count : ℕ) (a : List ℕ) (last : Option Turn) (before now after : Ends) (goes : GoesOn session n count a before now) → IsSomeAnd last (λ t. WrotePart [] (answer_text session count t.request.decision t.answer) now after) → IsSomeAnd last (λ t. WrotePart (answers session goes.turns) (answer_text session (length (said_of goes.turns)) t.request.decision t.answer) before after)
part_by session n count a None before now after goes part = absurd part
part_by session n count a (Some t) before now after goes part = subst (λ k. WrotePart (answers session goes.turns) (answer_text session k t.request.decision t.answer) before after) goes.count_is (part-append (answers session goes.turns) (answer_text session count t.request.decision t.answer) before now after goes.wrote part)

halted_by : (end : ConnEnd) (session n count : ℕ) (a : List ℕ) (last : Option Turn) (rest : List ℕ) (before now after : Ends) (goes : GoesOn session n count a before now) → Breaks end session count last rest now after → Halted end session (record { earlier = goes.turns; last = last; rest = rest }) before after
halted_by ends.Ended session n count a last rest before now after goes breaks = inr (record {
  no_more = breaks.0;
  unfinished = breaks.2.0;
  none_left = none_before (own_of goes.turns) a before.input now.input after.input goes.noted.input breaks.2.1;
  wrote = wrote-silent (answers session goes.turns) before now after goes.wrote breaks.1;
  input = breaks.2.2 ∙ goes.input;
})
halted_by ends.SourceFault session n count a last rest before now after goes breaks = record {
  no_more = breaks.0;
  unfinished = breaks.2.0;
  wrote = wrote-silent (answers session goes.turns) before now after goes.wrote breaks.1;
  input = (rw goes.input at breaks.2.1, rw goes.input at breaks.2.2);
}
halted_by ends.SinkFault session n count a last rest before now after goes breaks = record {
  wrote = part_by session n count a last before now after goes breaks.0;
  input = breaks.1 ∙ goes.input;
}
halted_by ends.Memory session n count a last rest before now after goes breaks = (wrote-silent (answers session goes.turns) before now after goes.wrote breaks.0, breaks.1 ∙ goes.input)
halted_by ends.Spent session n count a last rest before now after goes breaks = absurd breaks.2

pub ends_by : (end : ConnEnd) (session n count : ℕ) (a : List ℕ) (before now after : Ends) → GoesOn session n count a before now → Fails end session count a now after → n < 1000000 → Halts end session before after
ends_by end session n count a before now after goes fails low = record {
  course = record { earlier = goes.turns; last = fails.last; rest = fails.rest };
  follows = follows-after session n count fails.last a fails.rest before now after goes fails.moves low;
  is_end = halted_by end session n count a fails.last fails.rest before now after goes fails.breaks;
}

-- ---- the answer where memory is short

-- nothing was read, and memory was short
pub stuck_first : (session : ℕ) (e : Ends) → Halts ends.Memory session e e
stuck_first session e = ends_by ends.Memory session 0 0 [] e e e (begun session e) (stopping ends.Memory session 0 [] [] e e (loses_refl [] e.input) (omega arith) refl (record { output = refl; stands = refl }) refl refl) (omega arith)

pub refuses : (r : Result (Unit {0}) Failed) (o o' : Option (List ℕ)) (f f' : ℕ) → OnOk r (Appends shortage o o') → AppendsPart shortage o o' → Leaves (print_ending r) o o' f f' → Refuses o o' f f'
refuses (Ok done) o o' f f' ok part leaves = inl (ok, leaves.faults)
refuses (Err failed) o o' f f' ok part leaves = inr (part, leaves.faults.0, leaves.faults.1)

-- where nothing of it was written yet
part_first : (p q : List ℕ) (x y z : Option (List ℕ)) → Appends p x y → AppendsPart q y z → Where x (λ old. IsSomeAnd z (λ new. (n : ℕ) × (new ≡ (old ++ p) ++ take n q)))
part_first p q None y z first next = tt
part_first p q (Some x) y z first next = rw first at next

pub short_by : (session : ℕ) (before : Ends) (input : Option (List ℕ)) (faults : ℕ) (o o' : Option (List ℕ)) (f f' : ℕ) (said : List Said) (turned : List Turned) → Halts ends.Memory session before (ends_of input faults o f said turned) → Refuses o o' f f' → Finishes ends.Memory session before (ends_of input faults o' f' said turned)
short_by session before input faults o o' f f' said turned halts refused =
    let noted = halts.follows.noted in
    record {
      course = halts.course;
      follows = record {
        goes_on = halts.follows.goes_on;
        fewer = halts.follows.fewer;
        is_turn = halts.follows.is_turn;
        noted = record { input = noted.input; few = noted.few; said = noted.said; turned = noted.turned };
      };
      is_end = record { wrote = wrote refused; input = halts.is_end.1 };
    } where
      past : List ℕ
      past = answers session halts.course.earlier

      wrote : Refuses o o' f f' → Wrote (past ++ shortage) before (ends_of input faults o' f' said turned) ⊎ WrotePart past shortage before (ends_of input faults o' f' said turned)
      wrote (inl whole) = inl (wrote-append past shortage before (ends_of input faults o f said turned) (ends_of input faults o' f' said turned) halts.is_end.0 (record { output = whole.0; stands = whole.1 }))
      wrote (inr part) = inr (record {
        output = part_first past shortage before.output o o' halts.is_end.0.output part.0;
        failed = (rw halts.is_end.0.stands at part.1, rw halts.is_end.0.stands at part.2);
      })
