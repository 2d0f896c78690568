-- What one turn makes of what is held.
use Rattle.std.proofs.Common.{◌≡◌, ℕ, ◌+◌, ◌≤◌, true, false, List, [], ◌++◌, length, take, drop, slice_range, Option, None, Some, IsSomeAnd, Result, Ok, Err, OnOk, is_err, if◌then◌else◌, refl, sym, ap, ◌∙◌, append_assoc, arith, inl, inr}
use mathlib.Core.Bool.{true≢false}
use Rattle.std.proofs.lemmas.List.{append-nil, length-append, take-append-drop}
use Rattle.desk_values.specs.declared.memory.Memory.{Memory}
use Rattle.desk_files.specs.Answers.{print_ending}
use Rattle.desk_files.specs.Outside.{Told as Where, Appends, AppendsPart, HasRisen, Leaves}
use Rattle.desk_files.specs.declared.fault.Failed.{Failed}
use Rattle.http_requests.specs.declared.request.Request.{Request}
use Rattle.http_requests.specs.Requests.{IsWholeAt}
use Rattle.capture_http.specs.declared.answering.Reaction.{Reaction}
use Rattle.capture_http.specs.declared.conn_end.ConnEnd.{ConnEnd}
use Rattle.capture_http.specs.declared.conn_end.ConnEnd.TheVariants as ends
use Rattle.capture_http.specs.Conversation.{Answer, said_by, turned_by}
use Rattle.capture_http.specs.Ends.{Ends, InputStands}
use Rattle.capture_http.specs.Inside.{Answers, Breaks, CameOf, Fails, LosesNothing, Moves, Reacts, ReactsBy, Silent, Stops, turn_of}

moves_none : (a b : List ℕ) (before after : Ends) → LosesNothing a before.input b after.input → length b ≤ 73728 → after.said ≡ before.said → after.turned ≡ before.turned → Moves None a b before after
moves_none a b before after loses few said turned = record {
  is_turn = tt;
  input = loses;
  few = omega (arith, few);
  said = said ∙ sym (append-nil before.said);
  turned = ([], turned ∙ sym (append-nil before.turned), refl);
}

-- no whole request was read
pub stopping : (end : ConnEnd) (session count : ℕ) (a b : List ℕ) (before after : Ends) → LosesNothing a before.input b after.input → length b ≤ 73728 → Stops end b before.input after.input before.input_faults after.input_faults → Silent before after → after.said ≡ before.said → after.turned ≡ before.turned → Fails end session count a before after
stopping end session count a b before after loses few stops silent said turned = record {
  last = None;
  rest = b;
  moves = moves_none a b before after loses few said turned;
  breaks = breaks end stops;
} where
  breaks : (end : ConnEnd) → Stops end b before.input after.input before.input_faults after.input_faults → Breaks end session count None b before after
  breaks ends.Ended stops = (refl, silent, stops)
  breaks ends.SourceFault stops = (refl, silent, stops)
  breaks ends.Memory stops = (silent, stops)
  breaks ends.Spent stops = absurd stops
  breaks ends.SinkFault stops = absurd stops

-- ---- a request that was read

-- all of it is held, and nothing else changed
pub record Came (a held : List ℕ) (r : Request) (before after : Ends) : Type 0 where
  pub loses : LosesNothing a before.input held after.input
  pub few : length held ≤ 73728
  pub whole : IsWholeAt held r
  pub input : InputStands before after

moves_one : (a held : List ℕ) (r : Request) (answer : Answer) (before after : Ends) → Came a held r before after → CameOf r.decision (slice_range held r.head (r.head + r.decision.body)) answer before.said after.said before.turned after.turned → Moves (Some (turn_of held r answer)) a (drop (r.head + r.decision.body) held) before after
moves_one a held r answer before after read came = record {
  is_turn = record { request = read.whole.is; answer = came.may };
  input = front before.input after.input read.loses;
  few = omega (arith, read.few, ap (λ (l : List ℕ). length l) (append-nil (take n held)), ap (λ (l : List ℕ). length l) (take-append-drop n held), length-append (take n held) (drop n held));
  said = came.said_is ∙ ap (λ l. before.said ++ l) (sym (append-nil (said_by answer)));
  turned = (came.turned_is.0, came.turned_is.1, came.turned_is.2 ∙ sym (append-nil (turned_by answer)));
} where
  n : ℕ
  n = r.head + r.decision.body

  front : (x y : Option (List ℕ)) → LosesNothing a x held y → Where x (λ left. IsSomeAnd y (λ left'. a ++ left ≡ (take n held ++ []) ++ (drop n held ++ left')))
  front None y loses = tt
  front (Some x) None loses = absurd loses
  front (Some x) (Some y) loses = loses ∙ rw (append-nil (take n held)) (ap (λ l. l ++ y) (sym (take-append-drop n held)) ∙ append_assoc (take n held) (drop n held) y)

pub answering : (session count count' : ℕ) (a held : List ℕ) (r : Request) (reaction : Reaction) (before after : Ends) → Came a held r before after → ReactsBy session count r.decision (slice_range held r.head (r.head + r.decision.body)) reaction before.said after.said before.turned after.turned → count' ≡ count + (if reaction.replied then 1 else 0) → Appends reaction.text before.output after.output × (after.output_faults ≡ before.output_faults) → Answers session count count' r.decision.closes a (drop (r.head + r.decision.body) held) before after
answering session count count' a held r reaction before after read reacts counted written = record {
  turn = turn_of held r reacts.answer;
  closes_is = refl;
  count = counted ∙ ap (λ n. count + n) reacts.count;
  moves = moves_one a held r reacts.answer before after read reacts.came;
  wrote = record { output = rw reacts.text at written.0; stands = written.1 };
  input = read.input;
}

pub failing : (session count : ℕ) (a held : List ℕ) (r : Request) (reaction : Reaction) (before after : Ends) → Came a held r before after → ReactsBy session count r.decision (slice_range held r.head (r.head + r.decision.body)) reaction before.said after.said before.turned after.turned → AppendsPart reaction.text before.output after.output → HasRisen before.output_faults after.output_faults × (before.output_faults ≤ after.output_faults) → Fails ends.SinkFault session count a before after
failing session count a held r reaction before after read reacts part failed = record {
  last = Some (turn_of held r reacts.answer);
  rest = drop (r.head + r.decision.body) held;
  moves = moves_one a held r reacts.answer before after read reacts.came;
  breaks = (record { output = part_of _ before.output after.output (rw reacts.text at part); failed = failed }, read.input);
} where
  part_of : (text : List ℕ) (x y : Option (List ℕ)) → AppendsPart text x y → Where x (λ old. IsSomeAnd y (λ new. (n : ℕ) × (new ≡ (old ++ []) ++ take n text)))
  part_of text None y part = tt
  part_of text (Some x) None part = absurd part
  part_of text (Some x) (Some y) part = (part.0, part.1 ∙ ap (λ l. l ++ take part.0 text) (sym (append-nil x)))

pub shortening : (session count : ℕ) (e : Memory) (a held : List ℕ) (r : Request) (before after : Ends) → Came a held r before after → Reacts session count r.decision (slice_range held r.head (r.head + r.decision.body)) (Err e) before.said after.said before.turned after.turned → Silent before after → Fails ends.Memory session count a before after
shortening session count e a held r before after read (inl quiet) silent = record {
  last = None;
  rest = held;
  moves = moves_none a held before after read.loses read.few quiet.0 quiet.1;
  breaks = (silent, read.input);
}
shortening session count e a held r before after read (inr noted) silent = record {
  last = Some (turn_of held r noted.0);
  rest = drop (r.head + r.decision.body) held;
  moves = moves_one a held r noted.0 before after read noted.1;
  breaks = (silent, read.input);
}

-- ---- whether the answer was written

pub written : (r : Result (Unit {0}) Failed) (text : List ℕ) (o o' : Option (List ℕ)) (f f' : ℕ) → is_err r ≡ false → OnOk r (Appends text o o') → Leaves (print_ending r) o o' f f' → Appends text o o' × (f' ≡ f)
written (Ok done) text o o' f f' good ok leaves = (ok, leaves.faults)
written (Err failed) text o o' f f' good ok leaves = absurd (true≢false good)

pub unwritten : (r : Result (Unit {0}) Failed) (o o' : Option (List ℕ)) (f f' : ℕ) → is_err r ≡ true → Leaves (print_ending r) o o' f f' → HasRisen f f' × (f ≤ f')
unwritten (Ok done) o o' f f' bad leaves = absurd (true≢false (sym bad))
unwritten (Err failed) o o' f f' bad leaves = leaves.faults
