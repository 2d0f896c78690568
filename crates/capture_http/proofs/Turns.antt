-- One turn after others.
use Rattle.std.proofs.Common.{◌≡◌, ℕ, ◌+◌, ◌<◌, ◌≤◌, Bool, false, List, [], ◌∷◌, ◌++◌, length, take, Option, None, Some, IsSomeAnd, refl, sym, ap, ◌∙◌, append_assoc, arith}
use Rattle.std.proofs.lemmas.List.{append-nil, map-append, length-append}
use Rattle.std.proofs.lemmas.Grind.{flat_map-append}
use Rattle.desk_files.specs.Outside.{Told as Where, Appends}
use Rattle.capture_http.specs.Conversation.{Answer, Decided, NoCall, Replied, Strange, Full, Turn, IsOpen, AreOpen, answer_text, answers, answers_from, own_of, said_by, said_of, turned_by, turned_of, entry_of}
use Rattle.capture_http.specs.Ends.{Ends, Follows, Noted, Wrote, WrotePart, listed}
use Rattle.capture_http.specs.Inside.{Answers, GoesOn, Moves, Silent}

-- ---- what was read and noted

own-append : (turns more : List Turn) → own_of (turns ++ more) ≡ own_of turns ++ own_of more
own-append turns more = flat_map-append (λ (t : Turn). t.request.own) turns more

said-append : (turns more : List Turn) → said_of (turns ++ more) ≡ said_of turns ++ said_of more
said-append turns more = flat_map-append (λ (t : Turn). said_by t.answer) turns more

turned-append : (turns more : List Turn) → turned_of (turns ++ more) ≡ turned_of turns ++ turned_of more
turned-append turns more = flat_map-append (λ (t : Turn). turned_by t.answer) turns more

input-append : (own own' a b : List ℕ) (x y z : Option (List ℕ)) → Where x (λ all. IsSomeAnd y (λ left. all ≡ own ++ (a ++ left))) → Where y (λ left. IsSomeAnd z (λ left'. a ++ left ≡ own' ++ (b ++ left'))) → Where x (λ all. IsSomeAnd z (λ left. all ≡ (own ++ own') ++ (b ++ left)))
input-append own own' a b None y z first next = tt
input-append own own' a b (Some x) None z first next = absurd first
input-append own own' a b (Some x) (Some y) None first next = absurd next
input-append own own' a b (Some x) (Some y) (Some z) first next = first ∙ ap (λ l. own ++ l) next ∙ sym (append_assoc own own' (b ++ z))

noted-after : (session n count : ℕ) (last : Option Turn) (a b : List ℕ) (before now after : Ends) → (goes : GoesOn session n count a before now) → Moves last a b now after → n < 1000000 → Noted (goes.turns ++ listed last) b before after
noted-after session n count last a b before now after goes moves low =
    let first = goes.noted.turned in
    let next = moves.turned in
    let own = own-append goes.turns (listed last) in
    record {
      input = rw own (input-append (own_of goes.turns) (own_of (listed last)) a b before.input now.input after.input goes.noted.input moves.input);
      few = rw own (omega (arith, goes.own_few, moves.few, low, length-append (own_of goes.turns) (own_of (listed last))));
      said = moves.said ∙ ap (λ l. l ++ said_of (listed last)) goes.noted.said ∙ append_assoc before.said (said_of goes.turns) (said_of (listed last)) ∙ ap (λ l. before.said ++ l) (sym (said-append goes.turns (listed last)));
      turned = (
        first.0 ++ next.0,
        next.1 ∙ ap (λ l. l ++ next.0) first.1 ∙ append_assoc before.turned first.0 next.0,
        map-append entry_of first.0 next.0 ∙ rw (first.2, next.2) refl ∙ sym (turned-append goes.turns (listed last)),
      );
    }

pub follows-after : (session n count : ℕ) (last : Option Turn) (a b : List ℕ) (before now after : Ends) → (goes : GoesOn session n count a before now) → Moves last a b now after → n < 1000000 → Follows (record { earlier = goes.turns; last = last; rest = b }) before after
follows-after session n count last a b before now after goes moves low = record {
  goes_on = goes.are_open;
  fewer = omega (arith, goes.many, low);
  is_turn = moves.is_turn;
  noted = noted-after session n count last a b before now after goes moves low;
}

-- ---- what was written

output-append : (p q : List ℕ) (x y z : Option (List ℕ)) → Appends p x y → Appends q y z → Appends (p ++ q) x z
output-append p q None y z first next = tt
output-append p q (Some x) y z first next = (rw first at next) ∙ ap (λ l. Some l) (append_assoc x p q)

pub wrote-append : (p q : List ℕ) (before now after : Ends) → Wrote p before now → Wrote q now after → Wrote (p ++ q) before after
wrote-append p q before now after first next = record {
  output = output-append p q before.output now.output after.output first.output next.output;
  stands = next.stands ∙ first.stands;
}

pub wrote-silent : (p : List ℕ) (before now after : Ends) → Wrote p before now → Silent now after → Wrote p before after
wrote-silent p before now after first silent = record { output = rw silent.output first.output; stands = silent.stands ∙ first.stands }

behind : (p q : List ℕ) (z : Option (List ℕ)) → IsSomeAnd z (λ new. (n : ℕ) × (new ≡ (p ++ []) ++ take n q)) → IsSomeAnd z (λ new. (n : ℕ) × (new ≡ p ++ take n q))
behind p q None part = absurd part
behind p q (Some z) part = (part.0, part.1 ∙ ap (λ l. l ++ take part.0 q) (append-nil p))

pub part-append : (p q : List ℕ) (before now after : Ends) → Wrote p before now → WrotePart [] q now after → WrotePart p q before after
part-append p q before now after first next = record {
  output = later before.output now.output after.output first.output next.output;
  failed = rw first.stands at next.failed;
} where
  later : (x y z : Option (List ℕ)) → Appends p x y → Where y (λ old. IsSomeAnd z (λ new. (n : ℕ) × (new ≡ (old ++ []) ++ take n q))) → Where x (λ old. IsSomeAnd z (λ new. (n : ℕ) × (new ≡ (old ++ p) ++ take n q)))
  later None y z first next = tt
  later (Some x) y z first next = behind (x ++ p) q z (rw first at next)

answers-snoc : (session n : ℕ) (turns : List Turn) (t : Turn) → answers_from session n (turns ++ t ∷ []) ≡ answers_from session n turns ++ answer_text session (n + length (said_of turns)) t.request.decision t.answer
answers-snoc session n [] t = append-nil _ ∙ ap (λ k. answer_text session k t.request.decision t.answer) (omega arith)
answers-snoc session n (u ∷ turns) t =
    ap (λ rest. answer_text session n u.request.decision u.answer ++ rest) (answers-snoc session (n + length (said_by u.answer)) turns t)
    ∙ sym (append_assoc (answer_text session n u.request.decision u.answer) (answers_from session (n + length (said_by u.answer)) turns) _)
    ∙ ap (λ k. answer_text session n u.request.decision u.answer ++ answers_from session (n + length (said_by u.answer)) turns ++ answer_text session k t.request.decision t.answer) (omega (arith, length-append (said_by u.answer) (said_of turns)))

-- the turns so far were answered, and one more
pub wrote-after : (session n count count' : ℕ) (closes : Bool) (a b : List ℕ) (before now after : Ends) (goes : GoesOn session n count a before now) (next : Answers session count count' closes a b now after) → Wrote (answers session (goes.turns ++ next.turn ∷ [])) before after
wrote-after session n count count' closes a b before now after goes next =
    let last : answers session (goes.turns ++ next.turn ∷ []) ≡ answers session goes.turns ++ answer_text session count next.turn.request.decision next.turn.answer
    = answers-snoc session 0 goes.turns next.turn ∙ ap (λ k. answers session goes.turns ++ answer_text session k next.turn.request.decision next.turn.answer) (omega (arith, goes.count_is)) in
    rw last (wrote-append (answers session goes.turns) (answer_text session count next.turn.request.decision next.turn.answer) before now after goes.wrote next.wrote)

-- ---- the loop

all-open : (turns : List Turn) (t : Turn) → AreOpen turns → IsOpen t → AreOpen (turns ++ t ∷ [])
all-open [] t earlier last = (last, tt)
all-open (u ∷ turns) t earlier last = (earlier.0, all-open turns t earlier.1 last)

pub begun : (session : ℕ) (e : Ends) → GoesOn session 0 0 [] e e
begun session e = record {
  turns = [];
  are_open = tt;
  noted = record { input = same_input e.input; few = omega arith; said = sym (append-nil e.said); turned = ([], sym (append-nil e.turned), refl) };
  wrote = record { output = same_output e.output; stands = refl };
  input = refl;
  count_is = refl;
  many = refl;
  own_few = omega arith;
  held_few = omega arith;
} where
  same_input : (x : Option (List ℕ)) → Where x (λ all. IsSomeAnd x (λ left. all ≡ [] ++ ([] ++ left)))
  same_input None = tt
  same_input (Some x) = refl

  same_output : (x : Option (List ℕ)) → Where x (λ old. x ≡ Some (old ++ []))
  same_output None = tt
  same_output (Some x) = ap (λ l. Some l) (sym (append-nil x))

pub goes_further : (session n count count' : ℕ) (a b : List ℕ) (before now after : Ends) → GoesOn session n count a before now → Answers session count count' false a b now after → n < 1000000 → GoesOn session (n + 1) count' b before after
goes_further session n count count' a b before now after goes next low = record {
  turns = goes.turns ++ next.turn ∷ [];
  are_open = all-open goes.turns next.turn goes.are_open (record { turn = next.moves.is_turn; goes_on = next.closes_is });
  noted = noted-after session n count (Some next.turn) a b before now after goes next.moves low;
  wrote = wrote-after session n count count' false a b before now after goes next;
  input = next.input ∙ goes.input;
  count_is = next.count ∙ rw (said-append goes.turns (next.turn ∷ [])) (omega (arith, goes.count_is, length-append (said_of goes.turns) (said_of (next.turn ∷ [])), length-append (said_by next.turn.answer) []));
  many = omega (arith, goes.many, length-append goes.turns (next.turn ∷ []));
  own_few = rw (own-append goes.turns (next.turn ∷ [])) (omega (arith, goes.own_few, next.moves.few, length-append (own_of goes.turns) (own_of (next.turn ∷ []))));
  held_few = omega (arith, next.moves.few);
}

said_short : (turns : List Turn) → length (said_of turns) ≤ length turns
said_short [] = omega arith
said_short (t ∷ turns) = omega (arith, length-append (said_by t.answer) (said_of turns), said_short turns, short t.answer) where
  short : (answer : Answer) → length (said_by answer) ≤ 1
  short Decided = omega arith
  short NoCall = omega arith
  short (Replied call reply) = omega arith
  short (Strange call) = omega arith
  short (Full call) = omega arith

pub count_low : (session n count : ℕ) (a : List ℕ) (before now : Ends) → GoesOn session n count a before now → count ≤ n
count_low session n count a before now goes = omega (arith, goes.count_is, goes.many, said_short goes.turns)
