-- How many answers stand before a place: where each call is answered once, fewer than there are calls.
use Rattle.std.proofs.Common.{◌≡◌, ℕ, zero, suc, ◌+◌, ◌<◌, ◌≤◌, Bool, true, false, ◌||◌, eqb, List, [], ◌∷◌, take, length, Some, refl, sym, ap, ◌∙◌, arith}
use Rattle.std.specs.List.{AllByRecursion, IsDistinct, list_any}
use Rattle.std.proofs.lemmas.Bool.{eqb-true, ne_eqb}
use Rattle.std.proofs.lemmas.Map.Steps.{length-le_from_distinct_below}
use Rattle.desk_values.specs.declared.call.Reply.{Reply}
use Rattle.desk_values.specs.declared.capture.Event.{Event}
use Rattle.desk_values.specs.declared.capture.Event.TheVariants.{Start, Answer}
use Rattle.replay_history.specs.History.{AnswersAt, IsAnswered, StartsAt}
use Rattle.law_replays.proofs.End.Order.{answered}
use Rattle.replay_walk.specs.Walks.{answers_in}

count_is : (events : List Event) → answers_in events ≡ length (answered events)
count_is [] = refl
count_is (Start k pause ∷ events) = count_is events
count_is (Answer k reply ∷ events) = let rest = count_is events in omega (arith, rest)

answers : (k : ℕ) (reply : Reply) (j : ℕ) (events : List Event) → j ≡ k → AnswersAt (Answer k reply ∷ events) 0 j reply
answers k reply j events same = λ i. Some (Answer (sym same i) reply)

apart : (k : ℕ) (events : List Event) → ((i : ℕ) (reply : Reply) → ¬ AnswersAt events i k reply) → AllByRecursion (λ j. eqb k j ≡ false) (answered events)
apart k [] never = tt
apart k (Start j pause ∷ events) never = apart k events (λ i reply. never (suc i) reply)
apart k (Answer j given ∷ events) never = (ne_eqb k j (λ same. never 0 given (answers j given k events same)), apart k events (λ i reply. never (suc i) reply))

abbrev IsOnce : List Event → Type 0
IsOnce events = (i j k : ℕ) (reply other : Reply) → AnswersAt events i k reply → AnswersAt events j k other → i ≡ j

tail_once : (event : Event) (events : List Event) → IsOnce (event ∷ events) → IsOnce events
tail_once event events once i j k reply other e f = let same = once (suc i) (suc j) k reply other e f in omega (arith, same)

distinct : (events : List Event) → IsOnce events → IsDistinct eqb (answered events)
unfolding IsDistinct
distinct [] once = tt
distinct (Start k pause ∷ events) once = distinct events (tail_once _ events once)
distinct (Answer k reply ∷ events) once = (
  apart k events (λ i other e. absurd (let same = once 0 (suc i) k reply other refl e in omega (arith, same))),
  distinct events (tail_once _ events once),
)

told : (k : ℕ) (events : List Event) → list_any (eqb k) (answered events) ≡ true → IsAnswered events k
told k [] is = absurd cc
told k (Start j pause ∷ events) is = let t = told k events is in (suc t.0, t.1, t.2)
told k (Answer j reply ∷ events) is = elim (eqb k j) as (λ b. eqb k j ≡ b → (b || list_any (eqb k) (answered events)) ≡ true → IsAnswered (Answer j reply ∷ events) k) [
  | true ↦ λ same here. (0, reply, answers j reply k events (eqb-true k j same))
  | false ↦ λ other later. let t = told k events later in (suc t.0, t.1, t.2)
] refl is

-- where stamps below this one are answered, each once
pub at_most : (n : ℕ) (events : List Event) → IsOnce events → ((k : ℕ) → IsAnswered events k → k < n) → answers_in events ≤ n
at_most n events once below =
    let most = length-le_from_distinct_below (answered events) n (distinct events once) (λ k is. below k (told k events is)) in
    omega (arith, count_is events, most)

pub one_more : (events : List Event) (n k : ℕ) (reply : Reply) → AnswersAt events n k reply → answers_in (take (suc n) events) ≡ answers_in (take n events) + 1
one_more [] n k reply e = absurd cc
one_more (Start j pause ∷ events) zero k reply e = absurd cc
one_more (Start j pause ∷ events) (suc n) k reply e = one_more events n k reply e
one_more (Answer j given ∷ events) zero k reply e = refl
one_more (Answer j given ∷ events) (suc n) k reply e = ap (λ (m : ℕ). m + 1) (one_more events n k reply e)

pub as_many : (events : List Event) (n k pause : ℕ) → StartsAt events n k pause → answers_in (take (suc n) events) ≡ answers_in (take n events)
as_many [] n k pause e = absurd cc
as_many (Answer j given ∷ events) zero k pause e = absurd cc
as_many (Answer j given ∷ events) (suc n) k pause e = ap (λ (m : ℕ). m + 1) (as_many events n k pause e)
as_many (Start j other ∷ events) zero k pause e = refl
as_many (Start j other ∷ events) (suc n) k pause e = as_many events n k pause e
