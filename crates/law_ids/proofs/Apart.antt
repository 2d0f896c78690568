-- What is learnt from two replies are new ids, each once on its side.
use Rattle.std.proofs.Common.{◌≡◌, ◌≤◌, ℕ, suc, ◌+◌, Bool, true, false, ◌==◌, ◌&&◌, List, [], ◌∷◌, ◌++◌, map, refl, sym, ap, subst, inl, inr, arith}
use Rattle.std.specs.Prelude.{if◌then◌else◌, Option, None, Some}
use Rattle.std.specs.List.{AllByRecursion, IsDistinct}
use Rattle.std.proofs.lemmas.Bool.{cases_Bool, ne_eqb}
use Rattle.std.proofs.lemmas.List.{map-append}
use Rattle.desk_values.specs.declared.value.Value.{Value}
use Rattle.desk_values.specs.declared.value.Value.TheVariants as value
use Rattle.desk_values.specs.declared.call.Call.{Call}
use Rattle.desk_values.specs.declared.call.Reply.{Reply}
use Rattle.desk_values.specs.declared.capture.Captured.{Captured}
use Rattle.desk_schema.specs.Sound.{IsSoundStart}
use Rattle.desk_schema.specs.Start.{StartView}
use Rattle.server_words.specs.Draws.{drawn_from}
use Rattle.server_words.specs.State.{State, opening}
use Rattle.server_words.specs.Step.{Gives}
use Rattle.server_words.proofs.Members.{each_joined, each_mapped, each_weaker}
use Rattle.replay_history.specs.Capture.{IsGivenBy, IsRun}
use Rattle.replay_history.specs.Gap.{IsCallAt}
use Rattle.id_pairs.specs.declared.Id.{Id}
use Rattle.id_pairs.specs.declared.Id.TheVariants.{Row, Draw}
use Rattle.id_pairs.specs.Ids.{id_value, same_id}
use Rattle.id_pairs.specs.Pairs.{HasNoIdTwice, IdPair, drawn_pair, drawn_pairs, learnt, made_pair}
use Rattle.id_pairs.proofs.SameIds.{same_decides}
use Rattle.law_ids.specs.Given.{GivesNext}
use Rattle.law_ids.specs.Pairs.{AreFromElsewhere, AreGivenBy, IsGivenElsewhere}
use Rattle.law_ids.proofs.Members.{any_here, any_later}
use Rattle.law_ids.proofs.Runs.{run_fresh, run_once}
use Rattle.law_ids.proofs.Starts.{standing_old}
use Rattle.law_ids.proofs.Steps.{step_fresh, step_next}

-- ---- the two sides of pairs

abbrev first_ids : List IdPair → List Id
first_ids pairs = map (λ (pair : IdPair). pair.0) pairs

abbrev second_ids : List IdPair → List Id
second_ids pairs = map (λ (pair : IdPair). pair.1) pairs

-- ---- what is learnt is given

-- a reply with these draws
abbrev drawing : Reply → List Value → Reply
drawing reply draws = record reply { draws = draws }

drawn_more : (reply : Reply) (draw : Value) (draws : List Value) (id : Id) → IsGivenBy (id_value id) (drawing reply draws) → IsGivenBy (id_value id) (drawing reply (draw ∷ draws))
drawn_more reply draw draws (Row n) is = is
drawn_more reply draw draws (Draw q n) is = any_later (λ drawn. drawn ≡ value.Draw q n) draw draws is

module _ (captured replayed : Reply) where
  abbrev AreGiven : List Value → List Value → IdPair → Type 0
  AreGiven draws others pair = IsGivenBy (id_value pair.0) (drawing captured draws) × IsGivenBy (id_value pair.1) (drawing replayed others)

  pair_given : (draw other : Value) (draws others : List Value) → AllByRecursion (AreGiven (draw ∷ draws) (other ∷ others)) (drawn_pair draw other)
  pair_given (value.Draw p m) (value.Draw q n) draws others = elim (p == q) as (λ b. AllByRecursion (AreGiven (value.Draw p m ∷ draws) (value.Draw q n ∷ others)) (if b then (Draw p m, Draw q n) ∷ [] else [])) [
    | true ↦ ((any_here (λ drawn. drawn ≡ value.Draw p m) (value.Draw p m) draws refl, any_here (λ drawn. drawn ≡ value.Draw q n) (value.Draw q n) others refl), tt)
    | false ↦ tt
  ]
  pair_given _ _ draws others = tt

  drawn_given : (draws others : List Value) → AllByRecursion (AreGiven draws others) (drawn_pairs draws others)
  drawn_given [] others = tt
  drawn_given (draw ∷ draws) [] = tt
  drawn_given (draw ∷ draws) (other ∷ others) =
      let later = each_weaker (AreGiven draws others) (AreGiven (draw ∷ draws) (other ∷ others)) (λ pair is. (drawn_more captured draw draws pair.0 is.0, drawn_more replayed other others pair.1 is.1)) (drawn_pairs draws others) (drawn_given draws others) in
      each_joined (AreGiven (draw ∷ draws) (other ∷ others)) (drawn_pair draw other) (drawn_pairs draws others) (pair_given draw other draws others) later

  made_given : (row other : Option ℕ) → row ≡ captured.made → other ≡ replayed.made → AreGivenBy captured replayed (made_pair row other)
  made_given (Some row) (Some other) is also = ((sym is, sym also), tt)
  made_given (Some row) None is also = tt
  made_given None other is also = tt

  pub learnt_given : AreGivenBy captured replayed (learnt captured replayed)
  learnt_given = each_joined (AreGiven captured.draws replayed.draws) (drawn_pairs captured.draws replayed.draws) (made_pair captured.made replayed.made) (drawn_given captured.draws replayed.draws) (made_given captured.made replayed.made refl refl)

-- ---- draws of rising sequences, and rows behind them

abbrev AreRising : ℕ → List Value → Type 0
AreRising from [] = Unit {0}
AreRising from (value.Draw q n ∷ draws) = (from ≤ q) × AreRising (q + 1) draws
AreRising from (other ∷ draws) = ⊥

rising_lower : (low from : ℕ) (draws : List Value) → low ≤ from → AreRising from draws → AreRising low draws
rising_lower low from [] le rising = tt
rising_lower low from (value.Draw q n ∷ draws) le rising = (omega (arith, le, rising.0), rising.1)
rising_lower low from (value.Null ∷ draws) le rising = absurd rising
rising_lower low from (value.Int n ∷ draws) le rising = absurd rising
rising_lower low from (value.Text text ∷ draws) le rising = absurd rising
rising_lower low from (value.Row n ∷ draws) le rising = absurd rising

drawn_rise : (test : ℕ → Bool) (from : ℕ) (ns : List ℕ) → AreRising from (drawn_from test from ns)
drawn_rise test from [] = tt
drawn_rise test from (n ∷ ns) = elim (test from) as (λ b. AreRising from (if b then value.Draw from n ∷ drawn_from test (from + 1) ns else drawn_from test (from + 1) ns)) [
  | true ↦ (omega arith, drawn_rise test (from + 1) ns)
  | false ↦ rising_lower from (from + 1) (drawn_from test (from + 1) ns) (omega arith) (drawn_rise test (from + 1) ns)
]

-- the same of ids: draws, and then at most one row
abbrev IdsRise : ℕ → List Id → Type 0
IdsRise from [] = Unit {0}
IdsRise from (Draw q n ∷ ids) = (from ≤ q) × IdsRise (q + 1) ids
IdsRise from (Row n ∷ ids) = ids ≡ []

ids_lower : (low from : ℕ) (ids : List Id) → low ≤ from → IdsRise from ids → IdsRise low ids
ids_lower low from [] le rise = tt
ids_lower low from (Draw q n ∷ ids) le rise = (omega (arith, le, rise.0), rise.1)
ids_lower low from (Row n ∷ ids) le rise = rise

later_apart : (q n from : ℕ) (ids : List Id) → suc q ≤ from → IdsRise from ids → AllByRecursion (λ id. same_id (Draw q n) id ≡ false) ids
later_apart q n from [] le rise = tt
later_apart q n from (Draw p m ∷ ids) le rise = (ap (λ (b : Bool). b && (n == m)) (ne_eqb q p (λ same. omega (arith, same, le, rise.0))), later_apart q n (p + 1) ids (omega (arith, le, rise.0)) rise.1)
later_apart q n from (Row m ∷ ids) le rise = (refl, subst (AllByRecursion (λ id. same_id (Draw q n) id ≡ false)) (sym rise) tt)

rise_distinct : (from : ℕ) (ids : List Id) → IdsRise from ids → IsDistinct same_id ids
unfolding IsDistinct
rise_distinct from [] rise = tt
rise_distinct from (Draw q n ∷ ids) rise = (later_apart q n (q + 1) ids (omega arith) rise.1, rise_distinct (q + 1) ids rise.1)
rise_distinct from (Row n ∷ ids) rise = (subst (AllByRecursion (λ id. same_id (Row n) id ≡ false)) (sym rise) tt, subst (IsDistinct same_id) (sym rise) tt)

-- both sides of what is learnt
abbrev BothRise : ℕ → ℕ → List IdPair → Type 0
BothRise a b pairs = IdsRise a (first_ids pairs) × IdsRise b (second_ids pairs)

made_rise : (a b : ℕ) (row other : Option ℕ) → BothRise a b (made_pair row other)
made_rise a b (Some row) (Some other) = (refl, refl)
made_rise a b (Some row) None = (tt, tt)
made_rise a b None other = (tt, tt)

both_lower : (a b p q : ℕ) (pairs : List IdPair) → a ≤ p → b ≤ q → BothRise p q pairs → BothRise a b pairs
both_lower a b p q pairs first second rise = (ids_lower a p (first_ids pairs) first rise.0, ids_lower b q (second_ids pairs) second rise.1)

learnt_rise : (a b : ℕ) (draws others : List Value) (row other : Option ℕ) → AreRising a draws → AreRising b others → BothRise a b (drawn_pairs draws others ++ made_pair row other)
learnt_rise a b [] others row other first second = made_rise a b row other
learnt_rise a b (draw ∷ draws) [] row other first second = made_rise a b row other
learnt_rise a b (value.Draw p m ∷ draws) (value.Draw q n ∷ others) row other first second =
    let rest = learnt_rise (p + 1) (q + 1) draws others row other first.1 second.1 in
    let more = drawn_pairs draws others in
    elim (p == q) as (λ b'. BothRise a b (((if b' then (Draw p m, Draw q n) ∷ [] else []) ++ more) ++ made_pair row other)) [
      | true ↦ ((first.0, rest.0), (second.0, rest.1))
      | false ↦ both_lower a b (p + 1) (q + 1) (more ++ made_pair row other) (omega (arith, first.0)) (omega (arith, second.0)) rest
    ]
learnt_rise a b (value.Draw p m ∷ draws) (value.Null ∷ others) row other first second = absurd second
learnt_rise a b (value.Draw p m ∷ draws) (value.Int n ∷ others) row other first second = absurd second
learnt_rise a b (value.Draw p m ∷ draws) (value.Text text ∷ others) row other first second = absurd second
learnt_rise a b (value.Draw p m ∷ draws) (value.Row n ∷ others) row other first second = absurd second
learnt_rise a b (value.Null ∷ draws) (o ∷ others) row other first second = absurd first
learnt_rise a b (value.Int n ∷ draws) (o ∷ others) row other first second = absurd first
learnt_rise a b (value.Text text ∷ draws) (o ∷ others) row other first second = absurd first
learnt_rise a b (value.Row n ∷ draws) (o ∷ others) row other first second = absurd first

rising_draws : (ns : List ℕ) (row : ℕ) (reply : Reply) → GivesNext ns row reply → AreRising 0 reply.draws
rising_draws ns row reply gives = subst (AreRising 0) (sym gives.draws) (drawn_rise gives.test 0 ns)

-- ---- ids that one reply does not give, and ids that it gives

other_ids : (reply : Reply) (id new : Id) → (IsGivenBy (id_value id) reply → ⊥) → IsGivenBy (id_value new) reply → same_id id new ≡ false
other_ids reply id new old given = elim (cases_Bool (same_id id new)) [
  | inl same ↦ absurd (old (subst (λ (one : Id). IsGivenBy (id_value one) reply) (sym ((same_decides id new).0 same)) given))
  | inr apart ↦ apart
]

module _ (reply : Reply) (new : List Id) (given : AllByRecursion (λ id. IsGivenBy (id_value id) reply) new) (once : IsDistinct same_id new) where
  apart_from_new : (id : Id) (ids : List Id) → (IsGivenBy (id_value id) reply → ⊥) → AllByRecursion (λ other. same_id id other ≡ false) ids → AllByRecursion (λ other. same_id id other ≡ false) (ids ++ new)
  apart_from_new id ids old apart = each_joined (λ other. same_id id other ≡ false) ids new apart (each_weaker (λ other. IsGivenBy (id_value other) reply) (λ other. same_id id other ≡ false) (λ other is. other_ids reply id other old is) new given)

  distinct_more : (ids : List Id) → IsDistinct same_id ids → AllByRecursion (λ id. IsGivenBy (id_value id) reply → ⊥) ids → IsDistinct same_id (ids ++ new)
  unfolding IsDistinct
  distinct_more [] apart old = once
  distinct_more (id ∷ ids) apart old = (apart_from_new id ids old.0 apart.0, distinct_more ids apart.1 old.1)

module _ (start : StartView) (calls : List Captured) (last : State) (k : ℕ) (captured : Captured) (is : IsSoundStart start) (run : IsRun Gives (opening start) calls last) (there : IsCallAt calls k captured) where
  -- what was given elsewhere this call does not give
  not_given : (id : Value) → IsGivenElsewhere start.rows calls k id → IsGivenBy id captured.reply → ⊥
  not_given id (inl stands) given = run_fresh (opening start) last calls k captured id run there given (standing_old start id is stands)
  not_given id (inr other) given = other.2 (run_once (opening start) last calls other.0 k other.1 captured id run other.3 there other.4 given)

  captured_next : (first : State) (calls : List Captured) (k : ℕ) (call : Captured) → IsRun Gives first calls last → IsCallAt calls k call → (ns : List ℕ) × (row : ℕ) × GivesNext ns row call.reply
  captured_next first [] k call run there = cc
  captured_next first (c ∷ calls) Prim.Native.Nat.zero call run there =
      let same : call ≡ c = cc in
      (first.next_values, first.next_row, subst (λ (one : Captured). GivesNext first.next_values first.next_row one.reply) (sym same) (step_next first run.0 c.session c.call c.reply run.1))
  captured_next first (c ∷ calls) (suc k) call run there = captured_next run.0 calls k call run.2 there

  pub learnt_new : (old new : State) (session : ℕ) (sent : Call) (reply : Reply) (pairs : List IdPair) → Gives old session sent reply new → HasNoIdTwice pairs → AreFromElsewhere start.rows calls k old pairs → HasNoIdTwice (pairs ++ learnt captured.reply reply)
  learnt_new old new session sent reply pairs step once from =
      let next = captured_next (opening start) calls k captured run there in
      let more = learnt captured.reply reply in
      let given = learnt_given captured.reply reply in
      let rise : BothRise 0 0 more = learnt_rise 0 0 captured.reply.draws reply.draws captured.reply.made reply.made (rising_draws next.0 next.1 captured.reply next.2) (rising_draws old.next_values old.next_row reply (step_next old new session sent reply step)) in
      let firsts = distinct_more captured.reply (first_ids more) (each_mapped (λ id. IsGivenBy (id_value id) captured.reply) (λ (pair : IdPair). pair.0) more (each_weaker _ (λ (pair : IdPair). IsGivenBy (id_value pair.0) captured.reply) (λ pair both. both.0) more given)) (rise_distinct 0 (first_ids more) rise.0) (first_ids pairs) once.captured
      (each_mapped (λ id. IsGivenBy (id_value id) captured.reply → ⊥) (λ (pair : IdPair). pair.0) pairs (each_weaker _ (λ (pair : IdPair). IsGivenBy (id_value pair.0) captured.reply → ⊥) (λ pair elsewhere. not_given (id_value pair.0) elsewhere) pairs from.captured)) in
      let seconds = distinct_more reply (second_ids more) (each_mapped (λ id. IsGivenBy (id_value id) reply) (λ (pair : IdPair). pair.1) more (each_weaker _ (λ (pair : IdPair). IsGivenBy (id_value pair.1) reply) (λ pair both. both.1) more given)) (rise_distinct 0 (second_ids more) rise.1) (second_ids pairs) once.replayed
      (each_mapped (λ id. IsGivenBy (id_value id) reply → ⊥) (λ (pair : IdPair). pair.1) pairs (each_weaker _ (λ (pair : IdPair). IsGivenBy (id_value pair.1) reply → ⊥) (λ pair passed given. step_fresh old new session sent reply step (id_value pair.1) given passed) pairs from.replayed)) in
      record {
        captured = subst (IsDistinct same_id) (sym (map-append (λ (pair : IdPair). pair.0) pairs more)) firsts;
        replayed = subst (IsDistinct same_id) (sym (map-append (λ (pair : IdPair). pair.1) pairs more)) seconds;
      }
