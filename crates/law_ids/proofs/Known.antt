-- An id was given in the state after a run just where a client can know it: it stands in the start's rows, or a call gave it.
use Rattle.std.proofs.Common.{◌≡◌, ◌∙◌, ◌<◌, ℕ, zero, suc, Bool, true, false, List, [], ◌∷◌, length, refl, sym, ap, subst, inl, inr, arith}
use Rattle.std.specs.Prelude.{◌||◌, ◌&&◌, nat_le, nat_lt, slice_get, slice_index, Some}
use Rattle.std.specs.List.{Any, list_any}
use Rattle.std.proofs.lemmas.Bool.{false≢true, le-leb, leb-true, lt-ltb, ltb-true, and_parts, or_cases}
use Rattle.std.proofs.lemmas.List.Folds.{Any-from_list_any, list_any-from_Any}
use Rattle.std.proofs.Math.Bool.{or-true}
use Rattle.desk_values.specs.declared.value.Value.{Value}
use Rattle.desk_values.specs.declared.value.Value.TheVariants.{Null, Int, Text, Row, Draw}
use Rattle.desk_values.specs.declared.value.Image.{Image}
use Rattle.desk_values.specs.declared.capture.Captured.{Captured}
use Rattle.desk_values.specs.Ids.{ids_of_image, is_id}
use Rattle.desk_values.specs.Comparison.{same_key}
use Rattle.desk_schema.specs.Start.{StartView}
use Rattle.server_words.proofs.Exact.{is_same, same_is}
use Rattle.replay_history.specs.Capture.{IsKnown, IsRun, StandsIn}
use Rattle.server_words.specs.State.{State, is_between, is_given, opening, stands_in}
use Rattle.server_words.specs.Step.{Gives}
use Rattle.law_ids.specs.Counters.{IsPassed}
use Rattle.law_ids.proofs.Members.{any_weaker}
use Rattle.law_ids.proofs.Runs.{run_count, run_fresh, run_gave, run_passed, run_start}

-- ---- ids of rows

no_null : (id : Value) → is_id id ≡ true → id ≡ Null → ⊥
no_null id is e = false≢true (ap is_id (sym e) ∙ is)

module _ (rows : List Image) (id : Value) where
  abbrev HasId : Image → Type 0
  HasId image = Any (λ other. other ≡ id) (ids_of_image image)

  abbrev has_id : Image → Bool
  has_id image = list_any (same_key 1 id) (ids_of_image image)

  found : (image : Image) → has_id image ≡ true → HasId image
  found image is = any_weaker (λ other. same_key 1 id other ≡ true) (λ other. other ≡ id) (λ other same. sym (same_is id other same)) (ids_of_image image) (Any-from_list_any (same_key 1 id) (ids_of_image image) is)

  finds : is_id id ≡ true → (image : Image) → HasId image → has_id image ≡ true
  finds is image has = list_any-from_Any (same_key 1 id) (ids_of_image image) (any_weaker (λ other. other ≡ id) (λ other. same_key 1 id other ≡ true) (λ other same. subst (λ (o : Value). same_key 1 id o ≡ true) (sym same) (is_same id (no_null id is))) (ids_of_image image) has)

  stands_there : stands_in rows id ≡ true → StandsIn rows id
  stands_there is = any_weaker (λ image. has_id image ≡ true) HasId found rows (Any-from_list_any has_id rows is)

  there_stands : is_id id ≡ true → StandsIn rows id → stands_in rows id ≡ true
  there_stands is stands = list_any-from_Any has_id rows (any_weaker HasId (λ image. has_id image ≡ true) (finds is) rows stands)

-- ---- numbers from the first on and below the second

number_new : (first end n : ℕ) → is_between (Some first) (Some end) n ≡ true → (n < end) × (n < first → ⊥)
number_new first end n is =
    let tests = and_parts (nat_le first n) (nat_lt n end) is in
    let least = leb-true first n tests.0 in
    (ltb-true n end tests.1, λ less. omega (arith, least, less))

new_number : (first end n : ℕ) → n < end → (n < first → ⊥) → is_between (Some first) (Some end) n ≡ true
new_number first end n less least = ap (λ (b : Bool). b && nat_lt n end) (le-leb first n (omega (arith, least))) ∙ lt-ltb n end less

numbers_new : (firsts ends : List ℕ) (q n : ℕ) → is_between (slice_get firsts q) (slice_get ends q) n ≡ true → (n < slice_index ends q) × (n < slice_index firsts q → ⊥)
numbers_new [] ends q n is = absurd (false≢true is)
numbers_new (first ∷ firsts) [] zero n is = absurd (false≢true is)
numbers_new (first ∷ firsts) [] (suc q) n is = numbers_new firsts [] q n is
numbers_new (first ∷ firsts) (end ∷ ends) zero n is = number_new first end n is
numbers_new (first ∷ firsts) (end ∷ ends) (suc q) n is = numbers_new firsts ends q n is

new_numbers : (firsts ends : List ℕ) (q n : ℕ) → length ends ≡ length firsts → n < slice_index ends q → (n < slice_index firsts q → ⊥) → is_between (slice_get firsts q) (slice_get ends q) n ≡ true
new_numbers firsts [] q n same less least = absurd (omega (arith, less))
new_numbers [] (end ∷ ends) q n same less least = absurd (omega (arith, same))
new_numbers (first ∷ firsts) (end ∷ ends) zero n same less least = new_number first end n less least
new_numbers (first ∷ firsts) (end ∷ ends) (suc q) n same less least = new_numbers firsts ends q n (omega (arith, same)) less least

-- ---- given and known

-- the id was given out since the start
abbrev is_new : StartView → State → Value → Bool
is_new start last (Row n) = is_between (Some start.next_row) (Some last.next_row) n
is_new start last (Draw q n) = is_between (slice_get start.next_values q) (slice_get last.next_values q) n
is_new start last other = false

new_passed : (start : StartView) (last : State) (id : Value) → is_new start last id ≡ true → IsPassed last id × (IsPassed (opening start) id → ⊥)
new_passed start last (Row n) is = number_new start.next_row last.next_row n is
new_passed start last (Draw q n) is = numbers_new start.next_values last.next_values q n is
new_passed start last Null is = absurd (false≢true is)
new_passed start last (Int n) is = absurd (false≢true is)
new_passed start last (Text text) is = absurd (false≢true is)

passed_new : (start : StartView) (last : State) (id : Value) → is_id id ≡ true → length last.next_values ≡ length start.next_values → IsPassed last id → (IsPassed (opening start) id → ⊥) → is_new start last id ≡ true
passed_new start last (Row n) is same passed fresh = new_number start.next_row last.next_row n passed fresh
passed_new start last (Draw q n) is same passed fresh = new_numbers start.next_values last.next_values q n same passed fresh
passed_new start last Null is same passed fresh = absurd (false≢true is)
passed_new start last (Int n) is same passed fresh = absurd (false≢true is)
passed_new start last (Text text) is same passed fresh = absurd (false≢true is)

given_is : (last : State) (id : Value) → is_id id ≡ true → is_given last id ≡ (stands_in last.start.rows id || is_new last.start last id)
given_is last (Row n) is = refl
given_is last (Draw q n) is = refl
given_is last Null is = absurd (false≢true is)
given_is last (Int n) is = absurd (false≢true is)
given_is last (Text text) is = absurd (false≢true is)

always_given : (last : State) (value : Value) → (is_id value ≡ true → is_given last value ≡ true) → is_given last value ≡ true
always_given last (Row n) id = id refl
always_given last (Draw q n) id = id refl
always_given last Null id = refl
always_given last (Int n) id = refl
always_given last (Text text) id = refl

module _ (start : StartView) (calls : List Captured) (last : State) (id : Value) (run : IsRun Gives (opening start) calls last) where
  here : is_id id ≡ true → is_given last id ≡ (stands_in start.rows id || is_new start last id)
  here is = given_is last id is ∙ ap (λ (s : StartView). stands_in s.rows id || is_new s last id) (run_start (opening start) last calls run)

  -- what is given after a run from the opening state is known from the start or from a call
  pub known_after : is_given last id ≡ true → IsKnown start.rows calls (length calls) id
  known_after given is = elim (or_cases (stands_in start.rows id) (is_new start last id) (sym (here is) ∙ given)) [
    | inl stands ↦ inl (stands_there start.rows id stands)
    | inr new ↦ (let passed = new_passed start last id new in elim (run_gave (opening start) last calls id run passed.0) [
      | inl old ↦ absurd (passed.1 old)
      | inr later ↦ inr later
    ])
  ]

  -- and what is known from there is given
  pub given_after : IsKnown start.rows calls (length calls) id → is_given last id ≡ true
  given_after known = always_given last id (λ is. here is ∙ elim (known is) [
    | inl stands ↦ ap (λ (b : Bool). b || is_new start last id) (there_stands start.rows id is stands)
    | inr later ↦ (
        let passed = run_passed (opening start) last calls later.0 later.1 id run later.3 later.4 in
        let new = passed_new start last id is (run_count (opening start) last calls run) passed (run_fresh (opening start) last calls later.0 later.1 id run later.3 later.4) in
        ap (λ (b : Bool). stands_in start.rows id || b) new ∙ or-true (stands_in start.rows id))
  ])
