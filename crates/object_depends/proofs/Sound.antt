-- What a call requires where the facts are sound: of the calls before it those that it awaits.
use Rattle.std.proofs.Common.{◌≡◌, ℕ, zero, suc, ◌+◌, ◌<◌, ◌≤◌, Bool, true, false, List, length, take, refl, sym, ap, ◌∙◌, arith, inl, inr, cond}
use Rattle.std.specs.Prelude.{nat_le, nat_lt, ◌||◌, if◌then◌else◌}
use Rattle.std.proofs.lemmas.Bool.{cases_eq, cases_lt, cases_Bool, lt-ltb, ltb-true, le-leb, leb-true, and_parts, and_from}
use Rattle.std.proofs.lemmas.List.{take-take, get_or_past, length_push}
use Rattle.std.proofs.lemmas.List.Sums.{sum_by-take-le, count_by_more_yes}
use Rattle.replay_history.specs.declared.mode.Mode.{Mode}
use Rattle.replay_history.specs.declared.mode.Mode.TheVariants.{Off, Scn, Object, Order, Fence}
use Rattle.object_depends.specs.declared.fact.Fact.{Fact}
use Rattle.object_depends.specs.Facts.{fact_at, no_fact, is_commit, commits_below, AreSound}
use Rattle.object_depends.specs.Required.{has_seen, is_required, required, shares_table, stamps_where}
use Rattle.object_depends.specs.Inside.{awaits, awaited, WaitAlike}

commits_rise : (facts : List Fact) (i k : ℕ) → i ≤ k → commits_below facts i ≤ commits_below facts k
commits_rise facts i k le = rw (take-take i k facts le) at (sum_by-take-le (λ x. cond (is_commit x) 1 0) (take k facts) i)

-- a call with a number stands among the facts
commit_within : (facts : List Fact) (j : ℕ) → 0 < (fact_at facts j).number → j < length facts
commit_within facts j some =
    elim (cases_lt j (length facts)) [
      | inl lt ↦ lt
      | inr past ↦ absurd (let none : (fact_at facts j).number ≡ 0 = ap (λ (f : Fact). f.number) (get_or_past facts j no_fact past) in omega arith)
    ]

commits_more : (facts : List Fact) (j k : ℕ) → j < k → 0 < (fact_at facts j).number → commits_below facts j + 1 ≤ commits_below facts k
commits_more facts j k lt some =
    let one = count_by_more_yes is_commit facts j no_fact (commit_within facts j some) (lt-ltb _ _ some) in
    omega (arith, one, commits_rise facts (j + 1) k (omega arith))

-- a numbered commit is one that a call saw exactly where its stamp is lower
seen_before : (facts : List Fact) → AreSound facts → (k j : ℕ) → k < length facts → has_seen (fact_at facts k) (fact_at facts j) ≡ true → j < k
seen_before facts sound k j lt is =
    elim (cases_lt j k) [
      | inl less ↦ less
      | inr over ↦
          absurd
          (let parts = and_parts _ _ is in
          let some : 0 < (fact_at facts j).number = ltb-true _ _ parts.0 in
          let saw = leb-true _ _ parts.1 in
          let at_k = sound k lt in
          let at_j = sound j (commit_within facts j some) in
          omega (arith, at_k.seen, at_j.number some, saw, commits_rise facts k j over))
    ]

before_seen : (facts : List Fact) → AreSound facts → (k j : ℕ) → k < length facts → j < k → is_commit (fact_at facts j) ≡ true → has_seen (fact_at facts k) (fact_at facts j) ≡ true
before_seen facts sound k j lt less is =
    let some : 0 < (fact_at facts j).number = ltb-true _ _ is in
    let at_k = sound k lt in
    let at_j = sound j (commit_within facts j some) in
    and_from _ _ is (le-leb _ _ (omega (arith, at_k.seen, at_j.number some, commits_more facts j k less some)))

-- what a call requires stands before it
pub required_before : (mode : Mode) (facts : List Fact) → AreSound facts → (k j : ℕ) → k < length facts → is_required mode facts k j ≡ true → j < k
required_before Off facts sound k j lt is = absurd cc
required_before Scn facts sound k j lt is = seen_before facts sound k j lt is
required_before Object facts sound k j lt is = seen_before facts sound k j lt (and_parts _ _ is).0
required_before Order facts sound k j lt is = ltb-true _ _ is
required_before Fence facts sound k j lt is = elim (is_commit (fact_at facts k)) as (λ b. (if b then nat_lt j k else has_seen (fact_at facts k) (fact_at facts j)) ≡ true → j < k) [
  | true ↦ λ below. ltb-true _ _ below
  | false ↦ λ saw. seen_before facts sound k j lt saw
] is

-- and is awaited
pub required_awaited : (mode : Mode) (facts : List Fact) (k j : ℕ) → is_required mode facts k j ≡ true → awaits mode (fact_at facts k) (fact_at facts j) ≡ true
required_awaited Off facts k j is = is
required_awaited Scn facts k j is = (and_parts _ _ is).0
required_awaited Object facts k j is =
    let parts = and_parts (has_seen (fact_at facts k) (fact_at facts j)) (shares_table (fact_at facts j).writes (fact_at facts k).refs) is in
    let seen = and_parts (is_commit (fact_at facts j)) (nat_le (fact_at facts j).number (fact_at facts k).seen) parts.0 in
    and_from _ _ seen.0 parts.1
required_awaited Order facts k j is = refl
required_awaited Fence facts k j is = elim (is_commit (fact_at facts k)) as (λ b. (if b then nat_lt j k else has_seen (fact_at facts k) (fact_at facts j)) ≡ true → (b || is_commit (fact_at facts j)) ≡ true) [
  | true ↦ λ below. refl
  | false ↦ λ saw. (and_parts (is_commit (fact_at facts j)) (nat_le (fact_at facts j).number (fact_at facts k).seen) saw).0
] is

-- and the other way round
pub awaited_required : (mode : Mode) (facts : List Fact) → AreSound facts → (k j : ℕ) → k < length facts → j < k → awaits mode (fact_at facts k) (fact_at facts j) ≡ true → is_required mode facts k j ≡ true
awaited_required Off facts sound k j lt less is = is
awaited_required Scn facts sound k j lt less is = before_seen facts sound k j lt less is
awaited_required Object facts sound k j lt less is = let parts = and_parts _ _ is in and_from _ _ (before_seen facts sound k j lt less parts.0) parts.1
awaited_required Order facts sound k j lt less is = lt-ltb _ _ less
awaited_required Fence facts sound k j lt less is = elim (is_commit (fact_at facts k)) as (λ b. (b || is_commit (fact_at facts j)) ≡ true → (if b then nat_lt j k else has_seen (fact_at facts k) (fact_at facts j)) ≡ true) [
  | true ↦ λ any. lt-ltb _ _ less
  | false ↦ λ commit. before_seen facts sound k j lt less commit
] is

-- tests that say the same give the same
where_same : (test other : ℕ → Bool) (n : ℕ) → ((j : ℕ) → j < n → test j ≡ other j) → stamps_where test n ≡ stamps_where other n
where_same test other zero same = refl
where_same test other (suc n) same = rw (same n (omega arith), where_same test other n (λ j lt. same j (omega arith))) refl

pub where_few : (test : ℕ → Bool) (n : ℕ) → length (stamps_where test n) ≤ n
where_few test zero = omega arith
where_few test (suc n) =
    elim (cases_Bool (test n)) [
      | inl is ↦ rw is (omega (arith, length_push (stamps_where test n) n, where_few test n))
      | inr not ↦ rw not (omega (arith, where_few test n))
    ]

-- nothing is added where nothing passes
where_past : (test : ℕ → Bool) (k n : ℕ) → k ≤ n → ((j : ℕ) → k ≤ j → test j ≡ false) → stamps_where test n ≡ stamps_where test k
where_past test k zero le none = let e : zero ≡ k = omega arith in ap (stamps_where test) e
where_past test k (suc n) le none =
    elim (cases_eq k (suc n)) [
      | inl e ↦ ap (stamps_where test) (sym e)
      | inr other ↦ rw (none n (omega arith)) (where_past test k n (omega arith) none)
    ]

both : (a b : Bool) → (a ≡ true → b ≡ true) → (b ≡ true → a ≡ true) → a ≡ b
both true b there back = sym (there refl)
both false true there back = back refl
both false false there back = refl

-- what is required is what is awaited before it
pub required_is : (mode : Mode) (facts : List Fact) → AreSound facts → (k : ℕ) → k < length facts → required mode facts k ≡ awaited mode facts (fact_at facts k) k
required_is mode facts sound k lt =
    where_past (is_required mode facts k) k (length facts) (omega arith)
    (λ j over. both _ _ (λ is. absurd (let less = required_before mode facts sound k j lt is in omega arith)) (λ no. absurd cc))
    ∙ where_same _ _ k (λ j less. both _ _ (required_awaited mode facts k j) (awaited_required mode facts sound k j lt less))

-- so the tally of a call that waits for the same will do
pub alike_is : (mode : Mode) (facts : List Fact) → AreSound facts → (call : Fact) (k : ℕ) → k < length facts → WaitAlike mode call (fact_at facts k) → awaited mode facts call k ≡ required mode facts k
alike_is mode facts sound call k lt alike = where_same _ _ k (λ j less. alike (fact_at facts j)) ∙ sym (required_is mode facts sound k lt)
