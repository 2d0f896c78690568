-- The stamps of the answers in their order, where some of them must keep the order of the stamps.
use Rattle.std.proofs.Common.{◌≡◌, ℕ, zero, suc, ◌+◌, ◌<◌, ◌≤◌, Bool, true, false, if◌then◌else◌, List, [], ◌∷◌, refl, sym, ap, subst, ◌∙◌, arith, ⊎_elim}
use Rattle.std.specs.List.{Contains, filter}
use Rattle.desk_values.specs.declared.call.Reply.{Reply}
use Rattle.desk_values.specs.declared.capture.Captured.{Captured}
use Rattle.desk_values.specs.declared.capture.Event.{Event}
use Rattle.desk_values.specs.declared.capture.Event.TheVariants.{Start, Answer}
use Rattle.desk_schema.proofs.Members.{Contains-cases, Contains-here, Contains-none, Contains-there}
use Rattle.replay_history.specs.History.{AnswersAt, IsAnswered}
use Rattle.law_replays.proofs.End.Truth.{one_answer}

-- ---- ascending items

module _ {A : Type 0} (key : A → ℕ) where
  abbrev pub AscendFrom : ℕ → List A → Type 0
  AscendFrom n [] = Unit {0}
  AscendFrom n (x ∷ xs) = (n ≤ key x) × AscendFrom (key x + 1) xs

  least : (n : ℕ) (xs : List A) → AscendFrom n xs → (x : A) → Contains xs x → n ≤ key x
  least n [] up x c = absurd (Contains-none x c)
  least n (y ∷ xs) up x c = ⊎_elim (λ is. omega (arith, up.0, ap key is)) (λ later. omega (arith, up.0, least (key y + 1) xs up.1 x later)) (Contains-cases y xs x c)

  -- what is not the least stands later
  later_too : (y : A) (xs ys : List A) → AscendFrom (key y + 1) xs → (z : A) → z ≡ y → ((x : A) → Contains (y ∷ xs) x → Contains (z ∷ ys) x) → (x : A) → Contains xs x → Contains ys x
  later_too y xs ys up z same within x c = ⊎_elim (λ is. absurd (omega (arith, ap key is, ap key same, least (key y + 1) xs up x c))) (λ later. later) (Contains-cases z ys x (within x (Contains-there y xs x c)))

  -- of the same items there is one ascending list
  pub one_ascending : (n m : ℕ) (xs ys : List A) → AscendFrom n xs → AscendFrom m ys → ((x : A) → Contains xs x → Contains ys x) → ((x : A) → Contains ys x → Contains xs x) → xs ≡ ys
  one_ascending n m [] [] up also forth back = refl
  one_ascending n m [] (y ∷ ys) up also forth back = absurd (Contains-none y (back y (Contains-here y ys)))
  one_ascending n m (x ∷ xs) [] up also forth back = absurd (Contains-none x (forth x (Contains-here x xs)))
  one_ascending n m (x ∷ xs) (y ∷ ys) up also forth back =
      let same : y ≡ x = ⊎_elim
      (λ is. is)
      (λ later. ⊎_elim (λ is. sym is) (λ there. absurd (omega (arith, least (key y + 1) ys also.1 x later, least (key x + 1) xs up.1 y there))) (Contains-cases x xs y (back y (Contains-here y ys))))
      (Contains-cases y ys x (forth x (Contains-here x xs))) in
      let rest = one_ascending (key x + 1) (key y + 1) xs ys up.1 also.1 (later_too x xs ys up.1 y same forth) (later_too y ys xs also.1 x (sym same) back) in
      ap (λ (z : A). z ∷ xs) (sym same) ∙ ap (λ (l : List A). y ∷ l) rest

-- ---- the stamps of answers

abbrev pub answered : List Event → List ℕ
answered [] = []
answered (Start k pause ∷ events) = answered events
answered (Answer k reply ∷ events) = k ∷ answered events

module _ (test : ℕ → Bool) where
  -- those that pass a test are answered in the order of their stamps
  pub record IsInOrder (events : List Event) : Type 0 where
    pub rises : (i j m n : ℕ) (reply other : Reply) → AnswersAt events i m reply → AnswersAt events j n other → test m ≡ true → test n ≡ true → i < j → m < n

  abbrev pub tested : List Event → List ℕ
  tested events = filter test (answered events)

  tail_in_order : (event : Event) (events : List Event) → IsInOrder (event ∷ events) → IsInOrder events
  tail_in_order event events ordered = record { rises = λ i j m n reply other e f s t lt. ordered.rises (suc i) (suc j) m n reply other e f s t (omega (arith, lt)) }

  ascends : (n : ℕ) (events : List Event) → IsInOrder events → ((i k : ℕ) (reply : Reply) → AnswersAt events i k reply → test k ≡ true → n ≤ k) → AscendFrom (λ (k : ℕ). k) n (tested events)
  ascends n [] ordered least = tt
  ascends n (Start j pause ∷ events) ordered least = ascends n events (tail_in_order _ events ordered) (λ i k reply e s. least (suc i) k reply e s)
  ascends n (Answer j given ∷ events) ordered least = elim (test j) as (λ b. test j ≡ b → AscendFrom (λ (k : ℕ). k) n (if b then j ∷ filter test (answered events) else filter test (answered events))) [
    | true ↦ λ is. (least 0 j given refl is, ascends (j + 1) events (tail_in_order _ events ordered) (λ i k reply e s. omega (arith, ordered.rises 0 (suc i) j k given reply refl e is s (omega arith))))
    | false ↦ λ isnt. ascends n events (tail_in_order _ events ordered) (λ i k reply e s. least (suc i) k reply e s)
  ] refl

  stands_told : (k : ℕ) (events : List Event) (i : ℕ) (reply : Reply) → AnswersAt events i k reply → test k ≡ true → Contains (tested events) k
  stands_told k [] i reply e is = absurd cc
  stands_told k (Start j pause ∷ events) zero reply e is = absurd cc
  stands_told k (Start j pause ∷ events) (suc i) reply e is = stands_told k events i reply e is
  stands_told k (Answer j given ∷ events) zero reply e is =
      let same : k ≡ j = (one_answer j k given reply e).0 in
      let P : Bool → Type 0 = λ b. Contains (if b then j ∷ filter test (answered events) else filter test (answered events)) k in
      let Q : ℕ → Type 0 = λ n. Contains (n ∷ filter test (answered events)) k in
      subst P (sym (ap test (sym same) ∙ is)) (subst Q same (Contains-here k (filter test (answered events))))
  stands_told k (Answer j given ∷ events) (suc i) reply e is =
      let rest = stands_told k events i reply e is in
      elim (test j) as (λ b. Contains (if b then j ∷ filter test (answered events) else filter test (answered events)) k) [
        | true ↦ Contains-there j (filter test (answered events)) k rest
        | false ↦ rest
      ]

  told_stands : (k : ℕ) (events : List Event) → Contains (tested events) k → IsAnswered events k × (test k ≡ true)
  told_stands k [] c = absurd (Contains-none k c)
  told_stands k (Start j pause ∷ events) c = let t = told_stands k events c in ((suc t.0.0, t.0.1, t.0.2), t.1)
  told_stands k (Answer j given ∷ events) c = elim (test j) as (λ b. test j ≡ b → Contains (if b then j ∷ filter test (answered events) else filter test (answered events)) k → IsAnswered (Answer j given ∷ events) k × (test k ≡ true)) [
    | true ↦ λ is c. ⊎_elim
        (λ same. let P : ℕ → Type 0 = λ n. IsAnswered (Answer j given ∷ events) n × (test n ≡ true) in subst P same ((0, given, refl), is))
        (λ later. let t = told_stands k events later in ((suc t.0.0, t.0.1, t.0.2), t.1))
        (Contains-cases j (filter test (answered events)) k c)
    | false ↦ λ isnt c. let t = told_stands k events c in ((suc t.0.0, t.0.1, t.0.2), t.1)
  ] refl c

  -- two histories that answer the same, both in order
  pub same_order : (events others : List Event) → IsInOrder events → IsInOrder others → ((k : ℕ) → IsAnswered events k → test k ≡ true → IsAnswered others k) → ((k : ℕ) → IsAnswered others k → test k ≡ true → IsAnswered events k) → tested events ≡ tested others
  same_order events others one other forth back =
      one_ascending (λ (k : ℕ). k) 0 0 (tested events) (tested others) (ascends 0 events one (λ i k reply e s. omega arith)) (ascends 0 others other (λ i k reply e s. omega arith))
      (λ k c. let t = told_stands k events c in let a = forth k t.0 t.1 in stands_told k others a.0 a.1 a.2 t.1)
      (λ k c. let t = told_stands k others c in let a = back k t.0 t.1 in stands_told k events a.0 a.1 a.2 t.1)

-- ---- the captured order

-- the answers of calls from a stamp on, in the order of the stamps
abbrev pub recorded : ℕ → List Captured → List Event
recorded k [] = []
recorded k (call ∷ calls) = Answer k call.reply ∷ recorded (suc k) calls
