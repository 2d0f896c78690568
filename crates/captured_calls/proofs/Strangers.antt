-- A value is no stranger just where a client can know it.
use Rattle.std.proofs.Common.{◌≡◌, ◌<◌, ℕ, zero, suc, Bool, true, false, ◌&&◌, ◌||◌, ◌⊎◌, inl, inr, List, [], ◌∷◌, take, refl, sym, ap, subst, ◌∙◌, arith}
use Rattle.std.specs.Prelude.{Option, None, Some, nat_eq, not, slice_get, ◌↔◌}
use Rattle.std.specs.Bool.{Decides}
use Rattle.std.specs.List.{AllByRecursion, Any, flat_map, list_any}
use Rattle.std.proofs.lemmas.Bool.Decides.{Decides-eqb, Decides-or, Decides-like}
use Rattle.std.proofs.lemmas.List.Folds.{Any-from_list_any, list_any-append, list_any-from_Any}
use Rattle.std.proofs.Math.Bool.{or-true, or-false}
use Rattle.desk_values.specs.declared.value.Value.{Value}
use Rattle.desk_values.specs.declared.value.Value.TheVariants.{Null, Int, Text, Row, Draw}
use Rattle.desk_values.specs.declared.value.Image.{Image}
use Rattle.desk_values.specs.declared.call.Reply.{Reply}
use Rattle.desk_values.specs.declared.capture.Captured.{Captured}
use Rattle.desk_values.specs.Good.{IsGoodDraw, IsGoodReply}
use Rattle.desk_values.specs.Ids.{ids_of_image, ids_made, is_id}
use Rattle.replay_history.specs.Capture.{IsGivenBy, IsKnown, StandsIn}
use Rattle.replay_history.specs.Gap.{IsCallAt}
use Rattle.captured_calls.specs.Known.{given_by, ids_known, is_stranger}
use Rattle.captured_calls.specs.Same.{same_value}
use Rattle.captured_calls.proofs.Members.{some_is}
use Rattle.captured_calls.proofs.Sameness.{value_decided}

-- ---- tests that tell

any_tells : {X : Type 0} (p : X → Bool) (P : X → Type 0) → ((x : X) → Decides (p x) (P x)) → (xs : List X) → Decides (list_any p xs) (Any P xs)
any_tells p P each xs = (λ e. (let h = Any-from_list_any p xs e in (h.0, h.1, h.2, h.3, (each h.1).0 h.4)), λ h. list_any-from_Any p xs (h.0, h.1, h.2, h.3, (each h.1).1 h.4))

any_flat : {X : Type 0} (p : Value → Bool) (f : X → List Value) (xs : List X) → list_any p (flat_map f xs) ≡ list_any (λ x. list_any p (f x)) xs
any_flat p f [] = refl
any_flat p f (x ∷ xs) = list_any-append p (f x) (flat_map f xs) ∙ ap (λ (b : Bool). list_any p (f x) || b) (any_flat p f xs)

-- one of the first k
abbrev IsOneOf : {X : Type 0} → (X → Type 0) → ℕ → List X → Type 0
IsOneOf {X} P k xs = (j : ℕ) × (x : X) × (j < k) × (slice_get xs j ≡ Some x) × P x

module _ {X : Type 0} (p : X → Bool) (P : X → Type 0) where
  here_or_later : (k : ℕ) (x : X) (xs : List X) → P x ⊎ IsOneOf P k xs → IsOneOf P (suc k) (x ∷ xs)
  here_or_later k x xs (inl h) = (zero, x, omega arith, refl, h)
  here_or_later k x xs (inr h) = (suc h.0, h.1, omega (arith, h.2), h.3, h.4)

  at_place : (k : ℕ) (x : X) (xs : List X) (j : ℕ) (y : X) → j < suc k → slice_get (x ∷ xs) j ≡ Some y → P y → P x ⊎ IsOneOf P k xs
  at_place k x xs zero y lt there h = inl (subst P (sym (some_is there)) h)
  at_place k x xs (suc j) y lt there h = inr (j, y, omega (arith, lt), there, h)

  taken_tells : (k : ℕ) (xs : List X) → AllByRecursion (λ x. Decides (p x) (P x)) xs → Decides (list_any p (take k xs)) (IsOneOf P k xs)
  taken_tells zero xs each = (λ e. cc, λ h. absurd (omega (arith, h.2)))
  taken_tells (suc k) [] each = (λ e. cc, λ h. absurd (nothing h.1 h.3))
    where
      nothing : (x : X) → ◌≡◌ {A = Option X} None (Some x) → ⊥
      nothing x e = cc
  taken_tells (suc k) (x ∷ xs) each = Decides-like _ (here_or_later k x xs) (λ h. at_place k x xs h.0 h.1 h.2 h.3 h.4) (Decides-or (p x) (list_any p (take k xs)) each.0 (taken_tells k xs each.1))

-- ---- ids

module _ (id : Value) where
  is_it : (other : Value) → Decides (same_value id other) (other ≡ id)
  is_it other = Decides-like {P = id ≡ other} _ sym sym (value_decided id other)

  listed : (values : List Value) → Decides (list_any (same_value id) values) (Any (λ other. other ≡ id) values)
  listed values = any_tells (same_value id) (λ other. other ≡ id) is_it values

  stands : (rows : List Image) → Decides (list_any (same_value id) (flat_map ids_of_image rows)) (StandsIn rows id)
  stands rows = subst (λ (b : Bool). Decides b (StandsIn rows id)) (sym (any_flat (same_value id) ids_of_image rows)) (any_tells _ _ (λ (row : Image). listed (ids_of_image row)) rows)

no_row : (n : ℕ) (draws : List Value) → AllByRecursion IsGoodDraw draws → list_any (same_value (Row n)) draws ≡ false
no_row n [] all = refl
no_row n (Draw q m ∷ draws) all = no_row n draws all.1
no_row n (Null ∷ draws) all = absurd all.0
no_row n (Int m ∷ draws) all = absurd all.0
no_row n (Text m ∷ draws) all = absurd all.0
no_row n (Row m ∷ draws) all = absurd all.0

made_tells : (n : ℕ) (made : Option ℕ) → Decides (list_any (same_value (Row n)) (ids_made made)) (made ≡ Some n)
made_tells n None = (λ e. cc, λ e. cc)
made_tells n (Some m) = Decides-like {P = (n ≡ m) ⊎ ⊥} _ (λ h. elim h [
  | inl same ↦ ap (λ (k : ℕ). Some k) (sym same)
  | inr other ↦ absurd other
]) (λ e. inl (sym (some_is e))) (Decides-or (nat_eq n m) false (Decides-eqb n m) never)
  where
    never : Decides false ⊥
    never = (λ e. cc, λ h. absurd h)

given : (id : Value) (reply : Reply) → IsGoodReply reply → is_id id ≡ true → Decides (list_any (same_value id) (given_by reply)) (IsGivenBy id reply)
given (Row n) reply good is = subst (λ (b : Bool). Decides b (reply.made ≡ Some n)) (sym (list_any-append (same_value (Row n)) reply.draws (ids_made reply.made) ∙ ap (λ (b : Bool). b || list_any (same_value (Row n)) (ids_made reply.made)) (no_row n reply.draws good.draws))) (made_tells n reply.made)
given (Draw q n) reply good is = subst (λ (b : Bool). Decides b (IsGivenBy (Draw q n) reply)) (sym (list_any-append (same_value (Draw q n)) reply.draws (ids_made reply.made) ∙ ap (λ (b : Bool). list_any (same_value (Draw q n)) reply.draws || b) (no_draw reply.made) ∙ or-false _)) (listed (Draw q n) reply.draws)
  where
    no_draw : (made : Option ℕ) → list_any (same_value (Draw q n)) (ids_made made) ≡ false
    no_draw None = refl
    no_draw (Some m) = refl
given Null reply good is = cc
given (Int n) reply good is = cc
given (Text n) reply good is = cc

-- ---- values

module _ (rows : List Image) (calls : List Captured) (good : AllByRecursion (λ (call : Captured). IsGoodReply call.reply) calls) (k : ℕ) where
  gives_each : (id : Value) → is_id id ≡ true → (calls : List Captured) → AllByRecursion (λ (call : Captured). IsGoodReply call.reply) calls → AllByRecursion (λ (call : Captured). Decides (list_any (same_value id) (given_by call.reply)) (IsGivenBy id call.reply)) calls
  gives_each id is [] good = tt
  gives_each id is (call ∷ calls) good = (given id call.reply good.0 is, gives_each id is calls good.1)

  id_known : (id : Value) → is_id id ≡ true → Decides (list_any (same_value id) (ids_known rows (take k calls))) (StandsIn rows id ⊎ ((j : ℕ) × (call : Captured) × (j < k) × IsCallAt calls j call × IsGivenBy id call.reply))
  id_known id is =
      let given_in : Captured → List Value = λ (call : Captured). given_by call.reply in
      let earlier = taken_tells (λ (call : Captured). list_any (same_value id) (given_in call)) (λ (call : Captured). IsGivenBy id call.reply) k calls (gives_each id is calls good) in
      let listed_there = subst (λ (b : Bool). Decides b (IsOneOf (λ (call : Captured). IsGivenBy id call.reply) k calls)) (sym (any_flat (same_value id) given_in (take k calls))) earlier in
      subst (λ (b : Bool). Decides b (StandsIn rows id ⊎ IsOneOf (λ (call : Captured). IsGivenBy id call.reply) k calls)) (sym (list_any-append (same_value id) (flat_map ids_of_image rows) (flat_map given_in (take k calls))))
      (Decides-or _ _ (stands id rows) listed_there)

  no_stranger : (b c : Bool) (P : Type 0) → (b ≡ true → Decides c P) → ((b && not c) ≡ false) ↔ (b ≡ true → P)
  no_stranger true true P known = (λ e is. (known refl).0 refl, λ h. refl)
  no_stranger true false P known = (λ e. cc, λ h. sym ((known refl).1 (h refl)))
  no_stranger false c P known = (λ e is. cc, λ h. refl)

  pub known_tells : (value : Value) → (is_stranger (ids_known rows (take k calls)) value ≡ false) ↔ IsKnown rows calls k value
  known_tells value = no_stranger (is_id value) (list_any (same_value value) (ids_known rows (take k calls))) _ (id_known value)

-- ---- what is known is no stranger, whatever else the replies have

given_listed : (id : Value) (reply : Reply) → IsGivenBy id reply → list_any (same_value id) (given_by reply) ≡ true
given_listed (Row n) reply is = list_any-append (same_value (Row n)) reply.draws (ids_made reply.made) ∙ ap (λ (b : Bool). list_any (same_value (Row n)) reply.draws || b) ((made_tells n reply.made).1 is) ∙ or-true _
given_listed (Draw q n) reply is = list_any-append (same_value (Draw q n)) reply.draws (ids_made reply.made) ∙ ap (λ (b : Bool). b || list_any (same_value (Draw q n)) (ids_made reply.made)) ((listed (Draw q n) reply.draws).1 is)
given_listed Null reply is = absurd is
given_listed (Int n) reply is = absurd is
given_listed (Text n) reply is = absurd is

taken_listed : (p : Captured → Bool) (k : ℕ) (xs : List Captured) (j : ℕ) (x : Captured) → j < k → slice_get xs j ≡ Some x → p x ≡ true → list_any p (take k xs) ≡ true
taken_listed p zero xs j x lt there is = absurd (omega (arith, lt))
taken_listed p (suc k) [] j x lt there is = cc
taken_listed p (suc k) (y ∷ ys) zero x lt there is = ap (λ (b : Bool). b || list_any p (take k ys)) (ap p (some_is there) ∙ is)
taken_listed p (suc k) (y ∷ ys) (suc j) x lt there is = ap (λ (b : Bool). p y || b) (taken_listed p k ys j x (omega (arith, lt)) there is) ∙ or-true (p y)

module _ (rows : List Image) (calls : List Captured) (k : ℕ) where
  known_listed : (id : Value) → StandsIn rows id ⊎ IsOneOf (λ (call : Captured). IsGivenBy id call.reply) k calls → list_any (same_value id) (ids_known rows (take k calls)) ≡ true
  known_listed id known =
      let given_in : Captured → List Value = λ (call : Captured). given_by call.reply in
      let replied = flat_map given_in (take k calls) in
      list_any-append (same_value id) (flat_map ids_of_image rows) replied ∙ elim known [
        | inl there ↦ ap (λ (b : Bool). b || list_any (same_value id) replied) ((stands id rows).1 there)
        | inr h ↦ ap (λ (b : Bool). list_any (same_value id) (flat_map ids_of_image rows) || b) (any_flat (same_value id) given_in (take k calls) ∙ taken_listed (λ (call : Captured). list_any (same_value id) (given_in call)) k calls h.0 h.1 h.2 h.3 (given_listed id h.1.reply h.4)) ∙ or-true _
      ]

  pub not_stranger : (value : Value) → IsKnown rows calls k value → is_stranger (ids_known rows (take k calls)) value ≡ false
  not_stranger value known = at (is_id value) refl
    where
      at : (b : Bool) → is_id value ≡ b → is_stranger (ids_known rows (take k calls)) value ≡ false
      at true is = ap (λ (b : Bool). b && not (list_any (same_value value) (ids_known rows (take k calls)))) is ∙ ap not (known_listed value (known is))
      at false is = ap (λ (b : Bool). b && not (list_any (same_value value) (ids_known rows (take k calls)))) is
