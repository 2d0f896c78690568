-- Savepoints by their names.
use Rattle.std.proofs.Common.{◌≡◌, ◌∙◌, ℕ, zero, suc, ◌+◌, ◌<◌, true, false, List, [], ◌∷◌, ◌++◌, length, take, cond, refl, sym, ap, subst, arith}
use Rattle.std.specs.Prelude.{◌||◌, if◌then◌else◌, is_some, slice_index_or, IfSome, Option, None, Some}
use Rattle.std.specs.List.{AllByRecursion, position, position_from, remove}
use Rattle.std.proofs.lemmas.Iterator.Adapters.{position_from-zero}
use Rattle.std.proofs.lemmas.List.Edits.{remove-append_left}
use Rattle.server_words.specs.declared.session.Savepoint.{Savepoint}
use Rattle.server_words.specs.declared.session.Transaction.{Transaction}
use Rattle.server_words.specs.Savepoints.{has_savepoint, is_named, own_at, up_to, with_savepoint, without}
use Rattle.desk_values.specs.declared.call.Outcome.TheVariants.{RolledBack}
use Rattle.server_words.specs.declared.effect.Deed.TheVariants.{Nothing, RollsBackTo}
use Rattle.server_words.specs.View.{View}
use Rattle.server_words.specs.Answer.{gone_back, reply_of}
use Rattle.server_words.specs.Decision.{Decides}
use Rattle.server_words.proofs.Members.{each_joined}

-- ---- where one stands

module _ (name : List ℕ) where
  some_named : (i : ℕ) (xs : List Savepoint) → is_some (position_from (is_named name) i xs) ≡ has_savepoint name xs
  some_named i [] = refl
  some_named i (x ∷ xs) = elim (is_named name x) as (λ b. is_some (cond b (Some i) (position_from (is_named name) (i + 1) xs)) ≡ (b || has_savepoint name xs)) [
    | true ↦ refl
    | false ↦ some_named (i + 1) xs
  ]

  -- it is the first of its name, and so what stands at its place
  abbrev pub Stands : Transaction → List Savepoint → ℕ → Type 0
  Stands own xs k = (k < length xs) × ((d : Savepoint) → own_at name own xs ≡ (slice_index_or xs k d).own) × (up_to name xs ≡ take (suc k) xs) × (without name xs ≡ remove xs k)

  found_from : (own : Transaction) (i : ℕ) (xs : List Savepoint) (place : ℕ) → position_from (is_named name) i xs ≡ Some place → (k : ℕ) × (place ≡ i + k) × Stands own xs k
  found_from own i [] place = λ never. absurd cc
  found_from own i (x ∷ xs) place =
      elim (is_named name x) as (λ b. cond b (Some i) (position_from (is_named name) (i + 1) xs) ≡ Some place → (k : ℕ) × (place ≡ i + k)
      × ((k < length (x ∷ xs)) × ((d : Savepoint) → cond b x.own (own_at name own xs) ≡ (slice_index_or (x ∷ xs) k d).own)
      × (x ∷ cond b [] (up_to name xs) ≡ take (suc k) (x ∷ xs)) × (cond b xs (x ∷ without name xs) ≡ remove (x ∷ xs) k))) [
        | true ↦ λ is. (zero, (let same : i ≡ place = cc in omega arith), (omega arith, λ d. refl, refl, refl))
        | false ↦ λ is.
            let rest = found_from own (i + 1) xs place is in
            let stands = rest.2 in
            (suc rest.0, omega (arith, rest.1), (omega (arith, stands.0), λ d. stands.1 d, ap (λ l. x ∷ l) stands.2, ap (λ l. x ∷ l) stands.3))
      ]

  none_from : (i : ℕ) (xs : List Savepoint) → position_from (is_named name) i xs ≡ None → without name xs ≡ xs
  none_from i [] = λ none. refl
  none_from i (x ∷ xs) =
      elim (is_named name x) as (λ b. cond b (Some i) (position_from (is_named name) (i + 1) xs) ≡ None → cond b xs (x ∷ without name xs) ≡ x ∷ xs) [
        | true ↦ λ never. absurd cc
        | false ↦ λ none. ap (λ l. x ∷ l) (none_from (i + 1) xs none)
      ]

  -- where none has the name nothing changes
  abbrev pub Misses : Transaction → List Savepoint → Type 0
  Misses own xs = (own_at name own xs ≡ own) × (up_to name xs ≡ xs)

  missed_from : (own : Transaction) (i : ℕ) (xs : List Savepoint) → position_from (is_named name) i xs ≡ None → Misses own xs
  missed_from own i [] = λ none. (refl, refl)
  missed_from own i (x ∷ xs) =
      elim (is_named name x) as (λ b. cond b (Some i) (position_from (is_named name) (i + 1) xs) ≡ None → (cond b x.own (own_at name own xs) ≡ own) × (x ∷ cond b [] (up_to name xs) ≡ x ∷ xs)) [
        | true ↦ λ never. absurd cc
        | false ↦ λ none. let rest = missed_from own (i + 1) xs none in (rest.0, ap (λ l. x ∷ l) rest.1)
      ]

  pub named_found : (xs : List Savepoint) (found : Option ℕ) → found ≡ position (is_named name) xs → is_some found ≡ has_savepoint name xs
  named_found xs found is = ap is_some (is ∙ position_from-zero (is_named name) xs) ∙ some_named 0 xs

  pub found_stands : (own : Transaction) (xs : List Savepoint) (place : ℕ) → Some place ≡ position (is_named name) xs → Stands own xs place
  found_stands own xs place is =
      let found = found_from own 0 xs place (sym (is ∙ position_from-zero (is_named name) xs)) in
      let same : found.0 ≡ place = omega (arith, found.1) in
      subst (Stands own xs) same found.2

  pub place_within : (own : Transaction) (xs : List Savepoint) (found : Option ℕ) → found ≡ position (is_named name) xs → IfSome found (λ place. place < length xs)
  place_within own xs None is = tt
  place_within own xs (Some place) is = (found_stands own xs place is).0

  pub missed : (own : Transaction) (xs : List Savepoint) → None ≡ position (is_named name) xs → Misses own xs
  missed own xs is = missed_from own 0 xs (sym (is ∙ position_from-zero (is_named name) xs))

  pub none_named : (xs : List Savepoint) → None ≡ position (is_named name) xs → without name xs ≡ xs
  none_named xs is = none_from 0 xs (sym (is ∙ position_from-zero (is_named name) xs))

-- one more at the end, and then the one of its name is taken out
pub set_over : (xs : List Savepoint) (x : Savepoint) (place : ℕ) → Some place ≡ position (is_named x.name) xs → remove (xs ++ x ∷ []) place ≡ with_savepoint xs x
set_over xs x place is =
    let stands = found_stands x.name x.own xs place is in
    remove-append_left xs (x ∷ []) place stands.0 ∙ ap (λ l. l ++ x ∷ []) (sym stands.3)

pub set_new : (xs : List Savepoint) (x : Savepoint) → None ≡ position (is_named x.name) xs → xs ++ x ∷ [] ≡ with_savepoint xs x
set_new xs x is = ap (λ l. l ++ x ∷ []) (sym (none_named x.name xs is))

-- ---- what holds of each

module _ (P : Savepoint → Type 0) (name : List ℕ) where
  pub each_without : (xs : List Savepoint) → AllByRecursion P xs → AllByRecursion P (without name xs)
  each_without [] each = tt
  each_without (x ∷ xs) each = elim (is_named name x) as (λ b. AllByRecursion P (if b then xs else x ∷ without name xs)) [
    | true ↦ each.1
    | false ↦ (each.0, each_without xs each.1)
  ]

  pub each_up_to : (xs : List Savepoint) → AllByRecursion P xs → AllByRecursion P (up_to name xs)
  each_up_to [] each = tt
  each_up_to (x ∷ xs) each = (
    each.0,
    elim (is_named name x) as (λ b. AllByRecursion P (if b then [] else up_to name xs)) [
      | true ↦ tt
      | false ↦ each_up_to xs each.1
    ],
  )

pub each_with : (P : Savepoint → Type 0) (xs : List Savepoint) (x : Savepoint) → AllByRecursion P xs → P x → AllByRecursion P (with_savepoint xs x)
each_with P xs x each new = each_joined P (without x.name xs) (x ∷ []) (each_without P x.name xs each) (new, tt)

pub own_at_one : (P : Transaction → Type 0) (name : List ℕ) (own : Transaction) (xs : List Savepoint) → P own → AllByRecursion (λ (x : Savepoint). P x.own) xs → P (own_at name own xs)
own_at_one P name own [] is each = is
own_at_one P name own (x ∷ xs) is each = elim (is_named name x) as (λ b. P (if b then x.own else own_at name own xs)) [
  | true ↦ each.0
  | false ↦ own_at_one P name own xs is each.1
]

-- ---- going back

module _ (view : View) (name : List ℕ) where
  pub told_back : (place : ℕ) (own : Transaction) (d : Savepoint) → Some place ≡ position (is_named name) view.savepoints → own ≡ (slice_index_or view.savepoints place d).own
      → Decides view (gone_back view name) (record { reply = reply_of RolledBack [] None; deed = RollsBackTo (place + 1) own })
  told_back place own d is own_is =
      let stands = found_stands name view.own view.savepoints place is in
      let next : place + 1 ≡ suc place = omega arith in
      let had : own ≡ own_at name view.own view.savepoints = own_is ∙ sym (stands.1 d) in
      let kept : take (place + 1) view.savepoints ≡ up_to name view.savepoints = ap (λ (n : ℕ). take n view.savepoints) next ∙ sym stands.2 in
      record { answers = λ i. record { reply = reply_of RolledBack [] None; rights = view.rights; reads_only = view.reads_only; own = had i; savepoints = kept i }; commits = refl }

  pub told_missing : None ≡ position (is_named name) view.savepoints → Decides view (gone_back view name) (record { reply = reply_of RolledBack [] None; deed = Nothing })
  told_missing is =
      let misses = missed name view.own view.savepoints is in
      record { answers = λ i. record { reply = reply_of RolledBack [] None; rights = view.rights; reads_only = view.reads_only; own = sym misses.0 i; savepoints = sym misses.1 i }; commits = refl }
