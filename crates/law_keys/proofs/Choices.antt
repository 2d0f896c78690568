-- What a session may come to have of its own: what it has, or what it goes back to.
use Rattle.std.proofs.Common.{◌≡◌, ◌⊎◌, ℕ, true, false, List, [], ◌∷◌, ◌++◌, refl, sym, ap, subst, inl, inr}
use Rattle.std.specs.Prelude.{if◌then◌else◌}
use Rattle.std.specs.List.{AllByRecursion}
use Rattle.server_words.specs.declared.session.HeldKey.{HeldKey}
use Rattle.server_words.specs.declared.session.Savepoint.{Savepoint}
use Rattle.server_words.specs.declared.session.Session.{Session}
use Rattle.server_words.specs.declared.session.Transaction.{Transaction}
use Rattle.server_words.specs.Savepoints.{is_named, own_at, up_to, with_savepoint, without}
use Rattle.server_words.specs.State.{State, nothing, session_at}
use Rattle.server_words.proofs.Marks.{each_up_to, each_without, own_at_one}
use Rattle.server_words.proofs.Members.{each_joined}
use Rattle.law_keys.proofs.Members.{In, in_joined}

abbrev pub MayHave : Session → Transaction → Type 0
MayHave session own = (own ≡ session.own) ⊎ ((x : Savepoint) × In x session.savepoints × (own ≡ x.own))

-- one for each session
abbrev pub IsChoice : State → (ℕ → Transaction) → Type 0
IsChoice state choice = (t : ℕ) → MayHave (session_at state t) (choice t)

-- ---- what is held at savepoints

-- no more is held
pub record IsLess (old new : Transaction) : Type 0 where
  pub rows : (row : ℕ) → In row old.rows → In row new.rows
  pub keys : (k : HeldKey) → In k old.keys → In k new.keys

pub less_self : (own : Transaction) → IsLess own own
less_self own = record { rows = λ row there. there; keys = λ k there. there }

less_more : (a b c : Transaction) → IsLess a b → IsLess b c → IsLess a c
less_more a b c first second = record { rows = λ row there. second.rows row (first.rows row there); keys = λ k there. second.keys k (first.keys k there) }

-- at each no more is held than at those behind it, and than now
abbrev pub Nested : List Savepoint → Transaction → Type 0
Nested [] own = Unit {0}
Nested (x ∷ xs) own = (AllByRecursion (λ (y : Savepoint). IsLess x.own y.own) xs × IsLess x.own own) × Nested xs own

pub nested_less : (xs : List Savepoint) (own : Transaction) (x : Savepoint) → Nested xs own → In x xs → IsLess x.own own
nested_less [] own x nested there = absurd there
nested_less (y ∷ xs) own x nested (inl same) = subst (λ (z : Savepoint). IsLess z.own own) (sym same) nested.0.1
nested_less (y ∷ xs) own x nested (inr there) = nested_less xs own x nested.1 there

pub nested_more : (xs : List Savepoint) (own new : Transaction) → IsLess own new → Nested xs own → Nested xs new
nested_more [] own new less nested = tt
nested_more (x ∷ xs) own new less nested = ((nested.0.0, less_more x.own own new nested.0.1 less), nested_more xs own new less nested.1)

nested_without : (name : List ℕ) (xs : List Savepoint) (own : Transaction) → Nested xs own → Nested (without name xs) own
nested_without name [] own nested = tt
nested_without name (x ∷ xs) own nested = elim (is_named name x) as (λ b. Nested (if b then xs else x ∷ without name xs) own) [
  | true ↦ nested.1
  | false ↦ ((each_without (λ (y : Savepoint). IsLess x.own y.own) name xs nested.0.0, nested.0.1), nested_without name xs own nested.1)
]

nested_push : (xs : List Savepoint) (x : Savepoint) → Nested xs x.own → Nested (xs ++ x ∷ []) x.own
nested_push [] x nested = ((tt, less_self x.own), tt)
nested_push (y ∷ xs) x nested = ((each_joined (λ (z : Savepoint). IsLess y.own z.own) xs (x ∷ []) nested.0.0 (nested.0.1, tt), nested.0.1), nested_push xs x nested.1)

-- with one more, at which all is held that is held now
pub nested_marked : (xs : List Savepoint) (x : Savepoint) → Nested xs x.own → Nested (with_savepoint xs x) x.own
nested_marked xs x nested = nested_push (without x.name xs) x (nested_without x.name xs x.own nested)

-- and back at one of them
pub nested_back : (name : List ℕ) (xs : List Savepoint) (own : Transaction) → Nested xs own → Nested (up_to name xs) (own_at name own xs)
nested_back name [] own nested = tt
nested_back name (x ∷ xs) own nested = elim (is_named name x) as (λ b. Nested (x ∷ (if b then [] else up_to name xs)) (if b then x.own else own_at name own xs)) [
  | true ↦ ((tt, less_self x.own), tt)
  | false ↦ (
    (each_up_to (λ (y : Savepoint). IsLess x.own y.own) name xs nested.0.0, own_at_one (IsLess x.own) name own xs nested.0.1 nested.0.0),
    nested_back name xs own nested.1,
  )
]

-- what the session may come to have holds no more than it does now
pub choice_less : (session : Session) (own : Transaction) → Nested session.savepoints session.own → MayHave session own → IsLess own session.own
choice_less session own nested (inl same) = subst (λ (o : Transaction). IsLess o session.own) (sym same) (less_self session.own)
choice_less session own nested (inr kept) = subst (λ (o : Transaction). IsLess o session.own) (sym kept.2) (nested_less session.savepoints session.own kept.0 nested kept.1)

-- ---- what is left to choose

in_without : (name : List ℕ) (xs : List Savepoint) (y : Savepoint) → In y (without name xs) → In y xs
in_without name [] y = λ there. there
in_without name (x ∷ xs) y = elim (is_named name x) as (λ b. In y (if b then xs else x ∷ without name xs) → In y (x ∷ xs)) [
  | true ↦ λ there. inr there
  | false ↦ λ there. elim there [ inl same ↦ inl same | inr later ↦ inr (in_without name xs y later) ]
]

in_up_to : (name : List ℕ) (xs : List Savepoint) (y : Savepoint) → In y (up_to name xs) → In y xs
in_up_to name [] y = λ there. there
in_up_to name (x ∷ xs) y = elim (is_named name x) as (λ b. In y (x ∷ (if b then [] else up_to name xs)) → In y (x ∷ xs)) [
  | true ↦ λ there. elim there [ inl same ↦ inl same | inr never ↦ absurd never ]
  | false ↦ λ there. elim there [ inl same ↦ inl same | inr later ↦ inr (in_up_to name xs y later) ]
]

-- after SAVEPOINT there is nothing else to go back to than what there is now and was
pub marked_choice : (session : Session) (name : List ℕ) (x : Savepoint) → In x (with_savepoint session.savepoints (record { name = name; own = session.own })) → MayHave session x.own
marked_choice session name x there = elim (in_joined x (without name session.savepoints) (record { name = name; own = session.own } ∷ []) there) [
  | inl old ↦ inr (x, in_without name session.savepoints x old, refl)
  | inr new ↦ (elim new [ inl same ↦ inl (ap (λ (y : Savepoint). y.own) same) | inr never ↦ absurd never ])
]

back_in : (name : List ℕ) (own : Transaction) (xs : List Savepoint) → (own_at name own xs ≡ own) ⊎ ((x : Savepoint) × In x xs × (own_at name own xs ≡ x.own))
back_in name own [] = inl refl
back_in name own (x ∷ xs) = elim (is_named name x) as (λ b. ((if b then x.own else own_at name own xs) ≡ own) ⊎ ((y : Savepoint) × In y (x ∷ xs) × ((if b then x.own else own_at name own xs) ≡ y.own))) [
  | true ↦ inr (x, inl refl, refl)
  | false ↦ elim (back_in name own xs) [ inl same ↦ inl same | inr found ↦ inr (found.0, inr found.1, found.2) ]
]

-- nor after ROLLBACK TO
pub back_choice : (session : Session) (name : List ℕ) → MayHave session (own_at name session.own session.savepoints)
back_choice session name = back_in name session.own session.savepoints

pub back_kept : (session : Session) (name : List ℕ) (x : Savepoint) → In x (up_to name session.savepoints) → MayHave session x.own
back_kept session name x there = inr (x, in_up_to name session.savepoints x there, refl)

-- ---- a session that has nothing, nor goes back to anything

pub record HasNothing (session : Session) : Type 0 where
  pub own : session.own ≡ nothing
  pub kept : AllByRecursion (λ (x : Savepoint). x.own ≡ nothing) session.savepoints
