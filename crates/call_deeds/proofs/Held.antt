-- What is told of a session, as it comes to hold and is freed.
use Rattle.std.proofs.Common.{◌≡◌, ℕ, ◌+◌, ◌<◌, Bool, true, false, ◌||◌, ◌&&◌, List, [], ◌∷◌, ◌++◌, length, take, get_or, Option, None, refl, sym, ap, subst, ◌∙◌, append_assoc}
use Rattle.std.specs.Prelude.{nat_eq, if◌then◌else◌}
use Rattle.std.specs.List.{list_any}
use Rattle.std.proofs.lemmas.List.{take_more}
use Rattle.std.proofs.Math.Seq.{take-append_seam}
use Rattle.desk_values.specs.declared.value.Image.{Image}
use Rattle.desk_values.specs.declared.value.Value.{Value}
use Rattle.desk_values.specs.Comparison.{same_key}
use Rattle.same_keys.proofs.Prints.{either}
use Rattle.hold_index.specs.Told.{Told, is_told, print_in, session_in}
use Rattle.hold_index.proofs.Telling.{has_print, one_taken}
use Rattle.server_words.specs.declared.session.HeldKey.{HeldKey}
use Rattle.server_words.specs.declared.session.Transaction.{Transaction}
use Rattle.server_words.specs.Writes.{is_held_key, with_key, with_row}
use Rattle.machine_stores.specs.Holds.{HoldsMove, prints_of}
use Rattle.call_deeds.specs.Inside.Holds.{HoldsPrints}
use Rattle.machine_stores.proofs.Telling.{along}
use Rattle.machine_stores.proofs.Held.{none_held}

-- the same of a key just as it is
exact : (table : ℕ) (key : Value) (keys : List HeldKey) → list_any (λ (held : HeldKey). nat_eq held.table table && same_key 1 key held.key) keys ≡ list_any (is_held_key table key) keys
exact table key [] = refl
exact table key (held ∷ keys) =
    ap (λ (b : Bool). (nat_eq held.table table && b) || list_any (λ (other : HeldKey). nat_eq other.table table && same_key 1 key other.key) keys) (either 1 key held.key)
    ∙ ap (λ (b : Bool). (nat_eq held.table table && same_key 1 held.key key) || b) (exact table key keys)

pub not_held : (told : Told) (session table : ℕ) (key : Value) (keys : List HeldKey) → HoldsPrints told session (prints_of keys) → told.is_kept ≡ true → is_told session (session_in told.prints (print_in table key)) ≡ false
    → list_any (is_held_key table key) keys ≡ false
not_held told session table key keys has kept free =
    sym (exact table key keys) ∙ none_held 1 table key keys (has_print told session (print_in table key) (prints_of keys) has kept ∙ free)

-- ---- what a session comes to hold

pub prints_more : (keys : List HeldKey) (held : HeldKey) → prints_of (keys ++ held ∷ []) ≡ prints_of keys ++ print_in held.table held.key ∷ []
prints_more [] held = refl
prints_more (first ∷ keys) held = ap (λ (l : List ℕ). print_in first.table first.key ∷ l) (prints_more keys held)

-- one more is taken out
pub taken_more : (keys : List HeldKey) (i : ℕ) (held : HeldKey) → i < length keys → held ≡ get_or keys i held → (n : ℕ) (first mid after : ℕ → Option ℕ)
    → ((k : ℕ) → mid k ≡ (if list_any (nat_eq k) (prints_of (take i keys)) then None else first k)) → ((k : ℕ) → after k ≡ (if nat_eq (print_in held.table held.key) k then None else mid k))
    → after n ≡ (if list_any (nat_eq n) (prints_of (take (i + 1) keys)) then None else first n)
taken_more keys i held within is n first mid after was now =
    let more : take i keys ++ held ∷ [] ≡ take (i + 1) keys = ap (λ (x : HeldKey). take i keys ++ x ∷ []) is ∙ sym (take_more keys i held within) in
    let prints : prints_of (take i keys) ++ print_in held.table held.key ∷ [] ≡ prints_of (take (i + 1) keys) = sym (prints_more (take i keys) held) ∙ ap (λ (l : List HeldKey). prints_of l) more in
    subst (λ (l : List ℕ). after n ≡ (if list_any (nat_eq n) l then None else first n)) prints (one_taken n (print_in held.table held.key) (prints_of (take i keys)) first mid after was now)

-- what stood in front stands there
pub row_more : (first held : List ℕ) (row : ℕ) → (more : List ℕ) × (held ≡ first ++ more) → (more : List ℕ) × (with_row held row ≡ first ++ more)
row_more first held row before = elim (list_any (nat_eq row) held) as (λ b. (more : List ℕ) × ((if b then held else held ++ row ∷ []) ≡ first ++ more)) [
  | true ↦ before
  | false ↦ (before.0 ++ row ∷ [], ap (λ (l : List ℕ). l ++ row ∷ []) before.1 ∙ append_assoc first before.0 (row ∷ []))
]

pub key_more : (table : ℕ) (first held : List HeldKey) (key : Value) → (more : List HeldKey) × (held ≡ first ++ more) → (more : List HeldKey) × (with_key table held key ≡ first ++ more)
key_more table first held key before = elim (list_any (is_held_key table key) held) as (λ b. (more : List HeldKey) × ((if b then held else held ++ record { table = table; key = key } ∷ []) ≡ first ++ more)) [
  | true ↦ before
  | false ↦ (before.0 ++ record { table = table; key = key } ∷ [], ap (λ (l : List HeldKey). l ++ record { table = table; key = key } ∷ []) before.1 ∙ append_assoc first before.0 (record { table = table; key = key } ∷ []))
]

pub front_back : {X : Type 0} (first held : List X) → (more : List X) × (held ≡ first ++ more) → take (length first) held ≡ first
front_back first held more = ap (take (length first)) more.1 ∙ take-append_seam first more.0

pub same_own : (a b : Transaction) → a.changes ≡ b.changes → a.rows ≡ b.rows → a.keys ≡ b.keys → a ≡ b
same_own a b changes rows keys = along (λ (x : List Image) (y : List ℕ) (z : List HeldKey). a ≡ record { changes = x; rows = y; keys = z }) changes rows keys refl

pub stays : (told : Told) (session : ℕ) (own : Transaction) → HoldsMove told told session own own
stays told session own rows prints are = are
