-- What is told of what sessions hold.
use Rattle.std.proofs.Common.{◌≡◌, ℕ, zero, suc, ◌+◌, ◌*◌, ◌%◌, ◌^◌, ◌<◌, Bool, true, false, ◌||◌, ◌&&◌, eqb, List, [], ◌∷◌, ◌++◌, length, take, drop, set, get_or, replicate, Option, refl, sym, ap, subst, ◌∙◌, true≢false, arith, get_or-set_same, get_or-set_other, get_or-append-add, take-append-drop}
use Rattle.std.specs.Prelude.{nat_eq, if◌then◌else◌}
use Rattle.std.specs.List.{list_any}
use Rattle.std.proofs.lemmas.Bool.{eqb-true, eq-eqb}
use Rattle.std.proofs.lemmas.List.{get_or_append_left}
use Rattle.std.proofs.lemmas.List.Folds.{list_any-append}
use Rattle.desk_values.specs.declared.value.Value.{Value}
use Rattle.desk_values.specs.Comparison.{same_key}
use Rattle.same_keys.specs.Print.{print_of}
use Rattle.same_keys.proofs.Prints.{share}
use Rattle.hold_index.specs.Told.{AreTold, Told, own_or, is_told, print_in, session_in}
use Rattle.hold_index.proofs.Telling.{all_same}
use Rattle.machine_stores.specs.declared.holds.Others.{Others}
use Rattle.server_words.specs.declared.session.HeldKey.{HeldKey}
use Rattle.server_words.specs.declared.session.Session.{Session}
use Rattle.server_words.specs.declared.session.Transaction.{Transaction}
use Rattle.server_words.specs.State.{disconnected, nothing}
use Rattle.server_words.specs.View.{holds_row}
use Rattle.machine_stores.specs.Holds.{holds_key, AreHeld, HoldsMove, IsBeside, IsHolder, prints_at, prints_of, rows_at}
use Rattle.machine_stores.specs.Inside.Holds.{is_within}
use Rattle.machine_stores.proofs.Holders.{any_told}
use Rattle.server_words.proofs.Looks.{front_of}

left_of : (a b : Bool) → (a && b) ≡ true → a ≡ true
left_of true b both = refl
left_of false b both = both

right_of : (a b : Bool) → (a && b) ≡ true → b ≡ true
right_of true b both = both
right_of false b both = absurd (true≢false (sym both))

parts_false : (a b : Bool) → (a || b) ≡ false → (a ≡ false) × (b ≡ false)
parts_false true b none = absurd (true≢false none)
parts_false false b none = (refl, none)

both_false : (a b : Bool) → a ≡ false → b ≡ false → (a || b) ≡ false
both_false true b first second = first
both_false false b first second = second

-- ---- what others hold

module _ (before after : List Session) (mine : Session) where
  before_at : (t : ℕ) → t < length before → get_or (before ++ mine ∷ after) t disconnected ≡ get_or before t disconnected
  before_at t below = get_or_append_left before (mine ∷ after) disconnected t below

  after_at : (t : ℕ) → get_or (before ++ mine ∷ after) (length before + 1 + t) disconnected ≡ get_or after t disconnected
  after_at t =
      let moved : length before + 1 + t ≡ length before + suc t = omega arith in
      ap (λ (n : ℕ). get_or (before ++ mine ∷ after) n disconnected) moved ∙ get_or-append-add before (mine ∷ after) (suc t) disconnected

  -- a number that each session is told of which has it among these
  any_beside : (numbers : Session → List ℕ) (told : ℕ → Option ℕ) (n : ℕ) → ((t : ℕ) → list_any (nat_eq n) (numbers (get_or (before ++ mine ∷ after) t disconnected)) ≡ is_told t (told n))
      → list_any (λ (s : Session). list_any (nat_eq n) (numbers s)) (before ++ after) ≡ (is_within 0 (length before) (told n) || is_within (length before + 1) (length after) (told n))
  any_beside numbers told n each =
      let has : Session → Bool = λ (s : Session). list_any (nat_eq n) (numbers s) in
      let first : list_any has before ≡ is_within 0 (length before) (told n) =
      any_told has disconnected (told n) before 0 (λ t below.
      let start : t ≡ 0 + t = omega arith in
      ap has (sym (before_at t below)) ∙ each t ∙ ap (λ (k : ℕ). is_told k (told n)) start) in
      let second : list_any has after ≡ is_within (length before + 1) (length after) (told n) =
      any_told has disconnected (told n) after (length before + 1) (λ t below. ap has (sym (after_at t)) ∙ each (length before + 1 + t)) in
      list_any-append has before after ∙ ap (λ (b : Bool). b || list_any has after) first ∙ ap (λ (b : Bool). is_within 0 (length before) (told n) || b) second

pub told_row : (others : Others) (row : ℕ) → IsBeside others → others.holds.now.is_kept ≡ true
    → list_any (holds_row row) (others.before.now ++ others.after.now)
    ≡ (is_within 0 (length others.before.now) (session_in others.holds.now.rows row) || is_within (length others.before.now + 1) (length others.after.now) (session_in others.holds.now.rows row))
told_row others row beside kept = any_beside others.before.now others.after.now beside.0 (λ (s : Session). s.own.rows) (session_in others.holds.now.rows) row (λ t. beside.1.of_rows kept t row)

-- ---- a key whose print nobody has, nobody holds

-- keys of a table that are one have one print
same_print : (level table : ℕ) (key : Value) (held : HeldKey) → (nat_eq held.table table && same_key level key held.key) ≡ true → print_in table key ≡ print_in held.table held.key
same_print level table key held is =
    let tables : held.table ≡ table = eqb-true held.table table (left_of (nat_eq held.table table) (same_key level key held.key) is) in
    let prints : print_of key ≡ print_of held.key = (share level key held.key (right_of (nat_eq held.table table) (same_key level key held.key) is)).print in
    ap (λ (p : ℕ). (table * 11400714819323198485 % 2 ^ 64 + p) % 2 ^ 64) prints ∙ ap (λ (t : ℕ). print_in t held.key) (sym tables)

module _ (level table : ℕ) (key : Value) where
  not_this : (held : HeldKey) → nat_eq (print_in table key) (print_in held.table held.key) ≡ false → (nat_eq held.table table && same_key level key held.key) ≡ false
  not_this held apart = elim (nat_eq held.table table && same_key level key held.key) as (λ b. (nat_eq held.table table && same_key level key held.key) ≡ b → b ≡ false) [
    | true ↦ λ is. absurd (true≢false (sym (eq-eqb (print_in table key) (print_in held.table held.key) (same_print level table key held is)) ∙ apart))
    | false ↦ λ is. refl
  ] refl

  pub none_held : (keys : List HeldKey) → list_any (nat_eq (print_in table key)) (prints_of keys) ≡ false → list_any (λ (held : HeldKey). nat_eq held.table table && same_key level key held.key) keys ≡ false
  none_held [] none = refl
  none_held (held ∷ keys) none =
      let both = parts_false (nat_eq (print_in table key) (print_in held.table held.key)) (list_any (nat_eq (print_in table key)) (prints_of keys)) none in
      both_false (nat_eq held.table table && same_key level key held.key) (list_any (λ (other : HeldKey). nat_eq other.table table && same_key level key other.key) keys) (not_this held both.0) (none_held keys both.1)

  none_hold : (sessions : List Session) → list_any (λ (s : Session). list_any (nat_eq (print_in table key)) (prints_of s.own.keys)) sessions ≡ false → list_any (holds_key level table key) sessions ≡ false
  none_hold [] none = refl
  none_hold (s ∷ sessions) none =
      let both = parts_false (list_any (nat_eq (print_in table key)) (prints_of s.own.keys)) (list_any (λ (other : Session). list_any (nat_eq (print_in table key)) (prints_of other.own.keys)) sessions) none in
      both_false (holds_key level table key s) (list_any (holds_key level table key) sessions) (none_held s.own.keys both.0) (none_hold sessions both.1)

pub free_key : (level : ℕ) (others : Others) (table : ℕ) (key : Value) → IsBeside others → others.holds.now.is_kept ≡ true
    → (is_within 0 (length others.before.now) (session_in others.holds.now.prints (print_in table key)) || is_within (length others.before.now + 1) (length others.after.now) (session_in others.holds.now.prints (print_in table key))) ≡ false
    → list_any (holds_key level table key) (others.before.now ++ others.after.now) ≡ false
free_key level others table key beside kept free =
    none_hold level table key (others.before.now ++ others.after.now)
    (any_beside others.before.now others.after.now beside.0 (λ (s : Session). prints_of s.own.keys) (session_in others.holds.now.prints) (print_in table key) (λ t. beside.1.of_prints kept t (print_in table key)) ∙ free)

-- ---- of all sessions

self_at : (held : ℕ → List ℕ) (s t : ℕ) → held t ≡ own_or s (held s) held t
self_at held s t = elim (eqb t s) as (λ b. eqb t s ≡ b → held t ≡ (if b then held s else held t)) [
  | true ↦ λ same. ap held (eqb-true t s same)
  | false ↦ λ apart. refl
] refl

-- each session's transaction is told, whatever the others hold
told_at : (told : Told) (sessions : List Session) (s : ℕ) (own : Transaction) → own ≡ (get_or sessions s disconnected).own → AreHeld told sessions → AreTold told (own_or s own.rows (rows_at sessions)) (own_or s (prints_of own.keys) (prints_at sessions))
told_at told sessions s own is are =
    all_same told (rows_at sessions) (own_or s own.rows (rows_at sessions)) (prints_at sessions) (own_or s (prints_of own.keys) (prints_at sessions))
    (λ t. self_at (rows_at sessions) s t ∙ ap (λ (o : Transaction). own_or s o.rows (rows_at sessions) t) (sym is))
    (λ t. self_at (prints_at sessions) s t ∙ ap (λ (o : Transaction). own_or s (prints_of o.keys) (prints_at sessions) t) (sym is))
    are

pub holder_at : (told : Told) (sessions : List Session) (s : ℕ) (own : Transaction) → own ≡ (get_or sessions s disconnected).own → AreHeld told sessions → IsHolder told s own
holder_at told sessions s own is are = (rows_at sessions, prints_at sessions, told_at told sessions s own is are)

set_at : {X : Type 0} (f : Session → X) (sessions : List Session) (s : ℕ) (new : Session) → s < length sessions → (t : ℕ)
    → (if nat_eq t s then f new else f (get_or sessions t disconnected)) ≡ f (get_or (set sessions s new) t disconnected)
set_at f sessions s new within t = elim (eqb t s) as (λ b. eqb t s ≡ b → (if b then f new else f (get_or sessions t disconnected)) ≡ f (get_or (set sessions s new) t disconnected)) [
  | true ↦ λ same. sym (ap (λ (k : ℕ). f (get_or (set sessions s new) k disconnected)) (eqb-true t s same) ∙ ap f (get_or-set_same sessions s new disconnected within))
  | false ↦ λ apart. sym (ap f (get_or-set_other sessions s t new disconnected (λ e. (let both : eqb t s ≡ true = eq-eqb t s e in cc))))
] refl

pub held_after : (old new : Told) (sessions : List Session) (s : ℕ) (own : Transaction) (left : Session) → s < length sessions → own ≡ (get_or sessions s disconnected).own → AreHeld old sessions → HoldsMove old new s own left.own → AreHeld new (set sessions s left)
held_after old new sessions s own left within is are moves =
    let now = moves (rows_at sessions) (prints_at sessions) (told_at old sessions s own is are) in
    all_same new (own_or s left.own.rows (rows_at sessions)) (rows_at (set sessions s left)) (own_or s (prints_of left.own.keys) (prints_at sessions)) (prints_at (set sessions s left))
    (set_at (λ (x : Session). x.own.rows) sessions s left within) (set_at (λ (x : Session). prints_of x.own.keys) sessions s left within) now

-- where the call changes nothing, what is told may
pub held_still : (old new : Told) (sessions : List Session) (s : ℕ) (own : Transaction) → own ≡ (get_or sessions s disconnected).own → AreHeld old sessions → HoldsMove old new s own own → AreHeld new sessions
held_still old new sessions s own is are moves =
    let now = moves (rows_at sessions) (prints_at sessions) (told_at old sessions s own is are) in
    all_same new (own_or s own.rows (rows_at sessions)) (rows_at sessions) (own_or s (prints_of own.keys) (prints_at sessions)) (prints_at sessions)
    (λ t. sym (self_at (rows_at sessions) s t ∙ ap (λ (o : Transaction). own_or s o.rows (rows_at sessions) t) (sym is)))
    (λ t. sym (self_at (prints_at sessions) s t ∙ ap (λ (o : Transaction). own_or s (prints_of o.keys) (prints_at sessions) t) (sym is)))
    now

pub set_same : (sessions : List Session) (s : ℕ) → s < length sessions → set sessions s (get_or sessions s disconnected) ≡ sessions
set_same [] s within = absurd (omega arith)
set_same (x ∷ sessions) zero within = refl
set_same (x ∷ sessions) (suc s) within = ap (λ (l : List Session). x ∷ l) (set_same sessions s (omega (arith, within)))

nobody_at : (n t : ℕ) → (get_or (replicate n disconnected) t disconnected).own ≡ nothing
nobody_at zero t = refl
nobody_at (suc n) zero = refl
nobody_at (suc n) (suc t) = nobody_at n t

-- nobody is connected
pub nobody_holds : (told : Told) (sessions : List Session) (n : ℕ) → sessions ≡ replicate n disconnected → AreTold told (λ session. []) (λ session. []) → AreHeld told sessions
nobody_holds told sessions n are none =
    subst (AreHeld told) (sym are)
    (all_same told (λ session. []) (rows_at (replicate n disconnected)) (λ session. []) (prints_at (replicate n disconnected))
    (λ t. sym (ap (λ (o : Transaction). o.rows) (nobody_at n t))) (λ t. sym (ap (λ (o : Transaction). prints_of o.keys) (nobody_at n t))) none)

-- the sessions are those beside one, and that one
pub whole : (sessions : List Session) (s : ℕ) (x : Session) → s < length sessions → get_or sessions s x ≡ x → take s sessions ++ x ∷ drop (s + 1) sessions ≡ sessions
whole sessions s x within is = ap (λ (l : List Session). take s sessions ++ l) (sym (front_of sessions s x within (sym is))) ∙ take-append-drop s sessions
