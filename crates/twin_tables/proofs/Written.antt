-- What is told of rows where nothing was written, and where more is written.
use Rattle.std.proofs.Common.{◌≡◌, ◌∙◌, ℕ, zero, suc, ◌+◌, ◌<◌, ◌≤◌, Bool, true, false, ◌&&◌, ◌||◌, if◌then◌else◌, List, [], ◌∷◌, ◌++◌, length, take, drop, Option, None, Some, refl, sym, ap, subst, ⊎_elim, arith}
use Rattle.std.specs.Prelude.{nat_eq, nat_le, slice_get}
use Rattle.std.specs.List.{AllByRecursion, list_any}
use Rattle.std.proofs.Math.Bool.{or-false}
use Rattle.std.proofs.lemmas.Bool.{and_cases, and_left, and_right, le-leb, leb-false, leb-true, lt-leb, or_from, or_parts}
use Rattle.std.proofs.lemmas.List.{drop-append-le}
use Rattle.std.proofs.lemmas.List.Folds.{list_any-append}
use Rattle.desk_values.specs.declared.value.Image.{Image}
use Rattle.row_versions.specs.History.{Written, is_of_row, is_up_to, left_of, or_else, row_at}
use Rattle.twin_tables.specs.Differences.{IsUpTo, is_written}
use Rattle.twin_tables.specs.Inside.Judging.{next_due}
use Rattle.twin_tables.specs.Ledger.{NumbersRise, change_of, changes_of, told}

-- what is read of a row at a number of this one, if it is of the row and not later
abbrev read_of : ℕ → ℕ → Written → Option Image
read_of row number w = if is_of_row row w && is_up_to number w then Some w.image else None

abbrev choose : Written → Bool → Option Image
choose w b = if b then Some w.image else None

-- a test that fails for a later number fails for this one
less_still : (w : Written) (n m row : ℕ) → n ≤ m → (nat_eq w.image.row row && nat_le w.number m) ≡ false → (nat_eq w.image.row row && nat_le w.number n) ≡ false
less_still w n m row le none = ⊎_elim
    (λ apart. and_left (nat_eq w.image.row row) (nat_le w.number n) apart)
    (λ later. and_right (nat_eq w.image.row row) (nat_le w.number n) (lt-leb w.number n (let over : m < w.number = leb-false w.number m later in omega (arith, le, over))))
    (and_cases (nat_eq w.image.row row) (nat_le w.number m) none)

pub written_less : (list : List Written) (n m row : ℕ) → n ≤ m → is_written list m row ≡ false → is_written list n row ≡ false
written_less [] n m row le none = refl
written_less (w ∷ list) n m row le none =
    let parts = or_parts (nat_eq w.image.row row && nat_le w.number m) (is_written list m row) none in
    or_from (nat_eq w.image.row row && nat_le w.number n) (is_written list n row) (less_still w n m row le parts.0) (written_less list n m row le parts.1)

-- a row that was not written up to a number is not told there
row_unwritten : (list : List Written) (n row : ℕ) → is_written list n row ≡ false → row_at list row n ≡ None
row_unwritten [] n row none = refl
row_unwritten (w ∷ list) n row none =
    let parts = or_parts (nat_eq w.image.row row && nat_le w.number n) (is_written list n row) none in
    ap (λ (o : Option Image). or_else o (read_of row n w)) (row_unwritten list n row parts.1) ∙ ap (choose w) parts.0

pub told_unwritten : (list : List Written) (n row : ℕ) → is_written list n row ≡ false → told list n row ≡ None
told_unwritten list n row none = ap left_of (row_unwritten list n row none)

-- ---- between two numbers

row_stays : (list : List Written) (place n m row : ℕ) → n ≤ m → AllByRecursion (IsUpTo n) (take place list) → is_written (drop place list) m row ≡ false → row_at list row m ≡ row_at list row n
row_stays [] place n m row le before none = refl
row_stays (w ∷ list) zero n m row le before none =
    let parts = or_parts (nat_eq w.image.row row && nat_le w.number m) (is_written list m row) none in
    ap (λ (o : Option Image). or_else o (read_of row m w)) (row_stays list zero n m row le tt parts.1)
    ∙ ap (λ (b : Bool). or_else (row_at list row n) (choose w b)) (parts.0 ∙ sym (less_still w n m row le parts.0))
row_stays (w ∷ list) (suc place) n m row le before none =
    let soon : nat_le w.number n ≡ true = le-leb w.number n before.0 in
    let late : nat_le w.number m ≡ true = le-leb w.number m (let low = before.0 in omega (arith, low, le)) in
    ap (λ (o : Option Image). or_else o (read_of row m w)) (row_stays list place n m row le before.1 none)
    ∙ ap (λ (b : Bool). or_else (row_at list row n) (choose w (nat_eq w.image.row row && b))) (late ∙ sym soon)

-- where a row was not written from a place on, and nothing before it is later than the first number, both tell the same
pub told_stays : (list : List Written) (place n m row : ℕ) → n ≤ m → AllByRecursion (IsUpTo n) (take place list) → is_written (drop place list) m row ≡ false → told list m row ≡ told list n row
told_stays list place n m row le before none = ap left_of (row_stays list place n m row le before none)

-- ---- where one more is written by a later commit

row_more : (list : List Written) (w : Written) (n row : ℕ) → n < w.number → row_at (list ++ w ∷ []) row n ≡ row_at list row n
row_more [] w n row later = ap (choose w) (and_right (nat_eq w.image.row row) (nat_le w.number n) (lt-leb w.number n later))
row_more (v ∷ list) w n row later = ap (λ (o : Option Image). or_else o (read_of row n v)) (row_more list w n row later)

pub told_more : (list : List Written) (w : Written) (n row : ℕ) → n < w.number → told (list ++ w ∷ []) n row ≡ told list n row
told_more list w n row later = ap left_of (row_more list w n row later)

pub written_more : (list : List Written) (w : Written) (place n row : ℕ) → place ≤ length list → n < w.number → is_written (drop place (list ++ w ∷ [])) n row ≡ is_written (drop place list) n row
written_more list w place n row within later =
    let test : Written → Bool = λ (v : Written). nat_eq v.image.row row && nat_le v.number n in
    let fails : test w ≡ false = and_right (nat_eq w.image.row row) (nat_le w.number n) (lt-leb w.number n later) in
    ap (λ (l : List Written). list_any test l) (drop-append-le place list (w ∷ []) within)
    ∙ list_any-append test (drop place list) (w ∷ [])
    ∙ ap (λ (b : Bool). list_any test (drop place list) || (b || false)) fails
    ∙ or-false (list_any test (drop place list))

-- ---- where none is due

all_later : (list : List Written) (low n row : ℕ) → NumbersRise low list → n < low → is_written list n row ≡ false
all_later [] low n row rise later = refl
all_later (w ∷ list) low n row rise later =
    let over : n < w.number = omega (arith, rise.0, later) in
    or_from (nat_eq w.image.row row && nat_le w.number n) (is_written list n row) (and_right (nat_eq w.image.row row) (nat_le w.number n) (lt-leb w.number n over)) (all_later list w.number n row rise.1 over)

some_apart : {X : Type 0} (x : X) → Some x ≡ None → ⊥
some_apart x e = absurd cc

pub none_due : (list : List Written) (low place n row : ℕ) → NumbersRise low list → next_due n (slice_get (changes_of list) place) ≡ None → is_written (drop place list) n row ≡ false
none_due [] low zero n row rise none = refl
none_due [] low (suc place) n row rise none = refl
none_due (w ∷ list) low zero n row rise none = by (nat_le w.number n) refl
  where
    by : (b : Bool) → nat_le w.number n ≡ b → is_written (w ∷ list) n row ≡ false
    by true is = absurd (some_apart w.image.row (sym (ap (λ (c : Bool). if c then Some w.image.row else None) is) ∙ none))
    by false is =
        let over : n < w.number = leb-false w.number n is in
        or_from (nat_eq w.image.row row && nat_le w.number n) (is_written list n row) (and_right (nat_eq w.image.row row) (nat_le w.number n) is) (all_later list w.number n row rise.1 over)
none_due (w ∷ list) low (suc place) n row rise none = none_due list w.number place n row rise.1 none

-- the change that is due at a place
pub due_at : (list : List Written) (place n row : ℕ) → Some row ≡ next_due n (slice_get (changes_of list) place) → (w : Written) × (slice_get list place ≡ Some w) × (w.image.row ≡ row) × (w.number ≤ n)
due_at [] zero n row due = absurd cc
due_at [] (suc place) n row due = absurd cc
due_at (w ∷ list) zero n row due = by (nat_le w.number n) refl
  where
    by : (b : Bool) → nat_le w.number n ≡ b → (v : Written) × (slice_get (w ∷ list) zero ≡ Some v) × (v.image.row ≡ row) × (v.number ≤ n)
    by true is =
        let same : Some row ≡ Some w.image.row = due ∙ ap (λ (c : Bool). if c then Some w.image.row else None) is in
        (w, refl, (let back : w.image.row ≡ row = cc in back), leb-true w.number n is)
    by false is = absurd (some_apart row (due ∙ ap (λ (c : Bool). if c then Some w.image.row else None) is))
due_at (w ∷ list) (suc place) n row due = due_at list place n row due

-- numbers rise where a greatest goes last
pub rise_push : (list : List Written) (low : ℕ) (w : Written) → NumbersRise low list → low ≤ w.number → AllByRecursion (λ (v : Written). v.number ≤ w.number) list → NumbersRise low (list ++ w ∷ [])
rise_push [] low w rise least all = (least, tt)
rise_push (v ∷ list) low w rise least all = (rise.0, rise_push list v.number w rise.1 all.0 all.1)
