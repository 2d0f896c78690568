-- The steps of a loop that lays changes over rows that it looks at.
use Rattle.std.proofs.Common.{Bool, true, false, if◌then◌else◌, ◌≡◌, ℕ, ◌+◌, ◌<◌, List, [], ◌∷◌, ◌++◌, length, map, get_or, drop, refl, sym, ap, subst, suc, ◌∙◌, append_assoc, add-one, drop-cons, arith}
use Rattle.std.proofs.lemmas.List.{get_or_default}
use Rattle.std.specs.List.{filter}
use denote.Ref.{Bor}
use Rattle.desk_values.specs.declared.value.Image.{Image}
use Rattle.server_words.specs.Rows.{IsRising, RisesFrom, lay, lay_all, of_table, shown}
use Rattle.sql_eval.specs.Totals.{looked_at}
use Rattle.server_words.specs.declared.session.Session.{Session}
use Rattle.server_words.specs.View.{commits_seen, rows_seen}
use Rattle.server_words.proofs.Laying.{lay_below, lay_over, lay_between, lay_last, rises_less, rising_lay, rising_lay_all}

pub looked_push : (seen : List (Bor Image)) (r : Bor Image) → looked_at (seen ++ r ∷ []) ≡ looked_at seen ++ r.now ∷ []
looked_push [] r = refl
looked_push (s ∷ seen) r = ap (λ l. s.now ∷ l) (looked_push seen r)

-- one more is seen
pub seen_more : (seen : List (Bor Image)) (r : Bor Image) (rest : List Image) → looked_at seen ++ r.now ∷ rest ≡ looked_at (seen ++ r ∷ []) ++ rest
seen_more seen r rest = rw (looked_push seen r, append_assoc) refl

-- the item that was read stands in front of what is left
pub front_of : {X : Type 0} (xs : List X) (i : ℕ) (x : X) → i < length xs → x ≡ get_or xs i x → drop i xs ≡ x ∷ drop (i + 1) xs
front_of xs i x within read = rw (add-one, drop-cons xs i x within) (ap (λ y. y ∷ drop (suc i) xs) (sym read))

-- a test of the row at a place is one of the image that was read there
pub row_read : (rows : List (Bor Image)) (i : ℕ) (P : ℕ → Type 0) (d r : Bor Image) → i < length rows → P (get_or rows i d).now.row → r ≡ get_or rows i r → P r.now.row
row_read rows i P d r within holds read = let Q : Bor Image → Type 0 = λ (x : Bor Image). P x.now.row in subst Q (get_or_default rows i d r within ∙ sym read) holds

pub rising_rest : (x : Image) (xs all : List Image) → all ≡ x ∷ xs → IsRising all → IsRising xs
rising_rest x xs all is up = let up_cons : IsRising (x ∷ xs) = subst IsRising is up in rises_less _ 0 xs (omega arith) up_cons.1

shown_more : (seen : List (Bor Image)) (after : List (Bor Image)) (c : Image) (rest : List Image) → looked_at after ≡ looked_at seen ++ shown c → looked_at seen ++ (shown c ++ rest) ≡ looked_at after ++ rest
shown_more seen after c rest shows = rw (shows, append_assoc) refl

module _ (seen base : List (Bor Image)) (over later : List Image) (c : Image) (is : over ≡ c ∷ later) (up : IsRising over) where
  pub seen_below : (r : Bor Image) (rest : List (Bor Image)) → base ≡ r ∷ rest → r.now.row < c.row → looked_at seen ++ lay (looked_at base) over ≡ looked_at (seen ++ r ∷ []) ++ lay (looked_at rest) over
  seen_below r rest front lt = rw (front, is) (ap (λ l. looked_at seen ++ l) (lay_below c later 0 (subst IsRising is up) r.now (looked_at rest) lt) ∙ seen_more seen r _)

  module _ (after : List (Bor Image)) (shows : looked_at after ≡ looked_at seen ++ shown c) where
    pub seen_over : (r : Bor Image) (rest : List (Bor Image)) → base ≡ r ∷ rest → r.now.row ≡ c.row → looked_at seen ++ lay (looked_at base) over ≡ looked_at after ++ lay (looked_at rest) later
    seen_over r rest front equal = rw (front, is) (ap (λ l. looked_at seen ++ l) (lay_over c later 0 (subst IsRising is up) r.now (looked_at rest) equal) ∙ shown_more seen after c _ shows)

    pub seen_between : (r : Bor Image) (rest : List (Bor Image)) → base ≡ r ∷ rest → c.row < r.now.row → looked_at seen ++ lay (looked_at base) over ≡ looked_at after ++ lay (looked_at base) later
    seen_between r rest front lt = rw (front, is) (ap (λ l. looked_at seen ++ l) (lay_between c later 0 (subst IsRising is up) r.now (looked_at rest) lt) ∙ shown_more seen after c _ shows)

    pub seen_last : base ≡ [] → looked_at seen ++ lay (looked_at base) over ≡ looked_at after ++ lay (looked_at base) later
    seen_last none = rw (none, is) (ap (λ l. looked_at seen ++ l) (lay_last c later 0 (subst IsRising is up)) ∙ shown_more seen after c _ shows)

-- what stays of rising rows rises
pub filtered_from : (p : Image → Bool) (n : ℕ) (xs : List Image) → RisesFrom n xs → RisesFrom n (filter p xs)
filtered_from p n [] up = tt
filtered_from p n (x ∷ xs) up =
    elim (p x) as (λ b. RisesFrom n (if b then x ∷ filter p xs else filter p xs)) [
      | true ↦ (up.0, filtered_from p (x.row + 1) xs up.1)
      | false ↦ rises_less (x.row + 1) n (filter p xs) (omega (arith, up.0)) (filtered_from p (x.row + 1) xs up.1)
    ]

pub rising_of_table : (table : ℕ) (xs : List Image) → IsRising xs → IsRising (of_table table xs)
rising_of_table table xs up = filtered_from _ 0 xs up

-- what a session sees rises
pub rising_seen : (start : List Image) (commits : List (List Image)) (session : Session) (table : ℕ) → IsRising start → IsRising (rows_seen start commits session table)
rising_seen start commits session table up =
    rising_lay (lay_all (of_table table start) (map (of_table table) (commits_seen session.snapshot commits))) (of_table table session.own.changes) (rising_lay_all (of_table table start) (map (of_table table) (commits_seen session.snapshot commits)) (rising_of_table table start up))
