-- What is handed out of what a call can depend on.
use Rattle.std.proofs.Common.{◌≡◌, ℕ, ◌<◌, ◌≤◌, true, false, ◌||◌, List, [], ◌∷◌, ◌++◌, length, map, drop, append_assoc, ◌+◌, get_or, eq-eqb, Ok, refl, sym, ap, ◌∙◌, if◌then◌else◌, arith}
use Rattle.std.specs.Prelude.{MatchResult, nat_eq, Result, Err}
use Rattle.std.specs.Result.{is_ok}
use Rattle.std.specs.List.{filter, list_any}
use Rattle.std.specs.List.Sorted.{IsBinarySearchResult, IsPermutation, IsSorted}
use Rattle.std.specs.Ordering.{nat_cmp}
use Rattle.std.proofs.lemmas.Bool.{ne_eqb}
use Rattle.std.proofs.lemmas.List.{get_or_default}
use Rattle.std.proofs.lemmas.List.Folds.{list_any-append, list_any_at, list_any_none}
use Rattle.std.proofs.lemmas.List.Sorted.{IsNonDecreasingBy-from_sort, list_any-IsPermutation, searched}
use Rattle.desk_values.specs.declared.value.Image.{Image}
use Rattle.server_words.specs.declared.session.Session.{Session}
use Rattle.machine_model.specs.Footing.{rows_held}
use Rattle.server_words.specs.Request.{read}
use Rattle.server_words.specs.Rows.{row_numbers}
use Rattle.server_words.specs.View.{is_held}
use Rattle.server_words.proofs.Looks.{front_of}

-- one more is seen
pub one_more : {X Y : Type 0} (f : X → Y) (done after : List Y) (xs : List X) (i : ℕ) (x : X) (y : Y) → i < length xs → x ≡ get_or xs i x → y ≡ f x → after ≡ done ++ y ∷ [] → after ++ map f (drop (i + 1) xs) ≡ done ++ map f (drop i xs)
one_more f done after xs i x y within read is pushed =
    let rest = map f (drop (i + 1) xs) in
    ap (λ l. l ++ rest) pushed ∙ append_assoc done (y ∷ []) rest ∙ ap (λ z. done ++ z ∷ rest) is ∙ ap (λ l. done ++ map f l) (sym (front_of xs i x within read))

-- ---- held rows

held_among : (row : ℕ) (sessions : List Session) → list_any (nat_eq row) (rows_held sessions) ≡ list_any (λ (s : Session). list_any (nat_eq row) s.own.rows) sessions
held_among row [] = refl
held_among row (session ∷ sessions) =
    list_any-append (nat_eq row) session.own.rows (rows_held sessions) ∙ ap (λ b. list_any (nat_eq row) session.own.rows || b) (held_among row sessions)

module _ (sessions : List Session) (numbers : List ℕ) (moved : IsPermutation (rows_held sessions) numbers) where
  pub held_numbers : (rows : List Image) → filter (λ number. list_any (nat_eq number) numbers) (row_numbers rows) ≡ row_numbers (filter (is_held sessions) rows)
  held_numbers [] = refl
  held_numbers (image ∷ rows) =
      let same : list_any (nat_eq image.row) numbers ≡ is_held sessions image = sym (list_any-IsPermutation (nat_eq image.row) (rows_held sessions) numbers moved) ∙ held_among image.row sessions in
      let rest = held_numbers rows in
      rw same (elim (is_held sessions image) as (λ b. (if b then image.row ∷ filter (λ number. list_any (nat_eq number) numbers) (row_numbers rows) else filter (λ number. list_any (nat_eq number) numbers) (row_numbers rows)) ≡ row_numbers (if b then image ∷ filter (is_held sessions) rows else filter (is_held sessions) rows)) [
        | true ↦ ap (λ l. image.row ∷ l) rest
        | false ↦ rest
      ])

-- it is above what stands below a place, and below all else
apart : (number got i k : ℕ) → (k < i → got < number) → (i ≤ k → number < got) → number ≡ got → ⊥
apart number got i k below above same = grind arith

-- a binary search tells whether a number stands among numbers that ascend
module _ (numbers : List ℕ) (number : ℕ) where
  found_so : (r : Result ℕ ℕ) → MatchResult r (λ i. (i < length numbers) × (get_or numbers i 0 ≡ number)) (λ i. (i ≤ length numbers) × ((k : ℕ) → k < i → get_or numbers k 0 < number) × ((k : ℕ) → i ≤ k → k < length numbers → number < get_or numbers k 0))
      → is_ok r ≡ list_any (nat_eq number) numbers
  found_so (Ok i) found = sym (list_any_at (nat_eq number) numbers i 0 found.0 (eq-eqb number (get_or numbers i 0) (sym found.1)))
  found_so (Err i) gap = sym (list_any_none (nat_eq number) numbers (λ k d within. ne_eqb number (get_or numbers k d) (λ same.
      apart number (get_or numbers k 0) i k (gap.1 k) (λ low. gap.2 k low within) (same ∙ get_or_default numbers k d 0 within))))

  pub found_among : (r : Result ℕ ℕ) → IsSorted nat_cmp numbers → IsBinarySearchResult (λ y. nat_cmp y number) numbers r → is_ok r ≡ list_any (nat_eq number) numbers
  found_among r up found = found_so r (searched numbers number r found (λ i j le within. IsNonDecreasingBy-from_sort (λ n. n) numbers up i j 0 le within))
