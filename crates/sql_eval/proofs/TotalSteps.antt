-- Steps of the loops over rows.
use Rattle.std.proofs.Common.{◌≡◌, ℕ, ◌+◌, ◌<◌, ◌≤◌, List, [], ◌∷◌, length, drop, get_or, refl, ap, sym, ◌∙◌, add-one, drop-cons, drop_of_length-le}
use Rattle.std.proofs.Math.Bool.{or-false, or_assoc}
use denote.Ref.{Bor}
use Rattle.desk_values.specs.declared.value.Image.{Image}
use Rattle.std.specs.Prelude.{false, Option, None, Some, Result, Ok, Err}
use Rattle.std.specs.List.{list_any, filter_map, cons_option, reduce}
use Rattle.std.specs.Result.{result_ok}
use Rattle.desk_values.specs.declared.value.Value.{Value}
use Rattle.desk_values.specs.declared.fault.Fault.{Fault}
use Rattle.sql_eval.specs.declared.faults.Faults.{Faults}
use Rattle.sql_eval.specs.Faults.{divides, overflows, any_fault, joined, noted, told}
use Rattle.sql_eval.specs.Totals.{looked_at, members, over}
use Rattle.sql_eval.specs.Inside.ValueRef.{ref_outcome}
use Rattle.sql_eval.specs.declared.value_ref.ValueRef.{ValueRef}

-- a fault is the same where a value is borrowed
pub noted_borrowed : (faults : Faults) (outcome : Result ValueRef Fault) → noted faults outcome ≡ noted faults (ref_outcome outcome)
unfolding noted
noted_borrowed faults (Ok value) = refl
noted_borrowed faults (Err fault) = refl

-- the rows from one on
rows_from : (rows : List (Bor Image)) (i : ℕ) (row : Bor Image) → i < length rows → row ≡ get_or rows i row → looked_at (drop i rows) ≡ row.now ∷ looked_at (drop (i + 1) rows)
rows_from rows i row inside e = rw (add-one, drop-cons rows i row, ← e) refl

no_rows_from : (rows : List (Bor Image)) (i : ℕ) → length rows ≤ i → looked_at (drop i rows) ≡ []
no_rows_from rows i h = ap looked_at (drop_of_length-le rows {i = i} h)

module _ {A : Type 0} (part : Image → Result A Fault) (rows : List (Bor Image)) (i : ℕ) where
  -- ---- the faults

  noted_first : (faults : Faults) (outcome : Result A Fault) (row : Image) (others : List Image) → outcome ≡ part row → joined (noted faults outcome) (any_fault part others) ≡ joined faults (any_fault part (row ∷ others))
  unfolding joined noted any_fault
  noted_first faults outcome row others e = rw (e, or_assoc faults.divides (divides (part row)) (list_any (λ r. divides (part r)) others), or_assoc faults.overflows (overflows (part row)) (list_any (λ r. overflows (part r)) others)) refl

  pub noted_row : (faults new : Faults) (outcome : Result A Fault) (row : Bor Image) → i < length rows → row ≡ get_or rows i row → outcome ≡ part row.now → new ≡ noted faults outcome
      → joined faults (any_fault part (looked_at (drop i rows))) ≡ any_fault part (looked_at rows)
      → joined new (any_fault part (looked_at (drop (i + 1) rows))) ≡ any_fault part (looked_at rows)
  noted_row faults new outcome row inside e o n before =
      ap (λ f. joined f (any_fault part (looked_at (drop (i + 1) rows)))) n
      ∙ noted_first faults outcome row.now (looked_at (drop (i + 1) rows)) o
      ∙ ap (λ (others : List Image). joined faults (any_fault part others)) (sym (rows_from rows i row inside e))
      ∙ before

  joined_none : (faults : Faults) → joined faults (any_fault part []) ≡ faults
  unfolding joined any_fault
  joined_none faults = rw (or-false faults.divides, or-false faults.overflows) refl

  pub all_noted : (faults : Faults) → length rows ≤ i → joined faults (any_fault part (looked_at (drop i rows))) ≡ any_fault part (looked_at rows) → faults ≡ any_fault part (looked_at rows)
  all_noted faults h before = sym (joined_none faults) ∙ ap (λ (others : List Image). joined faults (any_fault part others)) (sym (no_rows_from rows i h)) ∙ before

module _ (part : Image → Result Value Fault) (rows : List (Bor Image)) (i : ℕ) where
  -- ---- what is chosen of the values

  module _ {A : Type 0} (f : A → A → A) (choose : Value → Option A) where
    chosen_first : (so_far : Option A) (outcome : Result Value Fault) (values : List Value) →
        reduce f (cons_option (reduce f (cons_option so_far (filter_map choose (cons_option (result_ok outcome) [])))) (filter_map choose values))
        ≡ reduce f (cons_option so_far (filter_map choose (cons_option (result_ok outcome) values)))
    chosen_first so_far (Ok value) values = one so_far (choose value) (filter_map choose values)
      where
        one : (s n : Option A) (xs : List A) → reduce f (cons_option (reduce f (cons_option s (cons_option n []))) xs) ≡ reduce f (cons_option s (cons_option n xs))
        one None None xs = refl
        one None (Some n) xs = refl
        one (Some s) None xs = refl
        one (Some s) (Some n) xs = refl
    chosen_first so_far (Err fault) values = alone so_far (filter_map choose values)
      where
        alone : (s : Option A) (xs : List A) → reduce f (cons_option (reduce f (cons_option s [])) xs) ≡ reduce f (cons_option s xs)
        alone None xs = refl
        alone (Some s) xs = refl

    pub chosen_row : (so_far new : Option A) (outcome : Result Value Fault) (row : Bor Image) → i < length rows → row ≡ get_or rows i row → outcome ≡ part row.now
        → new ≡ reduce f (cons_option so_far (filter_map choose (cons_option (result_ok outcome) [])))
        → reduce f (cons_option so_far (filter_map choose (members part (looked_at (drop i rows))))) ≡ reduce f (filter_map choose (members part (looked_at rows)))
        → reduce f (cons_option new (filter_map choose (members part (looked_at (drop (i + 1) rows))))) ≡ reduce f (filter_map choose (members part (looked_at rows)))
    chosen_row so_far new outcome row inside e o n before =
        let others = members part (looked_at (drop (i + 1) rows)) in
        ap (λ (s : Option A). reduce f (cons_option s (filter_map choose others))) n
        ∙ chosen_first so_far outcome others
        ∙ ap (λ (r : Result Value Fault). reduce f (cons_option so_far (filter_map choose (cons_option (result_ok r) others)))) o
        ∙ ap (λ (rs : List Image). reduce f (cons_option so_far (filter_map choose (members part rs)))) (sym (rows_from rows i row inside e))
        ∙ before

    reduce_end : (so_far : Option A) → reduce f (cons_option so_far []) ≡ so_far
    reduce_end None = refl
    reduce_end (Some a) = refl

    pub all_chosen : (so_far : Option A) → length rows ≤ i
        → reduce f (cons_option so_far (filter_map choose (members part (looked_at (drop i rows))))) ≡ reduce f (filter_map choose (members part (looked_at rows)))
        → so_far ≡ reduce f (filter_map choose (members part (looked_at rows)))
    all_chosen so_far h before = sym (reduce_end so_far) ∙ ap (λ (rs : List Image). reduce f (cons_option so_far (filter_map choose (members part rs)))) (sym (no_rows_from rows i h)) ∙ before

  -- ---- the end

  pub told_over : (of : List Value → Result Value Fault) (faults : Faults) (fault : Fault) → faults ≡ any_fault part (looked_at rows) → Some fault ≡ told faults → over of part (looked_at rows) ≡ Err fault
  told_over of faults fault e t = rw (← e, ← t) refl

  pub untold_over : (of : List Value → Result Value Fault) (faults : Faults) → faults ≡ any_fault part (looked_at rows) → None ≡ told faults → over of part (looked_at rows) ≡ of (members part (looked_at rows))
  untold_over of faults e t = rw (← e, ← t) refl

pub none_joined : (faults : Faults) → joined (record { divides = false; overflows = false }) faults ≡ faults
unfolding joined
none_joined faults = refl
