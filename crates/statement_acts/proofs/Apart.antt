-- What is spared where an UPDATE moves no key.
use Rattle.std.proofs.Common.{◌≡◌, ℕ, Bool, true, false, not, ◌||◌, if◌then◌else◌, List, [], ◌∷◌, ◌++◌, map, Option, refl, sym, ap, ◌∙◌, true≢false}
use Rattle.std.specs.List.{AllByRecursion, filter, list_any}
use Rattle.desk_values.specs.declared.value.Value.{Value}
use Rattle.desk_values.specs.declared.value.Image.{Image}
use Rattle.desk_values.specs.Comparison.{same_key}
use Rattle.same_keys.proofs.Prints.{either, share}
use Rattle.sql_tree.specs.Plain.{Change, Term}
use Rattle.server_words.specs.Found.{Environment, matches, matching}
use Rattle.server_words.specs.Rows.{IsRising, lay, row_key}
use Rattle.server_words.specs.Writes.{keys_moved, moved_keys, repeats_key, updated}
use Rattle.machine_stores.proofs.Numbers.{made_laid}

-- ---- where an UPDATE moves no key

none_left : {X : Type 0} (a b : List X) → a ++ b ≡ [] → a ≡ []
none_left [] b none = refl
none_left (x ∷ a) b none = absurd cc

none_right : {X : Type 0} (a b : List X) → a ++ b ≡ [] → b ≡ []
none_right [] b none = none
none_right (x ∷ a) b none = absurd cc

module _ (env : Environment) (changes : List (Change ℕ)) (test : Image → Bool) where
  -- the row as it is behind the UPDATE
  abbrev made : Image → Image
  made x = if test x then updated env changes x else x

  -- its key is one with the same keys as before
  abbrev IsAlike : Image → Type 0
  IsAlike x = (key : Value) → same_key env.level key (row_key x) ≡ same_key env.level key (row_key (made x))

  not_moved : (x : Image) → keys_moved env changes x ≡ [] → same_key env.level (row_key x) (row_key (updated env changes x)) ≡ true
  not_moved x none =
      elim (same_key env.level (row_key x) (row_key (updated env changes x))) as (λ b. (if not b then row_key x ∷ row_key (updated env changes x) ∷ [] else []) ≡ [] → b ≡ true) [
        | true ↦ λ still. refl
        | false ↦ λ moves. absurd cc
      ] none

  one_alike : (x : Image) → (test x ≡ true → keys_moved env changes x ≡ []) → IsAlike x
  one_alike x still =
      elim (test x) as (λ b. test x ≡ b → (key : Value) → same_key env.level key (row_key x) ≡ same_key env.level key (row_key (if b then updated env changes x else x))) [
        | true ↦ λ passes key. (share env.level (row_key x) (row_key (updated env changes x)) (not_moved x (still passes))).others key
        | false ↦ λ fails key. refl
      ] refl

  all_alike : (rows : List Image) → moved_keys env changes (filter test rows) ≡ [] → AllByRecursion IsAlike rows
  all_alike [] none = tt
  all_alike (x ∷ rows) none =
      elim (test x) as (λ b. test x ≡ b → moved_keys env changes (if b then x ∷ filter test rows else filter test rows) ≡ [] → IsAlike x × AllByRecursion IsAlike rows) [
        | true ↦ λ passes all. (
          one_alike x (λ again. none_left (keys_moved env changes x) (moved_keys env changes (filter test rows)) all),
          all_alike rows (none_right (keys_moved env changes x) (moved_keys env changes (filter test rows)) all),
        )
        | false ↦ λ fails all. (one_alike x (λ passes. absurd (true≢false (sym passes ∙ fails))), all_alike rows all)
      ] refl none

  any_alike : (x : Image) → IsAlike x → (rows : List Image) → AllByRecursion IsAlike rows → list_any (same_key env.level (row_key x)) (map row_key rows) ≡ list_any (same_key env.level (row_key (made x))) (map row_key (map made rows))
  any_alike x like [] each = refl
  any_alike x like (y ∷ rows) each =
      let here : same_key env.level (row_key x) (row_key y) ≡ same_key env.level (row_key (made x)) (row_key (made y)) =
      each.0 (row_key x) ∙ either env.level (row_key x) (row_key (made y)) ∙ like (row_key (made y)) ∙ either env.level (row_key (made y)) (row_key (made x)) in
      ap (λ (b : Bool). b || list_any (same_key env.level (row_key x)) (map row_key rows)) here
      ∙ ap (λ (b : Bool). same_key env.level (row_key (made x)) (row_key (made y)) || b) (any_alike x like rows each.1)

  repeats_alike : (rows : List Image) → AllByRecursion IsAlike rows → repeats_key env.level (map row_key rows) ≡ repeats_key env.level (map row_key (map made rows))
  unfolding repeats_key
  repeats_alike [] each = refl
  repeats_alike (x ∷ rows) each =
      ap (λ (b : Bool). b || repeats_key env.level (map row_key rows)) (any_alike x each.0 rows each.1)
      ∙ ap (λ (b : Bool). list_any (same_key env.level (row_key (made x))) (map row_key (map made rows)) || b) (repeats_alike rows each.1)

-- no two rows have one key behind it, if none had before
pub unmoved : (env : Environment) (changes : List (Change ℕ)) (condition : Option (Term ℕ)) (rows : List Image) → IsRising rows → moved_keys env changes (matching env condition rows) ≡ [] → repeats_key env.level (map row_key rows) ≡ false
    → repeats_key env.level (map row_key (lay rows (map (updated env changes) (matching env condition rows)))) ≡ false
unmoved env changes condition rows up none apart =
    let test = matches env condition in
    ap (λ (l : List Image). repeats_key env.level (map row_key l)) (made_laid test (updated env changes) (λ x. refl) (λ x. refl) 0 rows up)
    ∙ sym (repeats_alike env changes test rows (all_alike env changes test rows none)) ∙ apart
