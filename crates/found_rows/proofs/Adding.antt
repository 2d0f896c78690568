-- How faults and tests add up along a list.
use Rattle.std.proofs.Common.{◌≡◌, ℕ, ◌+◌, ◌<◌, ◌≤◌, List, [], ◌∷◌, length, drop, get_or, map, ◌++◌, append_assoc, refl, ap, sym, ◌∙◌, add-one, drop-cons, drop_of_length-le}
use Rattle.std.specs.Prelude.{Bool, true, false, ◌||◌, ◌&&◌, if◌then◌else◌, Result, Ok}
use Rattle.std.specs.List.{filter, list_any}
use Rattle.std.proofs.Math.Bool.{or-false, or_assoc}
use Rattle.desk_values.specs.declared.fault.Fault.{Fault}
use Rattle.sql_eval.specs.declared.faults.Faults.{Faults}
use Rattle.sql_eval.specs.Faults.{divides, overflows, any_fault, joined, noted}
use Rattle.desk_values.specs.declared.value.Image.{Image}
use Rattle.sql_tree.specs.Plain.{Term}
use Rattle.server_words.specs.Found.{Environment, faults_over, no_faults, row_faults, value_in}

pub joined_none : (f : Faults) → joined f no_faults ≡ f
unfolding joined
joined_none f = rw (or-false f.divides, or-false f.overflows) refl

pub none_joined : (f : Faults) → joined no_faults f ≡ f
unfolding joined
none_joined f = refl

pub noted_ok : {A : Type 0} (f : Faults) (a : A) → noted f (Ok a) ≡ f
unfolding noted
noted_ok f a = rw (or-false f.divides, or-false f.overflows) refl

pub any_fault_none : {R A : Type 0} (part : R → Result A Fault) → any_fault part [] ≡ no_faults
unfolding any_fault
any_fault_none part = refl

pub noted_more : {R A : Type 0} (part : R → Result A Fault) (f : Faults) (x : R) (xs : List R) → joined (noted f (part x)) (any_fault part xs) ≡ joined f (any_fault part (x ∷ xs))
unfolding joined noted any_fault
noted_more part f x xs = rw (or_assoc f.divides (divides (part x)) (list_any (λ r. divides (part r)) xs), or_assoc f.overflows (overflows (part x)) (list_any (λ r. overflows (part r)) xs)) refl

pub joined_more : {X : Type 0} (faults : X → Faults) (f : Faults) (x : X) (xs : List X) → joined (joined f (faults x)) (faults_over faults xs) ≡ joined f (faults_over faults (x ∷ xs))
unfolding joined faults_over
joined_more faults f x xs = rw (or_assoc f.divides (faults x).divides (list_any (λ y. (faults y).divides) xs), or_assoc f.overflows (faults x).overflows (list_any (λ y. (faults y).overflows) xs)) refl

pub faults_over_none : {X : Type 0} (faults : X → Faults) → faults_over faults [] ≡ no_faults
unfolding faults_over
faults_over_none faults = refl

-- the same of the values of a row
pub row_faults_more : (env : Environment) (es : List (Term ℕ)) (f : Faults) (image : Image) (rows : List Image) → joined (joined f (any_fault (value_in env image) es)) (row_faults env es rows) ≡ joined f (row_faults env es (image ∷ rows))
row_faults_more env es = joined_more (λ (image : Image). any_fault (value_in env image) es)

-- those that pass both tests are found in either order
and_swap : (a b : Bool) (c d : Bool) → c ≡ d → ((a && b) || c) ≡ ((b && a) || d)
and_swap true true c d e = refl
and_swap true false c d e = e
and_swap false true c d e = e
and_swap false false c d e = e

pub any_filter : {X : Type 0} (p q : X → Bool) (xs : List X) → list_any p (filter q xs) ≡ list_any (λ x. q x && p x) xs
any_filter p q [] = refl
any_filter p q (x ∷ xs) = elim (q x) as (λ b. list_any p (if b then x ∷ filter q xs else filter q xs) ≡ ((b && p x) || list_any (λ y. q y && p y) xs)) [
  | true ↦ ap (λ c. p x || c) (any_filter p q xs)
  | false ↦ any_filter p q xs
]

both_swapped : {X : Type 0} (p q : X → Bool) (xs : List X) → list_any (λ x. q x && p x) xs ≡ list_any (λ x. p x && q x) xs
both_swapped p q [] = refl
both_swapped p q (x ∷ xs) = and_swap (q x) (p x) _ _ (both_swapped p q xs)

pub any_filtered : {X : Type 0} (p q : X → Bool) (xs : List X) → list_any p (filter q xs) ≡ list_any q (filter p xs)
any_filtered p q xs = any_filter p q xs ∙ both_swapped p q xs ∙ sym (any_filter q p xs)

-- ---- steps of loops over a list, whose items are seen by g

module _ {X Y : Type 0} (g : X → Y) (xs : List X) (i : ℕ) where
  pub front : (x : X) → i < length xs → x ≡ get_or xs i x → map g (drop i xs) ≡ g x ∷ map g (drop (i + 1) xs)
  front x within read = rw (add-one, drop-cons xs i x, ← read) refl

  pub none_left : length xs ≤ i → map g (drop i xs) ≡ []
  none_left beyond = ap (map g) (drop_of_length-le xs {i = i} beyond)

  module _ {A : Type 0} (part : Y → Result A Fault) (f all : Faults) (before : joined f (any_fault part (map g (drop i xs))) ≡ all) where
    pub fault_step : (new : Faults) (x : X) → i < length xs → x ≡ get_or xs i x → new ≡ noted f (part (g x)) → joined new (any_fault part (map g (drop (i + 1) xs))) ≡ all
    fault_step new x within read is = ap (λ n. joined n (any_fault part (map g (drop (i + 1) xs)))) is ∙ noted_more part f (g x) (map g (drop (i + 1) xs)) ∙ ap (λ ys. joined f (any_fault part ys)) (sym (front x within read)) ∙ before

    pub fault_end : length xs ≤ i → f ≡ all
    fault_end beyond = sym (joined_none f) ∙ ap (λ n. joined f n) (sym (any_fault_none part)) ∙ ap (λ ys. joined f (any_fault part ys)) (sym (none_left beyond)) ∙ before

  module _ (faults : Y → Faults) (f all : Faults) (before : joined f (faults_over faults (map g (drop i xs))) ≡ all) where
    pub faults_step : (new : Faults) (x : X) → i < length xs → x ≡ get_or xs i x → new ≡ joined f (faults (g x)) → joined new (faults_over faults (map g (drop (i + 1) xs))) ≡ all
    faults_step new x within read is = ap (λ n. joined n (faults_over faults (map g (drop (i + 1) xs)))) is ∙ joined_more faults f (g x) (map g (drop (i + 1) xs)) ∙ ap (λ ys. joined f (faults_over faults ys)) (sym (front x within read)) ∙ before

    pub faults_end : length xs ≤ i → f ≡ all
    faults_end beyond = sym (joined_none f) ∙ ap (λ n. joined f n) (sym (faults_over_none faults)) ∙ ap (λ ys. joined f (faults_over faults ys)) (sym (none_left beyond)) ∙ before

  module _ {Z : Type 0} (h : Y → Z) (made all : List Z) (before : made ++ map h (map g (drop i xs)) ≡ all) where
    pub value_step : (new : List Z) (z : Z) (x : X) → i < length xs → x ≡ get_or xs i x → z ≡ h (g x) → new ≡ made ++ z ∷ [] → new ++ map h (map g (drop (i + 1) xs)) ≡ all
    value_step new z x within read value pushed = rw (pushed, append_assoc, value) (ap (λ ys. made ++ map h ys) (sym (front x within read)) ∙ before)

  module _ (p : Y → Bool) (made all : List Y) (before : made ++ filter p (map g (drop i xs)) ≡ all) where
    pub filter_step : (new : List Y) (x : X) → i < length xs → x ≡ get_or xs i x → new ≡ made ++ (if p (g x) then g x ∷ [] else []) → new ++ filter p (map g (drop (i + 1) xs)) ≡ all
    filter_step new x within read kept = rw (kept, append_assoc) (ap (λ ys. made ++ ys) (kept_front (p (g x))) ∙ ap (λ ys. made ++ filter p ys) (sym (front x within read)) ∙ before)
      where
        kept_front : (b : Bool) → (if b then g x ∷ [] else []) ++ filter p (map g (drop (i + 1) xs)) ≡ (if b then g x ∷ filter p (map g (drop (i + 1) xs)) else filter p (map g (drop (i + 1) xs)))
        kept_front true = refl
        kept_front false = refl
