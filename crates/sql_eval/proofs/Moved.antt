-- The order of items does not matter to what is made of all of them.
use Rattle.std.proofs.Common.{◌≡◌, suc, List, [], ◌∷◌, length, refl, ap, sym, ◌∙◌}
use Rattle.std.specs.Prelude.{Bool, true, false, ◌||◌, Option, None, Some, ◌+ℤ◌}
use Rattle.std.specs.List.{list_any, filter_map, cons_option, fold, reduce}
use Rattle.std.proofs.Math.IntN.{+ℤ_assoc, +ℤ_comm}
use Rattle.sql_eval.specs.Moved.{Moved, none, more, swapped, along}

pub moved_length : {A : Type 0} {xs ys : List A} → Moved xs ys → length xs ≡ length ys
moved_length none = refl
moved_length (more x xs ys m) = ap suc (moved_length m)
moved_length (swapped x y xs) = refl
moved_length (along xs ys zs m n) = moved_length m ∙ moved_length n

either_first : (a b c : Bool) → (a || (b || c)) ≡ (b || (a || c))
either_first true true c = refl
either_first true false c = refl
either_first false true c = refl
either_first false false c = refl

pub moved_any : {A : Type 0} (test : A → Bool) {xs ys : List A} → Moved xs ys → list_any test xs ≡ list_any test ys
moved_any test none = refl
moved_any test (more x xs ys m) = ap (λ b. test x || b) (moved_any test m)
moved_any test (swapped x y xs) = either_first (test x) (test y) (list_any test xs)
moved_any test (along xs ys zs m n) = moved_any test m ∙ moved_any test n

moved_refl : {A : Type 0} (xs : List A) → Moved xs xs
moved_refl [] = none
moved_refl (x ∷ xs) = more x xs xs (moved_refl xs)

chosen_more : {B : Type 0} (o : Option B) {xs ys : List B} → Moved xs ys → Moved (cons_option o xs) (cons_option o ys)
chosen_more None m = m
chosen_more (Some b) m = more b _ _ m

chosen_swapped : {B : Type 0} (o p : Option B) (xs : List B) → Moved (cons_option o (cons_option p xs)) (cons_option p (cons_option o xs))
chosen_swapped None p xs = moved_refl (cons_option p xs)
chosen_swapped (Some b) None xs = moved_refl (b ∷ xs)
chosen_swapped (Some b) (Some c) xs = swapped b c xs

pub moved_chosen : {A B : Type 0} (choose : A → Option B) {xs ys : List A} → Moved xs ys → Moved (filter_map choose xs) (filter_map choose ys)
moved_chosen choose none = none
moved_chosen choose (more x xs ys m) = chosen_more (choose x) (moved_chosen choose m)
moved_chosen choose (swapped x y xs) = chosen_swapped (choose x) (choose y) (filter_map choose xs)
moved_chosen choose (along xs ys zs m n) = along _ _ _ (moved_chosen choose m) (moved_chosen choose n)

-- ---- what is put together two by two

-- two items may be taken in either order
pub record Exchanges {A : Type 0} (f : A → A → A) : Type 0 where
  pub commutes : (a b : A) → f a b ≡ f b a
  pub exchanges : (a b c : A) → f (f a b) c ≡ f (f a c) b

-- an item joins what is there
joined : {A : Type 0} → (A → A → A) → Option A → A → Option A
joined f None x = Some x
joined f (Some a) x = Some (f a x)

moved_fold : {A B : Type 0} (f : B → A → B) → ((b : B) (x y : A) → f (f b x) y ≡ f (f b y) x) → {xs ys : List A} → Moved xs ys → (b : B) → fold f b xs ≡ fold f b ys
moved_fold f h none b = refl
moved_fold f h (more x xs ys m) b = moved_fold f h m (f b x)
moved_fold f h (swapped x y xs) b = ap (λ c. fold f c xs) (h b x y)
moved_fold f h (along xs ys zs m n) b = moved_fold f h m b ∙ moved_fold f h n b

as_fold : {A : Type 0} (f : A → A → A) (a : A) (xs : List A) → Some (fold f a xs) ≡ fold (joined f) (Some a) xs
unfolding joined
as_fold f a [] = refl
as_fold f a (x ∷ xs) = as_fold f (f a x) xs

reduced : {A : Type 0} (f : A → A → A) (xs : List A) → reduce f xs ≡ fold (joined f) None xs
unfolding joined
reduced f [] = refl
reduced f (x ∷ xs) = as_fold f x xs

joined_exchanges : {A : Type 0} (f : A → A → A) → Exchanges f → (o : Option A) (x y : A) → joined f (joined f o x) y ≡ joined f (joined f o y) x
unfolding joined
joined_exchanges f h None x y = ap Some (h.commutes x y)
joined_exchanges f h (Some a) x y = ap Some (h.exchanges a x y)

pub moved_reduce : {A : Type 0} (f : A → A → A) → Exchanges f → {xs ys : List A} → Moved xs ys → reduce f xs ≡ reduce f ys
moved_reduce f h {xs} {ys} m = reduced f xs ∙ moved_fold (joined f) (joined_exchanges f h) m None ∙ sym (reduced f ys)

pub sums_exchange : Exchanges ◌+ℤ◌
sums_exchange = record { commutes = +ℤ_comm; exchanges = λ a b c. +ℤ_assoc a b c ∙ ap (λ n. a +ℤ n) (+ℤ_comm b c) ∙ sym (+ℤ_assoc a c b) }
