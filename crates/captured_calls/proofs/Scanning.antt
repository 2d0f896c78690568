-- The steps of a test that goes over the calls.
use Rattle.std.proofs.Common.{◌≡◌, ℕ, suc, ◌+◌, ◌<◌, List, [], ◌∷◌, ◌++◌, length, get_or, take, drop, refl, sym, ap, subst, ◌∙◌, add-one, append_assoc, drop-cons, arith}
use Rattle.std.specs.Prelude.{Option, None, Some, slice_get}
use Rattle.std.specs.Option.{option_or}
use Rattle.std.specs.List.{AllByRecursion}
use Rattle.std.proofs.lemmas.List.{append-nil, take_more}
use Rattle.desk_values.specs.declared.capture.Captured.{Captured}
use Rattle.captured_calls.specs.Scan.{Test, first_told}
use Rattle.captured_calls.proofs.Members.{some_is}

pub front_of : {X : Type 0} (xs : List X) (i : ℕ) (x : X) → i < length xs → x ≡ get_or xs i x → drop i xs ≡ x ∷ drop (i + 1) xs
front_of xs i x within read = rw (add-one, drop-cons xs i x within) (ap (λ y. y ∷ drop (suc i) xs) (sym read))

pub taken : {X : Type 0} (xs : List X) (i : ℕ) (x : X) → i < length xs → x ≡ get_or xs i x → take (i + 1) xs ≡ take i xs ++ x ∷ []
taken xs i x within read = take_more xs i x within ∙ ap (λ y. take i xs ++ y ∷ []) (sym read)

-- what holds of each holds of the one that was read
pub each_at : {X : Type 0} (P : X → Type 0) (xs : List X) (i : ℕ) (x : X) → AllByRecursion P xs → i < length xs → x ≡ get_or xs i x → P x
each_at P [] i x all within read = absurd (omega (arith, within))
each_at P (y ∷ ys) Prim.Native.Nat.zero x all within read = subst P (sym read) all.0
each_at P (y ∷ ys) (suc i) x all within read = each_at P ys i x all.1 (omega (arith, within)) read

module _ {R : Type 0} (test : Test R) (calls : List Captured) (i : ℕ) (call : Captured) (within : i < length calls) (read : call ≡ get_or calls i call) (so_far : first_told test (take i calls) (drop i calls) ≡ first_told test [] calls) where
  here : first_told test (take i calls) (drop i calls) ≡ option_or (test (take i calls) call) (first_told test (take (i + 1) calls) (drop (i + 1) calls))
  here = rw (front_of calls i call within read, taken calls i call within read) refl

  pub walk_on : test (take i calls) call ≡ None → first_told test (take (i + 1) calls) (drop (i + 1) calls) ≡ first_told test [] calls
  walk_on passes = sym (here ∙ ap (λ t. option_or t (first_told test (take (i + 1) calls) (drop (i + 1) calls))) passes) ∙ so_far

  pub walk_stops : (refusal : R) → test (take i calls) call ≡ Some refusal → first_told test [] calls ≡ Some refusal
  walk_stops refusal fails = sym so_far ∙ here ∙ ap (λ t. option_or t (first_told test (take (i + 1) calls) (drop (i + 1) calls))) fails

-- ---- no call fails

pub both_none : {X : Type 0} (a b : Option X) → option_or a b ≡ None → (a ≡ None) × (b ≡ None)
both_none None b e = (refl, e)
both_none (Some x) b e = cc

pub none_told : {R : Type 0} (test : Test R) (before calls : List Captured) → first_told test before calls ≡ None → (k : ℕ) (call : Captured) → slice_get calls k ≡ Some call → test (before ++ take k calls) call ≡ None
none_told test before [] none k call there = cc
none_told test before (first ∷ calls) none Prim.Native.Nat.zero call there =
    let is : first ≡ call = some_is there in
    subst (λ (c : Captured). test (before ++ []) c ≡ None) is (subst (λ (b : List Captured). test b first ≡ None) (sym (append-nil before)) (both_none (test before first) _ none).0)
none_told test before (first ∷ calls) none (suc k) call there =
    subst (λ (b : List Captured). test b call ≡ None) (append_assoc before (first ∷ []) (take k calls)) (none_told test (before ++ first ∷ []) calls (both_none (test before first) _ none).1 k call there)
