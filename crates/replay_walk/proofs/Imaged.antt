-- Values one after another, each of which has an image.
use Rattle.std.proofs.Common.{◌≡◌, ℕ, ◌+◌, ◌<◌, true, false, List, length, get_or, take, Option, None, Some, refl, ap}
use Rattle.std.specs.Prelude.{is_some}
use Rattle.id_pairs.specs.Carrying.Carried.{each_some}
use Rattle.id_pairs.proofs.Carrying.Carrying.{each_step}

some_is : {A : Type 0} (o : Option A) → is_some o ≡ true → (x : A) × (o ≡ Some x)
some_is None is = absurd cc
some_is (Some x) is = (x, refl)

pub none_is : {A : Type 0} (o : Option A) → is_some o ≡ false → o ≡ None
none_is None is = refl
none_is (Some x) is = absurd cc

pub some_step : {A B : Type 0} (f : A → Option B) (xs : List A) (i : ℕ) (x : A) → i < length xs → x ≡ get_or xs i x → is_some (each_some f (take i xs)) ≡ true → is_some (f x) ≡ true → is_some (each_some f (take (i + 1) xs)) ≡ true
some_step {A} {B} f xs i x within is so has =
    let before = some_is (each_some f (take i xs)) so in
    let here = some_is (f x) has in
    ap (λ (o : Option (List B)). is_some o) (each_step f xs i before.0 x here.0 within is before.1 here.1)
