-- What a step that gave something was given.
use Rattle.std.proofs.Common.{◌≡◌, ℕ, Bool, true, false, cond, List, [], ◌∷◌, Option, Some, None, refl}
use Rattle.std.specs.Prelude.{◌⊎◌}
use Rattle.std.proofs.Common.{inl, inr}
use Rattle.std.specs.Option.{option_map}
use Rattle.desk_values.specs.Reading.{◌>>=◌, at_end}

pub bind_some : {A B : Type 0} (read : Option A) (next : A → Option B) (y : B) → (read >>= next) ≡ Some y → (x : A) × (read ≡ Some x) × (next x ≡ Some y)
bind_some None next y e = absurd cc
bind_some (Some x) next y e = (x, refl, e)

pub map_some : {A B : Type 0} (f : A → B) (read : Option A) (y : B) → option_map f read ≡ Some y → (x : A) × (read ≡ Some x) × (f x ≡ y)
map_some f None y e = absurd cc
map_some f (Some x) y e = (x, refl, cc)

-- a test that was not
pub unless_some : {A : Type 0} (b : Bool) (x y : A) → cond b None (Some x) ≡ Some y → (b ≡ false) × (x ≡ y)
unless_some true x y e = absurd cc
unless_some false x y e = (refl, cc)

-- a test that led on
pub when_some : {A : Type 0} (b : Bool) (read : Option A) (y : A) → cond b read None ≡ Some y → (b ≡ true) × (read ≡ Some y)
when_some true read y e = (refl, e)
when_some false read y e = absurd cc

pub unless_when : {A : Type 0} (b : Bool) (read : Option A) (y : A) → cond b None read ≡ Some y → (b ≡ false) × (read ≡ Some y)
unless_when true read y e = absurd cc
unless_when false read y e = (refl, e)

-- which way a test went
pub chosen : {A : Type 0} (b : Bool) (x y z : A) → cond b x y ≡ z → ((b ≡ true) × (x ≡ z)) ⊎ ((b ≡ false) × (y ≡ z))
chosen true x y z e = inl (refl, e)
chosen false x y z e = inr (refl, e)

pub at_end_some : {A : Type 0} (bytes : List ℕ) (x y : A) → at_end bytes x ≡ Some y → (bytes ≡ []) × (x ≡ y)
at_end_some [] x y e = (refl, cc)
at_end_some (first ∷ rest) x y e = absurd cc

-- nothing, where any value would be wrong
pub none_from : {A : Type 0} (read : Option A) → ((x : A) → read ≡ Some x → ⊥) → read ≡ None
none_from None h = refl
none_from (Some x) h = absurd (h x refl)
