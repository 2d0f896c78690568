-- Steps that may give nothing.
use Rattle.std.proofs.Common.{◌≡◌, ◌⊎◌, inl, inr, Option, Some, None, refl}
use Rattle.desk_values.specs.Reading.{◌>>=◌}
use Rattle.sql_reader.specs.Reading.{cases}

-- the value of a step that gave one, named
pub bind_then : {A B G : Type 0} (r : Option A) (f : A → Option B) (y : B) → (r >>= f) ≡ Some y → ((x : A) → r ≡ Some x → f x ≡ Some y → G) → G
bind_then (Some x) f y e go = go x refl e
bind_then None f y e go = absurd cc

abbrev pub some : {A : Type 0} → A → Option A
some x = Some x

abbrev pub absent : {A : Type 0} → Option A
absent = None

pub nothing_is : {A B : Type 0} (x : A) → absent {A = A} ≡ some x → B
nothing_is x e = absurd cc

-- which way a choice went
pub cases_are : {A B : Type 0} (o : Option A) (d : B) (f : A → B) (z : B) → cases o d f ≡ z → ((o ≡ None) × (d ≡ z)) ⊎ ((x : A) × (o ≡ Some x) × (f x ≡ z))
cases_are None d f z e = inl (refl, e)
cases_are (Some x) d f z e = inr (x, refl, e)
