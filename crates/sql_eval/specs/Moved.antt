-- One list in another order.
use Rattle.std.specs.Prelude.{List, [], ◌∷◌}

-- the items of one list, each as often, in some order
pub data Moved {A : Type 0} : List A → List A → Type 0 where
  none : Moved [] []
  more : (x : A) (xs ys : List A) → Moved xs ys → Moved (x ∷ xs) (x ∷ ys)
  swapped : (x y : A) (xs : List A) → Moved (x ∷ y ∷ xs) (y ∷ x ∷ xs)
  along : (xs ys zs : List A) → Moved xs ys → Moved ys zs → Moved xs zs
