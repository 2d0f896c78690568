-- What is told of the rows and of the keys that a session holds.
use Rattle.std.specs.Prelude.{ℕ, List}
use Rattle.hold_index.specs.Told.{AreTold, Told, own_or}

-- the rows of a session are told so, whatever the others hold
abbrev pub HoldsRows : Told → ℕ → List ℕ → Type 0
HoldsRows told session list = (rest : ℕ → List ℕ) × (prints : ℕ → List ℕ) × AreTold told (own_or session list rest) prints

-- so are the prints of its keys
abbrev pub HoldsPrints : Told → ℕ → List ℕ → Type 0
HoldsPrints told session list = (rows : ℕ → List ℕ) × (rest : ℕ → List ℕ) × AreTold told rows (own_or session list rest)
