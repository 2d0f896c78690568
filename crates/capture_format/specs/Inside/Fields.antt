-- Texts of two fields.
use Rattle.std.specs.Prelude.{ℕ, List, Option, Some}
use Rattle.desk_values.specs.Fields.{cut_at}
use Rattle.desk_values.specs.Reading.{◌>>=◌}

-- what is read before the first separator and what is read behind it
unfoldable pub two_of : {A B : Type 0} → ℕ → (List ℕ → Option A) → (List ℕ → Option B) → List ℕ → Option (A × B)
two_of separator first second bytes = do
  parts ← cut_at separator bytes
  a ← first parts.0
  b ← second parts.1
  Some (a, b)
