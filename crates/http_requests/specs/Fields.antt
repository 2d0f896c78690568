-- What is found of a field that may stand once, and the length that it tells.
use Rattle.std.specs.Prelude.{◌≡◌, ◌≤◌, ℕ, if◌then◌else◌, List, [], ◌∷◌, length, Option, None, Some}
use Rattle.std.specs.Str.Parse.{digits_value}
use Rattle.http_requests.specs.declared.fields.Sole.{Sole}
use Rattle.http_requests.specs.declared.fields.Sole.TheVariants.{Absent, One, Many}
use Rattle.http_requests.specs.Decisions.{is_length}

-- what stands for the values of a field: its only one
abbrev pub IsSole : Sole → List (List ℕ) → Type 0
IsSole Absent values = values ≡ []
IsSole (One value) values = values ≡ value.now ∷ []
IsSole Many values = 2 ≤ length values

-- the length that digits tell, as few as a length may have
abbrev pub length_in : List ℕ → Option ℕ
length_in digits = if is_length digits then Some (digits_value 10 digits) else None
