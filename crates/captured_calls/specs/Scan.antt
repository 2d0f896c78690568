-- A test that is put to each call and the calls before it.
use Rattle.std.specs.Prelude.{List, [], ◌∷◌, ◌++◌, Option, None}
use Rattle.std.specs.Option.{option_or}
use Rattle.desk_values.specs.declared.capture.Captured.{Captured}

-- a test sees a call and those before it
abbrev pub Test : Type 0 → Type 0
Test R = List Captured → Captured → Option R

-- what the first call that fails is told
abbrev pub first_told : {R : Type 0} → Test R → List Captured → List Captured → Option R
first_told test before [] = None
first_told test before (call ∷ calls) = option_or (test before call) (first_told test (before ++ call ∷ []) calls)
