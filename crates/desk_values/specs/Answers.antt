-- What an answer says of what was to be answered, where want of memory may come at any time.
use Rattle.std.specs.Prelude.{◌≡◌, Option, None, Some, Result, Ok, Err}

-- the answer is the one that was told, if one was
abbrev pub IsTold : {R : Type 0} → Option R → R → Type 0
IsTold None expected = Unit {0}
IsTold (Some told) expected = expected ≡ told

-- An `Ok` says by `seen` what was to be answered, and an `Err` by `told`, if it tells anything: want of memory tells nothing.
abbrev pub Answers : {X E R : Type 0} → (X → R) → (E → Option R) → Result X E → R → Type 0
Answers seen told (Ok value) expected = expected ≡ seen value
Answers seen told (Err error) expected = IsTold (told error) expected
