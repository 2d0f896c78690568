-- Rows that are found by their numbers.
use Rattle.std.specs.Prelude.{ℕ, nat_lt, List}
use Rattle.std.specs.List.{prefix_len}
use Rattle.desk_values.specs.declared.value.Image.{Image}

-- how many images stand below the row
abbrev pub place : ℕ → List Image → ℕ
place row images = prefix_len (λ (image : Image). nat_lt image.row row) images
