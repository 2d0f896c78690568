-- Images of one table among others.
use Rattle.std.proofs.Common.{◌≡◌, ◌≢◌, ℕ, List, ◌∷◌, refl}
use Rattle.std.proofs.lemmas.Bool.{eq-eqb, ne_eqb}
use Rattle.desk_values.specs.declared.value.Image.{Image}
use Rattle.server_words.specs.Rows.{of_table}

pub of_other : (table : ℕ) (image : Image) (rest : List Image) → image.table ≢ table → of_table table (image ∷ rest) ≡ of_table table rest
of_other table image rest apart = rw (ne_eqb image.table table apart) refl

pub of_same : (table : ℕ) (image : Image) (rest : List Image) → image.table ≡ table → of_table table (image ∷ rest) ≡ image ∷ of_table table rest
of_same table image rest same = rw (eq-eqb image.table table same) refl
