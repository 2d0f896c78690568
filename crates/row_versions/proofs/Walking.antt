-- The rows at a number, entry by entry of the map of last places.
use Rattle.std.proofs.Common.{◌≡◌, ◌∙◌, ℕ, suc, List, [], ◌∷◌, ◌++◌, All, Option, Some, sym, ap, subst, append_assoc, arith}
use Rattle.std.specs.BTreeMap.{BTreeMap, get}
use Rattle.std.specs.List.{slice_index_or}
use Rattle.std.specs.Ordering.{nat_cmp}
use Rattle.desk_values.specs.declared.value.Image.{Image}
use Rattle.row_versions.specs.declared.versions.Version.{Version}
use Rattle.row_versions.specs.History.{Written, left_of, row_at}
use Rattle.row_versions.specs.Inside.Links.{all_left, last_place, listed}

-- each entry has the place of its row's last version
abbrev pub AreLast : List Version → List (ℕ × ℕ) → Type 0
AreLast list entries = All (λ (entry : ℕ × ℕ). Some entry.1 ≡ last_place entry.0 list) entries

module _ (list : List Version) where
  pub last_begin : (last : BTreeMap ℕ ℕ) (entries : List (ℕ × ℕ)) → entries ≡ last.entries → All (λ (e : ℕ × ℕ). get nat_cmp last e.0 ≡ Some e.1) last.entries → ((row : ℕ) → get nat_cmp last row ≡ last_place row list) → AreLast list entries
  last_begin last entries is found lasts = subst (AreLast list) (sym is) (λ k d below. sym (found k d below) ∙ lasts (slice_index_or last.entries k d).0)

  module _ (row at : ℕ) (entries next : List (ℕ × ℕ)) (is : entries ≡ (row, at) ∷ next) (all : AreLast list entries) where
    pub last_here : Some at ≡ last_place row list
    last_here = subst (AreLast list) is all 0 (row, at) (omega arith)

    pub last_on : AreLast list next
    last_on = λ k d below. subst (AreLast list) is all (suc k) d (omega (arith, below))

module _ (list : List Written) (n : ℕ) (whole : List Image) where
  pub rows_begin : (rows : List Image) (entries all : List (ℕ × ℕ)) → rows ≡ [] → entries ≡ all → rows ++ all_left list n entries ≡ all_left list n all
  rows_begin rows entries all none is = ap (λ (images : List Image). images ++ all_left list n entries) none ∙ ap (all_left list n) is

  -- what is left of a row goes behind the others
  pub rows_on : (old new : List Image) (row at : ℕ) (entries next : List (ℕ × ℕ)) (image : Option Image) → entries ≡ (row, at) ∷ next → image ≡ row_at list row n → new ≡ old ++ listed (left_of image) → old ++ all_left list n entries ≡ whole → new ++ all_left list n next ≡ whole
  rows_on old new row at entries next image is read more so_far =
      ap (λ (images : List Image). images ++ all_left list n next) more ∙ append_assoc old (listed (left_of image)) (all_left list n next)
      ∙ ap (λ (o : Option Image). old ++ (listed (left_of o) ++ all_left list n next)) read ∙ ap (λ (es : List (ℕ × ℕ)). old ++ all_left list n es) (sym is) ∙ so_far
