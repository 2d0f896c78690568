-- What the laws of bags and maps say.
use Rattle.std.specs.Prelude.{◌≡◌, ℕ, List}
use Rattle.std.specs.List.Sorted.{IsPermutation}
use Rattle.desk_values.specs.declared.value.Value.{Value}
use Rattle.desk_values.specs.declared.value.Image.{Image}
use Rattle.desk_values.specs.Sorting.{AreAscending}
use Rattle.divergence.specs.Bags.Equality.{found}

-- each row has the same image in both, or none
abbrev pub AreSameMaps : List Image → List Image → Type 0
AreSameMaps images others = (row : ℕ) → found images row ≡ found others row

-- rows have one ascending order
abbrev pub OneAscendingList : Type 0
OneAscendingList = (rows one other : List (List Value)) → IsPermutation rows one → IsPermutation rows other
    → AreAscending one → AreAscending other → one ≡ other
