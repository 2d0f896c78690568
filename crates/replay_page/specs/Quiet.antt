-- Which bytes may stand in the files of a page.
use Rattle.std.specs.Prelude.{◌≢◌, ℕ, ◌<◌, List}
use Rattle.std.specs.List.{AllByRecursion}

-- a byte of ASCII that is no `<`: nothing that begins with one ends the script that the data stand in
pub record IsQuiet (byte : ℕ) : Type 0 where
  pub ascii : byte < 128
  pub unmarked : byte ≢ 60

abbrev pub AreQuiet : List ℕ → Type 0
AreQuiet bytes = AllByRecursion IsQuiet bytes
