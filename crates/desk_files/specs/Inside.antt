-- Words of private clauses. They need not be believed: the name of a file that is not whole yet.
use Rattle.std.specs.Prelude.{ℕ, List, codes}

-- what the name ends with under which a file is written before it is renamed
abbrev pub part_suffix : List ℕ
part_suffix = codes ".desk-part"
