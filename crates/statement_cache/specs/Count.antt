-- What is counted of the texts that are kept.
use Rattle.std.specs.Prelude.{ℕ, ◌+◌, ◌*◌, List, length}
use Rattle.std.specs.List.{sum_by}
use Rattle.std.specs.Map.{values_of}
use Rattle.statement_cache.specs.declared.statements.Known.{Known}
use Rattle.statement_cache.specs.Kept.{Texts}
use Rattle.statement_cache.specs.Limits.{bytes_more, tree_bytes}

-- the bytes that are counted for a text
abbrev pub bytes_of : List ℕ → ℕ
bytes_of text = length text * tree_bytes + bytes_more

-- and for all that are kept
abbrev pub counted : Texts → ℕ
counted texts = sum_by (λ (known : Known). bytes_of known.text) (values_of texts)
