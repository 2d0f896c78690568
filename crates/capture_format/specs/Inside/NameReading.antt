-- What a field says that is a name.
use Rattle.std.specs.Prelude.{ℕ, List, Option, Some, None, if◌then◌else◌}
use Rattle.desk_schema.specs.Name.{is_name}

-- the name, if the bytes are one
abbrev pub as_name : List ℕ → Option (List ℕ)
as_name bytes = if is_name bytes then Some bytes else None
