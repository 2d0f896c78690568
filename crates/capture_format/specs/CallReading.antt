-- What the bytes of a call say: the call whose text they are, where there is one.
use Rattle.std.specs.Prelude.{ℕ, nat_le, if◌then◌else◌, List, length, Option, None, Some, codes}
use Rattle.std.specs.Option.{option_map}
use Rattle.std.specs.Str.{bytes_eq}
use Rattle.desk_values.specs.Limits.{bind_limit}
use Rattle.desk_values.specs.declared.call.Call.{Call}
use Rattle.desk_values.specs.declared.call.Call.TheVariants.{Connect, Sql, Disconnect}
use Rattle.desk_values.specs.Fields.{cut_at}
use Rattle.desk_values.specs.Reading.{◌>>=◌, txt_of, values_of}

-- the call of a text and the values of its binds
unfoldable pub sql_of : List ℕ → Option Call
sql_of bytes = do
  parts ← cut_at 32 bytes
  text ← txt_of parts.0
  binds ← values_of parts.1
  if nat_le (length binds) bind_limit then Some (Sql text binds) else None

-- the call whose text this is
unfoldable pub call_of : List ℕ → Option Call
call_of bytes = if bytes_eq bytes (codes "disconnect") then Some Disconnect else (do
  parts ← cut_at 32 bytes
  if bytes_eq parts.0 (codes "connect") then option_map Connect (txt_of parts.1)
      else (if bytes_eq parts.0 (codes "sql") then sql_of parts.1 else None))
