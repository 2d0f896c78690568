-- The call that a JSON value is, in the order of the tests.
use Rattle.std.specs.Prelude.{ℕ, nat_le, if◌then◌else◌, List, [], length, codes, Option, None, Some, option_map}
use Rattle.std.specs.Str.{bytes_eq}
use Rattle.desk_values.specs.Limits.{bind_limit}
use Rattle.desk_values.specs.Reading.{◌>>=◌}
use Rattle.desk_values.specs.declared.value.Value.{Value}
use Rattle.desk_values.specs.declared.call.Call.{Call}
use Rattle.desk_values.specs.declared.call.Call.TheVariants.{Connect, Sql, Disconnect}
use Rattle.serde_json.specs.Data.{Data, Members}
use Rattle.serde_json.specs.Find.{as_object}
use Rattle.call_json.specs.Inside.Members.{both, sole}
use Rattle.call_json.specs.Inside.Reading.{is_yes, text_in, values_in}

abbrev pub few : List Value → Option (List Value)
few values = if nat_le (length values) bind_limit then Some values else None

abbrev pub binds_in : Data → Option (List Value)
binds_in d = values_in d >>= few

abbrev pub bound_call : Data × Data → Option Call
bound_call p = do
  text ← text_in p.1
  binds ← binds_in p.0
  Some (Sql text binds)

-- a statement and the values of its binds
abbrev pub bound_in : Members → Option Call
bound_in ms = both (codes "binds") (codes "sql") ms >>= bound_call

-- by the only key
abbrev pub keyed_call : List ℕ → Data → Option Call
keyed_call key d =
    if bytes_eq key (codes "connect") then option_map (λ t. Connect t) (text_in d)
    else (if bytes_eq key (codes "sql") then option_map (λ t. Sql t []) (text_in d)
    else (if bytes_eq key (codes "disconnect") then (if is_yes d then Some Disconnect else None)
    else None))

abbrev pub by_sole : Option (List ℕ × Data) → Option Call → Option Call
by_sole None other = other
by_sole (Some m) other = keyed_call m.0 m.1

abbrev pub members_in : Members → Option Call
members_in ms = by_sole (sole ms) (bound_in ms)

abbrev pub call_in : Data → Option Call
call_in d = as_object d >>= members_in
