-- Objects of just one key, of two, of three, and the values there.
use Rattle.std.specs.Prelude.{ℕ, ◌&&◌, if◌then◌else◌, List, Option, None, Some}
use Rattle.std.specs.Str.{bytes_eq}
use Rattle.desk_values.specs.Reading.{◌>>=◌}
use Rattle.serde_json.specs.Data.{Data, Members, no_members, member}

-- the only key and its value
abbrev pub sole : Members → Option (List ℕ × Data)
sole no_members = None
sole (member k d no_members) = Some (k, d)
sole (member k d (member l e ms)) = None

abbrev pub keyed : List ℕ → List ℕ × Data → Option Data
keyed key m = if bytes_eq m.0 key then Some m.1 else None

-- the value of the only key, where it is this one
abbrev pub only : List ℕ → Members → Option Data
only key ms = sole ms >>= keyed key

-- the values of these two keys, where there are just these
abbrev pub both : List ℕ → List ℕ → Members → Option (Data × Data)
both first second no_members = None
both first second (member k d no_members) = None
both first second (member k d (member l e no_members)) = if bytes_eq k first && bytes_eq l second then Some (d, e) else None
both first second (member k d (member l e (member m f ms))) = None

-- the values of these three keys, where there are just these
abbrev pub all_three : List ℕ → List ℕ → List ℕ → Members → Option (Data × Data × Data)
all_three first second third no_members = None
all_three first second third (member k d no_members) = None
all_three first second third (member k d (member l e no_members)) = None
all_three first second third (member k d (member l e (member m f no_members))) =
    if bytes_eq k first && bytes_eq l second && bytes_eq m third then Some (d, e, f) else None
all_three first second third (member k d (member l e (member m f (member n g ms)))) = None
