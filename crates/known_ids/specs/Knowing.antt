-- Which ids are known after so many calls.
use Rattle.std.specs.Prelude.{◌≡◌, ℕ, Bool, true, false, nat_le, List, take, Option, None, Some}
use Rattle.std.specs.BTreeMap.{get}
use Rattle.std.specs.declared.cmp.Ordering.{Ordering}
use Rattle.std.specs.Ordering.{nat_cmp, ordering_then}
use Rattle.std.specs.List.{list_any}
use Rattle.desk_values.specs.Ids.{is_id}
use Rattle.desk_values.specs.declared.value.Value.{Value}
use Rattle.desk_values.specs.declared.value.Value.TheVariants.{Row, Draw}
use Rattle.desk_values.specs.declared.value.Image.{Image}
use Rattle.desk_values.specs.declared.capture.Captured.{Captured}
use Rattle.captured_calls.specs.Known.{ids_known}
use Rattle.captured_calls.specs.Same.{same_value}
use Rattle.known_ids.specs.declared.known.KnownIds.{KnownIds}

abbrev pub pair_cmp : ℕ × ℕ → ℕ × ℕ → Ordering
pair_cmp a b = ordering_then (nat_cmp a.0 b.0) (nat_cmp a.1 b.1)

-- after how many calls a value is known as an id
abbrev pub since : KnownIds → Value → Option ℕ
since ids (Row n) = get nat_cmp ids.rows n
since ids (Draw sequence n) = get pair_cmp ids.draws (sequence, n)
since ids other = None

-- it is so after this many
abbrev pub is_by : Option ℕ → ℕ → Bool
is_by (Some since) count = nat_le since count
is_by None count = false

-- the id is known after so many calls
abbrev pub knows : KnownIds → ℕ → Value → Bool
knows ids count value = is_by (since ids value) count

-- after so many calls just the ids of the list are known
abbrev pub KnowsJust : KnownIds → ℕ → List Value → Type 0
KnowsJust ids count known = (value : Value) → is_id value ≡ true → knows ids count value ≡ list_any (same_value value) known

-- after each number of calls the ids of the rows are known, and those that so many first calls gave
abbrev pub KnowsCalls : KnownIds → List Image → List Captured → Type 0
KnowsCalls ids rows calls = (count : ℕ) → KnowsJust ids count (ids_known rows (take count calls))
