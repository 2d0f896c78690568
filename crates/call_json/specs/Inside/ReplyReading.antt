-- The reply that a JSON value is, whatever its shape, in the order of the tests.
use Rattle.std.specs.Prelude.{ℕ, if◌then◌else◌, List, codes, Option, None, Some, option_map, is_some}
use Rattle.std.specs.Str.{bytes_eq}
use Rattle.desk_values.specs.Fault.{fault_numbered}
use Rattle.desk_values.specs.Reading.{◌>>=◌}
use Rattle.desk_values.specs.declared.fault.Fault.{Fault}
use Rattle.desk_values.specs.declared.value.Value.{Value}
use Rattle.desk_values.specs.declared.value.Image.{Image}
use Rattle.desk_values.specs.declared.call.Outcome.{Outcome}
use Rattle.desk_values.specs.declared.call.Outcome.TheVariants as outcome
use Rattle.desk_values.specs.declared.call.Reply.{Reply}
use Rattle.serde_json.specs.Data.{Data}
use Rattle.serde_json.specs.Find.{as_array, as_null, as_object}
use Rattle.call_json.specs.Inside.Members.{all_three, only, sole}
use Rattle.call_json.specs.Inside.Reading.{count_in, each_in, is_yes, small_in, values_in}

abbrev pub row_in : Data → Option ℕ
row_in d = as_object d >>= λ ms. only (codes "row") ms >>= count_in

abbrev pub made_in : Data → Option (Option ℕ)
made_in d = if is_some (as_null d) then Some None else option_map (λ n. Some n) (row_in d)

abbrev pub left_in : Data → Option (Option (List Value))
left_in d = if is_some (as_null d) then Some None else option_map (λ values. Some values) (values_in d)

abbrev pub image_of : Data × Data × Data → Option Image
image_of p = do
  row ← count_in p.1
  table ← small_in p.2
  left ← left_in p.0
  Some (record { row = row; table = table; left = left })

abbrev pub image_in : Data → Option Image
image_in d = as_object d >>= λ ms. all_three (codes "now") (codes "row") (codes "table") ms >>= image_of

abbrev pub images_in : Data → Option (List Image)
images_in d = as_array d >>= each_in image_in

abbrev pub rows_in : Data → Option (List (List Value))
rows_in d = as_array d >>= each_in values_in

abbrev pub fault_in : Data → Option Fault
fault_in d = small_in d >>= fault_numbered

-- an outcome that only its key tells
abbrev pub plain_outcome : List ℕ → Option Outcome
plain_outcome key =
    if bytes_eq key (codes "rolledback") then Some outcome.RolledBack
    else (if bytes_eq key (codes "marked") then Some outcome.Marked
    else (if bytes_eq key (codes "connected") then Some outcome.Connected
    else (if bytes_eq key (codes "disconnected") then Some outcome.Disconnected
    else None)))

-- by the key
abbrev pub outcome_of : List ℕ → Data → Option Outcome
outcome_of key d =
    if bytes_eq key (codes "rows") then option_map (λ rows. outcome.Rows rows) (rows_in d)
    else (if bytes_eq key (codes "count") then option_map (λ n. outcome.Count n) (count_in d)
    else (if bytes_eq key (codes "committed") then option_map (λ images. outcome.Committed images) (images_in d)
    else (if bytes_eq key (codes "refused") then option_map (λ fault. outcome.Refused fault) (fault_in d)
    else (if is_yes d then plain_outcome key else None))))

abbrev pub outcome_in : Data → Option Outcome
outcome_in d = as_object d >>= λ ms. sole ms >>= λ m. outcome_of m.0 m.1

abbrev pub reply_of : Data × Data × Data → Option Reply
reply_of p = do
  draws ← values_in p.0
  made ← made_in p.1
  outcome ← outcome_in p.2
  Some (record { outcome = outcome; draws = draws; made = made })

abbrev pub reply_in : Data → Option Reply
reply_in d = as_object d >>= λ ms. all_three (codes "draws") (codes "made") (codes "outcome") ms >>= reply_of
