-- What COUNT, SUM, MIN and MAX give for the rows that match.
use Rattle.std.specs.Prelude.{ℕ, ℤ, pos, ◌+ℤ◌, if◌then◌else◌, List, [], length, map, Option, None, Some, Result, Ok}
use Rattle.std.specs.Option.{unwrap_or}
use Rattle.std.specs.Ordering.{nat_cmp, int_cmp, is_gt, then_cmp, flip_args}
use Rattle.std.specs.Cmp.Lexicographic.{slice_cmp}
use Rattle.std.specs.List.{filter_map, reduce}
use Rattle.std.specs.Result.{result_ok}
use Rattle.std.specs.declared.cmp.Ordering.{Ordering}
use denote.Ref.{Bor}
use Rattle.desk_values.specs.declared.value.Value.{Value}
use Rattle.desk_values.specs.declared.value.Value.TheVariants.{Null, Int, Text}
use Rattle.desk_values.specs.declared.value.Image.{Image}
use Rattle.desk_values.specs.declared.fault.Fault.{Fault}
use Rattle.desk_values.specs.Comparison.{text_order}
use Rattle.sql_tree.specs.Plain.{Term, Total}
use Rattle.sql_tree.specs.Plain as total
use Rattle.sql_eval.specs.declared.totals.Extreme.{Extreme}
use Rattle.sql_eval.specs.declared.totals.Extreme.TheVariants.{Least, Greatest}
use Rattle.sql_eval.specs.Faults.{any_fault, told, unless_told}
use Rattle.sql_eval.specs.Value.{number, value_of}

-- ---- of values

abbrev pub number_in : Value → Option ℤ
number_in (Int n) = Some n
number_in other = None

abbrev pub text_in : Value → Option (List ℕ)
text_in (Text t) = Some t
text_in other = None

-- the sum as a value: of no numbers Null, else asked once, at its end, whether 64 bits hold it
abbrev pub sum_value : Option ℤ → Result Value Fault
sum_value None = Ok Null
sum_value (Some sum) = number sum

-- SUM: Null is skipped, and the numbers are added up, however large the sum becomes on the way
unfoldable pub sum_of : List Value → Result Value Fault
sum_of values = sum_value (reduce ◌+ℤ◌ (filter_map number_in values))

-- the one of two that an order puts first
abbrev pub first_of : {A : Type 0} → (A → A → Ordering) → A → A → A
first_of order a b = if is_gt (order a b) then b else a

-- the first number or the first text; Null of neither, and of both, since no number compares with a text
abbrev pub first_value : Option ℤ → Option (List ℕ) → Value
first_value (Some n) None = Int n
first_value None (Some t) = Text t
first_value number text = Null

-- which number comes first for MIN and for MAX
abbrev pub number_order : Extreme → ℤ → ℤ → Ordering
number_order Least = int_cmp
number_order Greatest = flip_args int_cmp

-- which text comes first for MIN and for MAX; of texts that are equal at the level the least by bytes
unfoldable pub tied_order : ℕ → Extreme → List ℕ → List ℕ → Ordering
tied_order level Least = then_cmp (text_order level) (slice_cmp nat_cmp)
tied_order level Greatest = then_cmp (flip_args (text_order level)) (slice_cmp nat_cmp)

-- MIN and MAX: Null and ids are skipped
unfoldable pub extreme_of : ℕ → Extreme → List Value → Value
extreme_of level extreme values = first_value (reduce (first_of (number_order extreme)) (filter_map number_in values)) (reduce (first_of (tied_order level extreme)) (filter_map text_in values))

-- ---- of rows

-- the values that the part has in the rows where it has one
abbrev pub members : (Image → Result Value Fault) → List Image → List Value
members part rows = filter_map (λ row. result_ok (part row)) rows

-- a value of all members, where none has a fault
abbrev pub over : (List Value → Result Value Fault) → (Image → Result Value Fault) → List Image → Result Value Fault
over of part rows = unless_told (told (any_fault part rows)) (of (members part rows))

-- the images that are looked at
abbrev pub looked_at : List (Bor Image) → List Image
looked_at images = map (λ (image : Bor Image). image.now) images

-- the values of a row by column; a row that is gone has none
abbrev pub values_in : Image → List Value
values_in image = unwrap_or image.left []

-- the value of an expression for a row
abbrev pub part_in : ℕ → List Value → Term ℕ → Image → Result Value Fault
part_in level binds part image = value_of level image.row (values_in image) binds part

-- the total of a SELECT over the rows that match: a fault of a member goes before the total's own
abbrev pub total_over : ℕ → List Value → Total ℕ → List Image → Result Value Fault
total_over level binds total.count rows = Ok (Int (pos (length rows)))
total_over level binds (total.total part) rows = over sum_of (part_in level binds part) rows
total_over level binds (total.least part) rows = over (λ values. Ok (extreme_of level Least values)) (part_in level binds part) rows
total_over level binds (total.greatest part) rows = over (λ values. Ok (extreme_of level Greatest values)) (part_in level binds part) rows
