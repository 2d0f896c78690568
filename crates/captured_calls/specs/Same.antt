-- Whether two replies are the same, as a test.
use Rattle.std.specs.Prelude.{Bool, true, false, ◌&&◌, nat_eq, List}
use Rattle.std.specs.Cmp.Lexicographic.{pointwise}
use Rattle.std.specs.Option.{option_eq}
use Rattle.std.specs.Ordering.{int_eq}
use Rattle.desk_values.specs.declared.value.Value.{Value}
use Rattle.desk_values.specs.declared.value.Value.TheVariants.{Null, Int, Text, Row, Draw}
use Rattle.desk_values.specs.declared.value.Image.{Image}
use Rattle.desk_values.specs.declared.call.Outcome.{Outcome}
use Rattle.desk_values.specs.declared.call.Outcome.TheVariants.{Rows, Count, Committed, RolledBack, Marked, Connected, Disconnected, Refused}
use Rattle.desk_values.specs.declared.call.Reply.{Reply}
use Rattle.desk_values.specs.Fault.{fault_number}

abbrev pub same_value : Value → Value → Bool
same_value Null Null = true
same_value (Int a) (Int b) = int_eq a b
same_value (Text a) (Text b) = pointwise nat_eq a b
same_value (Row a) (Row b) = nat_eq a b
same_value (Draw p a) (Draw q b) = nat_eq p q && nat_eq a b
same_value left right = false

abbrev pub same_values : List Value → List Value → Bool
same_values = pointwise same_value

abbrev pub same_image : Image → Image → Bool
same_image a b = nat_eq a.row b.row && (nat_eq a.table b.table && option_eq same_values a.left b.left)

abbrev pub same_outcome : Outcome → Outcome → Bool
same_outcome (Rows a) (Rows b) = pointwise same_values a b
same_outcome (Count a) (Count b) = nat_eq a b
same_outcome (Committed a) (Committed b) = pointwise same_image a b
same_outcome RolledBack RolledBack = true
same_outcome Marked Marked = true
same_outcome Connected Connected = true
same_outcome Disconnected Disconnected = true
same_outcome (Refused a) (Refused b) = nat_eq (fault_number a) (fault_number b)
same_outcome left right = false

unfoldable pub same_reply : Reply → Reply → Bool
same_reply a b = same_outcome a.outcome b.outcome && (same_values a.draws b.draws && option_eq nat_eq a.made b.made)
