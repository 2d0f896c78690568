-- Laws of totals.
use Rattle.std.specs.Prelude.{◌≡◌, ℕ, ℤ, true, false, Bool, List, Ok, Contains}
use Rattle.std.specs.Ordering.{nat_cmp, is_gt, is_le, is_ge, is_some_and}
use Rattle.std.specs.Cmp.Lexicographic.{slice_cmp}
use Rattle.std.specs.declared.cmp.Ordering.{Ordering}
use Rattle.std.specs.declared.cmp.Ordering.TheVariants.{Equal}
use Rattle.desk_values.specs.declared.value.Value.{Value}
use Rattle.desk_values.specs.declared.value.Value.TheVariants.{Null, Int, Text}
use Rattle.desk_values.specs.declared.value.Image.{Image}
use Rattle.desk_values.specs.Comparison.{text_order, value_order}
use Rattle.sql_tree.specs.Plain.{Term, Total}
use Rattle.sql_tree.specs.Plain as total
use Rattle.sql_eval.specs.Moved.{Moved}
use Rattle.sql_eval.specs.Totals.{members, part_in, total_over}

-- a total depends on which rows there are, and not on their order
abbrev pub TotalIgnoresOrder : Type 0
TotalIgnoresOrder = (level : ℕ) (binds : List Value) (t : Total ℕ) (rows others : List Image)
    → Moved rows others → total_over level binds t rows ≡ total_over level binds t others

-- one of these values, which compares so with every number and every text of them; of texts that are equal at the level
-- the least by bytes
pub record IsBeyondAll (level : ℕ) (test : Ordering → Bool) (values : List Value) (found : Value) : Type 0 where
  pub among : Contains values found
  pub numbers : (n : ℤ) → Contains values (Int n) → is_some_and test (value_order level found (Int n)) ≡ true
  pub texts : (t : List ℕ) → Contains values (Text t) → is_some_and test (value_order level found (Text t)) ≡ true
  pub ties : (s t : List ℕ) → found ≡ Text s → Contains values (Text t) → text_order level s t ≡ Equal
      → is_gt (slice_cmp nat_cmp s t) ≡ false

-- MIN or MAX of these values: Null only where there is no number and no text, or where there are both
pub data IsExtreme (level : ℕ) (test : Ordering → Bool) (values : List Value) : Value → Type 0 where
  beyond_all : (found : Value) → IsBeyondAll level test values found → IsExtreme level test values found
  nothing : ((n : ℤ) → ¬ Contains values (Int n)) → ((t : List ℕ) → ¬ Contains values (Text t))
      → IsExtreme level test values Null
  mixed : (n : ℤ) (t : List ℕ) → Contains values (Int n) → Contains values (Text t) → IsExtreme level test values Null

-- MIN is at most every value of its part in the rows
abbrev pub MinIsLeast : Type 0
MinIsLeast = (level : ℕ) (binds : List Value) (part : Term ℕ) (rows : List Image) (found : Value)
    → total_over level binds (total.least part) rows ≡ Ok found
    → IsExtreme level is_le (members (part_in level binds part) rows) found

-- MAX is at least every value of its part in the rows
abbrev pub MaxIsGreatest : Type 0
MaxIsGreatest = (level : ℕ) (binds : List Value) (part : Term ℕ) (rows : List Image) (found : Value)
    → total_over level binds (total.greatest part) rows ≡ Ok found
    → IsExtreme level is_ge (members (part_in level binds part) rows) found
