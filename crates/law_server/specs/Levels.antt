-- What stays at level 1 and at version 1: each rule that has a level is the plain one there, and version 2 adds two statements.
use Rattle.std.specs.Prelude.{◌≡◌, ℕ, ℤ, true, false, List, int_div, None, Some, Ok}
use Rattle.std.specs.List.{filter_map, reduce}
use Rattle.std.specs.Ordering.{nat_cmp, int_cmp, flip_args}
use Rattle.std.specs.Cmp.Lexicographic.{slice_cmp}
use Rattle.std.specs.declared.cmp.Ordering.{Ordering}
use Rattle.desk_values.specs.declared.value.Image.{Image}
use Rattle.desk_values.specs.declared.value.Value.{Value}
use Rattle.desk_values.specs.Comparison.{text_order}
use Rattle.desk_schema.specs.Rules.{counted}
use Rattle.sql_tree.specs.Plain.{Name, Plan, Term, greatest, least}
use Rattle.sql_reader.specs.Reading.{statement_of}
use Rattle.sql_eval.specs.Totals.{first_of, first_value, number_in, over, part_in, text_in, total_over}
use Rattle.sql_eval.specs.Value.{quotient}
use Rattle.server_words.specs.Request.{names_savepoint, statement_in}
use Rattle.server_words.specs.Writes.{stored}

-- texts compare byte by byte
abbrev pub TextsCompareByBytes : Type 0
TextsCompareByBytes = (a b : List ℕ) → text_order 1 a b ≡ slice_cmp nat_cmp a b

-- MIN and MAX of values by these orders of numbers and of texts
abbrev pub plain_extreme : (ℤ → ℤ → Ordering) → (List ℕ → List ℕ → Ordering) → List Value → Value
plain_extreme numbers texts values =
    first_value (reduce (first_of numbers) (filter_map number_in values)) (reduce (first_of texts) (filter_map text_in values))

-- they go by the bytes of texts
abbrev pub LeastGoesByBytes : Type 0
LeastGoesByBytes = (binds : List Value) (part : Term ℕ) (rows : List Image) → total_over 1 binds (least part) rows
    ≡ over (λ values. Ok (plain_extreme int_cmp (slice_cmp nat_cmp) values)) (part_in 1 binds part) rows

abbrev pub GreatestGoesByBytes : Type 0
GreatestGoesByBytes = (binds : List Value) (part : Term ℕ) (rows : List Image) → total_over 1 binds (greatest part) rows
    ≡ over (λ values. Ok (plain_extreme (flip_args int_cmp) (flip_args (slice_cmp nat_cmp)) values)) (part_in 1 binds part) rows

-- a quotient is that of integers
abbrev pub QuotientsArePlain : Type 0
QuotientsArePlain = (a b : ℤ) → quotient 1 a b ≡ int_div a b

-- all of a key counts
abbrev pub KeysCountWhole : Type 0
KeysCountWhole = (key : Value) → counted 1 key ≡ key

-- a row keeps what it is given
abbrev pub ValuesAreStored : Type 0
ValuesAreStored = (value : Value) → stored 1 value ≡ value

-- at version 2 each text is the statement that it is read as
abbrev pub NewServersKnowAll : Type 0
NewServersKnowAll = (text : List ℕ) → statement_in 2 text ≡ statement_of text

-- and at version 1, but that the two on savepoints are none
abbrev pub OldServersKnowTheRest : Type 0
OldServersKnowTheRest = (text : List ℕ) (parsed : Plan Name) → statement_of text ≡ Some parsed → names_savepoint parsed ≡ false
    → statement_in 1 text ≡ Some parsed

abbrev pub OldServersKnowNoSavepoint : Type 0
OldServersKnowNoSavepoint = (text : List ℕ) (parsed : Plan Name) → statement_of text ≡ Some parsed → names_savepoint parsed ≡ true
    → statement_in 1 text ≡ None
