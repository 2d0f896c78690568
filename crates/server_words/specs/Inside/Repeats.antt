-- How keys that repeat are found: in an order of keys, those that are one key stand side by side.
use Rattle.std.specs.Prelude.{ℕ, Bool, true, false, ◌&&◌, ◌||◌, List, [], ◌∷◌}
use Rattle.std.specs.Ordering.{is_lt, nat_cmp, ordering_then}
use Rattle.std.specs.declared.cmp.Ordering.{Ordering}
use Rattle.desk_values.specs.declared.value.Value.{Value}
use Rattle.desk_values.specs.declared.value.Value.TheVariants.{Row, Draw}
use Rattle.desk_values.specs.Comparison.{same_key}
use Rattle.server_words.specs.Found.{column_order}

-- the sequence of an id, where it was drawn
abbrev pub id_sequence : Value → ℕ
id_sequence (Draw sequence n) = sequence
id_sequence other = 0

abbrev pub id_number : Value → ℕ
id_number (Row n) = n
id_number (Draw sequence n) = n
id_number other = 0

-- the order of a column, and that of ids, which a column does not have
abbrev pub order_of_keys : ℕ → Value → Value → Ordering
order_of_keys level a b =
    ordering_then (column_order level a b) (ordering_then (nat_cmp (id_sequence a) (id_sequence b)) (nat_cmp (id_number a) (id_number b)))

-- each comes before the next
abbrev pub keys_rise : ℕ → List Value → Bool
keys_rise level [] = true
keys_rise level (first ∷ []) = true
keys_rise level (first ∷ second ∷ rest) = is_lt (order_of_keys level first second) && keys_rise level (second ∷ rest)

-- two that stand side by side are one key
abbrev pub same_neighbours : ℕ → List Value → Bool
same_neighbours level [] = false
same_neighbours level (first ∷ []) = false
same_neighbours level (first ∷ second ∷ rest) = same_key level first second || same_neighbours level (second ∷ rest)
