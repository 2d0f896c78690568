-- Values that a statement draws.
use Rattle.std.specs.Prelude.{ℕ, ◌+◌, Bool, false, nat_eq, if◌then◌else◌, List, [], ◌∷◌}
use Rattle.std.specs.List.{list_any}
use Rattle.desk_values.specs.declared.value.Value.{Value}
use Rattle.desk_values.specs.declared.value.Value.TheVariants.{Null, Draw}
use Rattle.sql_tree.specs.Plain.{Entry, value, drawn, Plan, select, next, insert, update, delete, commit, rollback, set_read_only, savepoint, rollback_to}

abbrev pub is_from : ℕ → Entry ℕ → Bool
is_from sequence (value e) = false
is_from sequence (drawn other) = nat_eq other sequence

-- the statement draws from the sequence, however often it names it
abbrev pub draws_from : Plan ℕ → ℕ → Bool
draws_from (next other) sequence = nat_eq other sequence
draws_from (insert table named entries) sequence = list_any (is_from sequence) entries
draws_from (select table asked condition keys for_update) sequence = false
draws_from (update table changes condition) sequence = false
draws_from (delete table condition) sequence = false
draws_from commit sequence = false
draws_from rollback sequence = false
draws_from set_read_only sequence = false
draws_from (savepoint name) sequence = false
draws_from (rollback_to name) sequence = false

-- one value of each sequence that passes the test, by ascending number; these are the next values from this sequence on
abbrev pub drawn_from : (ℕ → Bool) → ℕ → List ℕ → List Value
drawn_from draws sequence [] = []
drawn_from draws sequence (n ∷ ns) = if draws sequence then Draw sequence n ∷ drawn_from draws (sequence + 1) ns else drawn_from draws (sequence + 1) ns

-- the values that the statement draws
abbrev pub draws_of : Plan ℕ → List ℕ → List Value
draws_of plan next_values = drawn_from (draws_from plan) 0 next_values

abbrev pub is_draw_of : ℕ → Value → Bool
is_draw_of sequence (Draw other n) = nat_eq other sequence
is_draw_of sequence other = false

-- the value that was drawn from a sequence
abbrev pub drawn_value : List Value → ℕ → Value
drawn_value [] sequence = Null
drawn_value (draw ∷ draws) sequence = if is_draw_of sequence draw then draw else drawn_value draws sequence

-- each sequence that a value was drawn from moves by 1
abbrev pub moved : List Value → ℕ → List ℕ → List ℕ
moved draws sequence [] = []
moved draws sequence (n ∷ ns) = (if list_any (is_draw_of sequence) draws then n + 1 else n) ∷ moved draws (sequence + 1) ns
