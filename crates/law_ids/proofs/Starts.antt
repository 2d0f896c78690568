-- The ids of a start's rows are below what its opening state gives out.
use Rattle.std.proofs.Common.{◌≡◌, ◌<◌, ◌≤◌, ℕ, zero, suc, ◌+◌, ◌^◌, true, List, [], ◌∷◌, length, refl, subst, inl, inr, arith}
use Rattle.std.specs.Prelude.{slice_get, slice_index, Option, None, Some, IsSomeAnd}
use Rattle.std.specs.List.{AllByRecursion, AllZip, Any}
use Rattle.desk_values.specs.declared.value.Value.{Value}
use Rattle.desk_values.specs.declared.value.Value.TheVariants.{Null, Int, Text, Row, Draw}
use Rattle.desk_values.specs.declared.value.Image.{Image}
use Rattle.desk_values.specs.declared.capture.Captured.{Captured}
use Rattle.desk_values.specs.Ids.{ids_in, ids_left, ids_of_image, is_id}
use Rattle.desk_schema.specs.declared.schema.Column.{Column}
use Rattle.desk_schema.specs.declared.schema.Kind.{Kind}
use Rattle.desk_schema.specs.declared.schema.Kind.TheVariants as kind
use Rattle.desk_schema.specs.Rules.{AreBelow, IsAllowed, IsOfKind}
use Rattle.desk_schema.specs.Schema.{columns_of}
use Rattle.desk_schema.specs.Sound.{IsSoundRow, IsSoundStart}
use Rattle.desk_schema.specs.Start.{StartView}
use Rattle.server_words.specs.State.{State, opening}
use Rattle.server_words.specs.Step.{Gives}
use Rattle.server_words.proofs.Members.{each_weaker}
use Rattle.replay_history.specs.Capture.{IsKnown, IsRun, StandsIn}
use Rattle.law_ids.specs.Counters.{AreAtMost, IsBelow, IsPassed}
use Rattle.law_ids.proofs.Members.{any_also}
use Rattle.law_ids.proofs.Runs.{run_bound, run_passed}

below_next : (nexts : List ℕ) (q n : ℕ) → IsSomeAnd (slice_get nexts q) (λ next. n < next) → n < slice_index nexts q
below_next [] q n is = absurd is
below_next (next ∷ nexts) zero n is = is
below_next (next ∷ nexts) (suc q) n is = below_next nexts q n is

drawn_below : (nexts : List ℕ) (q n : ℕ) (of : Kind) → IsOfKind nexts of (Draw q n) → n < slice_index nexts q
drawn_below nexts q n (kind.Seq sequence) is = below_next nexts q n (subst (λ (s : ℕ). IsSomeAnd (slice_get nexts s) (λ next. n < next)) (symmetric is.0) is.2)
  where
    symmetric : q ≡ sequence → sequence ≡ q
    symmetric e = cc
drawn_below nexts q n (kind.Int low high) is = absurd is
drawn_below nexts q n (kind.Text most) is = absurd is

row_never : (nexts : List ℕ) (n : ℕ) (of : Kind) → IsOfKind nexts of (Row n) → ⊥
row_never nexts n (kind.Seq sequence) is = is
row_never nexts n (kind.Int low high) is = is
row_never nexts n (kind.Text most) is = is

module _ (start : StartView) where
  abbrev IsOld : Value → Type 0
  IsOld id = IsPassed (opening start) id

  values_old : (columns : List Column) (values : List Value) → AllZip (IsAllowed start.next_values) columns values → AllByRecursion IsOld (ids_in values)
  values_old [] [] allowed = tt
  values_old [] (value ∷ values) allowed = absurd allowed
  values_old (column ∷ columns) [] allowed = absurd allowed
  values_old (column ∷ columns) (Draw q n ∷ values) allowed = (drawn_below start.next_values q n column.kind allowed.0, values_old columns values allowed.1)
  values_old (column ∷ columns) (Null ∷ values) allowed = values_old columns values allowed.1
  values_old (column ∷ columns) (Int n ∷ values) allowed = values_old columns values allowed.1
  values_old (column ∷ columns) (Text text ∷ values) allowed = values_old columns values allowed.1
  values_old (column ∷ columns) (Row n ∷ values) allowed = absurd (row_never start.next_values n column.kind allowed.0)

  left_old : (columns : List Column) (left : Option (List Value)) → IsSomeAnd left (λ values. AllZip (IsAllowed start.next_values) columns values) → AllByRecursion IsOld (ids_left left)
  left_old columns None allowed = tt
  left_old columns (Some values) allowed = values_old columns values allowed

  rows_old : (rows : List Image) → AreBelow start.next_row rows → AllByRecursion (IsSoundRow start.schema.tables start.next_values) rows → AllByRecursion (λ (row : Image). AllByRecursion IsOld (ids_of_image row)) rows
  rows_old [] lower sound = tt
  rows_old (row ∷ rows) lower sound = ((lower.0, left_old (columns_of start.schema.tables row.table) row.left sound.0.allowed), rows_old rows lower.1 sound.1)

  pub standing_old : (id : Value) → IsSoundStart start → StandsIn start.rows id → IsPassed (opening start) id
  standing_old id is stands =
      let row = any_also (λ (row : Image). Any (λ other. other ≡ id) (ids_of_image row)) (λ (row : Image). AllByRecursion IsOld (ids_of_image row)) start.rows (rows_old start.rows is.next_row.above is.sound.sound_rows.each) stands in
      let one = any_also (λ (other : Value). other ≡ id) IsOld (ids_of_image row.1) row.4.0 row.4.1 in
      subst IsOld one.4.1 one.4.0

  pub opening_bound : IsSoundStart start → AreAtMost (2 ^ 39) (opening start)
  opening_bound is = record {
    next_row = is.next_row.most;
    next_values = each_weaker _ (λ (next : ℕ). next ≤ 2 ^ 39) (λ next limits. limits.1) start.next_values is.sound.sequences.limits;
  }

-- ---- the ids that are known

index_most : (ns : List ℕ) (i bound : ℕ) → AllByRecursion (λ next. next ≤ bound) ns → slice_index ns i ≤ bound
index_most [] i bound each = omega arith
index_most (n ∷ ns) zero bound each = each.0
index_most (n ∷ ns) (suc i) bound each = index_most ns i bound each.1

passed_below : (state : State) (low bound : ℕ) (id : Value) → low ≤ bound → AreAtMost low state → IsPassed state id → IsBelow bound id
passed_below state low bound (Row n) le most passed = omega (arith, le, most.next_row, passed)
passed_below state low bound (Draw q n) le most passed = omega (arith, le, index_most state.next_values q low most.next_values, passed)
passed_below state low bound Null le most passed = tt
passed_below state low bound (Int n) le most passed = tt
passed_below state low bound (Text text) le most passed = tt

-- a value is no id, or what holds of ids holds of it
low_value : (bound : ℕ) (value : Value) → (is_id value ≡ true → IsBelow bound value) → IsBelow bound value
low_value bound (Row n) is = is refl
low_value bound (Draw q n) is = is refl
low_value bound Null is = tt
low_value bound (Int n) is = tt
low_value bound (Text text) is = tt

pub known_low : (start : StartView) (calls : List Captured) (last : State) (k : ℕ) (value : Value) → IsSoundStart start → IsRun Gives (opening start) calls last → length calls ≤ 2 ^ 20 → IsKnown start.rows calls k value → IsBelow (2 ^ 40) value
known_low start calls last k value is run few known =
    let first = opening_bound start is in
    low_value (2 ^ 40) value (λ id. elim (known id) [
      | inl stands ↦ passed_below (opening start) (2 ^ 39) (2 ^ 40) value (omega arith) first (standing_old start value is stands)
      | inr given ↦ passed_below last (2 ^ 39 + length calls) (2 ^ 40) value (omega (arith, few)) (run_bound (opening start) last calls (2 ^ 39) run first) (run_passed (opening start) last calls given.0 given.1 value run given.3 given.4)
    ])
