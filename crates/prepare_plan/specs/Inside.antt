-- Words for the steps of the work.
use Rattle.std.specs.Prelude.{◌≡◌, ℕ, ◌<◌, ◌≤◌, Bool, true, false, List, [], ◌∷◌, length, Option, None, Some, Result, Ok, Err, slice_index_or}
use Rattle.std.specs.List.{filter}
use Rattle.desk_values.specs.Room.{Room}
use Rattle.captured_calls.specs.Stamps.{has_stamp, by_stamp}
use Rattle.desk_values.specs.declared.capture.Captured.{Captured}
use Rattle.captured_calls.specs.declared.refusal.Refusal.{Refusal}
use Rattle.prepare_plan.specs.declared.seats.Seat.{Seat}
use Rattle.prepare_plan.specs.declared.seats.Seat.TheVariants.{Empty, Taken, Crowded}
use Rattle.captured_calls.specs.Tests.{bad_stamp}
use Rattle.sql_tree.specs.Plain.{Plan, set_read_only}
use Rattle.sql_eval.specs.SchemaNames.{table_of}
use Rattle.captured_calls.specs.Facts.{all_tables, only_table}
use Rattle.prepare_plan.specs.Answered.{told_as}

-- what a refusal tells of a test
abbrev pub told : Refusal → Option (Option Refusal)
told refusal = told_as Some refusal

-- a test is passed where there is no refusal
abbrev pub passed : Unit {0} → Option Refusal
passed tt = None

-- the seat of a stamp tells which calls have it, where it is at most one
abbrev pub IsSeat : List Captured → Seat → Type 0
IsSeat mine Empty = mine ≡ []
IsSeat mine (Taken call) = mine ≡ call ∷ []
IsSeat mine Crowded = 2 ≤ length mine

abbrev pub calls_at : List Captured → ℕ → List Captured
calls_at calls k = filter (has_stamp k) calls

abbrev pub AreSeatsOf : List Captured → ℕ → List Seat → Type 0
AreSeatsOf calls n seats = (length seats ≡ n) × ((k : ℕ) → k < n → IsSeat (calls_at calls k) (slice_index_or seats k Empty))

abbrev pub is_taken : Seat → Bool
is_taken (Taken call) = true
is_taken other = false

abbrev pub taken_call : Seat → Option Captured
taken_call (Taken call) = Some call
taken_call other = None

-- the calls by stamp, where each stamp is that of one call
abbrev pub ordered_or : Option Refusal → List Captured → Result (List Captured) Refusal
ordered_or (Some refusal) calls = Err refusal
ordered_or None calls = Ok (by_stamp calls)

abbrev pub ordered : List Captured → Result (List Captured) Refusal
ordered calls = ordered_or (bad_stamp calls) calls

abbrev pub ordered_seen : Room Captured → Result (List Captured) Refusal
ordered_seen calls = Ok calls.items

-- the tables that a checked statement speaks of
abbrev pub refs_of_plan : Plan ℕ → ℕ
refs_of_plan set_read_only = all_tables
refs_of_plan plan = only_table (table_of plan)
