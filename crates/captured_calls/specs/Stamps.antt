-- The calls of all sessions, and the same by stamp.
use Rattle.std.specs.Prelude.{◌≡◌, ℕ, ◌<◌, Bool, nat_eq, List, length, Option, count_by}
use Rattle.std.specs.List.{filter_map, find, flat_map, range_with_len}
use Rattle.desk_values.specs.declared.capture.Captured.{Captured}

-- the calls of all sessions, one session after the other
abbrev pub all_calls : List (List Captured) → List Captured
all_calls lists = flat_map (λ calls. calls) lists

abbrev pub has_stamp : ℕ → Captured → Bool
has_stamp k call = nat_eq call.stamp k

-- how many of the calls have this stamp
abbrev pub count_at : List Captured → ℕ → ℕ
count_at calls k = count_by (has_stamp k) calls

-- the first of the calls that has this stamp
abbrev pub call_at : List Captured → ℕ → Option Captured
call_at calls k = find (has_stamp k) calls

-- the numbers that are to be stamps: as many as there are calls
abbrev pub stamps_for : List Captured → List ℕ
stamps_for calls = range_with_len 0 (length calls)

-- the calls by stamp
unfoldable pub by_stamp : List Captured → List Captured
by_stamp calls = filter_map (call_at calls) (stamps_for calls)

-- each number below that of the calls is the stamp of one of them
pub record HasEach (calls : List Captured) : Type 0 where
  pub each : (k : ℕ) → k < length calls → count_at calls k ≡ 1
