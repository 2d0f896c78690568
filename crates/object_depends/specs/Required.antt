-- Which calls a call requires.
use Rattle.std.specs.Prelude.{ℕ, zero, suc, ◌-◌, Bool, false, ◌&&◌, ◌||◌, nat_lt, nat_le, if◌then◌else◌, List, [], ◌∷◌, ◌++◌, length, Option, slice_get}
use Rattle.replay_history.specs.declared.mode.Mode.{Mode}
use Rattle.replay_history.specs.declared.mode.Mode.TheVariants.{Off, Scn, Object, Order, Fence}
use Rattle.object_depends.specs.declared.fact.Fact.{Fact}
use Rattle.object_depends.specs.Facts.{fact_at, has_table, is_commit}
use Rattle.desk_values.specs.Limits.{table_limit}

-- whether some table below the limit stands in both sets
unfoldable pub shares_to : ℕ → ℕ → ℕ → Bool
shares_to left right zero = false
shares_to left right (suc n) = shares_to left right n || has_table left n && has_table right n

-- whether some table stands in both sets
abbrev pub shares_table : ℕ → ℕ → Bool
shares_table left right = shares_to left right table_limit

-- whether a call saw another, which is a numbered commit
abbrev pub has_seen : Fact → Fact → Bool
has_seen call other = is_commit other && nat_le other.number call.seen

-- Whether call k requires call j: no call; the commits that it saw; those of them that wrote a table which it references;
-- every call before it; where it is a numbered commit every call before it, else the commits that it saw.
abbrev pub is_required : Mode → List Fact → ℕ → ℕ → Bool
is_required Off facts k j = false
is_required Scn facts k j = has_seen (fact_at facts k) (fact_at facts j)
is_required Object facts k j = has_seen (fact_at facts k) (fact_at facts j) && shares_table (fact_at facts j).writes (fact_at facts k).refs
is_required Order facts k j = nat_lt j k
is_required Fence facts k j = if is_commit (fact_at facts k) then nat_lt j k else has_seen (fact_at facts k) (fact_at facts j)

-- the stamps below n that pass a test, ascending
abbrev pub stamps_where : (ℕ → Bool) → ℕ → List ℕ
stamps_where test zero = []
stamps_where test (suc n) = if test n then stamps_where test n ++ n ∷ [] else stamps_where test n

-- the stamps that call k requires, ascending
abbrev pub required : Mode → List Fact → ℕ → List ℕ
required mode facts k = stamps_where (is_required mode facts k) (length facts)

-- the last of a list
abbrev pub last_of : List ℕ → Option ℕ
last_of stamps = slice_get stamps (length stamps - 1)
