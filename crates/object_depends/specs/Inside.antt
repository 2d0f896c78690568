-- How tallies are found in one pass over sound facts.
use Rattle.std.specs.Prelude.{◌≡◌, ℕ, ◌<◌, Bool, true, false, ◌&&◌, ◌||◌, List, length, None, slice_index_or}
use Rattle.replay_history.specs.declared.mode.Mode.{Mode}
use Rattle.replay_history.specs.declared.mode.Mode.TheVariants.{Off, Scn, Object, Order, Fence}
use Rattle.object_depends.specs.declared.fact.Fact.{Fact}
use Rattle.object_depends.specs.declared.tally.Tally.{Tally}
use Rattle.object_depends.specs.declared.tally.Group.{Group}
use Rattle.object_depends.specs.Facts.{fact_at, no_fact, is_commit}
use Rattle.object_depends.specs.Required.{shares_table, stamps_where, required}
use Rattle.object_depends.specs.Tallies.{tally_of}

abbrev pub no_tally : Tally
no_tally = record { count = 0; last = None }

-- whether a call waits for another that stands before it
abbrev pub awaits : Mode → Fact → Fact → Bool
awaits Off call other = false
awaits Scn call other = is_commit other
awaits Object call other = is_commit other && shares_table other.writes call.refs
awaits Order call other = true
awaits Fence call other = is_commit call || is_commit other

-- of the stamps below n, those that a call waits for
abbrev pub awaited : Mode → List Fact → Fact → ℕ → List ℕ
awaited mode facts call n = stamps_where (λ j. awaits mode call (fact_at facts j)) n

-- two calls wait for the same
abbrev pub WaitAlike : Mode → Fact → Fact → Type 0
WaitAlike mode left right = (other : Fact) → awaits mode left other ≡ awaits mode right other

abbrev pub no_group : Group
no_group = record { call = no_fact; tally = no_tally }

abbrev pub group_at : List Group → ℕ → Group
group_at groups i = slice_index_or groups i no_group

-- each group has the tally of what its call waits for below n
abbrev pub AreTallied : Mode → List Fact → List Group → ℕ → Type 0
AreTallied mode facts groups n = (i : ℕ) → i < length groups
    → (group_at groups i).tally ≡ tally_of (awaited mode facts (group_at groups i).call n)

abbrev pub tally_at : List Tally → ℕ → Tally
tally_at tallies k = slice_index_or tallies k no_tally

-- the tallies of the first n calls are those of what they require
abbrev pub AreTallies : Mode → List Fact → List Tally → ℕ → Type 0
AreTallies mode facts tallies n = (k : ℕ) → k < n → tally_at tallies k ≡ tally_of (required mode facts k)
