-- What is known of the calls of a capture, by stamp.
use Rattle.std.specs.Prelude.{◌≡◌, ℕ, ◌+◌, ◌<◌, Bool, nat_lt, ◌==◌, List, length, take, slice_index_or, count_by}
use Rattle.std.specs.Int.{bit_at}
use Rattle.object_depends.specs.declared.fact.Fact.{Fact}

-- a call of which nothing is known
abbrev pub no_fact : Fact
no_fact = record { session = 0; seen = 0; number = 0; refs = 0; writes = 0 }

abbrev pub fact_at : List Fact → ℕ → Fact
fact_at facts k = slice_index_or facts k no_fact

-- whether a table stands in a set of tables
abbrev pub has_table : ℕ → ℕ → Bool
has_table tables table = bit_at tables table == 1

-- whether a call is a numbered commit
abbrev pub is_commit : Fact → Bool
is_commit fact = nat_lt 0 fact.number

-- how many numbered commits have a lower stamp
abbrev pub commits_below : List Fact → ℕ → ℕ
commits_below facts k = count_by is_commit (take k facts)

-- the numbers other than 0 are 1, 2, 3 by stamp, and a call saw the numbered commits with a lower stamp
pub record IsSoundAt (facts : List Fact) (k : ℕ) : Type 0 where
  pub seen : (fact_at facts k).seen ≡ commits_below facts k
  pub number : 0 < (fact_at facts k).number → (fact_at facts k).number ≡ commits_below facts k + 1

abbrev pub AreSound : List Fact → Type 0
AreSound facts = (k : ℕ) → k < length facts → IsSoundAt facts k
