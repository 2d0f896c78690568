-- What holds of the fields of a gate.
use Rattle.std.specs.Prelude.{◌≡◌, ℕ, ◌<◌, ◌≤◌, Bool, true, List, length}
use Rattle.std.specs.Ordering.{nat_cmp}
use Rattle.std.specs.BTreeMap.{get}
use Rattle.object_depends.specs.declared.fact.Fact.{Fact}
use Rattle.object_depends.specs.Facts.{fact_at, AreSound}
use Rattle.commit_gate.specs.declared.gate.Gate.TheInside.{Inside}
use Rattle.commit_gate.specs.Gates.{is_in, AreRequiredAnswered}
use Rattle.commit_gate.specs.Inside.Heads.{AreHeads, AreNexts}
use Rattle.commit_gate.specs.declared.mark.Watch.TheVariants.{Every, Commits}
use Rattle.commit_gate.specs.Inside.Marks.{IsMark, AreTableMarks}
use Rattle.replay_history.specs.Limits.{call_limit}
use Rattle.desk_values.specs.Limits.{table_limit}

-- answered calls are started, and where a call of a session is started, those of it before are answered
pub record AreInTurn (facts : List Fact) (started answered : List Bool) : Type 0 where
  pub after : (j : ℕ) → is_in answered j ≡ true → is_in started j ≡ true
  pub turn : (i j : ℕ) → i < j → (fact_at facts i).session ≡ (fact_at facts j).session
      → is_in started j ≡ true → is_in answered i ≡ true

pub record IsGate (a : Inside) : Type 0 where
  pub few : length a.facts ≤ call_limit
  pub sound : AreSound a.facts
  pub started_len : length a.started.items ≡ length a.facts
  pub answered_len : length a.answered.items ≡ length a.facts
  pub nexts_len : length a.nexts.items ≡ length a.facts
  pub every : IsMark Every a.facts a.answered.items a.every
  pub commits : IsMark Commits a.facts a.answered.items a.commits
  pub tables_len : length a.tables.items ≡ table_limit
  pub tables : AreTableMarks a.facts a.answered.items a.tables.items table_limit
  pub heads : AreHeads a.facts a.answered.items (get nat_cmp a.heads)
  pub nexts : AreNexts a.facts a.nexts.items 0
  pub order : AreInTurn a.facts a.started.items a.answered.items
  pub required : (k : ℕ) → is_in a.started.items k ≡ true → AreRequiredAnswered a.mode a.facts a.answered.items k
