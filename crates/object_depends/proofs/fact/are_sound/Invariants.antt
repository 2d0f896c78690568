use Rattle.std.proofs.Common.{◌≡◌, ◌<◌, ◌≤◌, ℕ}
use Rattle.object_depends.specs.Facts.{IsSoundAt, commits_below}
use Rattle.object_depends.proofs.fact.are_sound.Given as goal

abbrev pub invariant-loop-fact : goal.invariant-loop-fact
invariant-loop-fact l = record {
  few : l.commits ≤ l.fact-index;
  commits : l.commits ≡ commits_below l.facts l.fact-index;
  sound : (k : ℕ) → k < l.fact-index → IsSoundAt l.facts k;
}
