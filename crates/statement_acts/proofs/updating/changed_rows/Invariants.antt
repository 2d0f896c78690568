use Rattle.std.proofs.Common.{◌≡◌, ◌++◌, ◌||◌, drop, map}
use Rattle.std.specs.List.{list_any}
use Rattle.sql_tree.specs.Plain.{change_of}
use Rattle.sql_eval.specs.Totals.{looked_at}
use Rattle.found_rows.specs.Evaluation.{env_of}
use Rattle.visited_rows.specs.Basis.{view_of_basis}
use Rattle.server_words.specs.Answer.{meets_lock}
use Rattle.server_words.specs.Writes.{moved_keys, updated}
use Rattle.statement_acts.proofs.updating.changed_rows.Given as goal

abbrev pub invariant-loop-image : goal.invariant-loop-image
invariant-loop-image l = record {
  images : l.changed.images.items ++ map (updated (env_of l.with) (map change_of l.settings)) (looked_at (drop l.image-index l.found)) ≡ map (updated (env_of l.with) (map change_of l.settings)) (looked_at l.found);
  keys : l.changed.keys ++ moved_keys (env_of l.with) (map change_of l.settings) (looked_at (drop l.image-index l.found)) ≡ moved_keys (env_of l.with) (map change_of l.settings) (looked_at l.found);
  locked : (l.changed.locked || list_any (meets_lock (env_of l.with) (view_of_basis l.basis) (map change_of l.settings)) (looked_at (drop l.image-index l.found))) ≡ (l.initial.changed.locked || list_any (meets_lock (env_of l.with) (view_of_basis l.basis) (map change_of l.settings)) (looked_at l.found));
}
