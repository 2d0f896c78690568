use Rattle.std.proofs.Common.{◌≡◌, ◌++◌, drop, map}
use Rattle.sql_tree.specs.Plain.{term_of}
use Rattle.sql_eval.specs.Faults.{any_fault, joined}
use Rattle.found_rows.specs.Evaluation.{env_of}
use Rattle.server_words.specs.Found.{value_in, values_for}
use Rattle.found_rows.proofs.found.values_for.Given as goal

abbrev pub invariant-loop-expr : goal.invariant-loop-expr
invariant-loop-expr l = record {
  values : l.values ++ values_for (env_of l.with) (map term_of (drop l.expr-index l.exprs)) l.image ≡ values_for (env_of l.with) (map term_of l.exprs) l.image;
  faults : joined l.faults (any_fault (value_in (env_of l.with) l.image) (map term_of (drop l.expr-index l.exprs))) ≡ joined l.initial.faults (any_fault (value_in (env_of l.with) l.image) (map term_of l.exprs));
}
