-- The lines of the plain reads so far, as contracts see them.
use Rattle.std.specs.Prelude.{ℕ, List}
use Rattle.run_files.specs.declared.reads.Stage.{Stage}

-- how far they came, the stamps, and the least that may come next
pub record ReadsView : Type 0 where
  pub stage : Stage
  pub stamps : List ℕ
  pub least : ℕ
