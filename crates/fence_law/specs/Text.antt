-- The file of the plain reads: a head, a line for each stamp, and the end.
use Rattle.std.specs.Prelude.{ℕ, List, ◌++◌, codes}
use Rattle.std.specs.List.{flat_map}
use Rattle.std.specs.Fmt.{decimal}
use Rattle.replay_history.specs.Texts.{line}

abbrev pub fence_text : List ℕ → List ℕ
fence_text stamps = line (codes "fence 1") ++ (flat_map (λ stamp. line (decimal stamp)) stamps ++ line (codes "end"))
