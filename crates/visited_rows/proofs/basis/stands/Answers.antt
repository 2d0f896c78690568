use Rattle.std.proofs.Common.{Bool, List, not, ap, length, ◌==◌, ◌∙◌}
use denote.Ref.{Bor}
use Rattle.desk_values.specs.declared.value.Image.{Image}
use Rattle.visited_rows.specs.Basis.{rows_of_basis}
use Rattle.visited_rows.proofs.Apart.{found_stands}
use Rattle.visited_rows.proofs.basis.stands.Goals as goal

pub returns : goal.returns
returns c =
    ap (λ (b : Bool). not b) c.is_empty.ensures ∙ ap (λ (l : List (Bor Image)). not (length l == 0)) c.as_slice-found.ensures.value
    ∙ found_stands c.args.with.level c.args.key.now (rows_of_basis c.args.basis) c.in_ok-found.found.items c.in_ok-found.ensures
