use Rattle.std.proofs.Common.{ℕ, List, ap}
use Rattle.std.specs.Map.{lookup}
use Rattle.std.specs.Prelude.{nat_eq}
use Rattle.hold_index.proofs.numbers.Numbers.new.Goals as goal

pub returns : goal.returns
returns c = λ n. ap (λ (l : List (ℕ × ℕ)). lookup (nat_eq n) l) c.new.ensures.empty
