use Rattle.std.proofs.Common.{◌≡◌, None, Option, map, take}
use Rattle.std.specs.List.{AllByRecursion}
use Rattle.remote_link.specs.declared.link_err.LinkErr.{LinkErr}
use Rattle.remote_target.specs.Inside.{refusal_on}
use Rattle.remote_target.proofs.running.refused.Given as goal

abbrev pub invariant-loop-line : goal.invariant-loop-line
invariant-loop-line g l = AllByRecursion (λ (r : Option LinkErr). r ≡ None) (take l.line-index (map refusal_on l.lines))
