use Rattle.std.proofs.Common.{sym}
use Rattle.std.proofs.lemmas.Bool.{ltb-true, lt-ltb}
use Rattle.desk_schema.proofs.Fitting.{below_all, last_below}
use Rattle.desk_schema.proofs.rules.are_below.Goals as goal

pub returns-in-Some : goal.returns-in-Some
returns-in-Some c = (
  λ h. below_all c.args.rows.now c.in-Some.last.now c.args.number c.requires (sym c.in-Some.ensures.value) (ltb-true c.in-Some.last.now.row c.args.number h),
  λ below. lt-ltb c.in-Some.last.now.row c.args.number (last_below c.args.rows.now c.in-Some.last.now c.args.number (sym c.in-Some.ensures.value) below),
)
