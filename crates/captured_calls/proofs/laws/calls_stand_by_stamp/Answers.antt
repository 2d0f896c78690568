use Rattle.captured_calls.proofs.Ordered.{has, order_is_by_stamp}
use Rattle.captured_calls.proofs.Permuted.{stamped_are_all}
use Rattle.captured_calls.proofs.Stamping.{stamp_is}
use Rattle.captured_calls.proofs.laws.calls_stand_by_stamp.Goals as goal

pub returns-clause-all : goal.returns-clause-all
returns-clause-all c = stamped_are_all

pub returns-clause-stamps : goal.returns-clause-stamps
returns-clause-stamps c = λ calls each. stamp_is calls each

pub returns-clause-one : goal.returns-clause-one
returns-clause-one c = λ calls ordered same stamped. (has calls ordered same stamped, order_is_by_stamp calls ordered same stamped)
