use Rattle.std.proofs.Common.{◌∙◌, refl, sym, arith}
use Rattle.remote_target.proofs.Places.{noted_past}
use Rattle.remote_target.proofs.comparing.note_at.Goals as goal

pub returns-then-count-stamp : goal.returns-then-count-stamp
returns-then-count-stamp c = noted_past c.args.places.now c.args.stamp c.args.place (omega (arith, c.if-count-stamp.true))

pub returns-then-is_free : goal.returns-then-is_free
returns-then-is_free c = rw (sym c.is_free.ensures ∙ c.if-is_free.true) refl

pub returns-else-is_free : goal.returns-else-is_free
returns-else-is_free c = rw (sym c.is_free.ensures ∙ c.if-is_free.false) refl
