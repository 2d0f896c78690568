use Rattle.capture_recorder.proofs.Generating.{declared_whole, declaring_more}
use Rattle.capture_recorder.proofs.generated.start.Goals as goal

pub loop-k-preserved : goal.loop-k-preserved
loop-k-preserved c = declaring_more c.loop-k.draft c.add_account.new.draft c.loop-k.k c.loop-k-test.true c.loop-k.invariant c.in_ok-add_account.ensures

pub returns : goal.returns
returns c = declared_whole c.loop-k.draft c.in_ok-start.start c.loop-k.k c.loop-k-test.false c.loop-k.invariant c.in_ok-start.ensures
