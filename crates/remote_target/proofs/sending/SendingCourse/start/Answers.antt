use Rattle.std.proofs.Common.{map}
use Rattle.remote_desk.specs.declared.event.RemoteEvent.TheVariants.{Start}
use Rattle.remote_desk.proofs.Histories.{plain_more}
use Rattle.remote_target.specs.Agreement.{heard_on}
use Rattle.remote_target.proofs.Sendings.{started_agreed}
use Rattle.remote_target.proofs.sending.SendingCourse.start.Goals as goal

pub invariant_of-self : goal.invariant_of-self
invariant_of-self g c =
    let a = c.self.inside in
    (started_agreed a.desk c.start.new.self c.args.k c.start.result (map heard_on a.lines.items) c.start.ensures.appended c.self.invariant.0, rw c.start.ensures.appended c.self.invariant.1)

pub returns-clause-history : goal.returns-clause-history
returns-clause-history g c = rw (← c.self.view_is, c.start.ensures.appended) (plain_more c.self.inside.desk.events (Start c.args.k c.start.result))
