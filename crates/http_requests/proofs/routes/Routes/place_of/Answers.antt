use Rattle.std.proofs.Common.{◌∙◌}
use Rattle.http_requests.proofs.Routing.{places}
use Rattle.http_requests.proofs.routes.Routes.place_of.Goals as goal

pub returns-in-Ok : goal.returns-in-Ok
returns-in-Ok c = (rw (c.self.invariant, c.in-Ok.ensures.cases.0) at c.place_at.ensures) ∙ places c.args.target.now
