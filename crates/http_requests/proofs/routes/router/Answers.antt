use Rattle.matchit.proofs.OnLiterals.{matchit_on_literals}
use Rattle.http_requests.proofs.routes.router.Goals as goal

pub returns : goal.returns
unfolding matchit_on_literals
returns c =
    let a = c.in_ok-insert.ensures in
    let b = c.in_ok-insert-2.ensures in
    rw (a.1, c.new-router.ensures) at b.1
