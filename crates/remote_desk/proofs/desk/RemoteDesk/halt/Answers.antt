use Rattle.remote_desk.proofs.desk.RemoteDesk.halt.Goals as goal

pub invariant_of-self : goal.invariant_of-self
invariant_of-self c =
    let is = c.self.invariant in
    rw c.halt.ensures (record { follows = is.follows; remote = is.remote; pairs = is.pairs; own = is.own; texts = is.texts; order = is.order; places = is.places; sent_len = is.sent_len; sent = is.sent; count = is.count; room = is.room })
