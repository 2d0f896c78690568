use Rattle.std.proofs.Common.{◌∙◌, length, get_or, map, ap}
use Rattle.std.proofs.lemmas.List.{length-map}
use Rattle.row_versions.specs.History.{History}
use Rattle.twin_tables.specs.Ledger.{change_of, nothing_written}
use Rattle.replay_walk.proofs.server.Server.written.Goals as goal

pub returns : goal.returns
returns c =
    let here = get_or c.args.self.now.ledgers.items c.args.table nothing_written in
    ap length (c.changes.ensures.changes ∙ ap (λ (h : History). map change_of h.list) c.ledger.ensures) ∙ length-map here.list change_of
