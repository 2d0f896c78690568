use Rattle.std.proofs.Common.{◌∙◌, nat_eq}
use Rattle.indexmap.proofs.CallerLemmas.{insert_entry-new}
use Rattle.lock_table.proofs.locks.add_within.Goals as goal

pub returns-clause-entries : goal.returns-clause-entries
returns-clause-entries c =
    let entries = rw c.unwrap.ensures at c.insert.ensures.entries in
    entries ∙ insert_entry-new nat_eq c.args.holds.now c.args.row c.args.session c.requires.free
